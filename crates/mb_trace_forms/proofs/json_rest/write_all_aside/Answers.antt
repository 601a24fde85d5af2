use Rattle.std.proofs.Common.{ℕ, ◌+◌, ◌++◌, ◌∙◌, List, [], ap, append_assoc, drop, map, refl, string_bytes, sym}
use Rattle.std.specs.List.{flat_map}
use Rattle.std.proofs.lemmas.List.{append-nil, drop_all}
use Rattle.mb_msg.specs.declared.system.SysMsg.{SysMsg}
use Rattle.mb_trace.specs.Undelivered.{where_shown}
use Rattle.mb_trace.proofs.Written.{appends-both, appends-none, appends-same, begins-same, begins-within, err-written}
use Rattle.mb_trace_forms.specs.JsonRest.{all_aside_json, aside_json}
use Rattle.mb_trace_forms.proofs.AsideLines.{aside-next}
use Rattle.mb_trace_forms.proofs.json_rest.write_all_aside.Goals as goal

pub loop-actor-init : goal.loop-actor-init
loop-actor-init g c = record { number = refl; so_far = []; written = appends-none (g.W.Write.contents c.args.out.now); whole = refl }

pub loop-actor-preserved : goal.loop-actor-preserved
loop-actor-preserved g c =
    let names = map string_bytes c.args.names.now in
    let f = c.args.filter.now in
    let i = c.loop-actor.actor-index in
    let n = c.loop-actor.number in
    let before = c.loop-actor.invariant in
    let piece = where_shown f n (flat_map (aside_json names n) c.actor-item.result.aside.items) in
    record {
      number = ap (λ n. n + 1) before.number;
      so_far = before.so_far ++ piece;
      written = appends-both _ _ _ before.so_far piece before.written
          (appends-same _ _ _ _ (ap (λ (l : List (ℕ × SysMsg)). where_shown f n (flat_map (aside_json names n) l)) c.deref.ensures.value) c.in_ok-write_aside.ensures);
      whole =
          before.whole
          ∙ (ap (λ l. before.so_far ++ l) (aside-next names f i n c.args.actors.now c.actor-item.result before.number c.loop-actor-test.true c.actor-item.is)
          ∙ sym (append_assoc before.so_far piece (all_aside_json names f (i + 1) (drop (i + 1) c.args.actors.now))));
    }

pub returns-in_err-write_aside : goal.returns-in_err-write_aside
returns-in_err-write_aside g c =
    let names = map string_bytes c.args.names.now in
    let f = c.args.filter.now in
    let i = c.loop-actor.actor-index in
    let n = c.loop-actor.number in
    let before = c.loop-actor.invariant in
    let piece = where_shown f n (flat_map (aside_json names n) c.actor-item.result.aside.items) in
    let rest = all_aside_json names f (i + 1) (drop (i + 1) c.args.actors.now) in
    err-written _ _ _ c.from_residual.result _ c.from_residual.ensures.1
    (begins-within _ _ _ before.so_far piece rest _ before.written
    (begins-same _ _ _ _ (ap (λ (l : List (ℕ × SysMsg)). where_shown f n (flat_map (aside_json names n) l)) c.deref.ensures.value) c.in_err-write_aside.ensures)
    (before.whole
    ∙ (ap (λ l. before.so_far ++ l) (aside-next names f i n c.args.actors.now c.actor-item.result before.number c.loop-actor-test.true c.actor-item.is)
    ∙ sym (append_assoc before.so_far piece rest))))

pub returns : goal.returns
returns g c =
    let names = map string_bytes c.args.names.now in
    let f = c.args.filter.now in
    let i = c.loop-actor.actor-index in
    let before = c.loop-actor.invariant in
    appends-same _ _ _ _
    (sym (before.whole ∙ (ap (λ l. before.so_far ++ all_aside_json names f i l) (drop_all i c.args.actors.now c.loop-actor-test.false) ∙ append-nil before.so_far)))
    before.written
