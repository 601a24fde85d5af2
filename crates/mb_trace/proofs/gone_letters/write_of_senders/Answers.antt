use Rattle.std.proofs.Common.{◌+◌, ◌++◌, ◌∙◌, [], ap, append_assoc, drop, map, refl, string_bytes, sym}
use Rattle.std.proofs.lemmas.List.{append-nil, drop_all}
use Rattle.mb_trace.specs.GoneLetters.{all_gone_letters_text, gone, gone_letters_text, sender_at}
use Rattle.mb_trace.proofs.Written.{appends-both, appends-none, appends-same, begins-within, err-written}
use Rattle.mb_trace.proofs.GoneLines.{sender-next}
use Rattle.mb_trace.proofs.gone_letters.write_of_senders.Goals as goal

pub loop-sender-init : goal.loop-sender-init
loop-sender-init g c = record { place = refl; so_far = []; written = appends-none (g.W.Write.contents c.args.out.now); whole = refl }

pub loop-sender-preserved : goal.loop-sender-preserved
loop-sender-preserved g c =
    let names = map string_bytes c.args.names.now in
    let i = c.loop-sender.sender-index in
    let before = c.loop-sender.invariant in
    let by = c.sender_at.result.0 in
    let piece = gone_letters_text names by (gone c.sender-item.result.dead) in
    let place_is = c.sender_at.ensures ∙ ap (sender_at c.args.actors) before.place in
    record {
      place = ap (λ n. n + 1) before.place;
      so_far = before.so_far ++ piece;
      written = appends-both _ _ _ before.so_far piece before.written c.in_ok-write_of_sender.ensures;
      whole =
          before.whole
          ∙ (ap (λ l. before.so_far ++ l) (sender-next names c.args.actors i by c.args.senders.now c.sender-item.result place_is c.loop-sender-test.true c.sender-item.is)
          ∙ sym (append_assoc before.so_far piece (all_gone_letters_text names c.args.actors (i + 1) (drop (i + 1) c.args.senders.now))));
    }

pub returns-in_err-write_of_sender : goal.returns-in_err-write_of_sender
returns-in_err-write_of_sender g c =
    let names = map string_bytes c.args.names.now in
    let i = c.loop-sender.sender-index in
    let before = c.loop-sender.invariant in
    let by = c.sender_at.result.0 in
    let piece = gone_letters_text names by (gone c.sender-item.result.dead) in
    let place_is = c.sender_at.ensures ∙ ap (sender_at c.args.actors) before.place in
    let rest = all_gone_letters_text names c.args.actors (i + 1) (drop (i + 1) c.args.senders.now) in
    err-written _ _ _ c.from_residual.result _ c.from_residual.ensures.1
    (begins-within _ _ _ before.so_far piece rest _ before.written c.in_err-write_of_sender.ensures
    (before.whole
    ∙ (ap (λ l. before.so_far ++ l) (sender-next names c.args.actors i by c.args.senders.now c.sender-item.result place_is c.loop-sender-test.true c.sender-item.is)
    ∙ sym (append_assoc before.so_far piece rest))))

pub returns : goal.returns
returns g c =
    let names = map string_bytes c.args.names.now in
    let i = c.loop-sender.sender-index in
    let before = c.loop-sender.invariant in
    appends-same _ _ _ _
    (sym (before.whole ∙ (ap (λ l. before.so_far ++ all_gone_letters_text names c.args.actors i l) (drop_all i c.args.senders.now c.loop-sender-test.false) ∙ append-nil before.so_far)))
    before.written
