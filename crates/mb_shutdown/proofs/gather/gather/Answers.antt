use Rattle.std.proofs.Common.{◌≡◌, ◌∷◌, ◌++◌, length, map, refl, sym, ap, ◌∙◌, subst, arith, length-append}
use Rattle.std.specs.Prelude.{IsPermutation}
use Rattle.std.specs.Vec.Iter.{into_iter_items}
use Rattle.std.proofs.lemmas.List.{nil_from_length}
use Rattle.std.proofs.lemmas.List.Elements.{All-same}
use Rattle.std.proofs.lemmas.List.Sorted.{All-permutation, IsPermutation-sym}
use Rattle.mb_shutdown.proofs.JoinLemmas.{refilled}
use Rattle.mb_build.specs.Numbers.{numbers}
use Rattle.mb_gate.specs.Accessors.{pass_view}
use Rattle.mb_gate.specs.Rule.{IsPart}
use Rattle.mb_system.specs.Members.{IsSenderOf}
use Rattle.mb_shutdown.specs.Belonging.{HasAllSeen, brings}
use Rattle.mb_shutdown.proofs.ComingBack.{some-handle}
use Rattle.mb_shutdown.proofs.Gathered.{handle-ours, handles-all, handles-first, handles-more, seen_by_sender, sender-ours, senders-all, senders-first, senders-more, view_of_handle, view_of_sender}
use Rattle.mb_shutdown.proofs.OfAll.{of-all}
use Rattle.mb_shutdown.proofs.Places.{all-there, as-many-senders}
use Rattle.mb_shutdown.proofs.Sums.{HasAll}
use Rattle.mb_shutdown.proofs.gather.gather.Goals as goal

pub sort_by_number-requires : goal.sort_by_number-requires
sort_by_number-requires g c =
    let built = c.args.built in let together = c.requires.together in
    let many = as-many-senders built.system.senders built.senders.items c.requires.complete.1 together.numbered together.once in
    let is = c.deref_mut.ensures.value in
    let long = ap length is in
    let few = built.system.within_limit.1 in record {
      within_limit = omega (arith, long, many, few);
      present = all-there built.system.senders c.deref_mut.result.now built.senders.items is many c.requires.complete.1;
    }

pub unreachable-requires : goal.unreachable-requires
unreachable-requires g c =
    let built = c.args.built in
    let some = some-handle built.handles.items built.system.workers built.system.not_empty c.requires.complete.0 in
    let none = c.in_default.ensures.cases.0 in
    let len = c.into_iter-handles.ensures.len in
    let many = built.handles.ok.0 in
    omega (arith, some, none, len, many)

pub loop-handle-init : goal.loop-handle-init
loop-handle-init g c =
    let built = c.args.built in
    handles-first built.system.gates built.handles.items (into_iter_items c.into_iter-handle-iterator.result) c.in-Some.first c.into_pass-pass.result
    ((λ i. c.in-Some.first ∷ into_iter_items (c.into_iter-handle-iterator.ensures.into_iter_gives i)) ∙ sym c.in-Some.ensures.cases.0
    ∙ c.into_iter-handles.ensures.rest)
    c.into_pass-pass.ensures c.requires.together.handles

pub absorb-requires : goal.absorb-requires
absorb-requires g c =
    let built = c.args.built in let at = c.loop-handle in record {
      same_gates = (
        at.invariant.knows.same_gates,
        handle-ours built.system.gates built.handles.items at.yielded (into_iter_items at.handle-iterator) (into_iter_items c.next-in-loop-handle.new.self)
            c.in-Some-handle.handle at.pass c.into_pass.result at.invariant c.in-Some-handle.ensures.steps.0 c.into_pass.ensures c.requires.together.handles,
      );
    }

pub loop-handle-preserved : goal.loop-handle-preserved
loop-handle-preserved g c =
    let built = c.args.built in let at = c.loop-handle in
    handles-more built.system.gates built.handles.items at.yielded (into_iter_items at.handle-iterator) (into_iter_items c.next-in-loop-handle.new.self)
    c.in-Some-handle.handle at.pass c.absorb.new.pass c.into_pass.result at.invariant c.in-Some-handle.ensures.steps.0 c.into_pass.ensures
    c.absorb.ensures.same_gates c.absorb.ensures.known

pub loop-sender-init : goal.loop-sender-init
loop-sender-init g c =
    let built = c.args.built in let at = c.loop-handle in let together = c.requires.together in let now = c.sort_by_number.new.all in
    let many = as-many-senders built.system.senders built.senders.items c.requires.complete.1 together.numbered together.once in
    let is = c.deref_mut.ensures.value in
    let same : IsPermutation now built.senders.items = subst (λ l. IsPermutation now l) is c.sort_by_number.ensures.same in
    let long : length now ≡ length built.senders.items = c.sort_by_number.auto.all ∙ ap length is in
    let rest : into_iter_items c.into_iter-sender-iterator.result ≡ now =
    c.into_iter-sender-iterator.ensures.into_iter_gives.0 ∙ refilled built.senders.len built.senders.items now (long ∙ sym built.senders.ok.0) in
    let left = ap length rest in
    let none = ap length c.requires.room.0 in
    let room = c.requires.room.1 in (
      now,
      same,
      c.sort_by_number.ensures.numbers ∙ ap (numbers 0) (ap length is ∙ many),
      senders-first built.system.gates built.handles.items now (into_iter_items c.into_iter-sender-iterator.result) at.pass c.args.outside.now.items
          at.invariant.knows.same_gates
          (handles-all built.system.gates built.handles.items at.yielded (into_iter_items at.handle-iterator) at.pass at.invariant
          (nil_from_length (into_iter_items at.handle-iterator) (sym at.handle-iterator.rest.ok.0 ∙ c.in-None.ensures.steps.0)))
          rest c.requires.room.0,
      (omega (arith, left, long, none, room)),
    )

pub absorb-requires-in-loop-sender : goal.absorb-requires-in-loop-sender
absorb-requires-in-loop-sender g c =
    let built = c.args.built in let at = c.loop-sender in let now = at.invariant.0 in
    let all = All-permutation (λ s. IsSenderOf built.system.gates s) built.senders.items now
    (IsPermutation-sym now built.senders.items at.invariant.1) c.requires.together.senders in record {
      same_gates = (
        at.invariant.3.same_gates,
        sender-ours built.system.gates built.handles.items now at.yielded (into_iter_items at.sender-iterator)
            (into_iter_items c.next-in-loop-sender.new.self) c.in-Some-sender.sender at.pass c.into_parts-other.result.0 at.outside.items
            at.invariant.3 c.in-Some-sender.ensures.steps.0 c.into_parts-other.ensures.0 all,
      );
    }

pub push_reserved-requires : goal.push_reserved-requires
push_reserved-requires g c =
    let at = c.loop-sender in
    let next = ap length c.in-Some-sender.ensures.steps.0 in
    let room = at.invariant.4 in let many = at.outside.ok.0 in
    omega (arith, next, room, many)

pub loop-sender-preserved : goal.loop-sender-preserved
loop-sender-preserved g c =
    let built = c.args.built in let at = c.loop-sender in let now = at.invariant.0 in
    let rest = into_iter_items c.next-in-loop-sender.new.self in
    let next = ap length c.in-Some-sender.ensures.steps.0 in
    let room = at.invariant.4 in
    let longer = ap length c.push_reserved.ensures.items ∙ length-append at.outside.items _ in
    let capacity = c.push_reserved.ensures.capacity in (
      now,
      at.invariant.1,
      at.invariant.2,
      senders-more built.system.gates built.handles.items now at.yielded (into_iter_items at.sender-iterator) rest c.in-Some-sender.sender at.pass
          c.absorb-in-loop-sender.new.pass c.into_parts-other.result.0 at.outside.items c.push_reserved.new.self.items _ at.invariant.3
          c.in-Some-sender.ensures.steps.0 c.into_parts-other.ensures.0 c.absorb-in-loop-sender.ensures.same_gates c.absorb-in-loop-sender.ensures.known
          c.push_reserved.ensures.items c.into_parts-other.ensures.1 c.into_parts-other.ensures.2,
      (omega (arith, next, room, longer, capacity)),
    )

pub returns : goal.returns
returns g c =
    let built = c.args.built in let at = c.loop-sender in let has = at.invariant.3 in let now = at.invariant.0 in
    let none = nil_from_length (into_iter_items at.sender-iterator) (sym at.sender-iterator.rest.ok.0 ∙ c.in-None-sender.ensures.steps.0) in
    let all : at.yielded ≡ now =
    senders-all built.system.gates built.handles.items now at.yielded (into_iter_items at.sender-iterator) at.pass at.outside.items has none in
    let seen : HasAllSeen built (pass_view at.pass).log = (
      has.handles_seen,
      All-permutation (λ s. IsPart (seen_by_sender s) (pass_view at.pass).log) now built.senders.items at.invariant.1
          (All-same (λ s. IsPart (seen_by_sender s) (pass_view at.pass).log) now at.yielded (sym all) has.seen),
    ) in
    record {
      gates = (refl, has.same_gates);
      of_all = of-all built (pass_view at.pass) now seen at.invariant.1
          (subst (λ l. HasAll (map view_of_handle built.handles.items ++ map view_of_sender l) (pass_view at.pass)) all has.all);
      outside = (now, at.invariant.1, at.invariant.2, has.shown ∙ ap (map brings) all);
    }
