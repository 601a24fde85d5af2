use Rattle.std.proofs.Common.{◌≡◌, ◌≤◌, ◌*◌, ℕ, Fits, w64, length, refl, Some, ap, sym, ◌∙◌, arith}
use Rattle.mb_gate.specs.Rule.{is_some_item}
use Rattle.mb_gate.specs.Starts.{rows_of, homes_in}
use Rattle.mb_gate.proofs.Rows.{length-rows_of, length-slots_of, homes_in-slots_of}
use Rattle.mb_gate.proofs.Starting.{starts}
use Rattle.mb_gate.proofs.gates.Gates.new.Goals as goal

some_same : {A : Type 0} (a b : A) → Some a ≡ Some b → a ≡ b
some_same a b e = cc

twice-fits : (n m : ℕ) → n ≡ m → m ≤ 65536 → Fits w64 (2 * n)
twice-fits n m same few = omega arith

twice-within : (n m capacity : ℕ) → n ≡ m → 2 * n ≤ capacity → 2 * m ≤ capacity
twice-within n m capacity same room = omega arith

pub new-requires : goal.new-requires
new-requires g c = starts (g.H.MailboxState.is_of c.first_home.result.value) g.H.MailboxState.facts _ c.args.homes.items _ _ (omega arith)
    (c.deref-2.ensures.value ∙ (c.in-Ok.ensures ∙ ap (rows_of g.H.MailboxState.facts) c.deref.ensures.value)) c.fill_slots-slots.ensures.slots
    (c.requires.fresh c.first_home.result.value c.first_home.ensures)

pub invariant_of-result : goal.invariant_of-result
invariant_of-result g c =
    let words = ap length (c.deref-2.ensures.value ∙ (c.in-Ok.ensures ∙ ap (rows_of g.H.MailboxState.facts) c.deref.ensures.value)) ∙
    length-rows_of g.H.MailboxState.facts c.args.homes.items in
    let slots = ap length c.fill_slots-slots.ensures.slots ∙ length-slots_of c.args.homes.items in
    let made = c.in-Ok-new.ensures.ok in
    let same = some_same c.first_home-first.result.value c.first_home.result.value (sym c.first_home-first.ensures ∙ c.first_home.ensures) in
    let known = (λ i. record { marker = c.first_home.result.marker; value = same i }) ∙ ap (λ k. k.first) (sym made.5) in
    record {
      word_count = made.0 ∙ (words ∙ (omega arith));
      slot_count = made.1 ∙ (slots ∙ (omega arith));
      keyed = ap
          (λ k. k.actors) made.5;
      known = known;
      not_empty = (omega arith, omega arith);
    }

pub empty_slots-requires-clause-room : goal.empty_slots-requires-clause-room
empty_slots-requires-clause-room g c =
    let back = ap length (ap homes_in (c.in-Err.ensures.err ∙ c.fill_slots-slots.ensures.slots) ∙ homes_in-slots_of c.args.homes.items) in let room
    = c.fill_slots-slots.ensures.homes.1 in omega arith

pub returns-clause-err : goal.returns-clause-err
returns-clause-err g c = c.empty_slots.ensures ∙ (ap homes_in (c.in-Err.ensures.err ∙ c.fill_slots-slots.ensures.slots) ∙ homes_in-slots_of
    c.args.homes.items)

pub returns-in_default-clause-ok : goal.returns-in_default-clause-ok
returns-in_default-clause-ok g c = tt

pub returns-in_default-clause-first : goal.returns-in_default-clause-first
returns-in_default-clause-first g c = tt

pub returns-in_default-clause-err : goal.returns-in_default-clause-err
returns-in_default-clause-err g c = refl

pub returns-in_default-with_capacity-clause-ok : goal.returns-in_default-with_capacity-clause-ok
returns-in_default-with_capacity-clause-ok g c = tt

pub returns-in_default-with_capacity-clause-first : goal.returns-in_default-with_capacity-clause-first
returns-in_default-with_capacity-clause-first g c = tt

pub returns-in_default-with_capacity-clause-err : goal.returns-in_default-with_capacity-clause-err
returns-in_default-with_capacity-clause-err g c = refl

pub returns-in-Ok-new-clause-err : goal.returns-in-Ok-new-clause-err
returns-in-Ok-new-clause-err g c = tt

pub returns-clause-ok : goal.returns-clause-ok
returns-clause-ok g c = tt

pub returns-clause-first : goal.returns-clause-first
returns-clause-first g c = tt

pub returns-in-Ok-new-clause-first : goal.returns-in-Ok-new-clause-first
returns-in-Ok-new-clause-first g c = c.first_home.ensures ∙ ap (λ k. Some k.first.value) (sym c.in-Ok-new.ensures.ok.5)

pub returns-in-Ok-new-clause-ok : goal.returns-in-Ok-new-clause-ok
returns-in-Ok-new-clause-ok g c =
    let made = c.in-Ok-new.ensures.ok in (c.len-actors.ensures, made.2, ap (λ me. me.0) made.4)

pub overflow_mul-actors : goal.overflow_mul-actors
overflow_mul-actors g c = twice-fits c.len-actors.result _ c.len-actors.ensures c.requires.within_limit

pub fill_slots-slots-requires-clause-empty : goal.fill_slots-slots-requires-clause-empty
fill_slots-slots-requires-clause-empty g c = c.in-Ok-with_capacity.ensures.items

pub fill_slots-slots-requires-clause-room : goal.fill_slots-slots-requires-clause-room
fill_slots-slots-requires-clause-room g c = twice-within c.len-actors.result _ _ c.len-actors.ensures c.in-Ok-with_capacity.ensures.capacity

pub empty_slots-requires-clause-empty : goal.empty_slots-requires-clause-empty
empty_slots-requires-clause-empty g c = c.fill_slots-slots.ensures.homes.0

pub first_home-requires : goal.first_home-requires
first_home-requires g c = record { not_empty = c.requires.not_empty }

pub invariant_of-result-in-Ok-new : goal.invariant_of-result-in-Ok-new
invariant_of-result-in-Ok-new g c =
    let me = c.in-Ok-new.ensures.ok.4 in
    record {
      holds_nothing = (ap (λ me. me.1) me, ap (λ me. me.0.claim) me, ap (λ me. me.0.list) me);
      shares = ap (λ me. is_some_item me.0.share) me;
    }
