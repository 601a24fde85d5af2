-- A party that is split off another one, or joins one, leaves each actor owed what it was owed.
use Rattle.std.proofs.Common.{◌≡◌, ◌≢◌, ◌↔◌, inl, inr, ℕ, zero, suc, ◌<◌, Bool, true, false, ◌||◌, List, [], ◌∷◌, ◌++◌}
use Rattle.std.proofs.Common.{All, Any, length, get_or, sym, ap, subst, refl, ◌∙◌, arith}
use Rattle.std.specs.List.{list_any}
use Rattle.std.proofs.Math.ListN.{set}
use Rattle.std.proofs.lemmas.Grind.{common_steps}
use Rattle.std.proofs.lemmas.Option.{slice_get-get_or, get_or_from_slice_get}
use Rattle.std.proofs.lemmas.List.{length-set, length-append, get_or-set_other, get_or-set_same}
use Rattle.std.proofs.lemmas.List.Elements.{All-map}
use Rattle.std.proofs.lemmas.List.Folds.{list_any-append, Any-from_list_any, list_any-from_Any}
use Rattle.mb_core.specs.declared.wake_obligation.WakeObligation.{WakeObligation}
use Rattle.mb_core.specs.Actor.{MachineActor, nothing, obligation_by}
use Rattle.mb_core.specs.Held.{IsHeldRightly}
use Rattle.mb_core.specs.Settled.{IsOwedSystem, IsOwedMessage}
use Rattle.mb_core.specs.Parties.{copied, moved, both, absorbed, IsOwedTheSame, SplitsKeep, JoinsKeep}

or_swap : (rest one none : Bool) → none ≡ false → ((none || rest) || one) ≡ (one || rest)
or_swap rest one none is = grind arith

or_assoc : (a b c : Bool) → ((a || b) || c) ≡ (a || (b || c))
or_assoc a b c = grind arith

or_end : (rest one whole : Bool) → (rest || one) ≡ whole → (rest || (one || false)) ≡ whole
or_end rest one whole is = grind arith

or_again : (rest one whole : Bool) → (rest || one) ≡ whole → (whole || (one || false)) ≡ whole
or_again rest one whole is = grind arith

-- Whether somebody owes for a cause is what one party owes for it, or whether somebody does once that party owes nothing.
apart :
    (cause : WakeObligation → Bool) → cause nothing ≡ false → (owed : List WakeObligation) (party : ℕ) →
    (list_any cause (set owed party nothing) || cause (get_or owed party nothing)) ≡ list_any cause owed
apart cause none [] party = none
apart cause none (obligation ∷ owed) zero = or_swap (list_any cause owed) (cause obligation) (cause nothing) none
apart cause none (obligation ∷ owed) (suc party) =
    or_assoc (cause obligation) (list_any cause (set owed party nothing)) (cause (get_or owed party nothing)) ∙
    ap (λ b. cause obligation || b) (apart cause none owed party)

-- and once it owes something else, for that too
instead :
    (cause : WakeObligation → Bool) → cause nothing ≡ false → (owed : List WakeObligation) (party : ℕ) (obligation : WakeObligation) → party < length owed →
    (list_any cause (set owed party nothing) || cause obligation) ≡ list_any cause (set owed party obligation)
instead cause none [] party obligation there = absurd (omega arith)
instead cause none (first ∷ owed) zero obligation there = or_swap (list_any cause owed) (cause obligation) (cause nothing) none
instead cause none (first ∷ owed) (suc party) obligation there =
    or_assoc (cause first) (list_any cause (set owed party nothing)) (cause obligation) ∙
    ap (λ b. cause first || b) (instead cause none owed party obligation (omega arith))

copied_any :
    (cause : WakeObligation → Bool) → cause nothing ≡ false → (owed : List WakeObligation) (party : ℕ) →
    list_any cause (owed ++ get_or owed party nothing ∷ []) ≡ list_any cause owed
copied_any cause none owed party =
    list_any-append cause owed (get_or owed party nothing ∷ []) ∙
    or_again (list_any cause (set owed party nothing)) (cause (get_or owed party nothing)) (list_any cause owed)
    (apart cause none owed party)

moved_any :
    (cause : WakeObligation → Bool) → cause nothing ≡ false → (owed : List WakeObligation) (party : ℕ) →
    list_any cause (set owed party nothing ++ get_or owed party nothing ∷ []) ≡ list_any cause owed
moved_any cause none owed party =
    list_any-append cause (set owed party nothing) (get_or owed party nothing ∷ []) ∙
    or_end (list_any cause (set owed party nothing)) (cause (get_or owed party nothing)) (list_any cause owed)
    (apart cause none owed party)

-- Two owe for a cause: with what both owe at the one and nothing at the other, somebody owes for it as before.
or_joined :
    (whole both_ last new without_into without_from without_two a b : Bool) → both_ ≡ (a || b) →
    (new || b) ≡ last → (without_into || both_) ≡ last → (without_into || a) ≡ whole → (without_from || b) ≡ whole →
    (without_two || both_) ≡ new → new ≡ whole
or_joined whole both_ last new without_into without_from without_two a b = grind arith

absorbed_any :
    (cause : WakeObligation → Bool) → cause nothing ≡ false → (owed : List WakeObligation) (into from : ℕ) (obligation : WakeObligation) → into ≢ from →
    into < length owed → cause obligation ≡ (cause (get_or owed into nothing) || cause (get_or owed from nothing)) →
    list_any cause (set (set owed into obligation) from nothing) ≡ list_any cause owed
absorbed_any cause none owed into from obligation two there sum =
    or_joined (list_any cause owed) (cause obligation) (list_any cause (set owed into obligation))
    (list_any cause (set (set owed into obligation) from nothing)) (list_any cause (set owed into nothing))
    (list_any cause (set owed from nothing)) (list_any cause (set (set (set owed into obligation) from nothing) into nothing))
    (cause (get_or owed into nothing)) (cause (get_or owed from nothing)) sum
    (subst (λ d. (list_any cause (set (set owed into obligation) from nothing) || cause d) ≡ list_any cause (set owed into obligation))
    (get_or-set_other owed into from obligation nothing (λ (is : from ≡ into). two (sym is)))
    (apart cause none (set owed into obligation) from))
    (instead cause none owed into obligation there)
    (apart cause none owed into)
    (apart cause none owed from)
    (subst
    (λ d.
    (list_any cause (set (set (set owed into obligation) from nothing) into nothing) || cause d) ≡
    list_any cause (set (set owed into obligation) from nothing))
    (get_or-set_other (set owed into obligation) from into nothing nothing two ∙ get_or-set_same owed into obligation nothing there)
    (apart cause none (set (set owed into obligation) from nothing) into))

-- where the lists pass the same test, somebody owes for it in both or in none
same_any :
    (cause : WakeObligation → Bool) (old new : List WakeObligation) → list_any cause new ≡ list_any cause old →
    Any (λ obligation. cause obligation ≡ true) old ↔ Any (λ obligation. cause obligation ≡ true) new
same_any cause old new same = (
  λ some. Any-from_list_any cause new (same ∙ list_any-from_Any cause old some),
  λ some. Any-from_list_any cause old (sym same ∙ list_any-from_Any cause new some),
)

-- an actor of which only the obligations and the holder differ
same_owed :
    (x y : MachineActor) → y.mailbox ≡ x.mailbox → y.system ≡ x.system → y.waiting ≡ x.waiting →
    list_any (λ obligation. obligation.system) y.owed ≡ list_any (λ obligation. obligation.system) x.owed →
    list_any (λ obligation. obligation.message || obligation.sending) y.owed ≡ list_any (λ obligation. obligation.message || obligation.sending) x.owed →
    (IsHeldRightly x → IsHeldRightly y) → IsOwedTheSame x y
same_owed x y mailbox system waiting for_system for_message held =
    let of_system : IsOwedSystem x ↔ IsOwedSystem y = same_any (λ obligation. obligation.system) x.owed y.owed for_system in
    let of_message : IsOwedMessage x ↔ IsOwedMessage y =
    same_any (λ obligation. obligation.message || obligation.sending) x.owed y.owed for_message in
    record {
      system = of_system;
      message = of_message;
      held = held;
      possible = λ has. record { possible = rw mailbox has.possible; word_valid = rw mailbox has.word_valid };
      settled = λ settled. record {
        system = λ open_ free work. of_system.0 (settled.system (rw mailbox at open_) (rw mailbox at free) (rw system at work));
        message = λ open_ free unsuspended waits.
            of_message.0 (
            settled.message (rw mailbox at open_) (rw mailbox at free) (rw mailbox at unsuspended) (rw waiting at waits)
            );
      };
    }

pub copied_owed : (x : MachineActor) (party : ℕ) → IsOwedTheSame x (copied x party)
copied_owed x party =
    same_owed x (copied x party) refl refl refl
    (copied_any (λ obligation. obligation.system) refl x.owed party)
    (copied_any (λ obligation. obligation.message || obligation.sending) refl x.owed party)
    (λ held. record {
      scheduled = held.scheduled;
      free = held.free;
      present = λ holder is. let inside = held.present holder is in omega (arith, length-append {A = WakeObligation});
    })

pub moved_owed : (x : MachineActor) (party : ℕ) → IsOwedTheSame x (moved x party)
moved_owed x party =
    same_owed x (moved x party) refl refl refl
    (moved_any (λ obligation. obligation.system) refl x.owed party)
    (moved_any (λ obligation. obligation.message || obligation.sending) refl x.owed party)
    (λ held. record {
      scheduled = held.scheduled;
      free = held.free;
      present = λ holder is.
          let inside = held.present holder is in omega (arith, length-append {A = WakeObligation}, length-set {A = WakeObligation});
    })

absorbed_held : (x : MachineActor) (into from : ℕ) → into < length x.owed → IsHeldRightly x → IsHeldRightly (absorbed x into from)
absorbed_held x into from there held = grind (arith, common_steps)

both_message :
    (a b : WakeObligation) → ((both a b).message || (both a b).sending) ≡ ((a.message || a.sending) || (b.message || b.sending))
both_message a b = grind arith

pub absorbed_owed : (x : MachineActor) (into from : ℕ) → into ≢ from → into < length x.owed → IsOwedTheSame x (absorbed x into from)
absorbed_owed x into from two there =
    same_owed x (absorbed x into from) refl refl refl
    (absorbed_any (λ obligation. obligation.system) refl x.owed into from (both (obligation_by x into) (obligation_by x from)) two there refl)
    (absorbed_any (λ obligation. obligation.message || obligation.sending) refl x.owed into from (both (obligation_by x into) (obligation_by x from)) two there
    (both_message (obligation_by x into) (obligation_by x from)))
    (absorbed_held x into from there)

-- what a split of one actor keeps, it keeps of all
pub split_keeps :
    (P : MachineActor → Type 0) → ((x : MachineActor) (party : ℕ) → P x → P (copied x party)) →
    ((x : MachineActor) (party : ℕ) → P x → P (moved x party)) → SplitsKeep P
split_keeps P by_copy by_move party old new split all number d inside =
    let within : number < length old = rw (sym split.same_actors) inside in
    let before : MachineActor = get_or old number d in
    let known : P before = all number d within in
    elim (split.each number before (slice_get-get_or old number d within)) as (λ _. P (get_or new number d)) [
      | inl copy ↦ subst P (sym (get_or_from_slice_get new number (copied before party) d copy)) (by_copy before party known)
      | inr move ↦ subst P (sym (get_or_from_slice_get new number (moved before party) d move)) (by_move before party known)
    ]

pub join_keeps :
    (P : MachineActor → Type 0) →
    ((x : MachineActor) (into from : ℕ) → into ≢ from → into < length x.owed → P x → P (absorbed x into from)) → JoinsKeep P
join_keeps P keeps into from old new join all =
    subst (All P) (sym join.each)
    (All-map P (λ x. absorbed x into from) old
    (λ k d inside. keeps (get_or old k d) into from join.two (join.present k d inside) (all k d inside)))
