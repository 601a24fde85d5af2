-- Where a party gives a new one a part of what it owes, each actor is owed what it was owed.
use Rattle.std.proofs.Common.{◌≡◌, ℕ, zero, suc, ◌<◌, Bool, true, false, ◌||◌, List, [], ◌∷◌, ◌++◌, Any, length, get_or, set, sym, ap, subst, ◌∙◌, arith}
use Rattle.std.specs.List.{list_any}
use Rattle.std.proofs.lemmas.Option.{slice_get-get_or, get_or_from_slice_get}
use Rattle.std.proofs.lemmas.List.{length-set, length-append}
use Rattle.std.proofs.lemmas.List.Folds.{list_any-append, Any-from_list_any, list_any-from_Any}
use Rattle.mb_core.specs.declared.wake_obligation.WakeObligation.{WakeObligation}
use Rattle.mb_core.specs.Actor.{MachineActor, nothing}
use Rattle.mb_core.specs.Held.{IsHeldRightly, HasPossibleMailbox}
use Rattle.mb_core.specs.Settled.{IsSettled}
use Rattle.mb_core.specs.Parties.{both}
use Rattle.mb_refinement.specs.Parts.{parted, ArePartsOf, PartsKeep}

or_parts : (first rest mine theirs : Bool) → first ≡ (mine || theirs) → ((mine || rest) || (theirs || false)) ≡ (first || rest)
or_parts first rest mine theirs is = grind arith

or_assoc : (a b c : Bool) → ((a || b) || c) ≡ (a || (b || c))
or_assoc a b c = grind arith

both_message : (a b : WakeObligation) → ((both a b).message || (both a b).sending) ≡ ((a.message || a.sending) || (b.message || b.sending))
both_message a b = grind arith

-- somebody owes for a cause after it exactly if somebody did before
parted_any : (cause : WakeObligation → Bool) (mine theirs : WakeObligation) (owed : List WakeObligation) (party : ℕ) → party < length owed
    → cause (get_or owed party nothing) ≡ (cause mine || cause theirs) → (list_any cause (set owed party mine) || (cause theirs || false)) ≡ list_any cause owed
parted_any cause mine theirs [] party inside is = absurd (omega arith)
parted_any cause mine theirs (o ∷ owed) zero inside is = or_parts (cause o) (list_any cause owed) (cause mine) (cause theirs) is
parted_any cause mine theirs (o ∷ owed) (suc party) inside is =
    or_assoc (cause o) (list_any cause (set owed party mine)) (cause theirs || false)
    ∙ ap (λ b. cause o || b) (parted_any cause mine theirs owed party (omega arith) is)

still_any : (cause : WakeObligation → Bool) (mine theirs : WakeObligation) (owed : List WakeObligation) (party : ℕ) → party < length owed → cause (get_or owed party
    nothing) ≡ (cause mine || cause theirs) → Any (λ o. cause o ≡ true) owed → Any (λ o. cause o ≡ true) (set owed party mine ++ theirs ∷ [])
still_any cause mine theirs owed party inside is some =
    let new = set owed party mine ++ theirs ∷ [] in
    Any-from_list_any cause new (list_any-append cause (set owed party mine) (theirs ∷ []) ∙ (parted_any cause mine theirs owed party inside is ∙ list_any-from_Any
    cause owed some))

module _ (x : MachineActor) (party : ℕ) (mine theirs : WakeObligation) (is : ArePartsOf x party mine theirs) where
  parted_held : IsHeldRightly x → IsHeldRightly (parted x party mine theirs)
  parted_held held = record {
    scheduled = held.scheduled;
    free = held.free;
    present = λ holder has. let inside = held.present holder has in omega (arith, length-append {A = WakeObligation}, length-set {A = WakeObligation});
  }

  parted_possible : HasPossibleMailbox x → HasPossibleMailbox (parted x party mine theirs)
  parted_possible has = record { possible = has.possible; word_valid = has.word_valid }

  parted_settled : IsSettled x → IsSettled (parted x party mine theirs)
  parted_settled settled = record {
    system = λ unshut free work. still_any (λ o. o.system) mine theirs x.owed party is.present (ap (λ (o : WakeObligation). o.system) (sym is.whole))
        (settled.system unshut free work);
    message = λ unshut free unsuspended waits. still_any (λ o. o.message || o.sending) mine theirs x.owed party is.present
        (ap (λ (o : WakeObligation). o.message || o.sending) (sym is.whole) ∙ both_message mine theirs) (settled.message unshut free unsuspended waits);
  }

-- what it keeps of one actor, it keeps of all
parts_keep : (P : MachineActor → Type 0) → ((x : MachineActor) (party : ℕ) (mine theirs : WakeObligation) → ArePartsOf x party mine theirs → P x → P (parted x party
    mine theirs)) → PartsKeep P
parts_keep P keeps party old new parts all number d inside =
    let within : number < length old = rw (sym parts.same_actors) inside in
    let before : MachineActor = get_or old number d in
    let each = parts.each number before (slice_get-get_or old number d within) in
    subst P (sym (get_or_from_slice_get new number (parted before party each.0 each.1) d each.3)) (keeps before party each.0 each.1 each.2 (all number d within))

pub parts_keep_held : PartsKeep IsHeldRightly
parts_keep_held = parts_keep IsHeldRightly parted_held

pub parts_keep_possible : PartsKeep HasPossibleMailbox
parts_keep_possible = parts_keep HasPossibleMailbox parted_possible

pub parts_keep_settled : PartsKeep IsSettled
parts_keep_settled = parts_keep IsSettled parted_settled
