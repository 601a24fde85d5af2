-- An actor that a run knows to be closed it still knows to be closed once it saw more.
use Rattle.std.proofs.Common.{◌≡◌, ◌⊎◌, inl, inr, ℕ, List, [], ◌∷◌, ◌++◌, sym, ap, ◌∙◌, subst, append_assoc, append-nil}
use Rattle.std.specs.List.{flat_map}
use Rattle.mb_msg.specs.declared.dead_letter.DeadLetter.{DeadLetter}
use Rattle.mb_ghost.specs.Seen.{Each}
use Rattle.mb_ghost.proofs.SeenLemmas.{each_weaker, each_append}
use Rattle.mb_gate.specs.Rule.{IsAmong}
use Rattle.mb_gate.specs.View.{Observation, Read}
use Rattle.mb_gate.proofs.Numbers.{among_first, among_left, among_more, among_right}
use Rattle.mb_home.specs.AtHome.{closed_receivers, receiver_if_closed}
use Rattle.mb_mailbox.specs.RunState.{RunState}
use Rattle.mb_mailbox.specs.Running.{IsKnownClosedTo}

abbrev head_or : {A : Type 0} → A → List A → A
head_or d [] = d
head_or d (x ∷ xs) = x

abbrev tail_of : {A : Type 0} → List A → List A
tail_of [] = []
tail_of (x ∷ xs) = xs

module _ {A : Type 0} (x : A) where
  split-next : (y : A) (a b : List A) → (IsAmong x (a ++ b) → IsAmong x a ⊎ IsAmong x b) → (before after : List A) →
      y ∷ (a ++ b) ≡ before ++ x ∷ after → IsAmong x (y ∷ a) ⊎ IsAmong x b
  split-next y a b later [] after same =
      inl (record { before = []; after = a; joined = ap (λ z. z ∷ a) (ap (head_or y) same) })
  split-next y a b later (z ∷ before) after same =
      in_more (later (record { before = before; after = after; joined = ap tail_of same }))
    where
      in_more : IsAmong x a ⊎ IsAmong x b → IsAmong x (y ∷ a) ⊎ IsAmong x b
      in_more (inl h) = inl (among_more x y a h)
      in_more (inr h) = inr h

  among-split : (a b : List A) → IsAmong x (a ++ b) → IsAmong x a ⊎ IsAmong x b
  among-split [] b h = inr h
  among-split (y ∷ a) b h = split-next y a b (among-split a b) h.before h.after h.joined

-- the pass saw more
pub shut-more : (newer seen : List Observation) (h : RunState) (dead : List ℕ) → Each (IsKnownClosedTo seen h) dead → Each (IsKnownClosedTo (newer ++ seen) h) dead
shut-more newer seen h dead known = each_weaker (IsKnownClosedTo seen h) (IsKnownClosedTo (newer ++ seen) h) dead later known
  where
    later : (other : ℕ) → IsKnownClosedTo seen h other → IsKnownClosedTo (newer ++ seen) h other
    later other (inl sent_system) = inl sent_system
    later other (inr read) =
        inr (subst (IsAmong (Read other 1)) (sym (append_assoc newer seen h.log)) (among_right (Read other 1) newer (seen ++ h.log) read))

-- the claim's own seat did more
pub shut-own : (more seen : List Observation) (h new : RunState) (dead : List ℕ) → new.log ≡ more ++ h.log → new.closed_to ≡ h.closed_to →
    Each (IsKnownClosedTo seen h) dead → Each (IsKnownClosedTo seen new) dead
shut-own more seen h new dead log same known = each_weaker (IsKnownClosedTo seen h) (IsKnownClosedTo seen new) dead later known
  where
    by_place : (other : ℕ) → IsAmong (Read other 1) seen ⊎ IsAmong (Read other 1) h.log → IsAmong (Read other 1) (seen ++ new.log)
    by_place other (inl read) = among_left (Read other 1) seen new.log read
    by_place other (inr read) =
        among_right (Read other 1) seen new.log (subst (IsAmong (Read other 1)) (sym log) (among_right (Read other 1) more h.log read))

    later : (other : ℕ) → IsKnownClosedTo seen h other → IsKnownClosedTo seen new other
    later other (inl sent_system) = inl (subst (IsAmong other) (sym same) sent_system)
    later other (inr read) = inr (by_place other (among-split (Read other 1) seen h.log read))

-- one that was read closed just now is known to be
pub shut-read : (seen : List Observation) (h : RunState) (other : ℕ) → IsKnownClosedTo (Read other 1 ∷ seen) h other
shut-read seen h other = inr (among_left (Read other 1) (Read other 1 ∷ seen) h.log (among_first (Read other 1) seen))

flat-more : {A B : Type 0} (f : A → List B) (xs : List A) (x : A) → flat_map f (xs ++ x ∷ []) ≡ flat_map f xs ++ f x
flat-more f [] x = append-nil (f x)
flat-more f (y ∷ ys) x = ap (λ z. f y ++ z) (flat-more f ys x) ∙ sym (append_assoc (f y) (flat_map f ys) (f x))

-- a dead letter more: it counts only where it says that its receiver was closed
pub shut-is_dead_letter : (seen : List Observation) (h : RunState) (dead : List DeadLetter) (d : DeadLetter) → Each (IsKnownClosedTo seen h) (closed_receivers dead) →
    Each (IsKnownClosedTo seen h) (receiver_if_closed d.why d.envelope.to.0) → Each (IsKnownClosedTo seen h) (closed_receivers (dead ++ d ∷ []))
shut-is_dead_letter seen h dead d known is =
    subst (Each (IsKnownClosedTo seen h)) (sym (flat-more (λ (x : DeadLetter). receiver_if_closed x.why x.envelope.to.0) dead d))
    (each_append (IsKnownClosedTo seen h) (closed_receivers dead) (receiver_if_closed d.why d.envelope.to.0) known is)
