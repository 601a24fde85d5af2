-- The words and slots of actors in a row.
use Rattle.std.proofs.Common.{◌≡◌, ◌*◌, List, [], ◌∷◌, ◌++◌, length, reverse, sym, refl, ap, ◌∙◌, append_assoc, append-nil, arith}
use Rattle.std.proofs.lemmas.List.{reverse-append}
use Rattle.mb_status.specs.Mailbox.{word_of}
use Rattle.mb_gate.specs.HomeFacts.{HomeFacts}
use Rattle.mb_gate.specs.declared.slot.Slot.{Slot}
use Rattle.mb_gate.specs.declared.slot.Slot.TheVariants.{Empty, Home, List as Listing, Note, First}
use Rattle.mb_gate.specs.Starts.{no_messages, row_of, rows_of, slots_of, homes_in}

module _ {H : Type 0} where
  pub rows_of-snoc : (facts : H → HomeFacts) (hs : List H) (h : H) → rows_of facts (hs ++ h ∷ []) ≡ rows_of facts hs ++ row_of (word_of
      (facts h).mailbox)
  rows_of-snoc facts [] h = append-nil (row_of (word_of (facts h).mailbox))
  rows_of-snoc facts (x ∷ xs) h = ap (λ z. row_of (word_of (facts x).mailbox) ++ z) (rows_of-snoc facts xs h)

  pub slots_of-snoc : (hs : List H) (h : H) → slots_of (hs ++ h ∷ []) ≡ slots_of hs ++ Home h ∷ Listing no_messages ∷ []
  slots_of-snoc [] h = refl
  slots_of-snoc (x ∷ xs) h = ap (λ z. Home x ∷ Listing no_messages ∷ z) (slots_of-snoc xs h)

  pub homes_in-append : (xs ys : List (Slot H)) → homes_in (xs ++ ys) ≡ homes_in xs ++ homes_in ys
  homes_in-append [] ys = refl
  homes_in-append (Home h ∷ xs) ys = ap (λ z. h ∷ z) (homes_in-append xs ys)
  homes_in-append (Empty ∷ xs) ys = homes_in-append xs ys
  homes_in-append (Listing l ∷ xs) ys = homes_in-append xs ys
  homes_in-append (Note m ∷ xs) ys = homes_in-append xs ys
  homes_in-append (First f ∷ xs) ys = homes_in-append xs ys

  pub homes_in-slots_of : (hs : List H) → homes_in (slots_of hs) ≡ hs
  homes_in-slots_of [] = refl
  homes_in-slots_of (h ∷ hs) = ap (λ z. h ∷ z) (homes_in-slots_of hs)

  pub length-rows_of : (facts : H → HomeFacts) (hs : List H) → length (rows_of facts hs) ≡ 32 * length hs
  length-rows_of facts [] = refl
  length-rows_of facts (h ∷ hs) = let e = length-rows_of facts hs in omega arith

  pub length-slots_of : (hs : List H) → length (slots_of hs) ≡ 2 * length hs
  length-slots_of [] = refl
  length-slots_of (h ∷ hs) = let e = length-slots_of hs in omega arith

  -- one more is moved over
  pub shelves_moved : (hs : List H) (h : H) (slots all : List (Slot H)) → slots_of (hs ++ h ∷ []) ++ reverse slots ≡ all
      → slots_of hs ++ reverse ((slots ++ Listing no_messages ∷ []) ++ Home h ∷ []) ≡ all
  shelves_moved hs h slots all e =
      ap (λ z. slots_of hs ++ z) (reverse-append (slots ++ Listing no_messages ∷ []) (Home h ∷ []) ∙ ap (λ z. Home h ∷ z) (reverse-append slots
      (Listing no_messages ∷ [])))
      ∙ (sym (append_assoc (slots_of hs) (Home h ∷ Listing no_messages ∷ []) (reverse slots)) ∙ (ap (λ z. z ++ reverse slots) (sym
      (slots_of-snoc hs h)) ∙ e))

  -- one slot more is gone through
  pub homes_moved : (slots : List (Slot H)) (s : Slot H) (homes homes' all : List H) → homes' ≡ homes ++ homes_in (s ∷ []) → homes_in (slots ++ s
      ∷ []) ++ reverse homes ≡ all → homes_in slots ++ reverse homes' ≡ all
  homes_moved slots s homes homes' all is e =
      ap (λ z. homes_in slots ++ reverse z) is ∙ (ap (λ z. homes_in slots ++ z) (reverse-append homes (homes_in (s ∷ [])) ∙ ap (λ z. z ++ reverse
      homes) (reversed s))
      ∙ (sym (append_assoc (homes_in slots) (homes_in (s ∷ [])) (reverse homes)) ∙ (ap (λ z. z ++ reverse homes) (sym (homes_in-append slots (s ∷
      []))) ∙ e)))
    where
      reversed : (t : Slot H) → reverse (homes_in (t ∷ [])) ≡ homes_in (t ∷ [])
      reversed (Home h) = refl
      reversed Empty = refl
      reversed (Listing l) = refl
      reversed (Note m) = refl
      reversed (First f) = refl
