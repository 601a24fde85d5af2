-- Homes that are made one by one.
use Rattle.std.proofs.Common.{◌≡◌, ◌<◌, ℕ, suc, ◌+◌, List, [], ◌∷◌, ◌++◌, length, map, drop, refl, sym, ap, ◌∙◌, subst, arith}
use Rattle.std.proofs.lemmas.List.{drop-map, drop_at, length-append, length-map, map-append}
use Rattle.mb_journal.specs.Identity.{Identity}
use Rattle.mb_cell.specs.CellView.{CellView}
use Rattle.mb_msg.specs.declared.mailbox_type.MailboxType.{MailboxType}
use Rattle.mb_queue.specs.Passes.{SendPassView, TakePassView}
use Rattle.mb_home.specs.AgreesWithJournal.{IsOwn}
use Rattle.mb_home.specs.Steps.{at_first}
use Rattle.mb_build.specs.Handed.{passes_of}
use Rattle.mb_build.specs.NewHomes.{directory_of}
use Rattle.mb_build.specs.Identities.{ArePlanned, IsPlanned}
use Rattle.mb_build.specs.Made.{AreAllMade, AreMade}
use Rattle.mb_build.specs.Numbers.{numbers, sender_numbers}
use Rattle.mb_build.specs.Unstarted.{unstarted}
use Rattle.mb_build.proofs.NumberLemmas.{number-there}
use Rattle.mb_build.proofs.OwnLemmas.{IsPassOf, own-first, pass-of}
use Rattle.mb_build.proofs.QueueLemmas.{as-many}
use Rattle.mb_build.proofs.DirectoryLemmas.{planned-there}

abbrev pub whose : List CellView → List Identity
whose = map (λ (c : CellView). c.who)

unstarted-here : (done : List CellView) (cell : CellView) (rest : List CellView) → done ++ cell ∷ rest ≡ map unstarted (whose (done ++ cell ∷ rest))
    → cell ≡ unstarted cell.who
unstarted-here [] cell rest are = cc
unstarted-here (x ∷ done) cell rest are =
    let others : done ++ cell ∷ rest ≡ map unstarted (whose (done ++ cell ∷ rest)) = cc in
    unstarted-here done cell rest others

-- the guardian's pass is the first
pub all-made : (kinds : List MailboxType) (senders : List ℕ) (all_takes : List TakePassView) (rows : List (List SendPassView)) → AreAllMade kinds senders all_takes rows
    → (guardian : TakePassView) × (takes : List TakePassView) × (all_takes ≡ guardian ∷ takes) × AreMade kinds senders guardian takes rows
all-made kinds senders [] rows made = absurd made
all-made kinds senders (guardian ∷ takes) rows made = (guardian, takes, refl, made)

-- the actors of a system, with empty queues and unused passes
module _ (cells : List CellView) (kinds : List MailboxType) (outside : ℕ) (all_takes : List TakePassView) (rows : List (List SendPassView))
    (unused : cells ≡ map unstarted (whose cells)) (planned : ArePlanned (length cells) 0 (whose cells)) (count : length cells ≡ length kinds + 1)
    (made : AreAllMade kinds (sender_numbers (length cells) outside) all_takes rows) where
  parts : (guardian : TakePassView) × (takes : List TakePassView) × (all_takes ≡ guardian ∷ takes)
      × AreMade kinds (sender_numbers (length cells) outside) guardian takes rows
  parts = all-made kinds (sender_numbers (length cells) outside) all_takes rows made

  pub passes-count : length all_takes ≡ length cells
  passes-count =
      let many = as-many kinds 1 (sender_numbers (length cells) outside) parts.1 parts.3.empty in let whole = ap length parts.2 in
      omega (arith, many, count, whole)

  -- one of them, in its place
  module _ (done : List CellView) (cell : CellView) (rest : List CellView) (place : ℕ) (all : done ++ cell ∷ rest ≡ cells) (at : place ≡ length done) where
    pub unstarted-there : cell ≡ unstarted cell.who
    unstarted-there = unstarted-here done cell rest (subst (λ l. l ≡ map unstarted (whose l)) (sym all) unused)

    who-there : drop place (whose cells) ≡ cell.who ∷ whose rest
    who-there =
        ap (λ l. drop place (whose l)) (sym all) ∙ ap (drop place) (map-append (λ (c : CellView). c.who) done (cell ∷ rest))
        ∙ drop_at (whose done) (whose (cell ∷ rest)) place (length-map done (λ (c : CellView). c.who) ∙ sym at)

    pub planned-here : IsPlanned (length cells) place cell.who
    planned-here =
        let sum : 0 + place ≡ place = omega arith in
        subst (λ n. IsPlanned (length cells) n cell.who) sum
        (planned-there (length cells) 0 (whose cells) place cell.who (whose rest) planned who-there)

    pub place-in : place < length cells
    place-in =
        let sum = length-append done (cell ∷ rest) in let whole = ap length all in omega (arith, sum, whole, at)

    -- its passes stand in its place
    rows-from : drop place rows ≡ passes_of parts.1 place ∷ map (passes_of parts.1) (drop (suc place) (sender_numbers (length cells) outside))
    rows-from =
        let sum : 0 + place ≡ place = omega arith in
        ap (drop place) parts.3.passes ∙ drop-map (passes_of parts.1) place (sender_numbers (length cells) outside)
        ∙ ap (map (passes_of parts.1)) (number-there 0 (length cells) place (numbers 64 outside) place-in)
        ∙ ap (λ n. passes_of parts.1 n ∷ map (passes_of parts.1) (drop (suc place) (sender_numbers (length cells) outside))) sum

    pub rows-left : drop place rows ≡ [] → ⊥
    rows-left none = let both = sym none ∙ rows-from in absurd (cc)

    own-row : (row : List SendPassView) (more : List (List SendPassView)) → drop place rows ≡ row ∷ more → row ≡ passes_of parts.1 place
    own-row row more here = let both = sym here ∙ rows-from in cc

    pub row-there : (row : List SendPassView) (more : List (List SendPassView)) → drop place rows ≡ row ∷ more → row ≡ passes_of (drop 1 all_takes) place
    row-there row more here = own-row row more here ∙ sym (ap (λ l. passes_of (drop 1 l) place) parts.2)

    module _ (t : TakePassView) (takes' : List TakePassView) (this : drop place all_takes ≡ t ∷ takes') where
      here : drop place (parts.0 ∷ parts.1) ≡ t ∷ takes'
      here = subst (λ l. drop place l ≡ t ∷ takes') parts.2 this

      pub pass-there : IsPassOf place t
      pass-there = pass-of kinds (sender_numbers (length cells) outside) parts.0 parts.1 rows place t takes' parts.3 here

      -- and its home is its own
      pub own-there : (sends : List SendPassView) (more : List (List SendPassView)) → drop place rows ≡ sends ∷ more
          → IsOwn (at_first cell t sends 0 (directory_of (whose cells) all_takes))
      own-there sends more there =
          subst (λ w. IsOwn (at_first cell t sends 0 (directory_of (whose cells) w))) (sym parts.2)
          (subst (λ l. IsOwn (at_first cell t l 0 (directory_of (whose cells) (parts.0 ∷ parts.1)))) (sym (own-row sends more there))
          (subst (λ x. IsOwn (at_first x t (passes_of parts.1 place) 0 (directory_of (whose cells) (parts.0 ∷ parts.1)))) (sym unstarted-there)
          (own-first kinds (sender_numbers (length cells) outside) parts.0 parts.1 rows (whose cells) place cell.who t (whose rest) takes' parts.3
          (sym (ap length parts.2) ∙ passes-count ∙ sym (length-map cells (λ (c : CellView). c.who)))
          (subst (λ n. IsPlanned n place cell.who) (sym (length-map cells (λ (c : CellView). c.who))) planned-here) who-there here)))
