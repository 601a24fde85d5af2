-- Lists that are kept by joining and leaving, in order of joining.
use Rattle.std.proofs.Common.{◌≡◌, Bool, true, false, cond, not, List, [], ◌∷◌, ◌++◌, filter, refl, sym, ap, ◌∙◌, arith}
use Rattle.std.specs.Prelude.{if◌then◌else◌}
use Rattle.std.proofs.lemmas.Bool.Decides.{nat_tests}
use Rattle.std.proofs.lemmas.List.{append-nil}
use Rattle.mb_msg.specs.declared.id.ActorId.{ActorId}
use Rattle.mb_actor.specs.ActorList.{is_same, has}
use Rattle.mb_journal.specs.Members.{members_in_order}
use Rattle.mb_journal.specs.Newest.{Membership, joins, leaves, said_if, newest}
use Rattle.mb_journal.specs.Newest.Membership.{Joins, Leaves}
use Rattle.mb_journal.specs.Remaining.{remaining}
use Rattle.mb_journal.proofs.Kept.{Change, change_says, changed, kept, kept-stands, has-once}
use Rattle.mb_journal.proofs.Kept.Change.{Join, Leave, Clear, Keep}
use Rattle.mb_journal.proofs.RemainingLaw.{filter-all, remaining-is}

filter-none : (list : List ActorId) → filter (λ x. false) list ≡ []
filter-none [] = refl
filter-none (x ∷ list) = filter-none list

same-sym : (a b : ActorId) → is_same a b ≡ is_same b a
same-sym a b = grind (arith, nat_tests)

-- who joins by a change
abbrev pub joining : Change → List ActorId → List ActorId
joining (Join w) list = if has list w then [] else w ∷ []
joining _ list = []

joins-leaves : (b : Bool) → leaves (said_if b Joins) ≡ false
joins-leaves true = refl
joins-leaves false = refl

leaves-leaves : (b : Bool) → leaves (said_if b Leaves) ≡ b
leaves-leaves true = refl
leaves-leaves false = refl

-- a change takes away who leaves, and then adds who joins
changed-splits : (c : Change) (list : List ActorId) → changed c list ≡ filter (λ x. not (leaves (change_says x c))) list ++ joining c list
changed-splits (Join w) list = split (has list w) ∙ ap (λ l. l ++ (if has list w then [] else w ∷ [])) (sym all)
  where
    all : filter (λ x. not (leaves (said_if (is_same x w) Joins))) list ≡ list
    all = (λ i. filter (λ x. not (joins-leaves (is_same x w) i)) list) ∙ filter-all list

    split : (b : Bool) → (if b then list else list ++ w ∷ []) ≡ list ++ (if b then [] else w ∷ [])
    split true = sym (append-nil list)
    split false = refl
changed-splits (Leave w) list =
    (λ i. filter (λ x. not ((same-sym w x ∙ sym (leaves-leaves (is_same x w))) i)) list) ∙ sym (append-nil _)
changed-splits Clear list = sym (append-nil _ ∙ filter-none list)
changed-splits Keep list = sym (append-nil _ ∙ filter-all list)

module _ {A : Type 0} (change : A → Change) where
  kept-remains : (list : List A) →
      kept change list ≡ remaining (λ a before. joining (change a) (kept change before)) (λ x a. leaves (change_says x (change a))) [] list
  kept-remains list =
      remaining-is (λ a before. joining (change a) (kept change before)) (λ x a. leaves (change_says x (change a))) (kept change) refl
      (λ a before. changed-splits (change a) (kept change before)) list

  -- where the events ask to join, and say to leave, whom the changes do
  pub kept-in_order : (asked : A → List ActorId) (says : ActorId → A → Membership) →
      ((a : A) (before : List A) →
      joining (change a) (kept change before) ≡ filter (λ x. not (joins (newest (says x) before))) (asked a)) →
      ((x : ActorId) (a : A) → leaves (change_says x (change a)) ≡ leaves (says x a)) →
      (list : List A) → kept change list ≡ members_in_order asked says list
  kept-in_order asked says same_joining same_leaving list =
      kept-remains list ∙ (λ i. remaining (λ a before. same_joining a before i) (λ x a. same_leaving x a i) [] list)

  -- an actor joins that is no member by the newest before
  pub join-asked : (says : ActorId → A → Membership) (w : ActorId) (before : List A) →
      newest (λ a. change_says w (change a)) before ≡ newest (says w) before →
      joining (Join w) (kept change before) ≡ filter (λ x. not (joins (newest (says x) before))) (w ∷ [])
  join-asked says w before same =
      ap (λ b. if b then [] else w ∷ [])
      (has-once w (kept change before) (joins (newest (λ a. change_says w (change a)) before)) (kept-stands change before w) ∙ ap joins same)
      ∙ choose (joins (newest (says w) before))
    where
      choose : (b : Bool) → (if b then [] else w ∷ []) ≡ cond (not b) (w ∷ []) []
      choose true = refl
      choose false = refl
