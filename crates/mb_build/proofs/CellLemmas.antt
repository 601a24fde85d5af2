-- Cells that are made one by one.
use Rattle.std.proofs.Common.{◌≡◌, ◌≤◌, ◌<◌, ◌==◌, ℕ, suc, ◌+◌, Bool, true, false, if◌then◌else◌, List, [], ◌∷◌, ◌++◌}
use Rattle.std.proofs.Common.{length, map, drop, get_or, refl, sym, ap, ◌∙◌, append_assoc, arith}
use Rattle.std.specs.Prelude.{All}
use Rattle.std.proofs.lemmas.Bool.{eq-eqb, ne_eqb}
use Rattle.std.proofs.lemmas.List.{drop_more, length-map}
use Rattle.std.proofs.lemmas.List.Elements.{All-cons, All-nil}
use Rattle.mb_msg.specs.declared.id.ActorId.{ActorId}
use Rattle.mb_msg.specs.declared.strategy.Strategy.{Strategy}
use Rattle.mb_cell.specs.CellView.{CellView}
use Rattle.mb_msg.specs.declared.journal_mode.JournalMode.{JournalMode}
use Rattle.mb_msg.specs.declared.actor_plan.ActorPlan.{ActorPlan}
use Rattle.mb_build.specs.Identities.{children_from, guardian, id, identities, planned, planned_from}
use Rattle.mb_build.specs.Unstarted.{unstarted}

few-if : (b : Bool) (x : ActorId) (l : List ActorId) → length (if b then x ∷ l else l) ≤ suc (length l)
few-if true x l = omega arith
few-if false x l = omega arith

-- nobody has more children than there are others
pub children-few : (number parent : ℕ) (parents : List ActorId) → length (children_from number parent parents) ≤ length parents
children-few number parent [] = omega arith
children-few number parent (p ∷ parents) =
    let one = few-if (p.0 == parent) (id number) (children_from (number + 1) parent parents) in
    let others = children-few (number + 1) parent parents in
    omega (arith, one, others)

below-if : (most : ℕ) (b : Bool) (number : ℕ) (l : List ActorId) → number < most → All (λ (x : ActorId). x.0 < most) l
    → All (λ (x : ActorId). x.0 < most) (if b then id number ∷ l else l)
below-if most true number l lt are = All-cons (λ (x : ActorId). x.0 < most) (id number) l lt are
below-if most false number l lt are = are

-- they are of the numbers that are given out
pub children-below : (most number parent : ℕ) (parents : List ActorId) → number + length parents ≤ most
    → All (λ (x : ActorId). x.0 < most) (children_from number parent parents)
children-below most number parent [] le = All-nil (λ (x : ActorId). x.0 < most)
children-below most number parent (p ∷ parents) le =
    below-if most (p.0 == parent) number (children_from (number + 1) parent parents) (omega (arith, le))
    (children-below most (number + 1) parent parents (omega (arith, le)))

-- the next actor is a child, and comes after those before; or it is not
module _ (number parent index : ℕ) (old new parents whole : List ActorId) (lt : index < length parents)
    (so_far : old ++ children_from number parent (drop index parents) ≡ whole) where
  abbrev next : ActorId
  next = get_or parents index (record { 0 = 0 })

  abbrev rest : List ActorId
  rest = children_from (number + 1) parent (drop (index + 1) parents)

  pub child-more : next.0 ≡ parent → new ≡ old ++ id number ∷ [] → new ++ rest ≡ whole
  child-more same pushed =
      ap (λ l. l ++ rest) pushed ∙ append_assoc old (id number ∷ []) rest
      ∙ ap (λ b. old ++ (if b then id number ∷ rest else rest)) (sym (eq-eqb next.0 parent same))
      ∙ ap (λ l. old ++ children_from number parent l) (sym (drop_more parents index (record { 0 = 0 }) lt)) ∙ so_far

  pub child-other : (next.0 ≡ parent → ⊥) → new ≡ old → new ++ rest ≡ whole
  child-other other same =
      ap (λ l. l ++ rest) same ∙ ap (λ b. old ++ (if b then id number ∷ rest else rest)) (sym (ne_eqb next.0 parent other))
      ∙ ap (λ l. old ++ children_from number parent l) (sym (drop_more parents index (record { 0 = 0 }) lt)) ∙ so_far

-- a cell with its children
pub cell-is : (actors : ℕ) (mode : JournalMode) (limit : ℕ) (all : List ActorId) (number place : ℕ) (p : ActorId) (s : Strategy) (prepared : List ActorId) (c : CellView)
    → c ≡ unstarted (record (planned actors mode limit all number p s) { prepared = prepared }) → prepared ≡ children_from 1 number all → number ≡ place
    → c ≡ unstarted (planned actors mode limit all place p s)
cell-is actors mode limit all number place p s prepared c fresh are at =
    fresh ∙ ap (λ l. unstarted (record (planned actors mode limit all number p s) { prepared = l })) are
    ∙ ap (λ n. unstarted (planned actors mode limit all n p s)) at

-- the cells of these plans, which are numbered on from this one
abbrev pub cells_from : ℕ → JournalMode → ℕ → List ActorId → ℕ → List ActorPlan → List CellView
cells_from actors mode limit all number plans =
    map unstarted (planned_from actors mode limit all number (map (λ (a : ActorPlan). a.parent) plans) (map (λ (a : ActorPlan). a.strategy) plans))

-- one cell more
pub cell-more : (actors : ℕ) (mode : JournalMode) (limit : ℕ) (all : List ActorId) (number next : ℕ) (a : ActorPlan) (before after : List ActorPlan)
    (old new whole : List CellView) → before ≡ a ∷ after → next ≡ number + 1
    → new ≡ old ++ unstarted (planned actors mode limit all number a.parent a.strategy) ∷ [] → old ++ cells_from actors mode limit all number before ≡ whole
    → new ++ cells_from actors mode limit all next after ≡ whole
cell-more actors mode limit all number next a before after old new whole steps further pushed so_far =
    let this = unstarted (planned actors mode limit all number a.parent a.strategy) in
    ap (λ l. l ++ cells_from actors mode limit all next after) pushed ∙ append_assoc old (this ∷ []) (cells_from actors mode limit all next after)
    ∙ ap (λ n. old ++ this ∷ cells_from actors mode limit all n after) further
    ∙ ap (λ l. old ++ cells_from actors mode limit all number l) (sym steps) ∙ so_far

-- there are as many as parents
pub length-planned : (actors : ℕ) (mode : JournalMode) (limit : ℕ) (all : List ActorId) (number : ℕ) (parents : List ActorId) (strategies : List Strategy)
    → length strategies ≡ length parents → length (planned_from actors mode limit all number parents strategies) ≡ length parents
length-planned actors mode limit all number [] strategies many = refl
length-planned actors mode limit all number (p ∷ parents) [] many = absurd (omega (arith, many))
length-planned actors mode limit all number (p ∷ parents) (s ∷ strategies) many =
    ap suc (length-planned actors mode limit all (number + 1) parents strategies (omega (arith, many)))

-- the guardian's cell, and then the others'
pub all-cells : (mode : JournalMode) (limit : ℕ) (plans : List ActorPlan) (here there : List ActorId) (first cells : List CellView)
    → here ≡ map (λ a. a.parent) plans → there ≡ map (λ a. a.parent) plans → first ≡ unstarted (guardian (length here + 1) mode limit here) ∷ []
    → cells ≡ first ++ cells_from (length there + 1) mode limit there 1 plans
    → cells ≡ map unstarted (identities (length plans + 1) mode limit (map (λ a. a.parent) plans) (map (λ a. a.strategy) plans))
all-cells mode limit plans here there first cells heres theres one are =
    let parents : List ActorId = map (λ (a : ActorPlan). a.parent) plans in
    let count : length parents ≡ length plans = length-map plans (λ (a : ActorPlan). a.parent) in
    are ∙ ap (λ l. l ++ cells_from (length there + 1) mode limit there 1 plans) one
    ∙ ap (λ l. unstarted (guardian (length l + 1) mode limit l) ∷ cells_from (length there + 1) mode limit there 1 plans) heres
    ∙ ap (λ l. unstarted (guardian (length parents + 1) mode limit parents) ∷ cells_from (length l + 1) mode limit l 1 plans) theres
    ∙ ap (λ n. unstarted (guardian (n + 1) mode limit parents) ∷ cells_from (n + 1) mode limit parents 1 plans) count
