-- The cells of the actors of a plan, one by one.
use Rattle.std.proofs.Common.{◌≡◌, ℕ, zero, suc, ◌+◌, ◌<◌, ◌≤◌, List, [], ◌∷◌, ◌++◌, length, map, get_or, slice_get, Some, refl, sym, subst, ap, ◌∙◌, arith, ◌⊎◌, inl, inr}
use Rattle.std.proofs.lemmas.Bool.{cases_lt}
use Rattle.std.proofs.lemmas.List.{get_or_append_left, get_or_push, length-map, length_push}
use Rattle.mb_msg.specs.declared.actor_plan.ActorPlan.{ActorPlan}
use Rattle.mb_msg.specs.declared.id.ActorId.{ActorId}
use Rattle.mb_msg.specs.declared.journal_mode.JournalMode.{JournalMode}
use Rattle.mb_msg.specs.declared.plan.Plan.{Plan}
use Rattle.mb_build.specs.Identities.{guardian, planned, planned_from}
use Rattle.mb_build.specs.Planned.{actors_in}
use Rattle.mb_build.specs.Unstarted.{unstarted}
use Rattle.mb_build.proofs.CellLemmas.{length-planned}
use Rattle.mb_cell.specs.CellView.{CellView}
use Rattle.mb_journal.specs.Identity.{Identity}
use Rattle.mb_causal_order.specs.Replayed.{IsReplayed}

-- the actor of a place behind the guardian
planned-at : (actors : ℕ) (mode : JournalMode) (limit : ℕ) (all : List ActorId) (number : ℕ) (plans : List ActorPlan) (place at : ℕ) (p : ActorPlan) → place < length plans →
    p ≡ get_or plans place p → number + place ≡ at →
    slice_get (planned_from actors mode limit all number (map (λ (a : ActorPlan). a.parent) plans) (map (λ (a : ActorPlan). a.strategy) plans)) place
    ≡ Some (planned actors mode limit all at p.parent p.strategy)
planned-at actors mode limit all number [] place at p within is sum = absurd (omega (arith, within))
planned-at actors mode limit all number (q ∷ plans) zero at p within is sum =
    let same : number ≡ at = omega (arith, sum) in
    ap (λ (x : ActorPlan). Some (planned actors mode limit all number x.parent x.strategy)) (sym is)
    ∙ ap (λ n. Some (planned actors mode limit all n p.parent p.strategy)) same
planned-at actors mode limit all number (q ∷ plans) (suc place) at p within is sum =
    planned-at actors mode limit all (number + 1) plans place at p (omega (arith, within)) is (omega (arith, sum))

-- the cell of an actor of the plan, to which nothing has come
fresh : (who : List Identity) (a : ℕ) (one : Identity) (c : CellView) → slice_get who a ≡ Some one → c ≡ unstarted one →
    IsReplayed (slice_get who a) [] c
fresh who a one c at is = record {
  same_actor = at ∙ ap (λ (x : CellView). Some x.who) (sym is);
  journal = ap (λ (x : CellView). x.journal) is;
  carried_out = ap (λ (x : CellView). x.acts) is;
}

module _ (plan : Plan) (parents : List ActorId) (are : parents ≡ map (λ (a : ActorPlan). a.parent) plan.actors.items) where
  pub count : length parents ≡ length plan.actors.items
  count = ap length are ∙ length-map plan.actors.items (λ (a : ActorPlan). a.parent)

  -- the guardian's cell
  pub first : (cells : List CellView) (c : CellView) → cells ≡ c ∷ [] →
      c ≡ unstarted (guardian (length parents + 1) plan.journal plan.journal_limit parents) → (a : ℕ) (d : CellView) → a < length cells →
      IsReplayed (slice_get (actors_in plan) a) [] (get_or cells a d)
  first cells c one is a d within =
      let none : a ≡ 0 = (let n = ap length one in omega (arith, within, n)) in
      let own : c ≡ unstarted (guardian (length plan.actors.items + 1) plan.journal plan.journal_limit (map (λ (x : ActorPlan). x.parent) plan.actors.items)) =
      is ∙ (ap (λ n. unstarted (guardian (n + 1) plan.journal plan.journal_limit parents)) count
      ∙ ap (λ l. unstarted (guardian (length plan.actors.items + 1) plan.journal plan.journal_limit l)) are) in
      subst (λ (l : List CellView). IsReplayed (slice_get (actors_in plan) a) [] (get_or l a d)) (sym one)
      (subst (λ (n : ℕ). IsReplayed (slice_get (actors_in plan) n) [] (get_or (c ∷ []) n d)) (sym none)
      (fresh (actors_in plan) 0 _ c refl own))

  -- one cell more
  pub more : (cells new : List CellView) (c : CellView) (place number : ℕ) (p : ActorPlan) → length cells ≡ place + 1 → place < length plan.actors.items →
      p ≡ get_or plan.actors.items place p → new ≡ cells ++ c ∷ [] → number ≡ place + 1 →
      c ≡ unstarted (planned (length parents + 1) plan.journal plan.journal_limit parents number p.parent p.strategy) →
      ((a : ℕ) (d : CellView) → a < length cells → IsReplayed (slice_get (actors_in plan) a) [] (get_or cells a d)) →
      (a : ℕ) (d : CellView) → a < length new → IsReplayed (slice_get (actors_in plan) a) [] (get_or new a d)
  more cells new c place number p as_many inside is_p pushed by_number is each a d within =
      subst (λ (l : List CellView). IsReplayed (slice_get (actors_in plan) a) [] (get_or l a d)) (sym pushed) (by_place (cases_lt a (length cells)))
    where
      own : c ≡ unstarted (planned (length plan.actors.items + 1) plan.journal plan.journal_limit (map (λ (x : ActorPlan). x.parent) plan.actors.items) number p.parent
          p.strategy)
      own =
          is ∙ (ap (λ n. unstarted (planned (n + 1) plan.journal plan.journal_limit parents number p.parent p.strategy)) count
          ∙ ap (λ l. unstarted (planned (length plan.actors.items + 1) plan.journal plan.journal_limit l number p.parent p.strategy)) are)

      there : slice_get (actors_in plan) (suc place)
          ≡ Some (planned (length plan.actors.items + 1) plan.journal plan.journal_limit (map (λ (x : ActorPlan). x.parent) plan.actors.items) number p.parent
          p.strategy)
      there =
          planned-at (length plan.actors.items + 1) plan.journal plan.journal_limit (map (λ (x : ActorPlan). x.parent) plan.actors.items) 1 plan.actors.items place
          number p inside is_p (omega (arith, by_number))

      by_place : (a < length cells) ⊎ (length cells ≤ a) → IsReplayed (slice_get (actors_in plan) a) [] (get_or (cells ++ c ∷ []) a d)
      by_place (inl before) =
          subst (λ (x : CellView). IsReplayed (slice_get (actors_in plan) a) [] x) (sym (get_or_append_left cells (c ∷ []) d a before)) (each a d before)
      by_place (inr last) =
          let at : suc place ≡ a = (let n = ap length pushed ∙ length_push cells c in omega (arith, within, n, last, as_many)) in
          subst (λ (x : CellView). IsReplayed (slice_get (actors_in plan) a) [] x) (sym (get_or_push cells c d a (omega (arith, at, as_many))))
          (subst (λ (n : ℕ). IsReplayed (slice_get (actors_in plan) n) [] c) at (fresh (actors_in plan) (suc place) _ c there own))

-- the actors of a plan are one more than it has
pub actors-many : (plan : Plan) → length (actors_in plan) ≡ length plan.actors.items + 1
actors-many plan =
    let parents = length-map plan.actors.items (λ (a : ActorPlan). a.parent) in
    let strategies = length-map plan.actors.items (λ (a : ActorPlan). a.strategy) in
    let others = length-planned (length plan.actors.items + 1) plan.journal plan.journal_limit (map (λ (a : ActorPlan). a.parent) plan.actors.items) 1
    (map (λ (a : ActorPlan). a.parent) plan.actors.items) (map (λ (a : ActorPlan). a.strategy) plan.actors.items) (strategies ∙ sym parents) in
    omega (arith, others, parents)
