-- What one party knows that has all that some have is what they know together.
use Rattle.std.proofs.Common.{◌≡◌, ℕ, ◌+◌, ◌-◌, ◌^◌, ◌<◌, List, [], ◌∷◌, ◌++◌, refl, sym, ap, ◌∙◌, arith, map}
use Rattle.mb_ghost.specs.Shares.{FitsIn, IsWhole}
use Rattle.mb_ghost.specs.Summed.{total}
use Rattle.mb_ghost.proofs.SummedLemmas.{total_append}
use Rattle.mb_gate.specs.NotRun.{shares_in}
use Rattle.mb_gate.specs.Together.{NoClaimIsOut, together}
use Rattle.mb_gate.specs.View.{View}
use Rattle.mb_gate.specs.Accessors.{pass_view}
use Rattle.mb_system.specs.Members.{OutsideSender}
use Rattle.mb_system.specs.declared.handle.WorkerHandle.{WorkerHandle}
use Rattle.mb_dispatch.specs.AtRest.{NoClaimIsLeft, all_together, views_of, views_of_jobs, views_of_senders}
use Rattle.mb_dispatch.specs.declared.job.Job.{Job}

-- a sum over one list that each has
module _ (items : View → List ℕ) (joins : (v w : View) → items (together v w) ≡ items w ++ items v) (part : ℕ → ℕ) where
  of-all : (v : View) (ws : List View) → total part (items (all_together v ws)) ≡ total (λ (u : View). total part (items u)) (v ∷ ws)
  of-all v [] = let one : total part (items v) ≡ total part (items v) + 0 = omega arith in one
  of-all v (w ∷ ws) =
      let rest = of-all (together v w) ws in
      let both : total part (items (together v w)) ≡ total part (items w) + total part (items v) =
      ap (total part) (joins v w) ∙ total_append part (items w) (items v) in
      omega (arith, rest, both)

-- shares in a row
of-shares : (part : ℕ → ℕ) (views : List View) → total part (shares_in views) ≡ total (λ (u : View). total part u.share) views
of-shares part [] = refl
of-shares part (v ∷ views) = total_append part v.share (shares_in views) ∙ ap (λ n. total part v.share + n) (of-shares part views)

-- parts fit where none is too small
none-over : (e : ℕ) (share : List ℕ) → FitsIn e share → total (λ d. d - e) share ≡ 0
none-over e [] fits = refl
none-over e (d ∷ ds) fits = let one = fits.0 in let rest = none-over e ds fits.1 in omega (arith, one, rest)

all-fit : (e : ℕ) (share : List ℕ) → total (λ d. d - e) share ≡ 0 → FitsIn e share
all-fit e [] none = tt
all-fit e (d ∷ ds) none = ((omega (arith, none)), all-fit e ds (omega (arith, none)))

module _ (v : View) (ws : List View) where
  same-share : (part : ℕ → ℕ) → total part (all_together v ws).share ≡ total part (shares_in (v ∷ ws))
  same-share part = of-all (λ (u : View). u.share) (λ a b. refl) part v ws ∙ sym (of-shares part (v ∷ ws))

  whole-together : IsWhole (shares_in (v ∷ ws)) → IsWhole (all_together v ws).share
  whole-together whole e fits =
      same-share (λ d. 2 ^ (e - d))
      ∙ whole e (all-fit e (shares_in (v ∷ ws)) (sym (same-share (λ d. d - e)) ∙ none-over e (all_together v ws).share fits))

  -- where one that has all of it is told that no claim is out, none is left
  pub none-left : (actors : ℕ) → ((id : ℕ) → id < actors → NoClaimIsOut id (all_together v ws)) → NoClaimIsLeft actors (v ∷ ws)
  none-left actors back whole actor inside =
      sym (of-all (λ (u : View). u.got) (λ a b. refl) _ v ws) ∙ back actor inside (whole-together whole)
      ∙ of-all (λ (u : View). u.returned) (λ a b. refl) _ v ws

-- what handles, jobs and senders know is what the handles know and then all senders, those of the jobs first
module _ {A K : Type 0} (handles : List (WorkerHandle A K)) (senders : List OutsideSender) where
  senders-views : (jobs : List (Job A K)) → views_of_senders (map (λ (j : Job A K). j.sender) jobs ++ senders) ≡ views_of_jobs jobs ++ views_of_senders senders
  senders-views [] = refl
  senders-views (j ∷ jobs) = ap (λ l. pass_view j.sender.registrar.pass ∷ l) (senders-views jobs)

  pub of-senders : (jobs : List (Job A K)) → views_of handles [] (map (λ (j : Job A K). j.sender) jobs ++ senders) ≡ views_of handles jobs senders
  of-senders jobs = ap (λ l. map (λ (e : WorkerHandle A K). pass_view e.registrar.pass) handles ++ l) (senders-views jobs)
