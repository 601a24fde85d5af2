-- What became of tasks that were done in parallel, put together.
use Rattle.std.proofs.Common.{◌≡◌, List, ◌∷◌, sym, subst, inl, inr}
use Rattle.std.specs.Prelude.{Err, MatchResult, Ok, Result}
use Rattle.mb_system.specs.declared.failure.RunError.{RunError}
use Rattle.mb_dispatch.specs.Parallel.{HasEnded, HaveEnded}

module _ {T : Type 0} (Keeps Done : T → T → Type 0) (Fails : T → T → RunError → Type 0) where
  abbrev One : T → T → Result (Unit {0}) RunError → Type 0
  One x y answer = HasEnded Keeps Done Fails x y answer

  abbrev Others : List T → List T → Result (Unit {0}) RunError → Type 0
  Others xs ys answer = HaveEnded Keeps Done Fails xs ys answer

  -- the first was done
  after-done : (x y : T) (xs ys : List T) (u : Unit {0}) (of_others : Result (Unit {0}) RunError) → One x y (Ok u) → Others xs ys of_others
      → Others (x ∷ xs) (y ∷ ys) of_others
  after-done x y xs ys u (Ok v) one others = record { keeps = (one.keeps, others.keeps); done = (one.done, others.done); fails = tt }
  after-done x y xs ys u (Err fault) one others = record { keeps = (one.keeps, others.keeps); done = tt; fails = inr (one.done, others.fails) }

  -- the first of two errors is answered
  pub both-ended : (x y : T) (xs ys all : List T) (of_one of_others answer : Result (Unit {0}) RunError) → all ≡ x ∷ xs
      → MatchResult of_one (λ _. answer ≡ of_others) (λ _. answer ≡ of_one) → One x y of_one → Others xs ys of_others → Others all (y ∷ ys) answer
  both-ended x y xs ys all (Ok u) of_others answer split is one others =
      subst (λ (l : List T). Others l (y ∷ ys) answer) (sym split)
      (subst (λ (r : Result (Unit {0}) RunError). Others (x ∷ xs) (y ∷ ys) r) (sym is) (after-done x y xs ys u of_others one others))
  both-ended x y xs ys all (Err fault) of_others answer split is one others =
      subst (λ (l : List T). Others l (y ∷ ys) answer) (sym split)
      (subst (λ (r : Result (Unit {0}) RunError). Others (x ∷ xs) (y ∷ ys) r) (sym is)
      (record { keeps = (one.keeps, others.keeps); done = tt; fails = inl one.fails }))
