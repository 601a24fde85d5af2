-- A worker's handle loses no claim.
use Rattle.std.proofs.Common.{◌≡◌, ◌==◌, ℕ, ◌+◌, if◌then◌else◌, List, [], ◌∷◌, ◌++◌, refl, sym, ap, ◌∙◌, arith, append_assoc, append-nil, map, subst, Option, Some}
use Rattle.std.specs.Prelude.{option_to_list}
use Rattle.std.specs.Global.{Box}
use Rattle.mb_ghost.proofs.SummedLemmas.{total_append}
use Rattle.mb_gate.specs.Accessors.{held_actor, pass_view}
use Rattle.mb_gate.specs.ClaimCounts.{claims_got, claims_returned}
use Rattle.mb_gate.specs.declared.claim.Claim.{Claim}
use Rattle.mb_home.specs.Contents.{Contents}
use Rattle.mb_register.specs.Caller.{Caller}
use Rattle.mb_register.specs.Registering.{QueueAccount, LosesNoClaim, claims_of_actor}
use Rattle.mb_register.proofs.ClaimCounts.{loses-handed, loses-none, loses-then}
use Rattle.mb_mailbox.specs.Ran.{LosesNoClaimBut}
use Rattle.mb_system.specs.Members.{claims_taken, handle_caller}
use Rattle.mb_system.specs.Registered.{AreRegistered, nobody, one_more}
use Rattle.mb_system.specs.declared.handle.WorkerHandle.{WorkerHandle}
use Rattle.mb_dispatch.specs.Claims.{RunsEachClaim, RunsEachClaimBut}

-- numbers that are added up
got-none : (v u : ℕ) → v ≡ u → v ≡ u + (0 + 0)
got-none v u e = omega (arith, e)

gave-some : (v u t : ℕ) → v ≡ u → v + t ≡ u + (t + 0)
gave-some v u t e = omega (arith, e)

got-both : (u v w g b h r gh br : ℕ) → v ≡ u + (g + b) → w ≡ v + (h + r) → gh ≡ g + h → br ≡ b + r → w ≡ u + (gh + br)
got-both u v w g b h r gh br one two gone back = omega (arith, one, two, gone, back)

gave-both : (u v w l t b s r ts br : ℕ) → v + 0 ≡ u + (t + b) → w + l ≡ v + (s + r) → ts ≡ t + s → br ≡ b + r → w + l ≡ u + (ts + br)
gave-both u v w l t b s r ts br one two took back = omega (arith, one, two, took, back)

gave-back : (v u b : ℕ) → v ≡ u + b → v + 0 ≡ u + (0 + b)
gave-back v u b e = omega (arith, e)

-- what was held is given back
gave-held : (u v w l t b r br : ℕ) → v + (l + 0) ≡ u + (t + b) → w ≡ (l + v) + r → br ≡ b + r → w + 0 ≡ u + (t + br)
gave-held u v w l t b r br one two back = omega (arith, one, two, back)

-- actors were registered in the order of their numbers
loses-registered : {H : Type 0} (first : Caller H) (count : ℕ) (now : Caller H) → AreRegistered first count now
    → LosesNoClaim first.account now.account first.view now.view
loses-registered first _ _ nobody = loses-none first.account first.view
loses-registered first _ _ (one_more id before after went earlier handed) =
    loses-then first.account before.account after.account first.view before.view after.view (loses-registered first id before earlier)
    (loses-handed id before.account after.account before.view after.view went handed)

-- 1 for a claim of this actor, and 0 for another
abbrev of-actor : ℕ → Claim (Box Contents) → ℕ
of-actor actor claim = if held_actor claim == actor then 1 else 0

module _ {A K : Type 0} where
  taken-is : (old new : WorkerHandle A K) → new.taken ≡ old.taken → claims_taken new ≡ claims_taken old
  taken-is old new same = ap (map (λ claim. claim.value)) same

  -- nothing was done
  pub claims-none : (handle : WorkerHandle A K) → RunsEachClaim handle handle
  claims-none handle = record {
    went = [];
    back = [];
    took = [];
    pushed = sym (append-nil handle.registrar.run_queue.pushed);
    refused = sym (append-nil handle.registrar.run_queue.refused);
    taken = sym (append-nil (claims_taken handle));
    got = λ actor. got-none _ _ refl;
    returned = λ actor. gave-some _ _ 0 refl;
  }

  -- a claim was taken, or none
  pub claims-took : (next : Option (Claim (Box Contents))) (old new : WorkerHandle A K) → new.registrar.pass ≡ old.registrar.pass
      → (handle_caller new.registrar).account ≡ (handle_caller old.registrar).account → claims_taken new ≡ claims_taken old ++ option_to_list next
      → RunsEachClaimBut (option_to_list next) old new
  claims-took next old new pass account taken = record {
    went = [];
    back = [];
    took = option_to_list next;
    pushed = ap (λ (a : QueueAccount (Box Contents)). a.pushed) account ∙ sym (append-nil old.registrar.run_queue.pushed);
    refused = ap (λ (a : QueueAccount (Box Contents)). a.refused) account ∙ sym (append-nil old.registrar.run_queue.refused);
    taken = taken;
    got = λ actor. got-none _ _ (ap (λ p. claims_got actor (pass_view p)) pass);
    returned = λ actor. gave-some _ _ (claims_of_actor actor (option_to_list next)) (ap (λ p. claims_returned actor (pass_view p)) pass);
  }

  -- actors were registered
  pub claims-registered : (old new : WorkerHandle A K)
      → LosesNoClaim (handle_caller old.registrar).account (handle_caller new.registrar).account (pass_view old.registrar.pass) (pass_view new.registrar.pass)
      → new.taken ≡ old.taken → RunsEachClaim old new
  claims-registered old new loses same = record {
    went = loses.went;
    back = loses.back;
    took = [];
    pushed = loses.pushed;
    refused = loses.refused;
    taken = taken-is old new same ∙ sym (append-nil (claims_taken old));
    got = loses.got;
    returned = λ actor. gave-back _ _ _ (loses.returned actor);
  }

  pub claims-registered-all : (old new : WorkerHandle A K) (count : ℕ) → AreRegistered (handle_caller old.registrar) count (handle_caller new.registrar)
      → new.taken ≡ old.taken → RunsEachClaim old new
  claims-registered-all old new count all same =
      claims-registered old new (loses-registered (handle_caller old.registrar) count (handle_caller new.registrar) all) same

  -- one thing was done after another
  pub claims-then : (held : List (Claim (Box Contents))) (a b c : WorkerHandle A K) → RunsEachClaim a b → RunsEachClaimBut held b c
      → RunsEachClaimBut held a c
  claims-then held a b c x y = record {
    went = x.went ++ y.went;
    back = x.back ++ y.back;
    took = x.took ++ y.took;
    pushed = y.pushed ∙ ap (λ l. l ++ y.went) x.pushed ∙ append_assoc a.registrar.run_queue.pushed x.went y.went;
    refused = y.refused ∙ ap (λ l. l ++ y.back) x.refused ∙ append_assoc a.registrar.run_queue.refused x.back y.back;
    taken = y.taken ∙ ap (λ l. l ++ y.took) x.taken ∙ append_assoc (claims_taken a) x.took y.took;
    got = λ actor. got-both _ _ _ _ _ _ _ _ _ (x.got actor) (y.got actor) (total_append (of-actor actor) x.went y.went)
        (total_append (of-actor actor) x.back y.back);
    returned = λ actor. gave-both _ _ _ _ _ _ _ _ _ _ (x.returned actor) (y.returned actor) (total_append (of-actor actor) x.took y.took)
        (total_append (of-actor actor) x.back y.back);
  }

  -- the claim that was held was run
  pub claims-ran : (claim : Claim (Box Contents)) (a b c : WorkerHandle A K) → RunsEachClaimBut (claim ∷ []) a b
      → LosesNoClaimBut (held_actor claim) (handle_caller b.registrar) (handle_caller c.registrar) → c.taken ≡ b.taken → RunsEachClaim a c
  claims-ran claim a b c x y same = record {
    went = x.went ++ y.went;
    back = x.back ++ y.back;
    took = x.took;
    pushed = y.pushed ∙ ap (λ l. l ++ y.went) x.pushed ∙ append_assoc a.registrar.run_queue.pushed x.went y.went;
    refused = y.refused ∙ ap (λ l. l ++ y.back) x.refused ∙ append_assoc a.registrar.run_queue.refused x.back y.back;
    taken = taken-is b c same ∙ x.taken;
    got = λ actor. got-both _ _ _ _ _ _ _ _ _ (x.got actor) (y.got actor) (total_append (of-actor actor) x.went y.went)
        (total_append (of-actor actor) x.back y.back);
    returned = λ actor. gave-held _ _ _ _ _ _ _ _ (x.returned actor) (y.returned actor) (total_append (of-actor actor) x.back y.back);
  }

  -- a claim was taken, and run
  pub tried-ran : (claim : Claim (Box Contents)) (first old tried new : WorkerHandle A K) (next : Option (Claim (Box Contents))) → next ≡ Some claim
      → RunsEachClaim first old → tried.registrar.pass ≡ old.registrar.pass
      → (handle_caller tried.registrar).account ≡ (handle_caller old.registrar).account → claims_taken tried ≡ claims_taken old ++ option_to_list next
      → LosesNoClaimBut (held_actor claim) (handle_caller tried.registrar) (handle_caller new.registrar) → new.taken ≡ tried.taken → RunsEachClaim first new
  tried-ran claim first old tried new next is ran pass account taken loses same =
      claims-ran claim first tried new
      (claims-then (claim ∷ []) first old tried ran
      (subst (λ o. RunsEachClaimBut (option_to_list o) old tried) is (claims-took next old tried pass account taken))) loses same

  pub next-ran : (claim : Claim (Box Contents)) (first old between new : WorkerHandle A K) (next : Option (Claim (Box Contents))) → next ≡ Some claim
      → RunsEachClaim first old → RunsEachClaimBut (option_to_list next) old between
      → LosesNoClaimBut (held_actor claim) (handle_caller between.registrar) (handle_caller new.registrar) → new.taken ≡ between.taken → RunsEachClaim first new
  next-ran claim first old between new next is ran took loses same =
      claims-ran claim first between new
      (claims-then (claim ∷ []) first old between ran (subst (λ o. RunsEachClaimBut (option_to_list o) old between) is took)) loses same

  -- none was taken, and then something was done
  pub none-then : (first old tried new : WorkerHandle A K) → tried ≡ old → RunsEachClaim first old → RunsEachClaim tried new → RunsEachClaim first new
  none-then first old tried new still ran did = claims-then [] first tried new (subst (RunsEachClaim first) (sym still) ran) did
