-- Which claims a pass got, and which it gave back.
use Rattle.std.proofs.Common.{◌≡◌, ◌==◌, ℕ, ◌+◌, Bool, true, false, if◌then◌else◌, inl, inr, Option, Some, None, MatchOption}
use Rattle.std.proofs.Common.{List, [], ◌∷◌, ◌++◌, refl, sym, ap, ◌∙◌, subst, arith, append_assoc, append-nil}
use Rattle.mb_msg.specs.declared.system.SysMsg.{SysMsg}
use Rattle.mb_journal.specs.Entry.{Entry}
use Rattle.mb_ghost.proofs.SummedLemmas.{total_append}
use Rattle.mb_gate.specs.Claims.{claimed}
use Rattle.mb_gate.specs.Accessors.{held_actor}
use Rattle.mb_gate.specs.ClaimCounts.{times, claims_got, claims_returned}
use Rattle.mb_gate.specs.View.{View, reading, winning, counting, looking, idling, taking_in}
use Rattle.mb_gate.specs.declared.claim.Claim.{Claim}
use Rattle.mb_register.specs.declared.actor_set.ActorSet.{ActorSet}
use Rattle.mb_register.specs.Views.{GotAndGaveBack}
use Rattle.mb_register.specs.Registering.{QueueAccount, HandsClaimOn, LosesNoClaim, claims_of_actor}

pub claims-none : (v : View) → GotAndGaveBack [] [] v v
claims-none v = record { got = refl; returned = refl }

pub claims-then : (g b h r : List ℕ) (u v w : View) → GotAndGaveBack g b u v → GotAndGaveBack h r v w → GotAndGaveBack (h ++ g) (r ++ b) u w
claims-then g b h r u v w x y = record {
  got = y.got ∙ ap (λ l. h ++ l) x.got ∙ sym (append_assoc h g u.got);
  returned = y.returned ∙ ap (λ l. r ++ l) x.returned ∙ sym (append_assoc r b u.returned);
}

-- after reading, which gets no claim, a claim or none
pub claims-later : {X : Type 0} (id : ℕ) (u v w : View) (r : Option X) → GotAndGaveBack [] [] u v
    → MatchOption r (GotAndGaveBack [] [] v w) (λ _. GotAndGaveBack (id ∷ []) [] v w)
    → MatchOption r (GotAndGaveBack [] [] u w) (λ _. GotAndGaveBack (id ∷ []) [] u w)
claims-later id u v w None a b = claims-then [] [] [] [] u v w a b
claims-later id u v w (Some x) a b = claims-then [] [] (id ∷ []) [] u v w a b

module _ (id : ℕ) where
  pub claims-read : (a : ℕ) (v w : View) → w ≡ reading id a v → GotAndGaveBack [] [] v w
  claims-read a v w is = subst (GotAndGaveBack [] [] v) (sym is) (record { got = refl; returned = refl })

  pub claims-read-twice : (a b : ℕ) (v w : View) → w ≡ reading id b (reading id a v) → GotAndGaveBack [] [] v w
  claims-read-twice a b v w is = subst (GotAndGaveBack [] [] v) (sym is) (record { got = refl; returned = refl })

  pub claims-read-won : (a : ℕ) (v w : View) → w ≡ winning id (reading id a v) → GotAndGaveBack (id ∷ []) [] v w
  claims-read-won a v w is = subst (GotAndGaveBack (id ∷ []) [] v) (sym is) (record { got = refl; returned = refl })

  claims-if : (b : Bool) (u v w : View) → GotAndGaveBack [] [] u v → GotAndGaveBack [] [] u w → GotAndGaveBack [] [] u (if b then v else w)
  claims-if true u v w a b = a
  claims-if false u v w a b = b

  pub claims-counted : (n : ℕ) (v w : View) → w ≡ counting id n v → GotAndGaveBack [] [] v w
  claims-counted n v w is =
      subst (GotAndGaveBack [] [] v) (sym is)
      (claims-if (n == 0) v _ _ (record { got = refl; returned = refl }) (record { got = refl; returned = refl }))

  pub claims-looked : (b : Bool) (v w : View) → w ≡ looking id b v → GotAndGaveBack [] [] v w
  claims-looked true v w is = subst (GotAndGaveBack [] [] v) (sym is) (record { got = refl; returned = refl })
  claims-looked false v w is = subst (GotAndGaveBack [] [] v) (sym is) (record { got = refl; returned = refl })

-- a claim that was just taken is given back
pub claims-back : (id : ℕ) (j before : List Entry) (shut : List ℕ) (word : ℕ) (gave : Bool) (given : ℕ) (drained : List (ℕ × SysMsg)) (v c w : View) →
    c ≡ claimed id before shut word gave given drained → w ≡ idling id j (taking_in c v) → GotAndGaveBack [] (id ∷ []) v w
claims-back id j before shut word gave given drained v c w is after =
    subst (GotAndGaveBack [] (id ∷ []) v) (sym (after ∙ ap (λ (u : View). idling id j (taking_in u v)) is))
    (record { got = append-nil v.got; returned = ap (λ l. id ∷ l) (append-nil v.returned) })

-- numbers that are added up
count-none : (v u : ℕ) → v ≡ u → v ≡ u + (0 + 0)
count-none v u e = omega (arith, e)

count-same : (v u : ℕ) → v ≡ u → v ≡ u + 0
count-same v u e = omega (arith, e)

count-went : (v u f g : ℕ) → v ≡ f + u → f + 0 ≡ g → v ≡ u + (g + 0)
count-went v u f g e is = omega (arith, e, is)

count-back : (v u f g : ℕ) → v ≡ f + u → f + 0 ≡ g → v ≡ u + (0 + g)
count-back v u f g e is = omega (arith, e, is)

count-home : (v u f g : ℕ) → v ≡ f + u → f + 0 ≡ g → v ≡ u + g
count-home v u f g e is = omega (arith, e, is)

count-both : (u v w g b h r gh br : ℕ) → v ≡ u + (g + b) → w ≡ v + (h + r) → gh ≡ g + h → br ≡ b + r → w ≡ u + (gh + br)
count-both u v w g b h r gh br one two gone back = omega (arith, one, two, gone, back)

count-more : (u v w b r br : ℕ) → v ≡ u + b → w ≡ v + r → br ≡ b + r → w ≡ u + br
count-more u v w b r br one two back = omega (arith, one, two, back)

module _ {H : Type 0} where
  -- 1 for a claim of this actor, and 0 for another
  abbrev of-actor : ℕ → Claim H → ℕ
  of-actor actor claim = if held_actor claim == actor then 1 else 0

  one-claim : (actor id : ℕ) (claim : Claim H) → held_actor claim ≡ id → (if id == actor then 1 else 0) + 0 ≡ claims_of_actor actor (claim ∷ [])
  one-claim actor id claim of = ap (λ n. (if n == actor then 1 else 0) + 0) (sym of)

  -- after reading, which gets no claim
  pub hands-after : (id : ℕ) (old new : QueueAccount H) (u v w : View) (result : Bool) → GotAndGaveBack [] [] u v → HandsClaimOn id old new v w result →
      HandsClaimOn id old new u w result
  hands-after id old new u v w true a b = (b.0, claims-then [] [] (id ∷ []) [] u v w a b.1)
  hands-after id old new u v w false a (inl b) = inl (b.0, claims-then [] [] [] [] u v w a b.1)
  hands-after id old new u v w false a (inr b) = inr (b.0, claims-then [] [] (id ∷ []) (id ∷ []) u v w a b.1)

  pub loses-none : (old : QueueAccount H) (v : View) → LosesNoClaim old old v v
  loses-none old v = record {
    went = [];
    back = [];
    pushed = sym (append-nil old.pushed);
    refused = sym (append-nil old.refused);
    got = λ actor. count-none _ _ refl;
    returned = λ actor. count-same _ _ refl;
  }

  pub loses-then : (a b c : QueueAccount H) (u v w : View) → LosesNoClaim a b u v → LosesNoClaim b c v w → LosesNoClaim a c u w
  loses-then a b c u v w x y = record {
    went = x.went ++ y.went;
    back = x.back ++ y.back;
    pushed = y.pushed ∙ ap (λ l. l ++ y.went) x.pushed ∙ append_assoc a.pushed x.went y.went;
    refused = y.refused ∙ ap (λ l. l ++ y.back) x.refused ∙ append_assoc a.refused x.back y.back;
    got = λ actor. let many : List (Claim H) → ℕ = claims_of_actor actor in
        count-both (claims_got actor u) (claims_got actor v) (claims_got actor w) (many x.went) (many x.back) (many y.went) (many y.back)
        (many (x.went ++ y.went)) (many (x.back ++ y.back)) (x.got actor) (y.got actor)
        (total_append (of-actor actor) x.went y.went) (total_append (of-actor actor) x.back y.back);
    returned = λ actor. let many : List (Claim H) → ℕ = claims_of_actor actor in
        count-more (claims_returned actor u) (claims_returned actor v) (claims_returned actor w) (many x.back) (many y.back) (many (x.back ++ y.back))
        (x.returned actor) (y.returned actor) (total_append (of-actor actor) x.back y.back);
  }

  -- the set of owed looks says nothing of it
  pub loses-aside : (pushed refused : List (Claim H)) (owed other : ActorSet) (new : QueueAccount H) (u v : View) →
      LosesNoClaim (record { pushed = pushed; refused = refused; owed = owed }) new u v →
      LosesNoClaim (record { pushed = pushed; refused = refused; owed = other }) new u v
  loses-aside pushed refused owed other new u v x = record {
    went = x.went;
    back = x.back;
    pushed = x.pushed;
    refused = x.refused;
    got = x.got;
    returned = x.returned;
  }

  -- a claim that is handed on is not thrown away
  pub loses-handed : (id : ℕ) (old new : QueueAccount H) (u v : View) (result : Bool) → HandsClaimOn id old new u v result → LosesNoClaim old new u v
  loses-handed id old new u v true h = record {
    went = h.0.claim ∷ [];
    back = [];
    pushed = h.0.pushed;
    refused = h.0.refused ∙ sym (append-nil old.refused);
    got = λ actor. count-went _ _ _ _ (ap (times actor) h.1.got) (one-claim actor id h.0.claim h.0.of);
    returned = λ actor. count-same _ _ (ap (times actor) h.1.returned);
  }
  loses-handed id old new u v false (inl h) = record {
    went = [];
    back = [];
    pushed = ap (λ (a : QueueAccount H). a.pushed) h.0 ∙ sym (append-nil old.pushed);
    refused = ap (λ (a : QueueAccount H). a.refused) h.0 ∙ sym (append-nil old.refused);
    got = λ actor. count-none _ _ (ap (times actor) h.1.got);
    returned = λ actor. count-same _ _ (ap (times actor) h.1.returned);
  }
  loses-handed id old new u v false (inr h) = record {
    went = [];
    back = h.0.claim ∷ [];
    pushed = h.0.pushed ∙ sym (append-nil old.pushed);
    refused = h.0.refused;
    got = λ actor. count-back _ _ _ _ (ap (times actor) h.1.got) (one-claim actor id h.0.claim h.0.of);
    returned = λ actor. count-home _ _ _ _ (ap (times actor) h.1.returned) (one-claim actor id h.0.claim h.0.of);
  }
