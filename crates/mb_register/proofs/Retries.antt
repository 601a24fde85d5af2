-- The actors to which a look is owed are registered again, one after another.
use Rattle.std.proofs.Common.{◌≡◌, ◌≢◌, ◌⊎◌, inl, inr, ℕ, ◌+◌, ◌<◌, ◌≤◌, ◌==◌, ◌||◌, ◌&&◌, not, Bool, true, false, List, [], ◌∷◌, ◌++◌}
use Rattle.std.proofs.Common.{Result, Ok, Err, IsErrAnd, MatchResult, refl, sym, ap, ◌∙◌, subst, arith, append_assoc, append-nil}
use Rattle.std.proofs.lemmas.Bool.{cases_lt}
use Rattle.std.proofs.lemmas.Bool.Decides.{nat_tests}
use Rattle.mb_core.specs.Actor.{nothing}
use Rattle.mb_ghost.proofs.SeenLemmas.{each_append, each_weaker}
use Rattle.mb_gate.specs.Accessors.{held_actor}
use Rattle.mb_gate.specs.View.{View, Observation, obligation_to}
use Rattle.mb_gate.specs.declared.claim.Claim.{Claim}
use Rattle.mb_register.specs.declared.actor_set.ActorSet.{ActorSet}
use Rattle.mb_register.specs.ActorSet.{has_actor}
use Rattle.mb_register.specs.Views.{LooksAfter, LooksAmong, IsLook}
use Rattle.mb_register.specs.Registering.{QueueAccount, IsRegistered, StopsAt}
use Rattle.mb_register.proofs.Bits.{same_or_other}
use Rattle.mb_register.proofs.Unchanged.{unchanged-none, unchanged-then}

true_or_false : (b : Bool) → (b ≡ true) ⊎ (b ≡ false)
true_or_false true = inl refl
true_or_false false = inr refl

pub never-both : {A : Type 0} (b : Bool) → b ≡ true → b ≡ false → A
never-both b a c = let e : true ≡ false = sym a ∙ c in absurd (cc)

-- what holds of each failure, of a result that is one
pub on-failure : {T E : Type 0} (Told : E → Type 0) (P : T → Type 0) (Q : Type 0) (r : Result T E) → IsErrAnd r Told → Q
    → MatchResult r P (λ _. Q)
on-failure Told P Q (Ok x) failed q = absurd failed
on-failure Told P Q (Err e) failed q = q

-- who was taken out is owed no look
pub taken-out : (id : ℕ) (before now : ActorSet) → has_actor now id ≡ (not (id == id) && has_actor before id) → has_actor now id ≡ false
taken-out id before now is =
    let itself : (id == id) ≡ true = grind (arith, nat_tests) in is ∙ ap (λ b. not b && has_actor before id) itself

-- for the others it is as before
pub others-out : (id other : ℕ) (before now : ActorSet) → other ≢ id → has_actor now other ≡ (not (other == id) && has_actor before other)
    → has_actor now other ≡ has_actor before other
others-out id other before now ne is =
    let apart : (other == id) ≡ false = grind (arith, nat_tests) in is ∙ ap (λ b. not b && has_actor before other) apart

-- the set of owed looks shows whether the run queue refused a claim
module _ {H : Type 0} (id : ℕ) (old new : QueueAccount H) where
  pub refused-one : (result : Bool) → IsRegistered id old new result → has_actor old.owed id ≡ false → has_actor new.owed id ≡ true
      → (claim : Claim H) × (held_actor claim ≡ id) × (new.refused ≡ old.refused ++ claim ∷ [])
  refused-one true went out still = never-both (has_actor new.owed id) still (ap (λ o. has_actor o id) went.owed ∙ out)
  refused-one false (inl same) out still = never-both (has_actor new.owed id) still (ap (λ (a : QueueAccount H). has_actor a.owed id) same ∙ out)
  refused-one false (inr was) out still = (was.claim, was.of, was.refused)

  pub refused-none : (result : Bool) → IsRegistered id old new result → has_actor new.owed id ≡ false → new.refused ≡ old.refused
  refused-none true went out = went.refused
  refused-none false (inl same) out = ap (λ (a : QueueAccount H). a.refused) same
  refused-none false (inr was) out =
      let itself : (id == id) ≡ true = grind (arith, nat_tests) in
      never-both (has_actor new.owed id) (was.owed id ∙ ap (λ b. b || has_actor old.owed id) itself) out

  -- no look is owed to another actor, or no longer owed, for it
  pub others-kept : (result : Bool) → IsRegistered id old new result → (other : ℕ) → other ≢ id → has_actor new.owed other ≡ has_actor old.owed other
  others-kept true went other ne = ap (λ o. has_actor o other) went.owed
  others-kept false (inl same) other ne = ap (λ (a : QueueAccount H). has_actor a.owed other) same
  others-kept false (inr was) other ne =
      let apart : (other == id) ≡ false = grind (arith, nat_tests) in was.owed other ∙ ap (λ b. b || has_actor old.owed other) apart

module _ (among : ℕ → Bool) where
  pub among-none : (v : View) → LooksAmong among v v
  among-none v = record {
    looks = [];
    only = tt;
    log = refl;
    sent_system = refl;
    others = λ other out. refl;
    share = refl;
    gives_back = unchanged-none v v refl;
  }

  -- one more actor of the set
  pub among-then : (id : ℕ) (u v w : View) → among id ≡ true → LooksAmong among u v → LooksAfter id v w → LooksAmong among u w
  among-then id u v w in_set a b = record {
    looks = b.looks ++ a.looks;
    only = each_append (λ (s : Observation). (i : ℕ) × (among i ≡ true) × IsLook i s) b.looks a.looks
        (each_weaker (IsLook id) (λ (s : Observation). (i : ℕ) × (among i ≡ true) × IsLook i s) b.looks (λ s is. (id, in_set, is)) b.only) a.only;
    log = b.log ∙ ap (λ l. (b.looks ++ []) ++ l) a.log ∙ ap (λ l. l ++ (a.looks ++ u.log)) (append-nil b.looks)
        ∙ sym (append_assoc b.looks a.looks u.log);
    sent_system = b.sent_system ∙ a.sent_system;
    others = λ other out. b.others other (λ same. never-both (among other) (ap among same ∙ in_set) out) ∙ a.others other out;
    share = b.share ∙ a.share;
    gives_back = unchanged-then u v w a.gives_back b.gives_back;
  }

  -- an actor that is looked at only if it is in the set
  pub among-on : (id : ℕ) (u v w : View) → LooksAmong among u v → (among id ≡ false → w ≡ v) → LooksAfter id v w → LooksAmong among u w
  among-on id u v w a out looks = by_case (true_or_false (among id))
    where
      by_case : (among id ≡ true) ⊎ (among id ≡ false) → LooksAmong among u w
      by_case (inl in_set) = among-then id u v w in_set a looks
      by_case (inr not_in) = subst (LooksAmong among u) (sym (out not_in)) a

-- all below this number are discharged, and the others are owed what they were
pub record IsPaidBelow (n : ℕ) (before now : ActorSet) (old new : View) : Type 0 where
  pub looks : LooksAmong (has_actor before) old new
  pub done : (id : ℕ) → id < n → has_actor now id ≡ false
  pub discharged : (id : ℕ) → id < n → has_actor before id ≡ true → obligation_to id new ≡ nothing
  pub later : (id : ℕ) → n ≤ id → id < 64 → has_actor now id ≡ has_actor before id

pub discharged-none : (owed : ActorSet) (v : View) → IsPaidBelow 0 owed owed v v
discharged-none owed v = record {
  looks = among-none (has_actor owed) v;
  done = λ id below. absurd (omega (arith, below));
  discharged = λ id below. absurd (omega (arith, below));
  later = λ id from few. refl;
}

-- whoever was owed a look is owed nothing, or a look still
pub kept-below : (n : ℕ) (before now : ActorSet) (u v : View) → IsPaidBelow n before now u v → (id : ℕ) → id < 64 → has_actor before id ≡ true
    → (obligation_to id v ≡ nothing) ⊎ (has_actor now id ≡ true)
kept-below n before now u v p id small owed = by_order (cases_lt id n)
  where
    by_order : (id < n) ⊎ (n ≤ id) → (obligation_to id v ≡ nothing) ⊎ (has_actor now id ≡ true)
    by_order (inl below) = inl (p.discharged id below owed)
    by_order (inr from) = inr (p.later id from small ∙ owed)

-- whoever was owed no look is owed none
pub out-below : (n : ℕ) (before now : ActorSet) (u v : View) → IsPaidBelow n before now u v → (id : ℕ) → id < 64 → has_actor before id ≡ false
    → has_actor now id ≡ false
out-below n before now u v p id small out = by_order (cases_lt id n)
  where
    by_order : (id < n) ⊎ (n ≤ id) → has_actor now id ≡ false
    by_order (inl below) = p.done id below
    by_order (inr from) = p.later id from small ∙ out

module _ (n : ℕ) (before mid now : ActorSet) (u v w : View) (few : n < 64) (p : IsPaidBelow n before mid u v)
    (none : has_actor mid n ≡ false → (now ≡ mid) × (w ≡ v)) (looks : LooksAfter n v w)
    (others : (other : ℕ) → other < 64 → other ≢ n → has_actor now other ≡ has_actor mid other) where
  at : has_actor mid n ≡ has_actor before n
  at = p.later n (omega arith) few

  pub looked-on : LooksAmong (has_actor before) u w
  looked-on = among-on (has_actor before) n u v w p.looks (λ out. (none (at ∙ out)).1) looks

  pub no-more : (id : ℕ) → id < 64 → has_actor before id ≡ false → has_actor now id ≡ false
  no-more id small out = by_place (same_or_other id n)
    where
      was_out : has_actor mid id ≡ false
      was_out = out-below n before mid u v p id small out

      by_place : (id ≡ n) ⊎ (id ≢ n) → has_actor now id ≡ false
      by_place (inl same) =
          let miss : has_actor mid n ≡ false = ap (has_actor mid) (sym same) ∙ was_out in
          ap (λ o. has_actor o id) (none miss).0 ∙ was_out
      by_place (inr other) = others id small other ∙ was_out

  pub kept-on : (has_actor mid n ≡ true → (obligation_to n w ≡ nothing) ⊎ (has_actor now n ≡ true)) → (id : ℕ) → id < 64 → has_actor before id ≡ true
      → (obligation_to id w ≡ nothing) ⊎ (has_actor now id ≡ true)
  kept-on discharges id small owed = by_place (same_or_other id n)
    where
      by_order : id ≢ n → (id < n) ⊎ (n ≤ id) → (obligation_to id w ≡ nothing) ⊎ (has_actor now id ≡ true)
      by_order other (inl below) = inl (looks.others id other ∙ p.discharged id below owed)
      by_order other (inr from) = inr (others id small other ∙ p.later id from small ∙ owed)

      by_place : (id ≡ n) ⊎ (id ≢ n) → (obligation_to id w ≡ nothing) ⊎ (has_actor now id ≡ true)
      by_place (inl same) =
          subst (λ i. (obligation_to i w ≡ nothing) ⊎ (has_actor now i ≡ true)) (sym same) (discharges (at ∙ ap (has_actor before) (sym same) ∙ owed))
      by_place (inr other) = by_order other (cases_lt id n)

  pub stops : {H : Type 0} (pushed_before pushed_now refused_before refused_now : List (Claim H)) → (has_actor mid n ≡ true) × (has_actor now n ≡ true)
      → (claim : Claim H) × (held_actor claim ≡ n) × (refused_now ≡ refused_before ++ claim ∷ [])
      → StopsAt (record { pushed = pushed_before; refused = refused_before; owed = before })
      (record { pushed = pushed_now; refused = refused_now; owed = now })
  stops pushed_before pushed_now refused_before refused_now still one = record {
    claim = one.0;
    owed = ap (has_actor before) of ∙ was;
    still = ap (has_actor now) of ∙ still.1;
    refused = one.2;
    before = λ id below. others id (omega (arith, below, of, few)) (λ same. omega (arith, below, of, same)) ∙ p.done id (omega (arith, below, of));
    after = λ id from small. as_before id (omega (arith, from, of)) small (same_or_other id n);
  }
    where
      of : held_actor one.0 ≡ n
      of = one.1

      was : has_actor before n ≡ true
      was = sym at ∙ still.0

      as_before : (id : ℕ) → n ≤ id → id < 64 → (id ≡ n) ⊎ (id ≢ n) → has_actor now id ≡ has_actor before id
      as_before id from small (inl same) = ap (has_actor now) same ∙ still.1 ∙ sym (ap (has_actor before) same ∙ was)
      as_before id from small (inr other) = others id small other ∙ p.later id from small

  pub discharged-next : has_actor now n ≡ false → (has_actor mid n ≡ true → (obligation_to n w ≡ nothing) ⊎ (has_actor now n ≡ true)) →
      IsPaidBelow (n + 1) before now u w
  discharged-next gone discharges = record {
    looks = looked-on;
    done = λ id below. done_at id below (same_or_other id n);
    discharged = λ id below owed. discharged_at id below owed (same_or_other id n);
    later = λ id from small. others id small (λ same. omega (arith, same, from)) ∙ p.later id (omega (arith, from)) small;
  }
    where
      done_at : (id : ℕ) → id < n + 1 → (id ≡ n) ⊎ (id ≢ n) → has_actor now id ≡ false
      done_at id below (inl same) = ap (has_actor now) same ∙ gone
      done_at id below (inr other) = others id (omega (arith, below, few)) other ∙ p.done id (omega (arith, below, other))

      settled : (obligation_to n w ≡ nothing) ⊎ (has_actor now n ≡ true) → obligation_to n w ≡ nothing
      settled (inl nothing_more) = nothing_more
      settled (inr still) = never-both (has_actor now n) still gone

      discharged_at : (id : ℕ) → id < n + 1 → has_actor before id ≡ true → (id ≡ n) ⊎ (id ≢ n) → obligation_to id w ≡ nothing
      discharged_at id below owed (inl same) = ap (λ i. obligation_to i w) same ∙ settled (discharges (at ∙ ap (has_actor before) (sym same) ∙ owed))
      discharged_at id below owed (inr other) = looks.others id other ∙ p.discharged id (omega (arith, below, other)) owed
