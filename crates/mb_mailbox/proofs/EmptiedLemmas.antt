-- TakesOnce, one after another.
use Rattle.std.proofs.Common.{◌≡◌, ◌⊎◌, inl, inr, ℕ, true, false, List, [], ◌∷◌, ◌++◌, Option, Some, None}
use Rattle.std.proofs.Common.{refl, sym, ◌∙◌, subst, append_assoc, append-nil}
use Rattle.std.specs.Prelude.{◌&&◌, Bool, OnErr, OnOk, Result, Ok, Err, is_ok}
use Rattle.mb_msg.specs.declared.envelope.Envelope.{Envelope}
use Rattle.mb_queue.specs.Passes.{TakePassView}
use Rattle.mb_home.specs.Contents.{Contents}
use Rattle.mb_home.specs.Steps.{Begins, Cleans, FindsNone}
use Rattle.mb_mailbox.specs.Emptied.{FindsNoMore, IsCleared, TakesOnce, TakesAll, TakesOn}
use Rattle.mb_mailbox.specs.RunState.{RunState}

-- none was made
pub takes-same : (old new : TakePassView) → new ≡ old → TakesOn old new
takes-same old new same = record { answers = []; takes = same }

pub takes-one : (old new : TakePassView) (answer : Option Envelope) → TakesOnce old answer new → TakesOn old new
takes-one old new answer take = record { answers = answer ∷ []; takes = (new, take, refl) }

takes-joined : (xs ys : List (Option Envelope)) (a b c : TakePassView) → TakesAll a xs b → TakesAll b ys c → TakesAll a (xs ++ ys) c
takes-joined [] ys a b c same next = subst (λ x. TakesAll x ys c) same next
takes-joined (x ∷ xs) ys a b c first next = (first.0, first.1, takes-joined xs ys first.0 b c first.2 next)

pub takes-then : (a b c : TakePassView) → TakesOn a b → TakesOn b c → TakesOn a c
takes-then a b c p q = record { answers = p.answers ++ q.answers; takes = takes-joined p.answers q.answers a b c p.takes q.takes }

-- the last found none
pub finds-one : (old new : TakePassView) → TakesOnce old None new → FindsNoMore old new
finds-one old new take = record { answers = []; takes = (new, take, refl) }

pub finds-then : (a b c : TakePassView) → TakesOn a b → FindsNoMore b c → FindsNoMore a c
finds-then a b c p q = record {
  answers = p.answers ++ q.answers;
  takes =
      subst (λ l. TakesAll a l c) (sym (append_assoc p.answers q.answers (None ∷ [])))
      (takes-joined p.answers (q.answers ++ None ∷ []) a b c p.takes q.takes);
}

-- where it answered well
pub ok-so : {T E : Type 0} (r : Result T E) {P Q : Type 0} → (P → Q) → OnOk r P → OnOk r Q
ok-so (Ok x) f p = f p
ok-so (Err e) f p = tt

pub ok-then : {T E : Type 0} (r : Result T E) {P : Type 0} → is_ok r ≡ true → OnOk r P → P
ok-then (Ok x) well p = p
ok-then (Err e) well p = absurd (cc well)

pub err-so : {T E : Type 0} (r : Result T E) {P Q : Type 0} → (P → Q) → OnErr r P → OnErr r Q
err-so (Ok x) f p = tt
err-so (Err e) f p = f p

pub err-always : {T E : Type 0} (r : Result T E) {P : Type 0} → P → OnErr r P
err-always (Ok x) p = tt
err-always (Err e) p = p

pub err-then : {T E : Type 0} (r : Result T E) {P : Type 0} → is_ok r ≡ false → OnErr r P → P
err-then (Ok x) ill p = absurd (cc ill)
err-then (Err e) ill p = p

pub err-at : {T E : Type 0} (r : Result T E) (fault : E) {P : Type 0} → r ≡ Err fault → OnErr r P → P
err-at (Ok x) fault is p = absurd (cc is)
err-at (Err e) fault is p = p

pub and-one : (a b : Bool) → (a && b) ≡ false → (a ≡ false) ⊎ (b ≡ false)
and-one true b not_both = inr not_both
and-one false b not_both = inl refl

pub and-both : (a b : Bool) → (a && b) ≡ true → (a ≡ true) × (b ≡ true)
and-both true true both = (refl, refl)
and-both true false both = absurd (cc both)
and-both false b both = absurd (cc both)

-- ---- what a home tells of its pass

pub take-begun : (old new : Contents) (reading : ℕ) (b : Begins old new reading) → TakesOnce old.take (Some b.envelope) new.take
take-begun old new reading b = record { gave = b.took; follows_discipline = b.follows_discipline; pass = b.pass }

pub take-cleaned : (old new : Contents) (c : Cleans old new) → TakesOnce old.take (Some c.envelope) new.take
take-cleaned old new c = record { gave = c.took; follows_discipline = c.follows_discipline; pass = c.pass }

pub take-none : (old new : Contents) → FindsNone old new → TakesOnce old.take None new.take
take-none old new f = record { gave = f.took ∙ sym (append-nil old.take.taken); follows_discipline = f.follows_discipline; pass = f.pass }

-- ---- a mailbox that was closed

pub cleared-same : (old new : RunState) → new.status.closed ≡ old.status.closed → new.home.take ≡ old.home.take → IsCleared old new
cleared-same old new status take = λ shut. inl (sym status ∙ shut, take)

-- it is open still
pub cleared-open : (old new : RunState) → new.status.closed ≡ false → IsCleared old new
cleared-open old new open_yet = λ shut. absurd (cc (open_yet, shut))

pub cleared-found : (old new : RunState) → FindsNoMore old.home.take new.home.take → IsCleared old new
cleared-found old new found = λ shut. inr found

pub cleared-then : (a b c : RunState) → TakesOn a.home.take b.home.take → IsCleared a b → IsCleared b c → IsCleared a c
cleared-then a b c takes first next = λ shut. by_next (next shut)
  where
    by_next : ((b.status.closed ≡ true) × (c.home.take ≡ b.home.take)) ⊎ FindsNoMore b.home.take c.home.take →
        ((a.status.closed ≡ true) × (c.home.take ≡ a.home.take)) ⊎ FindsNoMore a.home.take c.home.take
    by_next (inr found) = inr (finds-then a.home.take b.home.take c.home.take takes found)
    by_next (inl same) = by_first (first same.0)
      where
        by_first : ((a.status.closed ≡ true) × (b.home.take ≡ a.home.take)) ⊎ FindsNoMore a.home.take b.home.take →
            ((a.status.closed ≡ true) × (c.home.take ≡ a.home.take)) ⊎ FindsNoMore a.home.take c.home.take
        by_first (inl before) = inl (before.0, same.1 ∙ before.1)
        by_first (inr found) = inr (subst (λ k. FindsNoMore a.home.take k) (sym same.1) found)
