-- What operations come to, one after another.
use Rattle.std.proofs.Common.{◌≡◌, ◌≢◌, ℕ, ◌+◌, ◌<◌, ◌≤◌, ℤ, List, [], ◌∷◌, length, get_or, drop, fold, refl, sym, ap, ◌∙◌}
use Rattle.std.proofs.lemmas.List.{at_drop_all, at_drop_more}
use Rattle.mb_actor.specs.OutboxView.{OutboxView}
use Rattle.mb_actor.specs.declared.answer.Answer.{Answer}
use Rattle.mb_actor.specs.declared.answer.Answer.TheVariants.{Failed, Handled}
use Rattle.mb_script.specs.Operations.{after_operation, answer_after, answer_by, asked, asked_by, done, effect_of, failure, grown}
use Rattle.mb_script.specs.declared.operation.Operation.{Operation}
use Rattle.mb_script.specs.declared.operation.Operation.TheVariants.{Add, Ignore, Fail, Tell, Control, Watch, Unwatch, Stop, Spawn}

-- an operation that does not fail is done first
done_first : (o : Operation) (operations : List Operation) → ((n : ℕ) → o ≢ Fail n) → done (o ∷ operations) ≡ o ∷ done operations
done_first Add operations passes = refl
done_first Ignore operations passes = refl
done_first (Fail n) operations passes = absurd (passes n refl)
done_first (Tell to kind) operations passes = refl
done_first (Control to kind) operations passes = refl
done_first (Watch x) operations passes = refl
done_first (Unwatch x) operations passes = refl
done_first (Stop x) operations passes = refl
done_first (Spawn x) operations passes = refl

-- another one may fail
failure_later : (o : Operation) (operations : List Operation) → ((n : ℕ) → o ≢ Fail n) → failure (o ∷ operations) ≡ failure operations
failure_later Add operations passes = refl
failure_later Ignore operations passes = refl
failure_later (Fail n) operations passes = absurd (passes n refl)
failure_later (Tell to kind) operations passes = refl
failure_later (Control to kind) operations passes = refl
failure_later (Watch x) operations passes = refl
failure_later (Unwatch x) operations passes = refl
failure_later (Stop x) operations passes = refl
failure_later (Spawn x) operations passes = refl

-- the operations from the place of one that does not fail
done_more : (operations : List Operation) (i : ℕ) → i < length operations → ((n : ℕ) → get_or operations i Add ≢ Fail n)
    → done (drop i operations) ≡ get_or operations i Add ∷ done (drop (i + 1) operations)
done_more operations i within passes =
    at_drop_more done operations i Add within ∙ done_first (get_or operations i Add) (drop (i + 1) operations) passes

-- the state, the answer and the outbox at the end, once one more is done
pub state_more : (value now next whole : ℤ) (operations : List Operation) (i : ℕ) → i < length operations
    → ((n : ℕ) → get_or operations i Add ≢ Fail n) → next ≡ after_operation value now (get_or operations i Add)
    → grown value now (drop i operations) ≡ whole → grown value next (drop (i + 1) operations) ≡ whole
state_more value now next whole operations i within passes is so_far =
    ap (λ x. grown value x (drop (i + 1) operations)) is
    ∙ sym (ap (fold (after_operation value) now) (done_more operations i within passes)) ∙ so_far

pub answer_more : (whole : Answer) (operations : List Operation) (i : ℕ) → i < length operations
    → ((n : ℕ) → get_or operations i Add ≢ Fail n) → answer_after (drop i operations) ≡ whole → answer_after (drop (i + 1) operations) ≡ whole
answer_more whole operations i within passes so_far =
    sym (ap answer_by (at_drop_more failure operations i Add within ∙ failure_later (get_or operations i Add) (drop (i + 1) operations) passes))
    ∙ so_far

pub asked_more : (value : ℤ) (now next whole : OutboxView) (operations : List Operation) (i : ℕ) → i < length operations
    → ((n : ℕ) → get_or operations i Add ≢ Fail n) → next ≡ asked (effect_of value (get_or operations i Add)) now
    → asked_by value now (drop i operations) ≡ whole → asked_by value next (drop (i + 1) operations) ≡ whole
asked_more value now next whole operations i within passes is so_far =
    ap (λ t. asked_by value t (drop (i + 1) operations)) is
    ∙ sym (ap (fold (λ t operation. asked (effect_of value operation) t) now) (done_more operations i within passes)) ∙ so_far

-- where one fails, nothing more is done
done_failed : (operations : List Operation) (i n : ℕ) → i < length operations → get_or operations i Add ≡ Fail n
    → done (drop i operations) ≡ []
done_failed operations i n within fails =
    at_drop_more done operations i Add within ∙ ap (λ x. done (x ∷ drop (i + 1) operations)) fails

pub state_failed : (value now whole : ℤ) (operations : List Operation) (i n : ℕ) → i < length operations → get_or operations i Add ≡ Fail n
    → grown value now (drop i operations) ≡ whole → now ≡ whole
state_failed value now whole operations i n within fails so_far =
    sym (ap (fold (after_operation value) now) (done_failed operations i n within fails)) ∙ so_far

pub answer_failed : (whole : Answer) (operations : List Operation) (i n : ℕ) → i < length operations → get_or operations i Add ≡ Fail n
    → answer_after (drop i operations) ≡ whole → Failed n ≡ whole
answer_failed whole operations i n within fails so_far =
    sym (ap answer_by (at_drop_more failure operations i Add within ∙ ap (λ x. failure (x ∷ drop (i + 1) operations)) fails)) ∙ so_far

pub asked_failed : (value : ℤ) (now whole : OutboxView) (operations : List Operation) (i n : ℕ) → i < length operations
    → get_or operations i Add ≡ Fail n → asked_by value now (drop i operations) ≡ whole → now ≡ whole
asked_failed value now whole operations i n within fails so_far =
    sym (ap (fold (λ t operation. asked (effect_of value operation) t) now) (done_failed operations i n within fails)) ∙ so_far

-- past the last one
pub state_past : (value now whole : ℤ) (operations : List Operation) (i : ℕ) → length operations ≤ i
    → grown value now (drop i operations) ≡ whole → now ≡ whole
state_past value now whole operations i past so_far = sym (at_drop_all (grown value now) operations i past) ∙ so_far

pub answer_past : (whole : Answer) (operations : List Operation) (i : ℕ) → length operations ≤ i → answer_after (drop i operations) ≡ whole
    → Handled ≡ whole
answer_past whole operations i past so_far = sym (at_drop_all answer_after operations i past) ∙ so_far

pub asked_past : (value : ℤ) (now whole : OutboxView) (operations : List Operation) (i : ℕ) → length operations ≤ i
    → asked_by value now (drop i operations) ≡ whole → now ≡ whole
asked_past value now whole operations i past so_far = sym (at_drop_all (asked_by value now) operations i past) ∙ so_far

-- the same numbers under another name
pub same_state : (v value s state : ℤ) (operations : List Operation) → v ≡ value → s ≡ state → grown v s operations ≡ grown value state operations
same_state v value s state operations is begins = ap (λ x. grown x s operations) is ∙ ap (λ x. grown value x operations) begins

pub same_outbox : (v value : ℤ) (t : OutboxView) (operations : List Operation) → v ≡ value → asked_by v t operations ≡ asked_by value t operations
same_outbox v value t operations is = ap (λ x. asked_by x t operations) is
