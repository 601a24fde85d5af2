-- An actor that a sender has seen closed stays so for it once it saw more, and each new dead letter has its reason.
use Rattle.std.proofs.Common.{◌≡◌, ℕ, Bool, true, false, ◌&&◌, ◌||◌, List, [], ◌∷◌, ◌++◌, refl, sym, ap, ◌∙◌, subst, Some, None}
use Rattle.std.specs.List.{list_any, list_all}
use Rattle.std.proofs.lemmas.List.Folds.{list_any-append, list_all-append}
use Rattle.mb_msg.specs.declared.dead_letter.DeadLetter.{DeadLetter}
use Rattle.mb_msg.specs.declared.dead_letter.DeadLetterReason.{DeadLetterReason}
use Rattle.mb_msg.specs.declared.dead_letter.DeadLetterReason.TheVariants as why
use Rattle.mb_msg.specs.declared.envelope.Envelope.{Envelope}
use Rattle.mb_queue.specs.declared.refused.Refusal.{Refusal}
use Rattle.mb_queue.specs.declared.refused.Refusal.TheVariants.{Full, NoMemory}
use Rattle.mb_gate.specs.View.{View, Observation, SentSystem}
use Rattle.mb_journal.specs.declared.sent_envelope.SentEnvelope.{SentEnvelope}
use Rattle.mb_journal.specs.Accepted.{dead_letters}
use Rattle.mb_register.specs.Views.{Does}
use Rattle.mb_send.specs.Answers.{reason}
use Rattle.mb_send.specs.Posted.{posting}
use Rattle.mb_send.specs.SeenClosed.{finds_closed, has_seen_closed, may_be_dead, were_seen_closed}
use Rattle.mb_send.proofs.Posting.{dead-queued, dead-more}

or-true : (b : Bool) → (b || true) ≡ true
or-true true = refl
or-true false = refl

pub and-both : (a b : Bool) → a ≡ true → b ≡ true → (a && b) ≡ true
and-both a b x y = λ i. x i && y i

and-left : (a b : Bool) → (a && b) ≡ true → a ≡ true
and-left true b both = refl
and-left false b both = both

and-right : (a b : Bool) → (a && b) ≡ true → b ≡ true
and-right true b both = both
and-right false b both = let e : false ≡ true = both in absurd (cc)

seen-more : (id : ℕ) (more log : List Observation) → has_seen_closed log id ≡ true → has_seen_closed (more ++ log) id ≡ true
seen-more id more log seen = list_any-append (finds_closed id) more log ∙ ap (λ b. list_any (finds_closed id) more || b) seen
    ∙ or-true (list_any (finds_closed id) more)

may-more : (a b : Bool) (w : DeadLetterReason) → (a ≡ true → b ≡ true) → may_be_dead a w ≡ true → may_be_dead b w ≡ true
may-more a b why.Closed more may = more may
may-more a b why.Full more may = refl
may-more a b why.NoMemory more may = refl
may-more a b why.Cleaned more may = refl

-- it saw more
pub was_seen_closed-more : (more log : List Observation) (dead : List DeadLetter) → were_seen_closed log dead ≡ true → were_seen_closed (more ++ log) dead ≡ true
was_seen_closed-more more log [] all = refl
was_seen_closed-more more log (d ∷ dead) all =
    let to = d.envelope.to.0 in
    let here = may_be_dead (has_seen_closed log to) d.why in
    and-both (may_be_dead (has_seen_closed (more ++ log) to) d.why) (were_seen_closed (more ++ log) dead)
    (may-more (has_seen_closed log to) (has_seen_closed (more ++ log) to) d.why (seen-more to more log)
    (and-left here (were_seen_closed log dead) all)) (was_seen_closed-more more log dead (and-right here (were_seen_closed log dead) all))

pub was_seen_closed-seen : (s : Observation) (log : List Observation) (dead : List DeadLetter) → were_seen_closed log dead ≡ true → were_seen_closed (s ∷ log) dead ≡ true
was_seen_closed-seen s log dead all = was_seen_closed-more (s ∷ []) log dead all

-- it did something, and looked
pub was_seen_closed-does : (id : ℕ) (did : List Observation) (told : List SentSystem) (u v : View) (dead : List DeadLetter) → Does id did told u v →
    were_seen_closed u.log dead ≡ true → were_seen_closed v.log dead ≡ true
was_seen_closed-does id did told u v dead does all =
    subst (λ (l : List Observation). were_seen_closed l dead ≡ true) (sym does.log) (was_seen_closed-more (does.looks ++ did) u.log dead all)

-- one more was queued, or is dead
pub was_seen_closed-queued : (log : List Observation) (ps : List SentEnvelope) (e : Envelope) → were_seen_closed log (dead_letters ps) ≡ true →
    were_seen_closed log (dead_letters (ps ++ posting e None ∷ [])) ≡ true
was_seen_closed-queued log ps e all = ap (were_seen_closed log) (dead-queued ps e) ∙ all

pub was_seen_closed-dead : (log : List Observation) (ps : List SentEnvelope) (e : Envelope) (w : DeadLetterReason) → may_be_dead (has_seen_closed log e.to.0) w ≡ true →
    were_seen_closed log (dead_letters ps) ≡ true → were_seen_closed log (dead_letters (ps ++ posting e (Some w) ∷ [])) ≡ true
was_seen_closed-dead log ps e w may all =
    let p = λ (d : DeadLetter). may_be_dead (has_seen_closed log d.envelope.to.0) d.why in
    let letter : DeadLetter = record { envelope = e; why = w } in
    ap (were_seen_closed log) (dead-more ps e w) ∙ list_all-append p (dead_letters ps) (letter ∷ [])
    ∙ and-both (list_all p (dead_letters ps)) (p letter && true) all (and-both (p letter) true may refl)

-- a push is refused for another reason
pub may-refuse : (seen : Bool) (refused : Refusal) (w : DeadLetterReason) → w ≡ reason refused → may_be_dead seen w ≡ true
may-refuse seen Full w is = ap (may_be_dead seen) is
may-refuse seen NoMemory w is = ap (may_be_dead seen) is
