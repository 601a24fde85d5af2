-- One more envelope in a sender's log.
use Rattle.std.proofs.Common.{◌≡◌, ◌≢◌, ◌==◌, ℕ, ◌+◌, ◌≤◌, true, false, cond, List, [], ◌∷◌, ◌++◌}
use Rattle.std.proofs.Common.{map, filter, length, refl, sym, ap, ◌∙◌, subst, arith, Option, Some, None, append_assoc}
use Rattle.std.proofs.lemmas.List.{append-nil, length-append, length-map, map-append}
use Rattle.std.proofs.lemmas.List.Elements.{filter-append}
use Rattle.std.proofs.lemmas.Bool.Decides.{nat_tests}
use Rattle.mb_msg.specs.declared.envelope.Envelope.{Envelope}
use Rattle.mb_msg.specs.declared.dead_letter.DeadLetterReason.{DeadLetterReason}
use Rattle.mb_send.specs.Posted.{names_from, names_of}
use Rattle.mb_journal.specs.declared.sent_envelope.SentEnvelope.{SentEnvelope}
use Rattle.mb_journal.specs.Accepted.{NumbersCountUpFrom, accepted, queued, dead_letters, letter_of, is_queued, to_actor}

abbrev first : List (ℕ × ℕ) → ℕ × ℕ
first [] = (0, 0)
first (x ∷ xs) = x

abbrev rest : List (ℕ × ℕ) → List (ℕ × ℕ)
rest [] = []
rest (x ∷ xs) = xs

-- the two ways to say that envelopes are numbered
pub from-names : (by n : ℕ) (es : List Envelope) → names_of es ≡ names_from by n es → NumbersCountUpFrom by n es
from-names by n [] same = tt
from-names by n (e ∷ es) same =
    (ap (λ (l : List (ℕ × ℕ)). (first l).0) same, ap (λ (l : List (ℕ × ℕ)). (first l).1) same, from-names by (n + 1) es (ap rest same))

to-names : (by n : ℕ) (es : List Envelope) → NumbersCountUpFrom by n es → names_of es ≡ names_from by n es
to-names by n [] numbered = refl
to-names by n (e ∷ es) numbered =
    let more = to-names by (n + 1) es numbered.2 in λ i. (numbered.0 i, numbered.1 i) ∷ more i

numbered-last : (by n : ℕ) (es : List Envelope) (e : Envelope) → NumbersCountUpFrom by n es → e.by.0 ≡ by → e.number ≡ n + length es
    → NumbersCountUpFrom by n (es ++ e ∷ [])
numbered-last by n [] e numbered mine next = (mine, (omega (arith, next)), tt)
numbered-last by n (x ∷ es) e numbered mine next =
    (numbered.0, numbered.1, numbered-last by (n + 1) es e numbered.2 mine (omega (arith, next)))

-- the envelopes stay numbered
pub numbered-more : (by : ℕ) (ps : List SentEnvelope) (p : SentEnvelope) → names_of (accepted ps) ≡ names_from by 0 (accepted ps) → p.envelope.by.0 ≡ by
    → p.envelope.number ≡ length ps → names_of (accepted (ps ++ p ∷ [])) ≡ names_from by 0 (accepted (ps ++ p ∷ []))
numbered-more by ps p same mine next =
    let k : length (accepted ps) ≡ length ps = length-map ps (λ (x : SentEnvelope). x.envelope) in
    let before = from-names by 0 (accepted ps) same in
    let after = numbered-last by 0 (accepted ps) p.envelope before mine (omega (arith, next, k)) in
    subst (λ es. names_of es ≡ names_from by 0 es) (sym (map-append (λ (x : SentEnvelope). x.envelope) ps (p
    ∷ []))) (to-names by 0 (accepted ps ++ p.envelope ∷ []) after)

flat-append : (ps : List SentEnvelope) (p : SentEnvelope) → dead_letters (ps ++ p ∷ []) ≡ dead_letters ps ++ letter_of p
flat-append [] p = append-nil (letter_of p)
flat-append (x ∷ ps) p = ap (λ l. letter_of x ++ l) (flat-append ps p) ∙ sym (append_assoc (letter_of x) (dead_letters ps) (letter_of p))

pub dead-queued : (ps : List SentEnvelope) (e : Envelope) → dead_letters (ps ++ record { envelope = e; refused = None } ∷ []) ≡ dead_letters ps
dead-queued ps e = flat-append ps (record { envelope = e; refused = None }) ∙ append-nil (dead_letters ps)

pub dead-more : (ps : List SentEnvelope) (e : Envelope) (why : DeadLetterReason)
    → dead_letters (ps ++ record { envelope = e; refused = Some why } ∷ []) ≡ dead_letters ps ++ record { envelope = e; why = why } ∷ []
dead-more ps e why = flat-append ps (record { envelope = e; refused = Some why })

-- what was queued
queued-append : (ps qs : List SentEnvelope) → queued (ps ++ qs) ≡ queued ps ++ queued qs
queued-append ps qs = ap (map (λ (x : SentEnvelope). x.envelope)) (filter-append is_queued ps qs)
    ∙ map-append (λ (x : SentEnvelope). x.envelope) (filter is_queued ps) (filter is_queued qs)

to-append : (to : ℕ) (ps qs : List SentEnvelope) → to_actor to (queued (ps ++ qs)) ≡ to_actor to (queued ps) ++ to_actor to (queued qs)
to-append to ps qs = ap (to_actor to) (queued-append ps qs) ∙ filter-append (λ e. e.to.0 == to) (queued ps) (queued qs)

pub route-more : (to : ℕ) (ps : List SentEnvelope) (e : Envelope) → e.to.0 ≡ to
    → to_actor to (queued (ps ++ record { envelope = e; refused = None } ∷ [])) ≡ to_actor to (queued ps) ++ e ∷ []
route-more to ps e here =
    let a : (e.to.0 == to) ≡ true = grind (arith, nat_tests) in
    to-append to ps (record { envelope = e; refused = None } ∷ []) ∙ ap (λ b. to_actor to (queued ps) ++ cond b (e ∷ []) []) a

pub route-other : (to : ℕ) (ps : List SentEnvelope) (e : Envelope) → e.to.0 ≢ to
    → to_actor to (queued (ps ++ record { envelope = e; refused = None } ∷ [])) ≡ to_actor to (queued ps)
route-other to ps e other =
    let a : (e.to.0 == to) ≡ false = grind (arith, nat_tests) in
    to-append to ps (record { envelope = e; refused = None } ∷ []) ∙ ap (λ b. to_actor to (queued ps) ++ cond b (e ∷ []) []) a
    ∙ append-nil (to_actor to (queued ps))

pub route-dead : (to : ℕ) (ps : List SentEnvelope) (e : Envelope) (why : DeadLetterReason)
    → to_actor to (queued (ps ++ record { envelope = e; refused = Some why } ∷ [])) ≡ to_actor to (queued ps)
route-dead to ps e why = to-append to ps (record { envelope = e; refused = Some why } ∷ []) ∙ append-nil (to_actor to (queued ps))

pub length-more : (ps : List SentEnvelope) (p : SentEnvelope) → length (ps ++ p ∷ []) ≡ length ps + 1
length-more ps p = length-append ps (p ∷ [])

-- no more are dead letters than were answered for
letter-one : (e : Envelope) (refused : Option DeadLetterReason) → length (letter_of (record { envelope = e; refused = refused })) ≤ 1
letter-one e None = omega arith
letter-one e (Some why) = omega arith

pub letters-few : (ps : List SentEnvelope) → length (dead_letters ps) ≤ length ps
letters-few [] = omega arith
letters-few (p ∷ ps) =
    let here = letter-one p.envelope p.refused in let rest = letters-few ps in let all = length-append (letter_of p) (dead_letters ps) in
    omega (arith, here, rest, all)
