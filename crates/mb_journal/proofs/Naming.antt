-- Envelopes of one sender that are numbered one after another have different names: sender and number.
use Rattle.std.proofs.Common.{◌≡◌, ◌==◌, ◌≢◌, ℕ, zero, suc, ◌+◌, ◌<◌, Bool, true, false, cond, not, ◌&&◌, ◌||◌, List}
use Rattle.std.proofs.Common.{[], ◌∷◌, length, get_or, refl, sym, ap, ◌∙◌, subst, arith, Option, Some, None, count_by}
use Rattle.std.proofs.lemmas.Bool.Decides.{nat_tests}
use Rattle.mb_msg.specs.declared.envelope.Envelope.{Envelope}
use Rattle.mb_msg.specs.declared.dead_letter.DeadLetterReason.{DeadLetterReason}
use Rattle.mb_journal.specs.declared.sent_envelope.SentEnvelope.{SentEnvelope}
use Rattle.mb_journal.specs.Accepted.{accepted, queued, dead_letters, envelopes_of, to_actor, is_same_name, has_name, without_named, NumbersCountUpFrom}
use Rattle.mb_journal.specs.Pair.{QueuedInFateOrder, FatesInSendOrder, AcceptedMatchFates, EachHasOneFate}
use Rattle.mb_journal.proofs.Counting.{count-cons, count-filter, count-same}

other-number : (e x : Envelope) → x.number ≢ e.number → is_same_name e x ≡ false
other-number e x ne = let no : (x.number == e.number) ≡ false = grind (arith, nat_tests) in ap (λ b. (x.by.0 == e.by.0) && b) no
    ∙ and-no (x.by.0 == e.by.0)
  where
    and-no : (b : Bool) → (b && false) ≡ false
    and-no true = refl
    and-no false = refl

-- an envelope of a lower number is none of these
none-later : (g : Envelope → Bool) (e : Envelope) (by n : ℕ) (es : List Envelope) → ((x : Envelope) → is_same_name e x ≡ false → g x ≡ false)
    → NumbersCountUpFrom by n es → e.number < n → count_by g es ≡ 0
none-later g e by n [] only numbered lt = refl
none-later g e by n (x ∷ es) only numbered lt =
    let ne : x.number ≢ e.number = λ same. absurd (omega (arith, lt, numbered.1, same)) in
    let no : g x ≡ false = only x (other-number e x ne) in
    let rest = none-later g e by (n + 1) es only numbered.2 (omega (arith, lt)) in
    count-cons g x es ∙ (λ i. cond (no i) 1 0 + rest i)

-- the number of the one at a place
number-at : (by n : ℕ) (es : List Envelope) (i : ℕ) (e : Envelope) → NumbersCountUpFrom by n es → i < length es → get_or es i e ≡ e → e.number ≡ n + i
number-at by n [] i e numbered lt at = absurd (omega (arith, lt))
number-at by n (x ∷ es) zero e numbered lt at = ap (λ (y : Envelope). y.number) (sym at) ∙ numbered.1 ∙ (omega arith)
number-at by n (x ∷ es) (suc i) e numbered lt at =
    let before = number-at by (n + 1) es i e numbered.2 (omega (arith, lt)) at in omega (arith, before)

-- of the accepted envelopes just one has the name
once-at : (g : Envelope → Bool) (e : Envelope) (by n : ℕ) (es : List Envelope) (i : ℕ) → ((x : Envelope) → is_same_name e x ≡ false
    → g x ≡ false) → g e ≡ true
    → NumbersCountUpFrom by n es → i < length es → get_or es i e ≡ e → count_by g es ≡ 1
once-at g e by n [] i only hit numbered lt at = absurd (omega (arith, lt))
once-at g e by n (x ∷ es) zero only hit numbered lt at =
    let same : x ≡ e = at in
    let first : g x ≡ true = ap g same ∙ hit in
    let low : e.number < n + 1 = let k = ap (λ (y : Envelope). y.number) same in omega (arith, k, numbered.1) in
    let rest = none-later g e by (n + 1) es only numbered.2 low in
    count-cons g x es ∙ (λ i. cond (first i) 1 0 + rest i)
once-at g e by n (x ∷ es) (suc i) only hit numbered lt at =
    let k = number-at by (n + 1) es i e numbered.2 (omega (arith, lt)) at in
    let ne : x.number ≢ e.number = λ same. absurd (omega (arith, k, numbered.1, same)) in
    let no : g x ≡ false = only x (other-number e x ne) in
    let rest = once-at g e by (n + 1) es i only hit numbered.2 (omega (arith, lt)) at in
    count-cons g x es ∙ (λ i. cond (no i) 1 0 + rest i)

self-name : (e : Envelope) → is_same_name e e ≡ true
self-name e =
    let a : (e.by.0 == e.by.0) ≡ true = grind (arith, nat_tests) in
    let b : (e.number == e.number) ≡ true = grind (arith, nat_tests) in
    λ i. a i && b i

by-at : (by n : ℕ) (es : List Envelope) (i : ℕ) (e : Envelope) → NumbersCountUpFrom by n es → i < length es → get_or es i e ≡ e → e.by.0 ≡ by
by-at by n [] i e numbered lt at = absurd (omega (arith, lt))
by-at by n (x ∷ es) zero e numbered lt at = ap (λ (y : Envelope). y.by.0) (sym at) ∙ numbered.0
by-at by n (x ∷ es) (suc i) e numbered lt at = by-at by (n + 1) es i e numbered.2 (omega (arith, lt)) at

and-twice : (b c : Bool) → (b && (b && c)) ≡ (b && c)
and-twice true c = refl
and-twice false c = refl

-- each accepted envelope is there exactly once
pub stands-once : (by to : ℕ) (ps : List SentEnvelope) (fates : List Envelope) → NumbersCountUpFrom by 0 (accepted ps) → AcceptedMatchFates by to ps fates
    → EachHasOneFate to ps fates
stands-once by to ps fates numbered often e there here =
    let name : Envelope → Bool = is_same_name e in
    let mine : Envelope → Bool = λ x. x.to.0 == to in
    let g : Envelope → Bool = λ x. mine x && name x in
    let only : (x : Envelope) → name x ≡ false → g x ≡ false = λ x no. ap (λ b. mine x && b) no ∙ and-no (mine x) in
    let to-here : mine e ≡ true = grind (arith, nat_tests) in
    let hit : g e ≡ true = λ i. to-here i && self-name e i in
    let once : count_by g (accepted ps) ≡ 1 = once-at g e by 0 (accepted ps) there.0 only hit numbered there.1 there.2 in
    let is-by : e.by.0 ≡ by = by-at by 0 (accepted ps) there.0 e numbered there.1 there.2 in
    let a = often name in
    let b = count-filter name mine (accepted ps) in
    let c = count-filter name (λ x. x.by.0 == by) fates in
    let d = count-same (λ x. (x.by.0 == by) && name x) name (λ x. subst (λ s. ((x.by.0 == s) && name x)
    ≡ name x) is-by (and-twice (x.by.0 == e.by.0) (x.number == e.number))) fates in
    omega (arith, once, a, b, c, d)
  where
    and-no : (b : Bool) → (b && false) ≡ false
    and-no true = refl
    and-no false = refl

-- The order.

-- no dead letter of a later one has the name of an earlier one
module _ (e : Envelope) (by : ℕ) where
  not-among-more : (x : Envelope) (refused : Option DeadLetterReason) (ps : List SentEnvelope) → e.number < x.number
      → has_name (envelopes_of (dead_letters ps)) e ≡ false
      → has_name (envelopes_of (dead_letters (record { envelope = x; refused = refused } ∷ ps))) e ≡ false
  not-among-more x None ps lt rest = rest
  not-among-more x (Some why) ps lt rest =
      let ne : e.number ≢ x.number = λ same. absurd (omega (arith, lt, same)) in
      λ i. other-number x e ne i || rest i

  not-among : (n : ℕ) (ps : List SentEnvelope) → NumbersCountUpFrom by n (accepted ps) → e.number < n → has_name (envelopes_of (dead_letters ps)) e ≡ false
  not-among n [] numbered lt = refl
  not-among n (p ∷ ps) numbered lt =
      not-among-more p.envelope p.refused ps (omega (arith, lt, numbered.1)) (not-among (n + 1) ps numbered.2 (omega (arith, lt)))

-- an earlier dead letter has the name of none of these
drop-first : (x : Envelope) (gone : List Envelope) (by n : ℕ) (es : List Envelope) → NumbersCountUpFrom by n es → x.number < n
    → without_named (x ∷ gone) es ≡ without_named gone es
drop-first x gone by n [] numbered lt = refl
drop-first x gone by n (e ∷ es) numbered lt =
    let ne : e.number ≢ x.number = λ same. absurd (omega (arith, lt, numbered.1, same)) in
    let no : (is_same_name x e || has_name gone e) ≡ has_name gone e = ap (λ b. b || has_name gone e) (other-number x e ne) in
    let rest = drop-first x gone by (n + 1) es numbered.2 (omega (arith, lt)) in
    λ i. cond (not (no i)) (e ∷ rest i) (rest i)

-- those that were queued are the accepted ones without the dead letters
queued-more : (by n : ℕ) (x : Envelope) (refused : Option DeadLetterReason) (ps : List SentEnvelope) → x.number ≡ n → NumbersCountUpFrom by (n + 1) (accepted ps)
    → queued ps ≡ without_named (envelopes_of (dead_letters ps)) (accepted ps)
    → queued (record { envelope = x; refused = refused } ∷ ps)
    ≡ without_named (envelopes_of (dead_letters (record { envelope = x; refused = refused }
    ∷ ps))) (accepted (record { envelope = x; refused = refused } ∷ ps))
queued-more by n x None ps is numbered rest =
    let no = not-among x by (n + 1) ps numbered (omega (arith, is)) in
    ap (λ l. x ∷ l) rest ∙ sym (ap (λ b. cond (not b) (x ∷ without_named (envelopes_of (dead_letters ps)) (accepted ps)) (without_named (envelopes_of
    (dead_letters ps)) (accepted ps))) no)
queued-more by n x (Some why) ps is numbered rest =
    let gone = envelopes_of (dead_letters ps) in
    let yes : (is_same_name x x || has_name gone x) ≡ true = ap (λ b. b || has_name gone x) (self-name x) in
    let still = rest ∙ sym (drop-first x gone by (n + 1) (accepted ps) numbered (omega (arith, is))) in
    still ∙ sym (ap (λ b. cond (not b) (x ∷ without_named (x ∷ gone) (accepted ps)) (without_named (x ∷ gone) (accepted ps))) yes)

queued-is : (by n : ℕ) (ps : List SentEnvelope) → NumbersCountUpFrom by n (accepted ps) → queued ps ≡ without_named (envelopes_of (dead_letters ps)) (accepted ps)
queued-is by n [] numbered = refl
queued-is by n (p ∷ ps) numbered = queued-more by n p.envelope p.refused ps numbered.1 numbered.2 (queued-is by (n + 1) ps numbered.2)

pub kept-in-order : (by to : ℕ) (ps : List SentEnvelope) (fates : List Envelope) → NumbersCountUpFrom by 0 (accepted ps) → QueuedInFateOrder by to ps fates
    → FatesInSendOrder by to ps fates
kept-in-order by to ps fates numbered came = sym came ∙ ap (to_actor to) (queued-is by 0 ps numbered)
