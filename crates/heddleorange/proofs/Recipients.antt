-- To whom goes what is sent.
use Rattle.std.proofs.Common.{◌≡◌, ◌==◌, ℕ, zero, suc, ◌+◌, ◌<◌, Bool, true, false, List, [], ◌∷◌, map, refl, sym, ap, ◌∙◌, subst}
use Rattle.std.proofs.Common.{arith, Some, None, Option}
use Rattle.std.specs.Prelude.{All, nat_lt, ◌&&◌, ◌||◌, slice_get}
use Rattle.std.specs.List.{list_any}
use Rattle.std.proofs.lemmas.Bool.Decides.{nat_tests}
use Rattle.std.proofs.lemmas.List.Elements.{All-append, All-cons, All-head, All-nil, All-tail}
use Rattle.mb_actor.specs.ActorList.{has}
use Rattle.mb_actor.specs.Behaviour.{Moment, Reply}
use Rattle.mb_dispatch.specs.Orders.{envelopes_of, envelopes_of_one, over}
use Rattle.mb_home.proofs.GuardianLemmas.{watches-none}
use Rattle.mb_home.proofs.TellLaw.{few-acts}
use Rattle.mb_home.proofs.TellLemmas.{IsThere}
use Rattle.mb_journal.specs.Accepted.{accepted, dead_letters, envelopes_of as letters_envelopes}
use Rattle.mb_journal.specs.Acts.{acts}
use Rattle.mb_journal.specs.Entry.{Entry}
use Rattle.mb_journal.specs.Identity.{Identity, is_guardian}
use Rattle.mb_journal.specs.Lawful.{AreLawful}
use Rattle.mb_journal.specs.Tells.{AddressedBody, envelopes_from, tells, tells_of_journal}
use Rattle.mb_journal.specs.Watching.{watching}
use Rattle.mb_journal.specs.declared.sent_envelope.SentEnvelope.{SentEnvelope}
use Rattle.mb_msg.specs.declared.dead_letter.DeadLetterReason.{DeadLetterReason}
use Rattle.mb_msg.specs.declared.envelope.Envelope.{Envelope}
use Rattle.mb_msg.specs.declared.id.ActorId.{ActorId}
use Rattle.mb_msg.specs.declared.order.Order.{Order}
use Rattle.mb_msg.specs.Payload.{body_of}
use Rattle.mb_msg.specs.declared.order.OrderKind.{OrderKind}
use Rattle.mb_msg.specs.declared.order.OrderKind.TheVariants.{Stop, Tell}
use Rattle.mb_shutdown.proofs.Lists.{at-place}
use Rattle.heddleorange.specs.Ledger.{numbered_from}
use Rattle.heddleorange.specs.NoReport.{has_nobody, has_one_for_nobody, is_for_nobody}

or-false : (a b : Bool) → (a || b) ≡ false → (a ≡ false) × (b ≡ false)
or-false true b none = absurd (cc)
or-false false b none = (refl, none)

-- what no element passes
pub none-passes : {X : Type 0} (test : X → Bool) (xs : List X) → list_any test xs ≡ false → All (λ x. test x ≡ false) xs
none-passes test [] none = All-nil (λ x. test x ≡ false)
none-passes test (x ∷ xs) none =
    let both = or-false (test x) (list_any test xs) none in All-cons (λ y. test y ≡ false) x xs both.0 (none-passes test xs both.1)

-- what one of a mapped list passes
pub any-mapped : {X Y : Type 0} (test : Y → Bool) (f : X → Y) (xs : List X) → list_any test (map f xs) ≡ list_any (λ x. test (f x)) xs
any-mapped test f [] = refl
any-mapped test f (x ∷ xs) = ap (λ b. test (f x) || b) (any-mapped test f xs)

-- the envelope is to an actor other than the guardian
abbrev pub Goes : ℕ → Envelope → Type 0
Goes actors e = (0 < e.to.0) × (e.to.0 < actors)

-- ---- orders

module _ (actors : ℕ) where
  -- none of the orders of a place is for nobody
  pub of-place : (orders : List (List Order)) (place : ℕ) (of : List Order) → has_one_for_nobody actors orders ≡ false → slice_get orders place ≡ Some of
      → All (λ order. has_nobody actors order ≡ false) of
  of-place orders place of none is =
      none-passes (has_nobody actors) of
      (at-place (λ l. list_any (has_nobody actors) l ≡ false) orders place of (none-passes (list_any (has_nobody actors)) orders none) is)

  there-over : (times : ℕ) (xs : List AddressedBody) → All (IsThere (actors + 1)) xs → All (IsThere (actors + 1)) (over times xs)
  there-over zero xs all = All-nil (IsThere (actors + 1))
  there-over (suc times) xs all = All-append (IsThere (actors + 1)) xs (over times xs) all (there-over times xs all)

  there-one : (times : ℕ) (to : ActorId) (what : OrderKind) → (nat_lt 0 times && is_for_nobody actors to what) ≡ false
      → All (IsThere (actors + 1)) (over times (envelopes_of_one to what))
  there-one times to Stop some = there-over times [] (All-nil (IsThere (actors + 1)))
  there-one zero to (Tell payload) some = All-nil (IsThere (actors + 1))
  there-one (suc times) to (Tell payload) some =
      let more : nat_lt 0 (suc times) ≡ true = grind (arith, nat_tests) in
      let there : (to.0 == 0 || nat_lt actors to.0) ≡ false =
      subst (λ b. (b && (to.0 == 0 || nat_lt actors to.0)) ≡ false) more some in
      let both = or-false (to.0 == 0) (nat_lt actors to.0) there in
      let above : 0 < to.0 = some-number to.0 both.0 in let below : to.0 < actors + 1 = within to.0 both.1 in
      there-over (suc times) ((to, body_of payload) ∷ [])
      (All-cons (IsThere (actors + 1)) (to, body_of payload) [] (above, below) (All-nil (IsThere (actors + 1))))
    where
      some-number : (n : ℕ) → (n == 0) ≡ false → 0 < n
      some-number n other = grind (arith, nat_tests)

      within : (n : ℕ) → nat_lt actors n ≡ false → n < actors + 1
      within n less = grind (arith, nat_tests)

  pub orders-there : (of : List Order) → All (λ order. has_nobody actors order ≡ false) of → All (IsThere (actors + 1)) (envelopes_of of)
  orders-there [] none = All-nil (IsThere (actors + 1))
  orders-there (o ∷ of) none =
      All-append (IsThere (actors + 1)) (over o.times (envelopes_of_one o.to o.what)) (envelopes_of of)
      (there-one o.times o.to o.what (All-head (λ order. has_nobody actors order ≡ false) o of none))
      (orders-there of (All-tail (λ order. has_nobody actors order ≡ false) o of none))

-- ---- envelopes

module _ (actors by : ℕ) where
  pub numbered-goes : (number : ℕ) (ts : List AddressedBody) → All (IsThere actors) ts → All (Goes actors) (numbered_from by number ts)
  numbered-goes number [] all = All-nil (Goes actors)
  numbered-goes number (t ∷ ts) all =
      All-cons (Goes actors) _ (numbered_from by (number + 1) ts) (All-head (IsThere actors) t ts all)
      (numbered-goes (number + 1) ts (All-tail (IsThere actors) t ts all))

  pub told-goes : (number : ℕ) (ts : List AddressedBody) → All (IsThere actors) ts → All (Goes actors) (envelopes_from by number ts)
  told-goes number [] all = All-nil (Goes actors)
  told-goes number (t ∷ ts) all =
      All-cons (Goes actors) _ (envelopes_from by (number + 1) ts) (All-head (IsThere actors) t ts all)
      (told-goes (number + 1) ts (All-tail (IsThere actors) t ts all))

-- dead letters are among those that were answered for
module _ (P : Envelope → Type 0) where
  dead-more : (e : Envelope) (refused : Option DeadLetterReason) (ps : List SentEnvelope) → P e → All P (letters_envelopes (dead_letters ps))
      → All P (letters_envelopes (dead_letters (record { envelope = e; refused = refused } ∷ ps)))
  dead-more e None ps here rest = rest
  dead-more e (Some why) ps here rest = All-cons P e (letters_envelopes (dead_letters ps)) here rest

  pub dead-too : (ps : List SentEnvelope) → All P (accepted ps) → All P (letters_envelopes (dead_letters ps))
  dead-too [] all = All-nil P
  dead-too (p ∷ ps) all =
      dead-more p.envelope p.refused ps (All-head P p.envelope (accepted ps) all) (dead-too ps (All-tail P p.envelope (accepted ps) all))

-- ---- what actors tell

module _ (who : Identity) (gives : Moment → Reply → Type 0) (below : who.this.0 < who.actors) (above : is_guardian who ≡ false → 0 < who.this.0) where
  watches-as-actor : (before : List Entry) → AreLawful who gives before → (guardian : Bool) → is_guardian who ≡ guardian → (x : ActorId)
      → has (watching who before) x ≡ true → 0 < who.this.0
  watches-as-actor before lawful false other x watched = above other
  watches-as-actor before lawful true is x watched =
      let none : has [] x ≡ true = ap (λ l. has l x) (sym (watches-none who gives is before lawful)) ∙ watched in absurd (cc)

  pub told-there : (journal : List Entry) → AreLawful who gives journal → All (IsThere who.actors) (tells_of_journal who journal)
  unfolding AreLawful
  told-there [] lawful = All-nil (IsThere who.actors)
  told-there (e ∷ before) lawful =
      All-append (IsThere who.actors) (tells_of_journal who before) (tells (acts who before e)) (told-there before lawful.1)
      (few-acts who gives before e lawful.0 (watches-as-actor before lawful.1 (is_guardian who) refl) below).present
