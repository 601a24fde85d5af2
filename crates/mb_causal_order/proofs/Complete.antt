-- Where an entry may come after some entries of an order, its message is outstanding after more of them too.
use Rattle.std.proofs.Common.{◌≡◌, ℕ, ◌+◌, ◌<◌, ◌≤◌, Bool, true, false, ◌&&◌, ◌||◌, List, [], ◌∷◌, length, sum_by, count_by, slice_get, Some, None, refl, ap, subst, ◌∙◌, arith, ◌⊎◌, inl, inr, eq-eqb}
use Rattle.std.specs.Prelude.{◌==◌, Option}
use Rattle.std.proofs.lemmas.Bool.{ne_eqb, and_from, and_right}
use Rattle.std.proofs.lemmas.Option.{slice_get_past}
use Rattle.mb_msg.specs.declared.id.ActorId.{ActorId}
use Rattle.mb_msg.specs.declared.order.SenderOrder.{SenderOrder}
use Rattle.mb_msg.specs.declared.system.SysMsg.{SysMsg}
use Rattle.mb_msg.specs.declared.system.SysMsg.TheVariants as system
use Rattle.mb_journal.specs.Aside.{next_number}
use Rattle.mb_journal.specs.Entry.{Entry, Outcome}
use Rattle.mb_journal.specs.Entry.Entry.{Handled, System, Dropped}
use Rattle.mb_journal.specs.Identity.{Identity}
use Rattle.mb_report.specs.declared.report.ActorReport.{ActorReport}
use Rattle.mb_causal_order.specs.Merged.{AreInOrder, IsCaused}
use Rattle.mb_causal_order.specs.Places.{earliest, entries_of, entries_placed, entry_at, journal_of}
use Rattle.mb_causal_order.specs.Sent.{acts_at}
use Rattle.mb_causal_order.specs.SystemMessages.{Covers, HasAnswered, comes, is_of_new, messages_come, messages_sent, sends, sent_from_outside}
use Rattle.mb_causal_order.specs.declared.place.Place.{Place}
use Rattle.mb_causal_order.proofs.Order.{come-more, one_if}
use Rattle.mb_causal_order.specs.Coming.{MayCome, next_place}
use Rattle.mb_causal_order.proofs.ByActor.{by_actor-is, by_actor-le, by_actor-same, placed-more}
use Rattle.mb_causal_order.proofs.SameMessage.{same_message}

-- the message tells of the end of the actor of this number
abbrev pub is_died : ℕ → SysMsg → Bool
is_died a (system.Died x) = x.0 == a
is_died a _ = false

-- by it the actor of this number watches
abbrev pub is_watch : ℕ → SysMsg → Bool
is_watch a (system.Watch x) = x.0 == a
is_watch a _ = false

abbrev pub is_create : SysMsg → Bool
is_create system.Create = true
is_create _ = false

-- the actor of this number is the parent of the other, which is one of this many
abbrev pub is_id : Option ActorId → ℕ → Bool
is_id None a = false
is_id (Some x) a = x.0 == a

abbrev pub has_parent : Option Identity → ℕ → Bool
has_parent None a = false
has_parent (Some child) a = is_id child.parent a

-- the same message to the same actor
abbrev pub is_exactly : ℕ → SysMsg → ℕ → SysMsg → Bool
is_exactly a m t n = (t == a) && same_message m n

-- what is sent for a Died of x to a
abbrev pub is_for_end : List Identity → ℕ → ℕ → ℕ → SysMsg → Bool
is_for_end who a x t n = ((t == a) && is_died x n) || ((t == x) && (is_watch a n || (is_create n && has_parent (slice_get who x) a)))

-- no new message passes a test that no message passes
pub never : (t : SysMsg → Bool) (j : List Entry) (o : Option Entry) → ((m : SysMsg) → t m ≡ false) → is_of_new t j o ≡ false
never t j None none = refl
never t j (Some (Handled e r o)) none = refl
never t j (Some (System n m o)) none = and_right (n == next_number j) (t m) (none m)
never t j (Some (Dropped e)) none = refl

-- the end of an actor does not come where it has entries more
died-absent : (who : List Identity) (orders : List SenderOrder) (actors : List ActorReport) (before : List Place) (a : ℕ) (j : List Entry) (o : Option Entry) →
    ((e : Entry) → o ≡ Some e → IsCaused who actors before e) → a < length actors → entries_placed a before < length (journal_of actors a) →
    is_of_new (is_died a) j o ≡ false
died-absent who orders actors before a j None caused inside more = refl
died-absent who orders actors before a j (Some (Handled e r o)) caused inside more = refl
died-absent who orders actors before a j (Some (Dropped e)) caused inside more = refl
died-absent who orders actors before a j (Some (System n m o)) caused inside more = and_right (n == next_number j) (is_died a m) (by_message m (caused (System n m o) refl))
  where
    by_message : (m : SysMsg) → IsCaused who actors before (System n m o) → is_died a m ≡ false
    by_message system.Create ended = refl
    by_message (system.Recreate c) ended = refl
    by_message system.Suspend ended = refl
    by_message (system.Resume f) ended = refl
    by_message system.Terminate ended = refl
    by_message (system.Watch x) ended = refl
    by_message (system.Unwatch x) ended = refl
    by_message (system.Failed x c) ended = refl
    by_message (system.Died x) ended = ne_eqb x.0 a absent
      where
        absent : x.0 ≡ a → ⊥
        absent is =
            let all : entries_placed a before ≡ length (journal_of actors a) =
            subst (λ (k : ℕ). k < length actors → entries_placed k before ≡ length (journal_of actors k)) is ended inside in
            omega (arith, all, more)

pub no-end : (who : List Identity) (orders : List SenderOrder) (actors : List ActorReport) (a : ℕ) (order : List Place) →
    AreInOrder who orders actors order → a < length actors → entries_placed a order < length (journal_of actors a) →
    messages_come actors (λ t m. is_died a m) order ≡ 0
unfolding AreInOrder
no-end who orders actors a [] in_order inside more = refl
no-end who orders actors a (p ∷ before) (next, in_order) inside more =
    let placed = placed-more a p before in
    let fewer : entries_placed a before < length (journal_of actors a) = omega (arith, placed, more) in
    let so_far = no-end who orders actors a before in_order inside fewer in
    let one = come-more actors (λ t m. is_died a m) p before in
    let none = ap one_if (died-absent who orders actors before a (earliest p.index (journal_of actors p.actor)) (entry_at actors p) next.caused inside fewer) in
    omega (arith, so_far, one, none)

-- what passes one of two tests
new-either : (s t : SysMsg → Bool) (j : List Entry) (o : Option Entry) →
    one_if (is_of_new (λ m. s m || t m) j o) ≤ one_if (is_of_new s j o) + one_if (is_of_new t j o)
new-either s t j None = omega arith
new-either s t j (Some (Handled e r o)) = omega arith
new-either s t j (Some (Dropped e)) = omega arith
new-either s t j (Some (System n m o)) = by_tests (n == next_number j) (s m) (t m)
  where
    by_tests : (x y z : Bool) → one_if (x && (y || z)) ≤ one_if (x && y) + one_if (x && z)
    by_tests true true true = omega arith
    by_tests true true false = omega arith
    by_tests true false true = omega arith
    by_tests true false false = omega arith
    by_tests false y z = omega arith

pub come-either : (actors : List ActorReport) (s t : ℕ → SysMsg → Bool) (order : List Place) →
    messages_come actors (λ a m. s a m || t a m) order ≤ messages_come actors s order + messages_come actors t order
come-either actors s t [] = omega arith
come-either actors s t (p ∷ before) =
    let so_far = come-either actors s t before in
    let both = come-more actors (λ a m. s a m || t a m) p before in
    let one = come-more actors s p before in
    let other = come-more actors t p before in
    let here = new-either (s p.actor) (t p.actor) (earliest p.index (journal_of actors p.actor)) (entry_at actors p) in
    omega (arith, so_far, both, one, other, here)

module _ (who : List Identity) (orders : List SenderOrder) (actors : List ActorReport) (before order : List Place)
    (earlier : AreInOrder who orders actors before) (in_order : AreInOrder who orders actors order)
    (within : (b : ℕ) → entries_placed b order ≤ length (journal_of actors b)) (fewer : (b : ℕ) → entries_placed b before ≤ entries_placed b order) where
  pub none-outside : (b : ℕ) → length actors ≤ b → entries_placed b order ≡ 0
  none-outside b past =
      let all = within b in
      let none : length (journal_of actors b) ≡ 0 = ap (λ o. length (entries_of o)) (slice_get_past actors b past) in
      omega (arith, all, none)

  pub none-before : (b : ℕ) → length actors ≤ b → entries_placed b before ≡ 0
  none-before b past = let none = none-outside b past in let most = fewer b in omega (arith, none, most)

  -- more entries send more
  pub sent-more-entries : (test : ℕ → SysMsg → Bool) → messages_sent who actors test before ≤ messages_sent who actors test order
  sent-more-entries test =
      let f : Place → ℕ = λ p. count_by (sends test) (acts_at who actors p) in
      let one = by_actor-is who orders actors f (length actors) before earlier none-before in
      let other = by_actor-is who orders actors f (length actors) order in_order none-outside in
      let most = by_actor-le f (length actors) before order fewer in
      let is : messages_sent who actors test before ≡ sum_by f before = refl in
      let are : messages_sent who actors test order ≡ sum_by f order = refl in
      omega (arith, one, other, most, is, are)

  -- as many messages came to those that have as many entries
  pub come-same : (test : ℕ → SysMsg → Bool) →
      ((b : ℕ) → (entries_placed b before ≡ entries_placed b order) ⊎ ((m : SysMsg) → test b m ≡ false)) →
      messages_come actors test before ≡ messages_come actors test order
  come-same test each =
      let f : Place → ℕ = λ p. one_if (comes actors test p) in
      let one = by_actor-is who orders actors f (length actors) before earlier none-before in
      let other = by_actor-is who orders actors f (length actors) order in_order none-outside in
      let same = by_actor-same f (length actors) before order (λ b. by_case b (each b)) in
      let is : messages_come actors test before ≡ sum_by f before = refl in
      let are : messages_come actors test order ≡ sum_by f order = refl in
      omega (arith, one, other, same, is, are)
    where
      by_case : (b : ℕ) → (entries_placed b before ≡ entries_placed b order) ⊎ ((m : SysMsg) → test b m ≡ false) →
          (entries_placed b before ≡ entries_placed b order) ⊎ ((i : ℕ) → one_if (comes actors test (record { actor = b; index = i })) ≡ 0)
      by_case b (inl same) = inl same
      by_case b (inr none) = inr (λ i. ap one_if (never (test b) (earliest i (journal_of actors b)) (entry_at actors (record { actor = b; index = i })) none))

  module _ (owed : (ℕ → SysMsg → Bool) → ℕ) (a number : ℕ) (m : SysMsg) (o : Outcome) (inside : a < length actors) (same : entries_placed a before ≡ entries_placed a order)
      (may : MayCome who orders actors before a)
      (found : entry_at actors (next_place a before) ≡ Some (System number m o))
      (is_new : number ≡ next_number (earliest (entries_placed a before) (journal_of actors a)))
      (kept : (test covering : ℕ → SysMsg → Bool) → Covers who test covering →
      messages_sent who actors test order + sent_from_outside orders test ≤ owed test + messages_come actors covering order) where
    -- by the entry such a message comes
    comes-next : (test : ℕ → SysMsg → Bool) → test a m ≡ true → comes actors test (next_place a before) ≡ true
    comes-next test passes =
        ap (λ x. is_of_new (test a) (earliest (entries_placed a before) (journal_of actors a)) x) found
        ∙ and_from (number == next_number (earliest (entries_placed a before) (journal_of actors a))) (test a m)
        (eq-eqb number (next_number (earliest (entries_placed a before) (journal_of actors a))) is_new) passes

    -- a test whose messages came to those that have as many entries in both
    pub is-outstanding : (test covering : ℕ → SysMsg → Bool) → HasAnswered who test → Covers who test covering → test a m ≡ true →
        messages_come actors covering order ≤ messages_come actors test before → 0 < owed test
    is-outstanding test covering closed covers passes few =
        let sent = may.is_next.sent test closed in
        let come = come-more actors test (next_place a before) before in
        let one = ap one_if (comes-next test passes) in
        let most = sent-more-entries test in
        let all = kept test covering covers in
        omega (arith, sent, come, one, most, all, few)
