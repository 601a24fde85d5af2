-- Where a message may come, something is outstanding by which it comes.
use Rattle.std.proofs.Common.{◌≡◌, ℕ, suc, ◌<◌, ◌≤◌, Bool, true, false, cond, ◌&&◌, ◌||◌, List, [], ◌∷◌, length, get_or, slice_get, Some, None, refl, sym, ap, subst, ◌∙◌, arith, ◌⊎◌, inl, inr, eq-eqb}
use Rattle.std.specs.Prelude.{◌==◌, Option}
use Rattle.std.proofs.lemmas.Bool.{cases_lt, cases_eq, eqb-true, ne_eqb, and_parts, and_from, and_left, or_left, or_right, or_cases, or_from}
use Rattle.std.proofs.lemmas.List.Sums.{sum_by-cons}
use Rattle.mb_msg.specs.declared.id.ActorId.{ActorId}
use Rattle.mb_msg.specs.declared.order.SenderOrder.{SenderOrder}
use Rattle.mb_msg.specs.declared.system.SysMsg.{SysMsg}
use Rattle.mb_msg.specs.declared.system.SysMsg.TheVariants as system
use Rattle.mb_journal.specs.Aside.{next_number}
use Rattle.mb_journal.specs.Entry.{Outcome}
use Rattle.mb_journal.specs.Entry.Entry.{System}
use Rattle.mb_journal.specs.Identity.{Identity}
use Rattle.mb_cell.specs.CellView.{CellView}
use Rattle.mb_report.specs.declared.report.ActorReport.{ActorReport}
use Rattle.mb_causal_order.specs.Coming.{MayComeBehind, next_place}
use Rattle.mb_causal_order.specs.Places.{earliest, entries_placed, entry_at, journal_of}
use Rattle.mb_causal_order.specs.Replayed.{HasNoRow, IsAccounted, IsMissing, outstanding, passing}
use Rattle.mb_causal_order.specs.SystemMessages.{Covers, HasAnswered, messages_come}
use Rattle.mb_causal_order.specs.declared.outstanding.Row.{Row}
use Rattle.mb_causal_order.specs.declared.place.Place.{Place}
use Rattle.mb_causal_order.proofs.Complete.{come-either, come-same, has_parent, is-outstanding, is_create, is_died, is_exactly, is_for_end, is_id, is_watch, no-end, none-before, none-outside}
use Rattle.mb_causal_order.proofs.Counting.{no_row}
use Rattle.mb_causal_order.proofs.NoCell.{no_cell}
use Rattle.mb_causal_order.proofs.SameMessage.{same_id, same_message, same_message-is, same_message-refl}

-- nothing is outstanding, if each row that passes is empty
pub none-outstanding : (test : ℕ → SysMsg → Bool) (rows : List Row) →
    ((k : ℕ) → k < length rows → test (get_or rows k no_row).to (get_or rows k no_row).message ≡ true → (get_or rows k no_row).count ≡ 0) →
    outstanding test rows ≡ 0
none-outstanding test [] empty = refl
none-outstanding test (r ∷ rows) empty =
    let rest = none-outstanding test rows (λ k inside passes. empty (suc k) (omega (arith, inside)) passes) in
    let both = sum_by-cons (passing test) r rows in
    let here : passing test r ≡ 0 = by_test (test r.to r.message) refl in
    omega (arith, rest, both, here)
  where
    by_test : (b : Bool) → test r.to r.message ≡ b → passing test r ≡ 0
    by_test true passes = ap (λ x. cond x r.count 0) passes ∙ empty 0 (omega arith) passes
    by_test false fails = ap (λ x. cond x r.count 0) fails

-- one that is outstanding contradicts that each row for it is empty
pub exactly-none : (rows : List Row) (to : ℕ) (m : SysMsg) → HasNoRow rows to m → outstanding (is_exactly to m) rows ≡ 0
exactly-none rows to m none =
    none-outstanding (is_exactly to m) rows (λ k inside passes.
    let both = and_parts ((get_or rows k no_row).to == to) (same_message m (get_or rows k no_row).message) passes in
    none k no_row inside (eqb-true (get_or rows k no_row).to to both.0) (sym (same_message-is m (get_or rows k no_row).message both.1)))

-- one message that is outstanding contradicts it
pub one-row : (rows : List Row) (to : ℕ) (m : SysMsg) → cond (is_exactly to m to m) 1 0 ≤ outstanding (is_exactly to m) rows → HasNoRow rows to m → ⊥
one-row rows to m some none =
    let passes : ◌≡◌ {A = ℕ} (cond (is_exactly to m to m) 1 0) 1 =
    ap (λ b. cond b 1 0) (and_from (to == to) (same_message m m) (eq-eqb to to refl) (same_message-refl m)) in
    let empty = exactly-none rows to m none in
    omega (arith, some, passes, empty)

pub is_died-is : (n : SysMsg) (x : ActorId) → is_died x.0 n ≡ true → n ≡ system.Died x
is_died-is system.Create x passes = absurd (cc)
is_died-is (system.Recreate c) x passes = absurd (cc)
is_died-is system.Suspend x passes = absurd (cc)
is_died-is (system.Resume f) x passes = absurd (cc)
is_died-is system.Terminate x passes = absurd (cc)
is_died-is (system.Watch y) x passes = absurd (cc)
is_died-is (system.Unwatch y) x passes = absurd (cc)
is_died-is (system.Failed y c) x passes = absurd (cc)
is_died-is (system.Died y) x passes = ap system.Died (same_id y x passes)

pub is_watch-is : (n : SysMsg) (x : ActorId) → is_watch x.0 n ≡ true → n ≡ system.Watch x
is_watch-is system.Create x passes = absurd (cc)
is_watch-is (system.Recreate c) x passes = absurd (cc)
is_watch-is system.Suspend x passes = absurd (cc)
is_watch-is (system.Resume f) x passes = absurd (cc)
is_watch-is system.Terminate x passes = absurd (cc)
is_watch-is (system.Watch y) x passes = ap system.Watch (same_id y x passes)
is_watch-is (system.Unwatch y) x passes = absurd (cc)
is_watch-is (system.Failed y c) x passes = absurd (cc)
is_watch-is (system.Died y) x passes = absurd (cc)

pub is_create-is : (n : SysMsg) → is_create n ≡ true → n ≡ system.Create
is_create-is system.Create passes = refl
is_create-is (system.Recreate c) passes = absurd (cc)
is_create-is system.Suspend passes = absurd (cc)
is_create-is (system.Resume f) passes = absurd (cc)
is_create-is system.Terminate passes = absurd (cc)
is_create-is (system.Watch y) passes = absurd (cc)
is_create-is (system.Unwatch y) passes = absurd (cc)
is_create-is (system.Failed y c) passes = absurd (cc)
is_create-is (system.Died y) passes = absurd (cc)

pub is_id-is : (o : Option ActorId) (x : ActorId) → is_id o x.0 ≡ true → o ≡ Some x
is_id-is None x passes = absurd (cc)
is_id-is (Some y) x passes = ap Some (same_id y x passes)

-- a Died passes for the end of its actor, and what it may answer does
end-died : (who : List Identity) (a x b y : ℕ) (m : ActorId) → m.0 ≡ y → (b == a) ≡ true → (y == x) ≡ true → is_for_end who a x b (system.Died m) ≡ true
end-died who a x b y m is to about =
    or_left ((b == a) && (m.0 == x)) ((b == x) && (is_watch a (system.Died m) || (is_create (system.Died m) && has_parent (slice_get who x) a)))
    (and_from (b == a) (m.0 == x) to (ap (λ n. n == x) is ∙ about))

end-watch : (who : List Identity) (a x y : ℕ) (b : ActorId) → (b.0 == a) ≡ true → (y == x) ≡ true → is_for_end who a x y (system.Watch b) ≡ true
end-watch who a x y b by of =
    or_right ((y == a) && is_died x (system.Watch b)) ((y == x) && (is_watch a (system.Watch b) || (is_create (system.Watch b) && has_parent (slice_get who x) a)))
    (and_from (y == x) (is_watch a (system.Watch b) || (is_create (system.Watch b) && has_parent (slice_get who x) a)) of
    (or_left (b.0 == a) (is_create (system.Watch b) && has_parent (slice_get who x) a) by))

end-create : (who : List Identity) (a x y : ℕ) → has_parent (slice_get who x) a ≡ true → (y == x) ≡ true → is_for_end who a x y system.Create ≡ true
end-create who a x y parent of =
    or_right ((y == a) && is_died x system.Create) ((y == x) && (is_watch a system.Create || (is_create system.Create && has_parent (slice_get who x) a)))
    (and_from (y == x) (is_watch a system.Create || (is_create system.Create && has_parent (slice_get who x) a)) of parent)

-- what passes for the end of an actor
died-parts : (who : List Identity) (a x b : ℕ) (y : ActorId) → is_for_end who a x b (system.Died y) ≡ true → ((b == a) ≡ true) × ((y.0 == x) ≡ true)
died-parts who a x b y passes =
    by_case (or_cases ((b == a) && (y.0 == x)) ((b == x) && (is_watch a (system.Died y) || (is_create (system.Died y) && has_parent (slice_get who x) a))) passes)
  where
    by_case : (((b == a) && (y.0 == x)) ≡ true) ⊎ (((b == x) && (is_watch a (system.Died y) || (is_create (system.Died y) && has_parent (slice_get who x) a))) ≡ true) →
        ((b == a) ≡ true) × ((y.0 == x) ≡ true)
    by_case (inl here) = and_parts (b == a) (y.0 == x) here
    by_case (inr there) =
        let both = and_parts (b == x) (is_watch a (system.Died y) || (is_create (system.Died y) && has_parent (slice_get who x) a)) there in
        let wrong : false ≡ true = both.1 in
        absurd (cc (wrong))

watch-parts : (who : List Identity) (a x y : ℕ) (b : ActorId) → is_for_end who a x y (system.Watch b) ≡ true → ((b.0 == a) ≡ true) × ((y == x) ≡ true)
watch-parts who a x y b passes =
    by_case (or_cases ((y == a) && is_died x (system.Watch b)) ((y == x) && (is_watch a (system.Watch b) || (is_create (system.Watch b) && has_parent (slice_get who x) a))) passes)
  where
    by_case : (((y == a) && is_died x (system.Watch b)) ≡ true) ⊎ (((y == x) && (is_watch a (system.Watch b) || (is_create (system.Watch b) && has_parent (slice_get who x) a))) ≡ true) →
        ((b.0 == a) ≡ true) × ((y == x) ≡ true)
    by_case (inl here) =
        let both = and_parts (y == a) (is_died x (system.Watch b)) here in
        let wrong : false ≡ true = both.1 in
        absurd (cc (wrong))
    by_case (inr there) =
        let both = and_parts (y == x) (is_watch a (system.Watch b) || (is_create (system.Watch b) && has_parent (slice_get who x) a)) there in
        (by_kind (or_cases (b.0 == a) (is_create (system.Watch b) && has_parent (slice_get who x) a) both.1), both.0)
      where
        by_kind : ((b.0 == a) ≡ true) ⊎ ((is_create (system.Watch b) && has_parent (slice_get who x) a) ≡ true) → (b.0 == a) ≡ true
        by_kind (inl is) = is
        by_kind (inr wrong) = absurd (cc (let none : false ≡ true = wrong in none))

create-parts : (who : List Identity) (a x y : ℕ) → is_for_end who a x y system.Create ≡ true → (has_parent (slice_get who x) a ≡ true) × ((y == x) ≡ true)
create-parts who a x y passes =
    by_case (or_cases ((y == a) && is_died x system.Create) ((y == x) && (is_watch a system.Create || (is_create system.Create && has_parent (slice_get who x) a))) passes)
  where
    by_case : (((y == a) && is_died x system.Create) ≡ true) ⊎ (((y == x) && (is_watch a system.Create || (is_create system.Create && has_parent (slice_get who x) a))) ≡ true) →
        (has_parent (slice_get who x) a ≡ true) × ((y == x) ≡ true)
    by_case (inl here) =
        let both = and_parts (y == a) (is_died x system.Create) here in
        let wrong : false ≡ true = both.1 in
        absurd (cc (wrong))
    by_case (inr there) =
        let both = and_parts (y == x) (is_watch a system.Create || (is_create system.Create && has_parent (slice_get who x) a)) there in
        (both.1, both.0)

-- another actor is told nothing of it
end-others : (who : List Identity) (a x b : ℕ) (n : SysMsg) → (b ≡ a → ⊥) → (b ≡ x → ⊥) → is_for_end who a x b n ≡ false
end-others who a x b n one other =
    or_from ((b == a) && is_died x n) ((b == x) && (is_watch a n || (is_create n && has_parent (slice_get who x) a)))
    (and_left (b == a) (is_died x n) (ne_eqb b a one))
    (and_left (b == x) (is_watch a n || (is_create n && has_parent (slice_get who x) a)) (ne_eqb b x other))

module _ (who : List Identity) (orders : List SenderOrder) (actors : List ActorReport) (before order : List Place) (cells : List CellView) (rows : List Row)
    (a number : ℕ) (o : Outcome) (accounted : IsAccounted who orders actors order cells rows) (inside : a < length actors)
    (may : MayComeBehind who orders actors before order a)
    (is_new : number ≡ next_number (earliest (entries_placed a before) (journal_of actors a))) where
  more-left : entries_placed a order < length (journal_of actors a)
  more-left = let more = may.may.has_more in let same = may.same in omega (arith, more, same)

  -- a message that tells of wrong end
  other-missing : (m : SysMsg) → ((x : ActorId) → m ≡ system.Died x → ⊥) → entry_at actors (next_place a before) ≡ Some (System number m o) →
      IsMissing cells rows a m → ⊥
  other-missing m other found missing =
      let test : ℕ → SysMsg → Bool = is_exactly a m in
      let covering : ℕ → SysMsg → Bool = λ t n. is_exactly a m t n || is_died a n in
      let closed : HasAnswered who test = record {
        watch = λ b x passes. absurd (other x (same_message-is m (system.Died x) (and_parts (b.0 == a) (same_message m (system.Died x)) passes).1));
        create = λ b x child is parent passes. absurd (other x (same_message-is m (system.Died x) (and_parts (b.0 == a) (same_message m (system.Died x)) passes).1));
      } in
      let covers : Covers who test covering = record {
        same = λ t n passes. or_left (is_exactly a m t n) (is_died a n) passes;
        watch = λ b x passes. or_right (is_exactly a m b.0 (system.Died x)) (x.0 == a) (and_parts (x.0 == a) (same_message m (system.Watch b)) passes).0;
        create = λ b x child is parent passes. or_right (is_exactly a m b.0 (system.Died x)) (x.0 == a) (and_parts (x.0 == a) (same_message m system.Create) passes).0;
      } in
      let passes : test a m ≡ true = and_from (a == a) (same_message m m) (eq-eqb a a refl) (same_message-refl m) in
      let come = come-either actors test (λ t n. is_died a n) order in
      let none = no-end who orders actors a order accounted.in_order inside more-left in
      let same = come-same who orders actors before order may.in_order accounted.in_order accounted.within may.fewer.each test (λ b. by_actor b (cases_eq b a)) in
      let few : messages_come actors covering order ≤ messages_come actors test before = omega (arith, come, none, same) in
      let some = is-outstanding who orders actors before order may.in_order accounted.in_order accounted.within may.fewer.each (λ t. outstanding t rows) a number m o
      inside may.same may.may found is_new accounted.all_sent test covering closed covers passes few in
      let empty = exactly-none rows a m missing.itself in
      omega (arith, some, empty)
    where
      by_actor : (b : ℕ) → (b ≡ a) ⊎ (b ≡ a → ⊥) → (entries_placed b before ≡ entries_placed b order) ⊎ ((n : SysMsg) → is_exactly a m b n ≡ false)
      by_actor b (inl is) = inl (subst (λ (k : ℕ). entries_placed k before ≡ entries_placed k order) (sym is) may.same)
      by_actor b (inr other) = inr (λ n. and_left (b == a) (same_message m n) (ne_eqb b a other))

  -- a message that tells of the end of x
  end-missing : (x : ActorId) → entry_at actors (next_place a before) ≡ Some (System number (system.Died x) o) → IsMissing cells rows a (system.Died x) → ⊥
  end-missing x found missing =
      let test : ℕ → SysMsg → Bool = is_for_end who a x.0 in
      let closed : HasAnswered who test = record {
        watch = λ b y passes. (let parts = died-parts who a x.0 b.0 y passes in end-watch who a x.0 y.0 b parts.0 parts.1);
        create = λ b y child is parent passes. (let parts = died-parts who a x.0 b.0 y passes in end-create who a x.0 y.0
            (ap (λ k. has_parent (slice_get who k) a) (sym (eqb-true y.0 x.0 parts.1)) ∙ (ap (λ k. has_parent k a) is ∙ (ap (λ k. is_id k a) parent ∙ parts.0))) parts.1);
      } in
      let covers : Covers who test test = record {
        same = λ t n passes. passes;
        watch = λ b y passes. (let parts = watch-parts who a x.0 y.0 b passes in end-died who a x.0 b.0 y.0 y refl parts.0 parts.1);
        create = λ b y child is parent passes. (let parts = create-parts who a x.0 y.0 passes in end-died who a x.0 b.0 y.0 y refl
            (sym (ap (λ k. is_id k a) parent) ∙ (sym (ap (λ k. has_parent k a) is) ∙ (ap (λ k. has_parent (slice_get who k) a) (eqb-true y.0 x.0 parts.1) ∙ parts.0))) parts.1);
      } in
      let passes : test a (system.Died x) ≡ true = end-died who a x.0 a x.0 x refl (eq-eqb a a refl) (eq-eqb x.0 x.0 refl) in
      let same = come-same who orders actors before order may.in_order accounted.in_order accounted.within may.fewer.each test
      (λ b. by_actor b (cases_eq b a) (cases_eq b x.0)) in
      let few : messages_come actors test order ≤ messages_come actors test before = omega (arith, same) in
      let some = is-outstanding who orders actors before order may.in_order accounted.in_order accounted.within may.fewer.each (λ t. outstanding t rows) a number
      (system.Died x) o inside may.same may.may found is_new accounted.all_sent test test closed covers passes few in
      let empty = none-outstanding test rows empty-row in
      omega (arith, some, empty)
    where
      all-placed : entries_placed x.0 before ≡ entries_placed x.0 order
      all-placed = by_place (cases_lt x.0 (length actors))
        where
          by_place : (x.0 < length actors) ⊎ (length actors ≤ x.0) → entries_placed x.0 before ≡ entries_placed x.0 order
          by_place (inl within) =
              let ended : entries_placed x.0 before ≡ length (journal_of actors x.0) = may.may.is_next.caused (System number (system.Died x) o) found within in
              let fewer = may.fewer.each x.0 in
              let most = accounted.within x.0 in
              omega (arith, ended, fewer, most)
          by_place (inr past) =
              let one = none-before who orders actors before order may.in_order accounted.in_order accounted.within may.fewer.each x.0 past in
              let other = none-outside who orders actors before order may.in_order accounted.in_order accounted.within may.fewer.each x.0 past in
              omega (arith, one, other)

      by_actor : (b : ℕ) → (b ≡ a) ⊎ (b ≡ a → ⊥) → (b ≡ x.0) ⊎ (b ≡ x.0 → ⊥) →
          (entries_placed b before ≡ entries_placed b order) ⊎ ((n : SysMsg) → is_for_end who a x.0 b n ≡ false)
      by_actor b (inl is) about = inl (subst (λ (k : ℕ). entries_placed k before ≡ entries_placed k order) (sym is) may.same)
      by_actor b (inr one) (inl is) = inl (subst (λ (k : ℕ). entries_placed k before ≡ entries_placed k order) (sym is) all-placed)
      by_actor b (inr one) (inr other) = inr (λ n. end-others who a x.0 b n one other)

      this : ActorId
      this = record { 0 = a }

      empty-row : (k : ℕ) → k < length rows → is_for_end who a x.0 (get_or rows k no_row).to (get_or rows k no_row).message ≡ true → (get_or rows k no_row).count ≡ 0
      empty-row k within passes =
          by_case (or_cases ((t == a) && is_died x.0 n) ((t == x.0) && (is_watch a n || (is_create n && has_parent (slice_get who x.0) a))) passes)
        where
          t : ℕ
          t = (get_or rows k no_row).to

          n : SysMsg
          n = (get_or rows k no_row).message

          by_parent : t ≡ x.0 → n ≡ system.Create → has_parent (slice_get who x.0) a ≡ true → (x.0 < length cells) ⊎ (length cells ≤ x.0) → (get_or rows k no_row).count ≡ 0
          by_parent to is parent (inl at) =
              missing.create x no_cell refl at
              (is_id-is (get_or cells x.0 no_cell).who.parent this (sym (ap (λ c. has_parent c a) (accounted.each x.0 no_cell at).same_actor) ∙ parent)) k no_row within to is
          by_parent to is parent (inr past) =
              let many = accounted.as_many in
              let none = accounted.no_others x.0 (omega (arith, many, past)) in
              let wrong : false ≡ true = sym (ap (λ c. has_parent c a) none) ∙ parent in
              absurd (cc (wrong))

          by_kind : t ≡ x.0 → (is_watch a n ≡ true) ⊎ ((is_create n && has_parent (slice_get who x.0) a) ≡ true) → (get_or rows k no_row).count ≡ 0
          by_kind to (inl watch) = missing.watch x refl k no_row within to (is_watch-is n this watch)
          by_kind to (inr create) =
              let both = and_parts (is_create n) (has_parent (slice_get who x.0) a) create in
              by_parent to (is_create-is n both.0) both.1 (cases_lt x.0 (length cells))

          by_case : (((t == a) && is_died x.0 n) ≡ true) ⊎ (((t == x.0) && (is_watch a n || (is_create n && has_parent (slice_get who x.0) a))) ≡ true) →
              (get_or rows k no_row).count ≡ 0
          by_case (inl died) =
              let both = and_parts (t == a) (is_died x.0 n) died in
              missing.itself k no_row within (eqb-true t a both.0) (is_died-is n x both.1)
          by_case (inr answered) =
              let both = and_parts (t == x.0) (is_watch a n || (is_create n && has_parent (slice_get who x.0) a)) answered in
              by_kind (eqb-true t x.0 both.0) (or_cases (is_watch a n) (is_create n && has_parent (slice_get who x.0) a) both.1)

  pub not-missing : (m : SysMsg) → entry_at actors (next_place a before) ≡ Some (System number m o) → IsMissing cells rows a m → ⊥
  not-missing system.Create found missing = other-missing system.Create (λ x is. absurd (cc (is))) found missing
  not-missing (system.Recreate c) found missing = other-missing (system.Recreate c) (λ x is. absurd (cc (is))) found missing
  not-missing system.Suspend found missing = other-missing system.Suspend (λ x is. absurd (cc (is))) found missing
  not-missing (system.Resume f) found missing = other-missing (system.Resume f) (λ x is. absurd (cc (is))) found missing
  not-missing system.Terminate found missing = other-missing system.Terminate (λ x is. absurd (cc (is))) found missing
  not-missing (system.Watch y) found missing = other-missing (system.Watch y) (λ x is. absurd (cc (is))) found missing
  not-missing (system.Unwatch y) found missing = other-missing (system.Unwatch y) (λ x is. absurd (cc (is))) found missing
  not-missing (system.Failed y c) found missing = other-missing (system.Failed y c) (λ x is. absurd (cc (is))) found missing
  not-missing (system.Died x) found missing = end-missing x found missing
