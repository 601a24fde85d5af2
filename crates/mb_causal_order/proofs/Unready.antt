-- Where an entry may come behind others, the replay lets it come; and so there is no order where it lets none.
use Rattle.std.proofs.Common.{◌≡◌, ℕ, zero, suc, ◌+◌, ◌<◌, ◌≤◌, ◌^◌, true, false, cond, List, [], ◌∷◌, ◌++◌, length, reverse, get_or, slice_get, Some, None, refl, sym, ap, subst, ◌∙◌, add-one, arith, ◌⊎◌, inl, inr}
use Rattle.std.specs.Prelude.{◌==◌, All, Option}
use Rattle.std.proofs.lemmas.Bool.{cases_lt, cases_eq, eqb-false}
use Rattle.std.proofs.lemmas.List.{length-reverse, reverse-append}
use Rattle.std.proofs.lemmas.List.Elements.{All-get_or}
use Rattle.std.proofs.lemmas.Option.{slice_get_cases, slice_get_past}
use Rattle.mb_msg.specs.declared.envelope.Envelope.{Envelope}
use Rattle.mb_msg.specs.declared.order.SenderOrder.{SenderOrder}
use Rattle.mb_journal.specs.Aside.{next_number}
use Rattle.mb_journal.specs.Entry.{Entry}
use Rattle.mb_journal.specs.Entry.Entry.{Handled, System, Dropped}
use Rattle.mb_journal.specs.Identity.{Identity}
use Rattle.mb_journal.specs.JournalView.{first_kept, first_of_last}
use Rattle.mb_cell.specs.CellView.{CellView}
use Rattle.mb_report.specs.declared.report.ActorReport.{ActorReport}
use Rattle.mb_causal_order.specs.Coming.{AreFewer, IsByLowest, MayCome, MayComeBehind, next_place}
use Rattle.mb_causal_order.specs.Merged.{AreInOrder, IsCaused, IsMerged, IsNext, IsSentBefore}
use Rattle.mb_causal_order.specs.Places.{earliest, entries_of, entries_placed, entry_at, journal_of}
use Rattle.mb_causal_order.specs.Replayed.{IsAccounted, IsUnsent}
use Rattle.mb_causal_order.specs.Sent.{sent}
use Rattle.mb_causal_order.specs.declared.outstanding.Row.{Row}
use Rattle.mb_causal_order.specs.declared.place.Place.{Place}
use Rattle.mb_causal_order.proofs.Accounted.{entries-entries_placed}
use Rattle.mb_causal_order.proofs.ByActor.{placed-here, placed-more, placed-other}
use Rattle.mb_causal_order.proofs.Missing.{not-missing}
use Rattle.mb_causal_order.proofs.NoCell.{no_cell}
use Rattle.mb_causal_order.proofs.Order.{earliest-more, journal-at}

-- one entry more sends no fewer envelopes
sent-cons : (w : Option Identity) (e : Entry) (before : List Entry) → sent w before ≤ sent w (e ∷ before)
unfolding sent
sent-cons w e before = omega arith

sent-next : (w : Option Identity) (journal : List Entry) (m : ℕ) → m < length journal → sent w (earliest m journal) ≤ sent w (earliest (suc m) journal)
sent-next w journal m inside = by_read (slice_get_cases (reverse journal) m).1
  where
    by_read : ((x : Entry) × (m < length (reverse journal)) × (slice_get (reverse journal) m ≡ Some x) × (get_or (reverse journal) m x ≡ x))
        ⊎ ((length (reverse journal) ≤ m) × (slice_get (reverse journal) m ≡ None)) →
        sent w (earliest m journal) ≤ sent w (earliest (suc m) journal)
    by_read (inl (e, within, found, is)) =
        subst (λ (j : List Entry). sent w (earliest m journal) ≤ sent w j)
        (sym (earliest-more m journal e found) ∙ ap (λ k. earliest k journal) (add-one m)) (sent-cons w e (earliest m journal))
    by_read (inr (past, none)) = let many = length-reverse journal in absurd (omega (arith, past, many, inside))

-- more entries send more envelopes
pub sent-earliest : (w : Option Identity) (journal : List Entry) (n m : ℕ) → n ≤ m → m ≤ length journal →
    sent w (earliest n journal) ≤ sent w (earliest m journal)
sent-earliest w journal n zero below inside =
    let none : n ≡ 0 = omega (arith, below) in
    subst (λ (k : ℕ). sent w (earliest k journal) ≤ sent w (earliest 0 journal)) (sym none) (omega arith)
sent-earliest w journal n (suc m) below inside = by_place (λ before. sent-earliest w journal n m before (omega (arith, inside))) (cases_lt m n)
  where
    by_place : (n ≤ m → sent w (earliest n journal) ≤ sent w (earliest m journal)) → (m < n) ⊎ (n ≤ m) → sent w (earliest n journal) ≤ sent w (earliest (suc m) journal)
    by_place most_of (inl last) =
        let same : n ≡ suc m = omega (arith, below, last) in
        subst (λ (k : ℕ). sent w (earliest k journal) ≤ sent w (earliest (suc m) journal)) (sym same) (omega arith)
    by_place most_of (inr before) =
        let so_far = most_of before in
        let one = sent-next w journal m (omega (arith, inside)) in
        omega (arith, so_far, one)

-- an envelope that was sent by fewer entries is among those that its sender's cell has told
pub unsent-at : (who : List Identity) (orders : List SenderOrder) (actors : List ActorReport) (before order : List Place) (cells : List CellView) (rows : List Row)
    (e : Envelope) (n : ℕ) → IsAccounted who orders actors order cells rows → AreFewer before order → e.by.0 < length actors → e.number < 2 ^ 64 →
    ((d : CellView) → (get_or cells e.by.0 d).acts ≡ [] → (sent (Some (get_or cells e.by.0 d).who) (get_or cells e.by.0 d).journal ≤ n) ⊎ (2 ^ 64 ≤ n)) →
    n ≤ e.number → IsSentBefore who actors before e → ⊥
unsent-at who orders actors before order cells rows e n accounted fewer inside small told passes was_sent =
    let many = accounted.as_many in
    let cell = accounted.each e.by.0 no_cell (omega (arith, many, inside)) in
    let number = was_sent inside in
    let more = sent-earliest (slice_get who e.by.0) (journal_of actors e.by.0) (entries_placed e.by.0 before) (entries_placed e.by.0 order) (fewer.each e.by.0)
    (accounted.within e.by.0) in
    let same : sent (Some (get_or cells e.by.0 no_cell).who) (get_or cells e.by.0 no_cell).journal
    ≡ sent (slice_get who e.by.0) (earliest (entries_placed e.by.0 order) (journal_of actors e.by.0)) =
    ap (λ w. sent w (get_or cells e.by.0 no_cell).journal) (sym cell.same_actor) ∙ ap (λ l. sent (slice_get who e.by.0) l) cell.journal in
    by_case (told no_cell cell.carried_out) number more same
  where
    by_case : (sent (Some (get_or cells e.by.0 no_cell).who) (get_or cells e.by.0 no_cell).journal ≤ n) ⊎ (2 ^ 64 ≤ n) →
        e.number < sent (slice_get who e.by.0) (earliest (entries_placed e.by.0 before) (journal_of actors e.by.0)) →
        sent (slice_get who e.by.0) (earliest (entries_placed e.by.0 before) (journal_of actors e.by.0))
        ≤ sent (slice_get who e.by.0) (earliest (entries_placed e.by.0 order) (journal_of actors e.by.0)) →
        sent (Some (get_or cells e.by.0 no_cell).who) (get_or cells e.by.0 no_cell).journal
        ≡ sent (slice_get who e.by.0) (earliest (entries_placed e.by.0 order) (journal_of actors e.by.0)) → ⊥
    by_case (inl all) number more same = omega (arith, all, number, more, same, passes)
    by_case (inr great) number more same = omega (arith, great, small, passes)

-- an actor that is not past has entries left
pub within-at : (who : List Identity) (orders : List SenderOrder) (actors : List ActorReport) (order : List Place) (cells : List CellView) (rows : List Row)
    (a : ℕ) (r : ActorReport) (n m : ℕ) → IsAccounted who orders actors order cells rows → a < length actors → r ≡ get_or actors a r →
    ((d : CellView) → n ≡ length (get_or cells a d).journal) → m ≡ length r.journal.entries → (n == m) ≡ false →
    (a < length actors) × (entries_placed a order < length (journal_of actors a))
within-at who orders actors order cells rows a r n m accounted inside is_r is_n is_m fails =
    let placed = is_n no_cell ∙ entries-entries_placed who orders actors order cells rows a no_cell accounted inside in
    let all = is_m ∙ ap length (sym (journal-at actors a r inside is_r)) in
    let most = accounted.within a in
    (inside, by_order (cases_lt (entries_placed a order) (length (journal_of actors a))) placed all most)
  where
    by_order : (entries_placed a order < length (journal_of actors a)) ⊎ (length (journal_of actors a) ≤ entries_placed a order) →
        n ≡ entries_placed a order → m ≡ length (journal_of actors a) → entries_placed a order ≤ length (journal_of actors a) →
        entries_placed a order < length (journal_of actors a)
    by_order (inl before) placed all most = before
    by_order (inr past) placed all most = absurd (eqb-false n m fails (omega (arith, placed, all, most, past)))

module _ (who : List Identity) (orders : List SenderOrder) (actors : List ActorReport) (before order : List Place) (cells : List CellView) (rows : List Row)
    (a : ℕ) (r : ActorReport) (index : ℕ) (accounted : IsAccounted who orders actors order cells rows) (inside : a < length actors) (is_r : r ≡ get_or actors a r)
    (is_index : (d : CellView) → index ≡ length (get_or cells a d).journal) (may : MayComeBehind who orders actors before order a) where
  index-placed : index ≡ entries_placed a order
  index-placed = is_index no_cell ∙ entries-entries_placed who orders actors order cells rows a no_cell accounted inside

  -- the actor has an entry at this place, which its journal keeps
  pub entry-there : All (λ (x : ActorReport). x.journal.retention.keeps_all ≡ true) actors →
      (index < first_kept r.journal) ⊎ (length r.journal.entries ≤ index) → ⊥
  entry-there kept (inl gone) =
      let keeps : r.journal.retention.keeps_all ≡ true =
      ap (λ (x : ActorReport). x.journal.retention.keeps_all) is_r ∙ All-get_or (λ (x : ActorReport). x.journal.retention.keeps_all ≡ true) actors a r inside kept in
      let first : first_kept r.journal ≡ 0 = ap (λ b. cond b 0 (first_of_last r.journal.retention.last (length r.journal.entries))) keeps in
      omega (arith, gone, first)
  entry-there kept (inr past) =
      let placed = index-placed in
      let more = may.may.has_more in
      let same = may.same in
      let all = ap length (journal-at actors a r inside is_r) in
      omega (arith, past, placed, more, same, all)

  -- what the entry at this place is in the order before
  pub entry-before : (e : Entry) → slice_get (reverse r.journal.entries) index ≡ Some e → entry_at actors (next_place a before) ≡ Some e
  entry-before e found =
      let at : entries_placed a before ≡ index = may.same ∙ sym index-placed in
      ap (λ n. slice_get (reverse (journal_of actors a)) n) at ∙ (ap (λ l. slice_get (reverse l) index) (journal-at actors a r inside is_r) ∙ found)

  -- its message is outstanding
  pub sent-there : (e : Entry) → slice_get (reverse r.journal.entries) index ≡ Some e →
      ((d : CellView) → IsUnsent cells rows a (get_or cells a d).journal e) → ⊥
  sent-there (Handled e reading o) found unsent = unsent no_cell
  sent-there (Dropped e) found unsent = unsent no_cell
  sent-there (System number m o) found unsent =
      let many = accounted.as_many in
      let journal = (accounted.each a no_cell (omega (arith, many, inside))).journal in
      let parts = unsent no_cell in
      not-missing who orders actors before order cells rows a number o accounted inside may
      (parts.0 ∙ (ap next_number journal ∙ ap (λ n. next_number (earliest n (journal_of actors a))) (sym may.same))) m (entry-before (System number m o) found) parts.1

  -- and it is caused
  pub caused-there : (e : Entry) → slice_get (reverse r.journal.entries) index ≡ Some e → (IsCaused who actors before e → ⊥) → ⊥
  caused-there e found uncaused = uncaused (may.may.is_next.caused e (entry-before e found))

-- the next entry after an order may come behind itself
pub behind-itself : (who : List Identity) (orders : List SenderOrder) (actors : List ActorReport) (order : List Place) (b : ℕ) →
    AreInOrder who orders actors order → MayCome who orders actors order b → MayComeBehind who orders actors order order b
behind-itself who orders actors order b in_order may = record {
  in_order = in_order;
  fewer = record { each = λ x. omega arith };
  same = refl;
  may = may;
}

-- one place more of the lowest actor
pub lowest-more : (who : List Identity) (orders : List SenderOrder) (actors : List ActorReport) (items new : List Place) (p : Place) →
    new ≡ items ++ p ∷ [] → ((b : ℕ) → b < p.actor → MayCome who orders actors (reverse items) b → ⊥) → IsByLowest who orders actors (reverse items) →
    IsByLowest who orders actors (reverse new)
unfolding IsByLowest
lowest-more who orders actors items new p grown lowest so_far =
    let flipped : reverse new ≡ p ∷ reverse items = ap reverse grown ∙ reverse-append items (p ∷ []) in
    subst (λ (l : List Place). IsByLowest who orders actors l) (sym flipped) (lowest, so_far)

pub lowest-first : (who : List Identity) (orders : List SenderOrder) (actors : List ActorReport) (order : List Place) → order ≡ [] →
    IsByLowest who orders actors order
unfolding IsByLowest
lowest-first who orders actors order none = subst (λ (l : List Place). IsByLowest who orders actors l) (sym none) tt

-- where no entry may come, each right order has no more entries than stand
module _ (who : List Identity) (orders : List SenderOrder) (actors : List ActorReport) (order : List Place)
    (stuck : (before : List Place) (b : ℕ) → b < length actors → MayComeBehind who orders actors before order b → ⊥) where
  is-actor : (b n : ℕ) → n < length (journal_of actors b) → (b < length actors) ⊎ (length actors ≤ b) → b < length actors
  is-actor b n more (inl inside) = inside
  is-actor b n more (inr past) =
      let none : length (journal_of actors b) ≡ 0 = ap (λ o. length (entries_of o)) (slice_get_past actors b past) in
      absurd (omega (arith, none, more))

  placed-one : (p : Place) (before : List Place) → AreInOrder who orders actors before → IsNext who orders actors before p →
      entries_placed p.actor (p ∷ before) ≤ length (journal_of actors p.actor) → AreFewer before order →
      entries_placed p.actor (p ∷ before) ≤ entries_placed p.actor order
  placed-one p before in_order next most fewer =
      by_place (cases_lt (entries_placed p.actor before) (entries_placed p.actor order))
    where
      one : entries_placed p.actor (p ∷ before) ≡ entries_placed p.actor before + 1
      one = placed-here p before

      more : entries_placed p.actor before < length (journal_of actors p.actor)
      more = omega (arith, one, most)

      by_place : (entries_placed p.actor before < entries_placed p.actor order) ⊎ (entries_placed p.actor order ≤ entries_placed p.actor before) →
          entries_placed p.actor (p ∷ before) ≤ entries_placed p.actor order
      by_place (inl less) = omega (arith, one, less)
      by_place (inr past) =
          let same : entries_placed p.actor before ≡ entries_placed p.actor order = (let least = fewer.each p.actor in omega (arith, past, least)) in
          let here : p ≡ next_place p.actor before = ap (λ i. let made : Place = record { actor = p.actor; index = i } in made) next.next in
          absurd (stuck before p.actor (is-actor p.actor (entries_placed p.actor before) more (cases_lt p.actor (length actors))) (record {
            in_order = in_order;
            fewer = fewer;
            same = same;
            may = record { has_more = more; is_next = subst (λ (q : Place). IsNext who orders actors before q) here next };
          }))

  pub placed-all : (places : List Place) → AreInOrder who orders actors places → ((b : ℕ) → entries_placed b places ≤ length (journal_of actors b)) →
      AreFewer places order
  unfolding AreInOrder
  placed-all [] in_order most = record { each = λ b. omega arith }
  placed-all (p ∷ before) (next, in_order) most =
      let fewer = placed-all before in_order (λ b. let more = placed-more b p before in let all = most b in omega (arith, more, all)) in
      record { each = λ b. by_actor fewer (placed-one p before in_order next (most p.actor) fewer) b (cases_eq b p.actor) }
    where
      by_actor : AreFewer before order → entries_placed p.actor (p ∷ before) ≤ entries_placed p.actor order → (b : ℕ) → (b ≡ p.actor) ⊎ (b ≡ p.actor → ⊥) →
          entries_placed b (p ∷ before) ≤ entries_placed b order
      by_actor fewer here b (inl is) = subst (λ (k : ℕ). entries_placed k (p ∷ before) ≤ entries_placed k order) (sym is) here
      by_actor fewer here b (inr other) = let same = placed-other b p before other in let least = fewer.each b in omega (arith, same, least)

  -- so there is no right order of all entries, unless all stand
  pub no-order : (cells : List CellView) (rows : List Row) → IsAccounted who orders actors order cells rows →
      (((a : ℕ) (d : CellView) → a < length actors → length (get_or cells a d).journal ≡ length (journal_of actors a)) → ⊥) →
      (places : List Place) → IsMerged who orders actors places → ⊥
  no-order cells rows accounted left places merged =
      let fewer = placed-all places merged.in_order (λ b. let all = merged.all b in omega (arith, all)) in
      left (λ a d inside.
      let all = merged.all a in
      let least = fewer.each a in
      let most = accounted.within a in
      let has = entries-entries_placed who orders actors order cells rows a d accounted inside in
      omega (arith, all, least, most, has))
