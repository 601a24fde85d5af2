-- What the replayed cells and the outstanding messages say, with one entry more.
use Rattle.std.proofs.Common.{◌≡◌, ℕ, ◌+◌, ◌<◌, ◌≤◌, Bool, true, false, List, [], ◌∷◌, ◌++◌, length, count_by, reverse, get_or, slice_get}
use Rattle.std.proofs.Common.{Some, refl, sym, subst, ap, ◌∙◌, eq-eqb, arith, ◌⊎◌, inl, inr}
use Rattle.std.specs.Prelude.{◌==◌, IsTrue, nat_eq, nat_lt}
use Rattle.std.proofs.lemmas.Bool.{ltb-true, eqb-true, eqb-false, cases_lt}
use Rattle.std.proofs.lemmas.List.{reverse-append, length-set, get_or-set_same, get_or-set_other}
use Rattle.std.proofs.lemmas.List.Sums.{sum_by-cons}
use Rattle.std.proofs.lemmas.Option.{same_Some, slice_get_past}
use Rattle.mb_msg.specs.declared.envelope.Envelope.{Envelope}
use Rattle.mb_msg.specs.declared.order.SenderOrder.{SenderOrder}
use Rattle.mb_msg.specs.declared.system.SysMsg.{SysMsg}
use Rattle.mb_journal.specs.Acts.{acts}
use Rattle.mb_journal.specs.Entry.{Entry}
use Rattle.mb_journal.specs.Identity.{Identity}
use Rattle.mb_cell.specs.CellView.{CellView, with_entry}
use Rattle.mb_report.specs.declared.report.ActorReport.{ActorReport}
use Rattle.mb_causal_order.specs.Merged.{AreInOrder, IsCaused, IsMerged, IsSentBefore}
use Rattle.mb_causal_order.specs.Places.{earliest, entries_of, entry_at, journal_of, entries_placed}
use Rattle.mb_causal_order.specs.Replayed.{AnswersByCells, AppliesEntry, CoversByCells, IsAccounted, IsReady, IsReplayed, IsSentFor, outstanding}
use Rattle.mb_causal_order.specs.Sent.{acts_at, acts_of_entry, sent}
use Rattle.mb_causal_order.specs.SystemMessages.{Covers, HasAnswered, comes, is_of_new, messages_come, messages_sent, sends, sent_from_outside}
use Rattle.mb_causal_order.specs.declared.outstanding.Row.{Row}
use Rattle.mb_causal_order.specs.declared.place.Place.{Place}
use Rattle.mb_causal_order.proofs.Order.{come-more, earliest-more, journal-at, length-earliest, one_if, sent-next, entries_placed-more}
use Rattle.mb_causal_order.proofs.NoCell.{no_cell}

-- what a Died may answer passes the test, by the cells' parents too
pub answers : (who : List Identity) (orders : List SenderOrder) (actors : List ActorReport) (order : List Place) (cells : List CellView) (rows : List Row)
    (test : ℕ → SysMsg → Bool) → IsAccounted who orders actors order cells rows → HasAnswered who test → AnswersByCells cells test
answers who orders actors order cells rows test accounted closed = record {
  watch = closed.watch;
  create = λ a x d within parent. closed.create a x (get_or cells x.0 d).who (accounted.each x.0 d within).same_actor parent;
}

-- what is covered by the actors is so by the cells
pub covers-by_cells : (who : List Identity) (orders : List SenderOrder) (actors : List ActorReport) (order : List Place) (cells : List CellView) (rows : List Row)
    (test covering : ℕ → SysMsg → Bool) → IsAccounted who orders actors order cells rows → Covers who test covering → CoversByCells cells test covering
covers-by_cells who orders actors order cells rows test covering accounted covers = record {
  same = covers.same;
  watch = covers.watch;
  create = λ a x d within parent. covers.create a x (get_or cells x.0 d).who (accounted.each x.0 d within).same_actor parent;
}

-- the message of an actor's next entry was sent, if it is outstanding
pub sent-for : (who : List Identity) (orders : List SenderOrder) (actors : List ActorReport) (order : List Place) (cells : List CellView) (rows : List Row)
    (a : ℕ) (e : Entry) → IsAccounted who orders actors order cells rows → a < length cells →
    ((d : CellView) (test : ℕ → SysMsg → Bool) → AnswersByCells cells test →
    one_if (is_of_new (test a) (get_or cells a d).journal (Some e)) ≤ outstanding test rows) →
    slice_get (reverse (journal_of actors a)) (entries_placed a order) ≡ Some e → IsSentFor who orders actors order a
sent-for who orders actors order cells rows a e accounted within is_sent found = λ test closed.
    let all = accounted.sent test closed in
    let one = is_sent no_cell test (answers who orders actors order cells rows test accounted closed) in
    let same : one_if (is_of_new (test a) (get_or cells a no_cell).journal (Some e))
    ≡ one_if (is_of_new (test a) (earliest (entries_placed a order) (journal_of actors a)) (slice_get (reverse (journal_of actors a)) (entries_placed a order))) =
    ap (λ j. one_if (is_of_new (test a) j (Some e))) (accounted.each a no_cell within).journal
    ∙ ap (λ o. one_if (is_of_new (test a) (earliest (entries_placed a order) (journal_of actors a)) o)) (sym found) in
    omega (arith, all, one, same)

-- how many entries of an actor stand is how many its cell has
pub entries-entries_placed : (who : List Identity) (orders : List SenderOrder) (actors : List ActorReport) (order : List Place) (cells : List CellView)
    (rows : List Row) (a : ℕ) (d : CellView) → IsAccounted who orders actors order cells rows → a < length actors →
    length (get_or cells a d).journal ≡ entries_placed a order
entries-entries_placed who orders actors order cells rows a d accounted within =
    let many = accounted.as_many in
    ap length (accounted.each a d (omega (arith, many, within))).journal ∙ length-earliest (entries_placed a order) (journal_of actors a) (accounted.within a)

-- an envelope was sent by the entries that stand, if its sender's cell says so
pub sent-at : (who : List Identity) (orders : List SenderOrder) (actors : List ActorReport) (order : List Place) (cells : List CellView) (rows : List Row)
    (e : Envelope) (n : ℕ) → IsAccounted who orders actors order cells rows →
    ((d : CellView) → n ≤ sent (Some (get_or cells e.by.0 d).who) (get_or cells e.by.0 d).journal) → IsTrue (nat_lt e.number n) →
    IsSentBefore who actors order e
sent-at who orders actors order cells rows e n accounted told passes within =
    let many = accounted.as_many in
    let cell = accounted.each e.by.0 no_cell (omega (arith, many, within)) in
    let kept = told no_cell in
    let same : sent (Some (get_or cells e.by.0 no_cell).who) (get_or cells e.by.0 no_cell).journal
    ≡ sent (slice_get who e.by.0) (earliest (entries_placed e.by.0 order) (journal_of actors e.by.0)) =
    ap (λ w. sent w (get_or cells e.by.0 no_cell).journal) (sym cell.same_actor) ∙ ap (λ l. sent (slice_get who e.by.0) l) cell.journal in
    let below : e.number < n = ltb-true e.number n passes in
    omega (arith, kept, same, below)

-- an actor has ended, if its cell has all entries of its journal
pub ended-at : (who : List Identity) (orders : List SenderOrder) (actors : List ActorReport) (order : List Place) (cells : List CellView) (rows : List Row)
    (a : ℕ) (r : ActorReport) (n m : ℕ) → IsAccounted who orders actors order cells rows → a < length actors → r ≡ get_or actors a r →
    ((d : CellView) → n ≡ length (get_or cells a d).journal) → m ≡ length r.journal.entries → IsTrue (nat_eq n m) →
    entries_placed a order ≡ length (journal_of actors a)
ended-at who orders actors order cells rows a r n m accounted within is_r is_n is_m passes =
    let past : n ≡ m = eqb-true n m passes in
    sym (entries-entries_placed who orders actors order cells rows a no_cell accounted within)
    ∙ (sym (is_n no_cell) ∙ (past ∙ (is_m ∙ ap length (sym (journal-at actors a r within is_r)))))

-- an entry that is next and whose cause stands may come next
pub ready-at : (who : List Identity) (orders : List SenderOrder) (actors : List ActorReport) (order : List Place) (cells : List CellView) (rows : List Row)
    (a : ℕ) (r : ActorReport) (e : Entry) (index : ℕ) → IsAccounted who orders actors order cells rows → a < length actors → r ≡ get_or actors a r →
    ((d : CellView) → index ≡ length (get_or cells a d).journal) → index < length r.journal.entries →
    slice_get (reverse r.journal.entries) index ≡ Some e → IsCaused who actors order e →
    ((d : CellView) (test : ℕ → SysMsg → Bool) → AnswersByCells cells test →
    one_if (is_of_new (test a) (get_or cells a d).journal (Some e)) ≤ outstanding test rows) → IsReady who orders actors order a
ready-at who orders actors order cells rows a r e index accounted within is_r is_index has_more found caused is_sent =
    let j : journal_of actors a ≡ r.journal.entries = journal-at actors a r within is_r in
    let n : index ≡ entries_placed a order = is_index no_cell ∙ entries-entries_placed who orders actors order cells rows a no_cell accounted within in
    let here : slice_get (reverse (journal_of actors a)) (entries_placed a order) ≡ Some e =
    sym (ap (λ m. slice_get (reverse (journal_of actors a)) m) n) ∙ (ap (λ l. slice_get (reverse l) index) j ∙ found) in
    let many = accounted.as_many in
    record {
      an_actor = within;
      has_more = (let same = ap length j in omega (arith, same, n, has_more));
      caused = λ x found_x. subst (λ (y : Entry). IsCaused who actors order y) (same_Some e x (sym here ∙ found_x)) caused;
      sent = sent-for who orders actors order cells rows a e accounted (omega (arith, many, within)) is_sent here;
    }

-- all entries were taken
pub merged : (who : List Identity) (orders : List SenderOrder) (actors : List ActorReport) (order : List Place) (cells : List CellView) (rows : List Row) →
    IsAccounted who orders actors order cells rows →
    ((a : ℕ) (d : CellView) → a < length actors → length (get_or cells a d).journal ≡ length (journal_of actors a)) → IsMerged who orders actors order
merged who orders actors order cells rows accounted all =
    record { in_order = accounted.in_order; all = λ a. by_place a (cases_lt a (length actors)) }
  where
    by_place : (a : ℕ) → (a < length actors) ⊎ (length actors ≤ a) → entries_placed a order ≡ length (journal_of actors a)
    by_place a (inl inside) =
        sym (entries-entries_placed who orders actors order cells rows a no_cell accounted inside) ∙ all a no_cell inside
    by_place a (inr outside) =
        let none : length (journal_of actors a) ≡ 0 = ap (λ o. length (entries_of o)) (slice_get_past actors a outside) in
        omega (arith, none, accounted.within a)

-- one journal more was taken to its end
pub all-more : (actors : List ActorReport) (cells : List CellView) (n m : ℕ) (r : ActorReport) → n < length actors → r ≡ get_or actors n r →
    ((d : CellView) → m ≡ length (get_or cells n d).journal) → m ≡ length r.journal.entries →
    ((a : ℕ) (d : CellView) → a < n → length (get_or cells a d).journal ≡ length (journal_of actors a)) →
    (a : ℕ) (d : CellView) → a < n + 1 → length (get_or cells a d).journal ≡ length (journal_of actors a)
all-more actors cells n m r inside is_r is_m is_past so_far a d within = by_place (cases_lt a n)
  where
    by_place : (a < n) ⊎ (n ≤ a) → length (get_or cells a d).journal ≡ length (journal_of actors a)
    by_place (inl before) = so_far a d before
    by_place (inr last) =
        let same : n ≡ a = omega arith in
        subst (λ (k : ℕ). length (get_or cells k d).journal ≡ length (journal_of actors k)) same
        (sym (is_m d) ∙ (is_past ∙ ap length (sym (journal-at actors n r inside is_r))))

module _ (who : List Identity) (orders : List SenderOrder) (actors : List ActorReport) (order : List Place) (cells new : List CellView)
    (rows rest : List Row) (a index : ℕ) (e : Entry) (accounted : IsAccounted who orders actors order cells rows) (within : a < length cells)
    (has_more : entries_placed a order < length (journal_of actors a)) (is : index ≡ entries_placed a order) (found : slice_get (reverse (journal_of actors a)) index ≡ Some e)
    (applies : AppliesEntry a e cells new rows rest) where
  abbrev pub place : Place
  place = record { actor = a; index = index }

  abbrev next_cell : CellView → CellView
  next_cell d = record (with_entry (get_or cells a d) e) { acts = [] }

  here : slice_get (reverse (journal_of actors a)) (entries_placed a order) ≡ Some e
  here = ap (λ n. slice_get (reverse (journal_of actors a)) n) (sym is) ∙ found

  -- the cell of the actor has the entry
  replayed-here : (d : CellView) → IsReplayed (slice_get who a) (earliest (entries_placed a (place ∷ order)) (journal_of actors a)) (next_cell d)
  replayed-here d =
      let old = accounted.each a d within in record {
        same_actor = old.same_actor;
        journal = ap (λ j. e ∷ j) old.journal
            ∙ (sym (earliest-more (entries_placed a order) (journal_of actors a) e here)
            ∙ sym (ap (λ n. earliest n (journal_of actors a)) (entries_placed-more a place order true (eq-eqb a a refl))));
        carried_out = refl;
      }

  each-more : (b : ℕ) (d : CellView) → b < length new → (same : Bool) → (a == b) ≡ same →
      IsReplayed (slice_get who b) (earliest (entries_placed b (place ∷ order)) (journal_of actors b)) (get_or new b d)
  each-more b d inside true is_same =
      subst (λ (n : ℕ). IsReplayed (slice_get who n) (earliest (entries_placed n (place ∷ order)) (journal_of actors n)) (get_or new n d)) (eqb-true a b is_same)
      (subst (λ (x : CellView). IsReplayed (slice_get who a) (earliest (entries_placed a (place ∷ order)) (journal_of actors a)) x)
      (sym (ap (λ l. get_or l a d) (applies.cells d) ∙ get_or-set_same cells a (next_cell d) d within)) (replayed-here d))
  each-more b d inside false is_same =
      let as_before : entries_placed b (place ∷ order) ≡ entries_placed b order = omega (arith, entries_placed-more b place order false is_same) in
      let as_many : length new ≡ length cells = ap length (applies.cells d) ∙ length-set cells a (next_cell d) in
      let kept : get_or new b d ≡ get_or cells b d =
      ap (λ l. get_or l b d) (applies.cells d) ∙ get_or-set_other cells a b (next_cell d) d (λ (x : b ≡ a). eqb-false a b is_same (sym x)) in
      subst (λ (n : ℕ). IsReplayed (slice_get who b) (earliest n (journal_of actors b)) (get_or new b d)) (sym as_before)
      (subst (λ (x : CellView). IsReplayed (slice_get who b) (earliest (entries_placed b order) (journal_of actors b)) x) (sym kept)
      (accounted.each b d (omega (arith, inside, as_many))))

  -- what the cell has to do is what the entry says
  acts-here : acts_at who actors place ≡ acts (get_or cells a no_cell).who (get_or cells a no_cell).journal e
  acts-here =
      let old = accounted.each a no_cell within in
      ap (λ w. acts_of_entry w (entry_at actors place) (earliest index (journal_of actors a))) old.same_actor
      ∙ (ap (λ o. acts_of_entry (Some (get_or cells a no_cell).who) o (earliest index (journal_of actors a))) found
      ∙ (ap (λ n. acts (get_or cells a no_cell).who (earliest n (journal_of actors a)) e) is
      ∙ ap (λ j. acts (get_or cells a no_cell).who j e) (sym old.journal)))

  -- the message that came by the entry
  comes-here : (test : ℕ → SysMsg → Bool) → comes actors test place ≡ is_of_new (test a) (get_or cells a no_cell).journal (Some e)
  comes-here test =
      let old = accounted.each a no_cell within in
      ap (λ o. is_of_new (test a) (earliest index (journal_of actors a)) o) found
      ∙ (ap (λ n. is_of_new (test a) (earliest n (journal_of actors a)) (Some e)) is
      ∙ ap (λ j. is_of_new (test a) j (Some e)) (sym old.journal))

  sent-more : (test : ℕ → SysMsg → Bool) → HasAnswered who test → outstanding test rest + messages_come actors test (place ∷ order)
      ≤ messages_sent who actors test (place ∷ order) + sent_from_outside orders test
  sent-more test closed =
      let old = accounted.sent test closed in
      let step = applies.outstanding no_cell test (answers who orders actors order cells rows test accounted closed) in
      let come = come-more actors test place order in
      let come_here = ap one_if (comes-here test) in
      let sent = sum_by-cons (λ (p : Place). count_by (sends test) (acts_at who actors p)) place order in
      let sent_here = ap (λ l. count_by (sends test) l) acts-here in
      omega (arith, old, step, come, come_here, sent, sent_here)

  all_sent-more : (test covering : ℕ → SysMsg → Bool) → Covers who test covering → messages_sent who actors test (place ∷ order) + sent_from_outside orders test
      ≤ outstanding test rest + messages_come actors covering (place ∷ order)
  all_sent-more test covering covers =
      let old = accounted.all_sent test covering covers in
      let step = applies.kept no_cell test covering (covers-by_cells who orders actors order cells rows test covering accounted covers) in
      let come = come-more actors covering place order in
      let come_here = ap one_if (comes-here covering) in
      let sent = sum_by-cons (λ (p : Place). count_by (sends test) (acts_at who actors p)) place order in
      let sent_here = ap (λ l. count_by (sends test) l) acts-here in
      omega (arith, old, step, come, come_here, sent, sent_here)

  within-here : entries_placed a (place ∷ order) ≤ length (journal_of actors a)
  within-here = omega (arith, entries_placed-more a place order true (eq-eqb a a refl), has_more)

  within-more : (b : ℕ) (same : Bool) → (a == b) ≡ same → entries_placed b (place ∷ order) ≤ length (journal_of actors b)
  within-more b true is_same =
      subst (λ (n : ℕ). entries_placed n (place ∷ order) ≤ length (journal_of actors n)) (eqb-true a b is_same) within-here
  within-more b false is_same = omega (arith, entries_placed-more b place order false is_same, accounted.within b)

  -- all of it
  pub accounted-more : AreInOrder who orders actors (place ∷ order) → IsAccounted who orders actors (place ∷ order) new rest
  accounted-more in_order = record {
    in_order = in_order;
    within = λ b. within-more b (a == b) refl;
    as_many = ap length (applies.cells no_cell) ∙ (length-set cells a (next_cell no_cell) ∙ accounted.as_many);
    each = λ b d inside. each-more b d inside (a == b) refl;
    sent = sent-more;
    all_sent = all_sent-more;
    no_others = accounted.no_others;
  }

-- an entry was taken, and its place was put at the end
pub taken-accounted : (who : List Identity) (orders : List SenderOrder) (actors : List ActorReport) (items new_items : List Place)
    (cells new : List CellView) (rows rest : List Row) (a : ℕ) (r : ActorReport) (e : Entry) (index : ℕ) →
    IsAccounted who orders actors (reverse items) cells rows → IsReady who orders actors (reverse items) a → r ≡ get_or actors a r →
    ((d : CellView) → index ≡ length (get_or cells a d).journal) → slice_get (reverse r.journal.entries) index ≡ Some e →
    AppliesEntry a e cells new rows rest → new_items ≡ items ++ record { actor = a; index = index } ∷ [] →
    IsAccounted who orders actors (reverse new_items) new rest
unfolding AreInOrder
taken-accounted who orders actors items new_items cells new rows rest a r e index accounted ready is_r is_index found applies grown =
    let order : List Place = reverse items in
    let j : journal_of actors a ≡ r.journal.entries = journal-at actors a r ready.an_actor is_r in
    let n : index ≡ entries_placed a order = is_index no_cell ∙ entries-entries_placed who orders actors order cells rows a no_cell accounted ready.an_actor in
    let there : slice_get (reverse (journal_of actors a)) index ≡ Some e = ap (λ l. slice_get (reverse l) index) j ∙ found in
    let flipped : reverse new_items ≡ record { actor = a; index = index } ∷ order =
    ap reverse grown ∙ reverse-append items (record { actor = a; index = index } ∷ []) in
    let many = accounted.as_many in
    let inside = ready.an_actor in
    subst (λ (l : List Place). IsAccounted who orders actors l new rest) (sym flipped)
    (accounted-more who orders actors order cells new rows rest a index e accounted (omega (arith, many, inside)) ready.has_more n there applies (
      record {
        next = n;
        caused = λ x found_x. ready.caused x (ap (λ m. slice_get (reverse (journal_of actors a)) m) (sym n) ∙ found_x);
        sent = λ test closed. sent-next who orders actors order a index test n (ready.sent test closed);
      },
      accounted.in_order,
    ))

-- before all entries
pub accounted-first : (who : List Identity) (orders : List SenderOrder) (actors : List ActorReport) (order : List Place) (cells : List CellView)
    (rows : List Row) → order ≡ [] → length cells ≡ length actors →
    ((a : ℕ) (d : CellView) → a < length cells → IsReplayed (slice_get who a) [] (get_or cells a d)) →
    ((test : ℕ → SysMsg → Bool) → outstanding test rows ≡ sent_from_outside orders test) → length who ≡ length actors →
    IsAccounted who orders actors order cells rows
unfolding AreInOrder
accounted-first who orders actors order cells rows none as_many each outside many =
    subst (λ (l : List Place). IsAccounted who orders actors l cells rows) (sym none)
    (record {
      in_order = tt;
      as_many = as_many;
      within = λ a. omega arith;
      each = each;
      sent = λ test closed. (let all = outside test in omega (arith, all));
      all_sent = λ test covering covers. (let all = outside test in omega (arith, all));
      no_others = λ x past. slice_get_past who x (omega (arith, many, past));
    })

-- no act of a cell is left
pub present : (who : List Identity) (orders : List SenderOrder) (actors : List ActorReport) (order : List Place) (cells : List CellView) (rows : List Row)
    (a : ℕ) → IsAccounted who orders actors order cells rows → a < length actors → (d : CellView) → (get_or cells a d).acts ≡ []
present who orders actors order cells rows a accounted within d =
    let many = accounted.as_many in (accounted.each a d (omega (arith, many, within))).carried_out
