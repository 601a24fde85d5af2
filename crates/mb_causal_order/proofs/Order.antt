-- An order with one place more.
use Rattle.std.proofs.Common.{◌≡◌, ℕ, ◌+◌, ◌<◌, ◌≤◌, Bool, cond, List, [], ◌∷◌, length, take, reverse, count_by}
use Rattle.std.proofs.Common.{slice_get, get_or, Some, refl, ap, ◌∙◌, arith}
use Rattle.std.specs.Prelude.{◌==◌}
use Rattle.std.proofs.lemmas.List.{reverse-append, length-reverse, length-take-le, take_more}
use Rattle.std.proofs.lemmas.List.Sums.{sum_by-append}
use Rattle.std.proofs.lemmas.Option.{slice_get_within, get_or_from_slice_get, slice_get_read}
use Rattle.mb_msg.specs.declared.order.SenderOrder.{SenderOrder}
use Rattle.mb_msg.specs.declared.system.SysMsg.{SysMsg}
use Rattle.mb_journal.specs.Entry.{Entry}
use Rattle.mb_journal.specs.Identity.{Identity}
use Rattle.mb_report.specs.declared.report.ActorReport.{ActorReport}
use Rattle.mb_causal_order.specs.Places.{earliest, entries_of, is_of, journal_of, entries_placed}
use Rattle.mb_causal_order.specs.SystemMessages.{comes, is_of_new, messages_come, messages_sent, sent_from_outside}
use Rattle.mb_causal_order.specs.declared.place.Place.{Place}

-- 1 where it is so
abbrev pub one_if : Bool → ℕ
one_if b = cond b 1 0

pub entries_placed-more : (a : ℕ) (p : Place) (order : List Place) (b : Bool) → (p.actor == a) ≡ b →
    entries_placed a (p ∷ order) ≡ entries_placed a order + cond b 1 0
entries_placed-more a p order b is =
    let both : entries_placed a (p ∷ order) ≡ count_by (is_of a) (p ∷ []) + entries_placed a order =
    sum_by-append (λ (x : Place). cond (is_of a x) 1 0) (p ∷ []) order in
    let here : count_by (is_of a) (p ∷ []) ≡ 0 + cond b 1 0 = ap (λ x. 0 + cond x 1 0) is in
    omega (arith, here, both)

-- how many messages came, with one place more
pub come-more : (actors : List ActorReport) (test : ℕ → SysMsg → Bool) (p : Place) (order : List Place) →
    messages_come actors test (p ∷ order) ≡ messages_come actors test order + one_if (comes actors test p)
come-more actors test p order =
    let both : messages_come actors test (p ∷ order) ≡ count_by (comes actors test) (p ∷ []) + messages_come actors test order =
    sum_by-append (λ (x : Place). one_if (comes actors test x)) (p ∷ []) order in
    omega (arith, both)

-- those that came by the next entry of an actor are among those that were sent
pub sent-next : (who : List Identity) (orders : List SenderOrder) (actors : List ActorReport) (order : List Place) (a index : ℕ)
    (test : ℕ → SysMsg → Bool) → index ≡ entries_placed a order →
    messages_come actors test order
    + one_if (is_of_new (test a) (earliest (entries_placed a order) (journal_of actors a)) (slice_get (reverse (journal_of actors a)) (entries_placed a order)))
    ≤ messages_sent who actors test order + sent_from_outside orders test →
    messages_come actors test (record { actor = a; index = index } ∷ order) ≤ messages_sent who actors test order + sent_from_outside orders test
sent-next who orders actors order a index test is sent =
    let more = come-more actors test (record { actor = a; index = index }) order in
    let here = ap (λ n. one_if (is_of_new (test a) (earliest n (journal_of actors a)) (slice_get (reverse (journal_of actors a)) n))) is in
    omega (arith, more, here, sent)

-- the journal of an actor is that of its report
pub journal-at : (actors : List ActorReport) (a : ℕ) (r : ActorReport) → a < length actors → r ≡ get_or actors a r →
    journal_of actors a ≡ r.journal.entries
journal-at actors a r within is = ap entries_of (slice_get_read actors (length actors) a r refl within is)

pub length-earliest : (n : ℕ) (journal : List Entry) → n ≤ length journal → length (earliest n journal) ≡ n
length-earliest n journal within =
    length-reverse (take n (reverse journal))
    ∙ length-take-le n (reverse journal) (let same = length-reverse journal in omega (arith, same))

-- one entry more
pub earliest-more : (n : ℕ) (journal : List Entry) (e : Entry) → slice_get (reverse journal) n ≡ Some e →
    earliest (n + 1) journal ≡ e ∷ earliest n journal
earliest-more n journal e found =
    let xs = reverse journal in
    ap reverse (take_more xs n e (slice_get_within xs n e found))
    ∙ (reverse-append (take n xs) (get_or xs n e ∷ []) ∙ ap (λ x. x ∷ earliest n journal) (get_or_from_slice_get xs n e e found))
