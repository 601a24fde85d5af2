-- What the senders bring to the end.
use Rattle.std.proofs.Common.{◌≡◌, ◌⊎◌, inl, inr, ℕ, zero, suc, ◌+◌, ◌-◌, ◌<◌, ◌≤◌, List, [], ◌∷◌, ◌++◌, length, map, refl, sym, ap, ◌∙◌, subst, Some}
use Rattle.std.proofs.Common.{arith, drop}
use Rattle.std.specs.Prelude.{All, Bool, IsPermutation, ◌&&◌, ◌||◌, slice_get, true, false}
use Rattle.std.specs.List.{list_any}
use Rattle.std.proofs.lemmas.Bool.{cases_lt}
use Rattle.std.proofs.lemmas.List.Elements.{All-head, All-tail, All-weaker}
use Rattle.std.proofs.lemmas.List.Folds.{list_any-append}
use Rattle.std.proofs.lemmas.List.Sorted.{All-permutation}
use Rattle.std.proofs.lemmas.Option.{same_Some, slice_get_within}
use Rattle.std.specs.Global.{Box}
use Rattle.mb_msg.specs.declared.dead_letter.DeadLetter.{DeadLetter}
use Rattle.mb_msg.specs.declared.dead_letter.DeadLetterReason.{DeadLetterReason}
use Rattle.mb_msg.specs.declared.dead_letter.DeadLetterReason.TheVariants as why
use Rattle.mb_journal.specs.Accepted.{dead_letters}
use Rattle.mb_gate.specs.Accessors.{first_home}
use Rattle.mb_gate.specs.Rule.{IsPart}
use Rattle.mb_gate.specs.View.{Observation}
use Rattle.mb_gate.specs.declared.gates.Gates.{Gates}
use Rattle.mb_home.specs.Contents.{Contents}
use Rattle.mb_home.specs.Directory.{DirectoryEntry}
use Rattle.mb_queue.specs.Passes.{SendPassView}
use Rattle.mb_send.specs.Bounded.{are_of_bounded}
use Rattle.mb_send.specs.Sends.{AreRoutes, receiving_queues}
use Rattle.mb_send.specs.SeenClosed.{were_seen_closed, finds_closed, has_seen_closed, may_be_dead}
use Rattle.mb_send.specs.declared.send_log.SendLog.{SendLog}
use Rattle.mb_build.specs.Numbers.{numbers}
use Rattle.mb_shutdown.specs.OutsideSenders.{AreFinishedSenders, HasKnownSenders, IsSenderAmong}
use Rattle.mb_shutdown.specs.declared.finished_sender.FinishedSender.{FinishedSender}
use Rattle.mb_shutdown.proofs.Gathering.{number-inside, number-outside}
use Rattle.mb_shutdown.proofs.Lists.{alike, each-place, length-mapped, mapped, there}
use Rattle.mb_system.specs.Belonging.{senders_numbers}
use Rattle.mb_system.specs.KnownSenders.{AreKnown, IsKnown}
use Rattle.mb_system.specs.Members.{IsSenderOf, OutsideSender}
use Rattle.mb_shutdown.specs.Belonging.{AreAnswers, AreSendPasses, brings, brought}
use Rattle.mb_shutdown.proofs.Gathered.{seen_by_sender}
use Rattle.mb_shutdown.proofs.Parts.{AllSeen}

-- ---- dead letters that are was_seen_closed for

and-both : (a b : Bool) → a ≡ true → b ≡ true → (a && b) ≡ true
and-both a b x y = λ i. x i && y i

and-left : (a b : Bool) → (a && b) ≡ true → a ≡ true
and-left true b both = refl
and-left false b both = both

and-right : (a b : Bool) → (a && b) ≡ true → b ≡ true
and-right true b both = both
and-right false b both = let e : false ≡ true = both in absurd (cc)

or-true : (b : Bool) → (b || true) ≡ true
or-true true = refl
or-true false = refl

seen-in : (id : ℕ) (part log : List Observation) → IsPart part log → has_seen_closed part id ≡ true → has_seen_closed log id ≡ true
seen-in id part log is seen =
    ap (list_any (finds_closed id)) is.joined ∙ list_any-append (finds_closed id) is.before (part ++ is.after)
    ∙ ap (λ b. list_any (finds_closed id) is.before || b)
    (list_any-append (finds_closed id) part is.after ∙ ap (λ b. b || list_any (finds_closed id) is.after) seen)
    ∙ or-true (list_any (finds_closed id) is.before)

may-in : (a b : Bool) (w : DeadLetterReason) → (a ≡ true → b ≡ true) → may_be_dead a w ≡ true → may_be_dead b w ≡ true
may-in a b why.Closed more may = more may
may-in a b why.Full more may = refl
may-in a b why.NoMemory more may = refl
may-in a b why.Cleaned more may = refl

was_seen_closed-in : (part log : List Observation) (dead : List DeadLetter) → IsPart part log → were_seen_closed part dead ≡ true → were_seen_closed log dead ≡ true
was_seen_closed-in part log [] is all = refl
was_seen_closed-in part log (d ∷ dead) is all =
    let to = d.envelope.to.0 in
    let this = may_be_dead (has_seen_closed part to) d.why in
    and-both (may_be_dead (has_seen_closed log to) d.why) (were_seen_closed log dead)
    (may-in (has_seen_closed part to) (has_seen_closed log to) d.why (seen-in to part log is) (and-left this (were_seen_closed part dead) all))
    (was_seen_closed-in part log dead is (and-right this (were_seen_closed part dead) all))

-- ---- the senders outside

number-at : (first count i : ℕ) → i < count → slice_get (numbers first count) i ≡ Some (first + i)
number-at first zero i lt = absurd (omega (arith, lt))
number-at first (suc count) zero lt = ap Some (omega arith)
number-at first (suc count) (suc i) lt = number-at (first + 1) count i (omega (arith, lt)) ∙ ap Some (omega arith)

-- what came of each sender, in their order, is what it brought
abbrev pub AreBrought : List OutsideSender → List FinishedSender → Type 0
AreBrought senders outside =
    map brought outside ≡ map brings senders

pub outsiders : (gates : Gates (Box Contents)) (log : List Observation) (place : ℕ) (senders : List OutsideSender) (outside : List FinishedSender)
    → All (λ (s : OutsideSender). IsSenderOf gates s) senders → AllSeen seen_by_sender senders log
    → All (λ (s : OutsideSender). 64 ≤ s.send_log.by.0) senders → senders_numbers senders ≡ numbers place (length senders)
    → AreBrought senders outside → AreFinishedSenders (first_home gates).value.directory log (64 + place) outside
outsiders gates log place [] [] ours seen least numbered same_all = tt
outsiders gates log place [] (o ∷ outside) ours seen least numbered same_all = absurd (let e = ap length same_all in omega (arith, e))
outsiders gates log place (s ∷ senders) [] ours seen least numbered same_all = tt
outsiders gates log place (s ∷ senders) (o ∷ outside) ours seen least numbered same_all =
    let one = All-head (λ (s : OutsideSender). IsSenderOf gates s) s senders ours in
    let low = All-head (λ (s : OutsideSender). 64 ≤ s.send_log.by.0) s senders least in
    let part = All-head (λ (s : OutsideSender). IsPart (seen_by_sender s) log) s senders seen in
    let number : s.send_log.by.0 - 64 ≡ place = same_Some (s.send_log.by.0 - 64) place (ap (λ l. slice_get l 0) numbered) in
    let same = alike brought brings (o ∷ outside)
    (s ∷ senders) 0 o s same_all refl refl in
    let by : o.send_log.by.0 ≡ s.send_log.by.0 = ap (λ (p : List SendPassView × SendLog). p.1.by.0) same in
    let rest = outsiders gates log (place + 1) senders outside (All-tail (λ (s : OutsideSender). IsSenderOf gates s) s senders ours)
    (All-tail (λ (s : OutsideSender). IsPart (seen_by_sender s) log) s senders seen)
    (All-tail (λ (s : OutsideSender). 64 ≤ s.send_log.by.0) s senders least) (ap (drop 1) numbered) (ap (drop 1) same_all) in (
      record {
        number_is = omega (arith, by, number, low);
        queues = ap (λ (p : List SendPassView × SendLog). receiving_queues p.0) same ∙ one.queues;
        routes = subst (λ (p : List SendPassView × SendLog). AreRoutes p.1.by.0 p.1.posted p.0) (sym same) s.routes;
        was_seen_closed = subst (λ (p : List SendPassView × SendLog). were_seen_closed log (dead_letters p.1.posted) ≡ true) (sym same)
            (was_seen_closed-in (seen_by_sender s) log (dead_letters s.send_log.posted) part s.was_seen_closed);
        bounded = subst (λ (p : List SendPassView × SendLog). are_of_bounded (receiving_queues p.0) (dead_letters p.1.posted) ≡ true) (sym same)
            s.bounded;
      },
      subst (λ (n : ℕ). AreFinishedSenders (first_home gates).value.directory log n outside)
          (let sum : 64 + (place + 1) ≡ 64 + place + 1 = omega arith in sum) rest,
    )

-- what each brought is listed in its place
module _ {Y : Type 0} (f : List SendPassView × SendLog → Y) (many : ℕ) (was now : List OutsideSender) (outside : List FinishedSender)
    (count : length now ≡ many) (same : IsPermutation now was) (numbered : senders_numbers now ≡ numbers 0 (length now))
    (same_all : AreBrought now outside) where
  as_many : length outside ≡ length now
  as_many = sym (length-mapped brought outside) ∙ ap length same_all ∙ length-mapped brings now

  brought-many : length (map (λ (o : FinishedSender). f (brought o)) outside) ≡ many
  brought-many = length-mapped (λ (o : FinishedSender). f (brought o)) outside ∙ as_many ∙ count

  abbrev IsListed : OutsideSender → Type 0
  IsListed s = slice_get (map (λ (o : FinishedSender). f (brought o)) outside) (s.send_log.by.0 - 64) ≡ Some (f (brings s))

  brought-each : All IsListed was
  brought-each =
      let number = λ (s : OutsideSender). s.send_log.by.0 - 64 in
      All-permutation IsListed now was same (each-place IsListed now (λ i s is.
      (let lt = slice_get_within now i s is in
      let place : s.send_log.by.0 - 64 ≡ i = same_Some (s.send_log.by.0 - 64) i
      (sym (mapped number now i s is) ∙ ap (λ l. slice_get l i) numbered ∙ number-at 0 (length now) i lt ∙ ap Some (let none : 0 + i ≡ i = omega arith in none)) in
      let one = there outside i (omega (arith, lt, as_many)) in
      let e = alike brought brings outside now i one.0 s same_all one.1 is in
      ap (slice_get (map (λ (o : FinishedSender). f (brought o)) outside)) place
      ∙ mapped (λ (o : FinishedSender). f (brought o)) outside i one.0 one.1 ∙ ap (λ (p : List SendPassView × SendLog). Some (f p)) e)))

-- each was answered what is listed in its place
pub answers : (many : ℕ) (was now : List OutsideSender) (outside : List FinishedSender) → length now ≡ many → IsPermutation now was
    → senders_numbers now ≡ numbers 0 (length now) → AreBrought now outside
    → AreAnswers many was (map (λ (o : FinishedSender). o.send_log.posted) outside)
answers many was now outside count same numbered same_all = record {
  length_is = brought-many (λ p. p.1.posted) many was now outside count same numbered same_all;
  each = brought-each (λ p. p.1.posted) many was now outside count same numbered same_all;
}

-- what each keeps of its dead letters is listed in its place
pub kept-in-place : (many : ℕ) (was now : List OutsideSender) (outside : List FinishedSender) → length now ≡ many → IsPermutation now was
    → senders_numbers now ≡ numbers 0 (length now) → AreBrought now outside
    → All (λ (s : OutsideSender). slice_get (map (λ (o : FinishedSender). o.send_log.dead.retention) outside) (s.send_log.by.0 - 64)
    ≡ Some s.send_log.dead.retention) was
kept-in-place many was now outside count same numbered same_all =
    brought-each (λ p. p.1.dead.retention) many was now outside count same numbered same_all

-- and so are the passes of each
pub passes-in-place : (many : ℕ) (was now : List OutsideSender) (outside : List FinishedSender) → length now ≡ many → IsPermutation now was
    → senders_numbers now ≡ numbers 0 (length now) → AreBrought now outside
    → AreSendPasses many was (map (λ (o : FinishedSender). o.sends.items) outside)
passes-in-place many was now outside count same numbered same_all = record {
  length_is = brought-many (λ p. p.0) many was now outside count same numbered same_all;
  each = brought-each (λ p. p.0) many was now outside count same numbered same_all;
}

-- ---- who may send

known-among : (actors outside n : ℕ) → IsKnown actors outside n → IsSenderAmong actors outside n
known-among actors outside n known = by_sides (cases_lt n 64)
  where
    by_sides : (n < 64) ⊎ (64 ≤ n) → IsSenderAmong actors outside n
    by_sides (inl lt) = record {
      place = n;
      within = (let a = known.0 lt in omega (arith, a));
      number_is = sym (number-inside actors n (known.0 lt));
    }
    by_sides (inr le) = record {
      place = actors + (n - 64);
      within = (let a = known.1 in omega (arith, a, le));
      number_is = (let e : n ≡ 64 + (n - 64) = omega (arith, le) in e) ∙ sym (number-outside actors (actors + (n - 64)) (n - 64) refl);
    }

pub known-senders : (directory : List DirectoryEntry) (outside : ℕ) → AreKnown directory outside → HasKnownSenders directory outside
known-senders directory outside =
    All-weaker (λ (e : DirectoryEntry). All (IsKnown (length directory) outside) e.queue.senders)
    (λ (e : DirectoryEntry). All (IsSenderAmong (length directory) outside) e.queue.senders)
    (λ e. All-weaker (IsKnown (length directory) outside) (IsSenderAmong (length directory) outside) (known-among (length directory) outside) e.queue.senders)
    directory
