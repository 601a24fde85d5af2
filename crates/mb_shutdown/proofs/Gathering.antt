-- All senders at the end, the actors first.
use Rattle.std.proofs.Common.{◌≡◌, ◌⊎◌, inl, inr, ⊎_elim, ℕ, zero, suc, ◌+◌, ◌-◌, ◌^◌, ◌<◌, ◌≤◌, true, List, [], ◌∷◌, ◌++◌, length, map}
use Rattle.std.proofs.Common.{refl, sym, ap, ◌∙◌, subst, arith, length-append, Some}
use Rattle.std.specs.Prelude.{All, if◌then◌else◌, slice_get}
use Rattle.std.proofs.lemmas.Bool.{lt-ltb, le-ltb}
use Rattle.std.proofs.lemmas.List.{map-append}
use Rattle.std.proofs.lemmas.Option.{none-some, same_Some}
use Rattle.mb_actor.specs.Behaviour.{Moment, Reply}
use Rattle.mb_journal.specs.Life.{closed}
use Rattle.mb_journal.specs.Accepted.{accepted}
use Rattle.mb_journal.specs.Tells.{told}
use Rattle.mb_gate.specs.Rule.{IsAmong}
use Rattle.mb_gate.specs.View.{Observation}
use Rattle.mb_home.specs.AtHome.{closed_receivers}
use Rattle.mb_home.specs.Contents.{Contents}
use Rattle.mb_home.specs.Directory.{DirectoryEntry}
use Rattle.mb_send.specs.SeenClosed.{has_seen_closed}
use Rattle.mb_shutdown.specs.Homes.{ReturnedHome}
use Rattle.mb_shutdown.specs.OutsideSenders.{AreFinishedSenders, IsFinishedSender}
use Rattle.mb_shutdown.specs.CompleteReport.{sender_number}
use Rattle.mb_shutdown.specs.declared.finished_sender.FinishedSender.{FinishedSender}
use Rattle.mb_shutdown.proofs.Lists.{at-place, choose, in-either, in-first, in-second, length-mapped, mapped, from-mapped, same-maps, there, within}
use Rattle.mb_shutdown.proofs.FinishedSenders.{outside-party, seen-shut}
use Rattle.mb_shutdown.proofs.Parties.{IsParty, Party, home-party, party_of}
use Rattle.mb_shutdown.proofs.KnownActors.{Stands, closed-by-word}

-- ---- the numbers of senders

pub number-inside : (n i : ℕ) → i < n → sender_number n i ≡ i
number-inside n i lt = ap (λ b. if b then i else 64 + (i - n)) (lt-ltb i n lt)

pub number-outside : (n i j : ℕ) → i ≡ n + j → sender_number n i ≡ 64 + j
number-outside n i j is =
    ap (λ b. if b then i else 64 + (i - n)) (le-ltb i n (omega (arith, is))) ∙ (let e : 64 + (i - n) ≡ 64 + j = omega (arith, is) in e)

below-or-beyond : (n i : ℕ) → (i < n) ⊎ ((j : ℕ) × (i ≡ n + j))
below-or-beyond n zero = by_zero n
  where
    by_zero : (n : ℕ) → (zero < n) ⊎ ((j : ℕ) × (zero ≡ n + j))
    by_zero zero = inr (zero, omega arith)
    by_zero (suc n) = inl (omega arith)
below-or-beyond zero (suc i) = inr (suc i, omega arith)
below-or-beyond (suc n) (suc i) =
    ⊎_elim (λ lt. inl (omega (arith, lt))) (λ past. inr (past.0, (let e = past.1 in omega (arith, e)))) (below-or-beyond n i)

pub numbers-rise : (n : ℕ) → n ≤ 64 → (i j : ℕ) → i < j → sender_number n i < sender_number n j
numbers-rise n few i j lt = by_sides (below-or-beyond n i) (below-or-beyond n j)
  where
    by_sides : (i < n) ⊎ ((k : ℕ) × (i ≡ n + k)) → (j < n) ⊎ ((k : ℕ) × (j ≡ n + k)) → sender_number n i < sender_number n j
    by_sides (inl a) (inl b) = let x = number-inside n i a in let y = number-inside n j b in omega (arith, x, y, lt)
    by_sides (inl a) (inr b) = let x = number-inside n i a in let y = number-outside n j b.0 b.1 in omega (arith, x, y, a, few)
    by_sides (inr a) (inl b) = let e = a.1 in absurd (omega (arith, e, b, lt))
    by_sides (inr a) (inr b) =
        let x = number-outside n i a.0 a.1 in let y = number-outside n j b.0 b.1 in let e = a.1 in let f = b.1 in omega (arith, x, y, e, f, lt)

-- ---- the senders outside, by their places

pub outsider-at : (directory : List DirectoryEntry) (log : List Observation) (number : ℕ) (outs : List FinishedSender) (j : ℕ) (o : FinishedSender)
    → AreFinishedSenders directory log number outs → slice_get outs j ≡ Some o → IsFinishedSender directory log (number + j) o
outsider-at directory log number [] j o are is = absurd (none-some o is)
outsider-at directory log number (x ∷ outs) zero o are is =
    subst (λ n. IsFinishedSender directory log n o) (let e : number ≡ number + zero = omega arith in e)
    (subst (λ (y : FinishedSender). IsFinishedSender directory log number y) (same_Some x o is) are.0)
outsider-at directory log number (x ∷ outs) (suc j) o are is =
    subst (λ n. IsFinishedSender directory log n o) (let e : (number + 1) + j ≡ number + suc j = omega arith in e)
    (outsider-at directory log (number + 1) outs j o are.1 is)

-- ---- all senders

-- the actor of this number is there, and ended
pub record IsShut (lefts : List ReturnedHome) (to : ℕ) : Type 0 where
  pub one : ReturnedHome
  pub there_is : slice_get lefts to ≡ Some one
  pub closed_is : closed one.home.value.cell.who one.home.value.cell.journal ≡ true

abbrev pub outside_of : FinishedSender → Party
outside_of o = record { row = o.sends.items; postings = o.send_log.posted; sent = (o.send_log.sent, o.send_log.dead.items, o.send_log.dead.retention) }

pub record Gathered (directory : List DirectoryEntry) (lefts : List ReturnedHome) (outs : List FinishedSender) : Type 0 where
  pub parties : List Party
  pub same_count : length parties ≡ length lefts + length outs
  pub each : (i : ℕ) (p : Party) → slice_get parties i ≡ Some p → IsParty directory (IsShut lefts) (sender_number (length lefts) i) p
  pub rows : map (λ (p : Party). p.row) parties
      ≡ map (λ (l : ReturnedHome). l.home.value.sends) lefts ++ map (λ (o : FinishedSender). o.sends.items) outs
  pub sents : map (λ (p : Party). p.sent) parties
      ≡ map (λ (l : ReturnedHome). (l.home.value.sent, l.home.value.dead, l.home.value.cell.who.retention)) lefts ++ map (λ (o : FinishedSender). (o.send_log.sent, o.send_log.dead.items, o.send_log.dead.retention)) outs
  pub told_are : (i : ℕ) (l : ReturnedHome) (p : Party) → slice_get lefts i ≡ Some l → slice_get parties i ≡ Some p
      → accepted p.postings ≡ told l.home.value.cell.who l.home.value.cell.journal
  pub posted : (j : ℕ) (o : FinishedSender) → slice_get outs j ≡ Some o
      → (p : Party) × (slice_get parties (length lefts + j) ≡ Some p) × (p.postings ≡ o.send_log.posted)

module _ (gives : ℕ → Moment → Reply → Type 0) (first : Contents) (log : List Observation) (lefts : List ReturnedHome) (outs : List FinishedSender)
    (stands : (i : ℕ) (l : ReturnedHome) → slice_get lefts i ≡ Some l → Stands gives first log i l.home.value)
    (shut : (i other : ℕ) (l m : ReturnedHome) → slice_get lefts i ≡ Some l → slice_get lefts other ≡ Some m
    → IsAmong other (closed_receivers l.home.value.dead) → closed m.home.value.cell.who m.home.value.cell.journal ≡ true)
    (many : length lefts ≡ length first.directory) (are : AreFinishedSenders first.directory log 64 outs)
    (small : All (λ (o : FinishedSender). o.send_log.sent < 2 ^ 64) outs) where
  abbrev Shut : ℕ → Type 0
  Shut = IsShut lefts

  -- the party of an actor
  record IsInside (i : ℕ) (l : ReturnedHome) (p : Party) : Type 0 where
    pub is : IsParty first.directory Shut i p
    pub row_is : p.row ≡ l.home.value.sends
    pub sent_is : p.sent ≡ (l.home.value.sent, l.home.value.dead, l.home.value.cell.who.retention)
    pub told_is : accepted p.postings ≡ told l.home.value.cell.who l.home.value.cell.journal

  inside-one : (i : ℕ) (l : ReturnedHome) → slice_get lefts i ≡ Some l → (p : Party) × IsInside i l p
  inside-one i l found =
      let one =
      home-party first.directory Shut (gives i) first i l.home.value refl (stands i l found).is_home_of
      (λ other lt says.
      let m = there lefts other (omega (arith, lt, many)) in
      record { one = m.0; there_is = m.1; closed_is = shut i other l m.0 found m.1 says }) in
      (party_of l.home.value one.0, record { is = one.1; row_is = refl; sent_is = refl; told_is = one.2 })

  -- an actor that was seen closed
  seen-closed : (to : ℕ) → to < length first.directory → has_seen_closed log to ≡ true → Shut to
  seen-closed to lt seen =
      let m = there lefts to (omega (arith, lt, many)) in let h = m.0.home.value in
      record {
        one = m.0;
        there_is = m.1;
        closed_is = closed-by-word h.cell.who h.cell.journal (seen-shut to h.cell.journal _ log seen (stands to m.0 m.1).kept);
      }

  outside-one : (j : ℕ) (o : FinishedSender) → slice_get outs j ≡ Some o → IsParty first.directory Shut (64 + j) (outside_of o)
  outside-one j o found =
      outside-party first.directory Shut log (64 + j) o (outsider-at first.directory log 64 outs j o are found) seen-closed
      (at-place (λ (x : FinishedSender). x.send_log.sent < 2 ^ 64) outs j o small found)

  pub gathered : Gathered first.directory lefts outs
  gathered =
      let inside = choose IsInside lefts inside-one in
      let ps = inside.0 in let n = length lefts in
      let same_many : length ps ≡ n = inside.1 in
      record {
        parties = ps ++ map outside_of outs;
        same_count = length-append ps (map outside_of outs) ∙ (λ i. same_many i + length-mapped outside_of outs i);
        each = λ i p found. ⊎_elim
            (λ a.
            let l = there lefts i (let lt = a.0 in omega (arith, lt, same_many)) in
            subst (λ k. IsParty first.directory Shut k p) (sym (number-inside n i (within lefts i l.0 l.1))) (inside.2 i l.0 p l.1 a.1).is)
            (λ b.
            let o = from-mapped outside_of outs b.0 p b.2 in
            subst (λ (x : ℕ × Party). IsParty first.directory Shut x.0 x.1)
            (λ k. (sym (number-outside n i b.0 (let e = b.1 in omega (arith, e, same_many))) k, o.2 k)) (outside-one b.0 o.0 o.1))
            (in-either ps (map outside_of outs) i p found);
        rows = map-append (λ (p : Party). p.row) ps (map outside_of outs)
            ∙ (λ i. same-maps (λ (p : Party). p.row) (λ (l : ReturnedHome). l.home.value.sends) ps lefts same_many
            (λ k p l pa la. (inside.2 k l p la pa).row_is) i ++ same-rows outs i);
        sents = map-append (λ (p : Party). p.sent) ps (map outside_of outs)
            ∙ (λ i. same-maps (λ (p : Party). p.sent) (λ (l : ReturnedHome). (l.home.value.sent, l.home.value.dead, l.home.value.cell.who.retention)) ps lefts same_many
            (λ k p l pa la. (inside.2 k l p la pa).sent_is) i ++ same-sents outs i);
        told_are = λ i l p la pa.
            let q = there ps i (let lt = within lefts i l la in omega (arith, lt, same_many)) in
            ap (λ (x : Party). accepted x.postings) (same_Some p q.0 (sym pa ∙ in-first ps (map outside_of outs) i q.0 q.1))
            ∙ (inside.2 i l q.0 la q.1).told_is;
        posted = λ j o found. (
          outside_of o,
          in-second ps (map outside_of outs) (n + j) j (outside_of o) (omega (arith, same_many)) (mapped outside_of outs j o found),
          refl,
        );
      }
    where
      same-rows : (outs : List FinishedSender) → map (λ (p : Party). p.row) (map outside_of outs) ≡ map (λ (o : FinishedSender). o.sends.items) outs
      same-rows [] = refl
      same-rows (o ∷ outs) = ap (λ l. o.sends.items ∷ l) (same-rows outs)

      same-sents : (outs : List FinishedSender)
          → map (λ (p : Party). p.sent) (map outside_of outs) ≡ map (λ (o : FinishedSender). (o.send_log.sent, o.send_log.dead.items, o.send_log.dead.retention)) outs
      same-sents [] = refl
      same-sents (o ∷ outs) = ap (λ l. (o.send_log.sent, o.send_log.dead.items, o.send_log.dead.retention) ∷ l) (same-sents outs)
