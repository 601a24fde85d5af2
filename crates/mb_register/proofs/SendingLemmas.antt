-- How a run sends envelopes, step after step.
use Rattle.std.proofs.Common.{◌≡◌, ◌≢◌, ◌==◌, ℕ, ◌*◌, ◌+◌, Bool, true, false, List, [], ◌∷◌, ◌++◌, refl, sym, ap, ◌∙◌, append_assoc, arith}
use Rattle.std.specs.Prelude.{if◌then◌else◌}
use Rattle.std.proofs.lemmas.Bool.Decides.{nat_tests}
use Rattle.mb_status.specs.Mailbox.{Mailbox, mailbox_of, word_of}
use Rattle.mb_core.specs.Run.{after_reading}
use Rattle.mb_ghost.specs.Seen.{Each}
use Rattle.mb_gate.specs.View.{View, Observation, SentSystem, obligation_to, reading}
use Rattle.mb_gate.specs.View.{Read, Saw, Counted, Looked, Sent, Unsent, Took, Pushed, Drained, Ended, seeing}
use Rattle.mb_register.specs.Views.{Does, IsLook}
use Rattle.mb_register.proofs.Unchanged.{unchanged-none, unchanged-then}
use Rattle.mb_register.proofs.Views.{owes-other}
use Rattle.mb_register.specs.Sending.{CountedLast, ReadOpenLast, SendsOpen}

read-before : (a : ℕ) (xs ys : List Observation) → ReadOpenLast a xs → ReadOpenLast a (xs ++ ys)
read-before a xs ys r = record {
  word = r.word;
  not_closed = r.not_closed;
  before = r.before ++ ys;
  last = ap (λ l. l ++ ys) r.last;
}

counted-before : (a : ℕ) (xs ys : List Observation) → CountedLast a xs → CountedLast a (xs ++ ys)
counted-before a xs ys c = record { before = c.before ++ ys; last = ap (λ l. l ++ ys) c.last }

pub sends-append : (xs ys : List Observation) → SendsOpen xs → SendsOpen ys → SendsOpen (xs ++ ys)
sends-append [] ys p q = q
sends-append (Read a word ∷ xs) ys p q = sends-append xs ys p q
sends-append (Saw a journal ∷ xs) ys p q = sends-append xs ys p q
sends-append (Counted a waiting ∷ xs) ys p q = sends-append xs ys p q
sends-append (Looked a has_work ∷ xs) ys p q = sends-append xs ys p q
sends-append (Sent a n ∷ xs) ys p q = (p.0, read-before a xs ys p.1, sends-append xs ys p.2 q)
sends-append (Unsent a n ∷ xs) ys p q = (p.0, counted-before a xs ys p.1, sends-append xs ys p.2 q)
sends-append (Took a n ∷ xs) ys p q = sends-append xs ys p q
sends-append (Pushed a number message ∷ xs) ys p q = sends-append xs ys p q
sends-append (Drained a given ∷ xs) ys p q = sends-append xs ys p q
sends-append (Ended a given ∷ xs) ys p q = sends-append xs ys p q

-- who looks sends nothing
pub looks-send-none : (id : ℕ) (looks : List Observation) → Each (IsLook id) looks → SendsOpen looks
looks-send-none id [] each = tt
looks-send-none id (Read a word ∷ looks) each = looks-send-none id looks each.1
looks-send-none id (Saw a journal ∷ looks) each = looks-send-none id looks each.1
looks-send-none id (Counted a waiting ∷ looks) each = looks-send-none id looks each.1
looks-send-none id (Looked a has_work ∷ looks) each = looks-send-none id looks each.1
looks-send-none id (Sent a n ∷ looks) each = absurd each.0
looks-send-none id (Unsent a n ∷ looks) each = absurd each.0
looks-send-none id (Took a n ∷ looks) each = absurd each.0
looks-send-none id (Pushed a number message ∷ looks) each = absurd each.0
looks-send-none id (Drained a given ∷ looks) each = absurd each.0
looks-send-none id (Ended a given ∷ looks) each = absurd each.0

-- the same, at some actors
pub among-sends-none : (among : ℕ → Bool) (looks : List Observation) → Each (λ (s : Observation). (id : ℕ) × (among id ≡ true) × IsLook id s) looks →
    SendsOpen looks
among-sends-none among [] each = tt
among-sends-none among (s ∷ looks) each =
    sends-append (s ∷ []) looks (looks-send-none each.0.0 (s ∷ []) (each.0.2, tt)) (among-sends-none among looks each.1)

-- what was done after a reading was done with it
pub does-read : (id word : ℕ) (did : List Observation) (told : List SentSystem) (a b c : View) → b ≡ reading id word a → Does id did told b c →
    Does id (did ++ Read id word ∷ []) told a c
does-read id word did told a b c is d = record {
  looks = d.looks;
  only = d.only;
  log =
      d.log ∙ ap (λ (v : View). (d.looks ++ did) ++ v.log) is ∙ append_assoc d.looks did (Read id word ∷ a.log)
      ∙ ap (λ l. d.looks ++ l) (sym (append_assoc did (Read id word ∷ []) a.log))
      ∙ sym (append_assoc d.looks (did ++ Read id word ∷ []) a.log);
  sent_system = d.sent_system ∙ ap (λ (v : View). told ++ v.sent_system) is;
  others = λ other ne. d.others other ne ∙ ap (obligation_to other) is
      ∙ owes-other id (after_reading (mailbox_of word) (obligation_to id a)) (seeing (Read id word) a) other ne;
  share = d.share ∙ ap (λ (v : View). v.share) is;
  gives_back = unchanged-then a b c (unchanged-none a b (ap (λ (v : View). v.releases) is)) d.gives_back;
}

-- the word of a status that is open says so
pub open-word : (m : Mailbox) → m.closed ≡ false → (mailbox_of (word_of m)).closed ≡ false
open-word m open_yet =
    ap (λ b. (if b then 1 else 4 * m.count + (if m.scheduled then 2 else 0)) == 1) open_yet ∙ even m.scheduled
  where
    even : (b : Bool) → (4 * m.count + (if b then 2 else 0) == 1) ≡ false
    even true = let apart : 4 * m.count + 2 ≢ 1 = omega arith in grind (arith, nat_tests)
    even false = let apart : 4 * m.count + 0 ≢ 1 = omega arith in grind (arith, nat_tests)

-- an envelope that was counted at such a word, and one that was taken back then
module _ (id word : ℕ) (open_yet : (mailbox_of word).closed ≡ false) where
  pub sends-one : SendsOpen (Sent id 1 ∷ Read id word ∷ [])
  sends-one = (refl, record { word = word; not_closed = open_yet; before = []; last = refl }, tt)

  pub sends-back : SendsOpen (Unsent id 1 ∷ Sent id 1 ∷ Read id word ∷ [])
  sends-back = (refl, record { before = Read id word ∷ []; last = refl }, sends-one)
