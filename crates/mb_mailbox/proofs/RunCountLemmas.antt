-- How a run counts what it did.
use Rattle.std.proofs.Common.{◌≡◌, ℕ, suc, ◌+◌, ◌≤◌, List, [], ◌∷◌, length, None, refl, sym, ap, ◌∙◌, subst, arith}
use Rattle.mb_msg.specs.declared.envelope.Envelope.{Envelope}
use Rattle.mb_journal.specs.Aside.{next_front}
use Rattle.mb_journal.specs.Entry.{Entry}
use Rattle.mb_journal.specs.Entry.Entry.{Handled, System, Dropped}
use Rattle.mb_journal.specs.Identity.{Identity}
use Rattle.mb_journal.specs.Run.{IsBlock, AreBlocks}
use Rattle.mb_journal.specs.Run.IsBlock.{no_more, one_more}
use Rattle.mb_journal.specs.Run.AreBlocks.{first_block, next_block}
use Rattle.mb_cell.specs.CellView.{CellView, IsOf}
use Rattle.mb_home.specs.Contents.{Contents}
use Rattle.mb_home.specs.Steps.{AppliesNext, Begins}
use Rattle.mb_home.proofs.RunForms.{applied-blocks, begun-blocks}
use Rattle.mb_mailbox.specs.declared.turn.Turn.{Turn}
use Rattle.mb_gate.specs.View.{Observation}
use Rattle.mb_mailbox.specs.Loaded.{loaded_words, BeginsAt}
use Rattle.mb_mailbox.specs.RunState.{RunState}
use Rattle.mb_mailbox.specs.Ran.{CountsRun, systems_in}
use Rattle.mb_mailbox.specs.Running.{KeepsJournal, SameRun, counted_by}
use Rattle.mb_mailbox.proofs.EmptiedLemmas.{takes-same}
use Rattle.mb_mailbox.proofs.BegunAtLemmas.{begins-system, begins-envelope}

-- no more than there are entries
pub systems-few : (journal : List Entry) → systems_in journal ≤ length journal
systems-few [] = omega arith
systems-few (Handled envelope reading outcome ∷ before) = omega (arith, systems-few before)
systems-few (System number m outcome ∷ before) = omega (arith, systems-few before)
systems-few (Dropped envelope ∷ before) = omega (arith, systems-few before)

-- a run takes no more envelopes than there are entries
block-few : (who : Identity) (from to : List Entry) → IsBlock who from to → length from ≤ length to
block-few who from to no_more = omega arith
block-few who from to (one_more there number m outcome block front) = omega (arith, block-few who from there block)

pub blocks-few : (who : Identity) (from to : List Entry) (n : ℕ) → AreBlocks who from n to → n ≤ length to
blocks-few who from to n (first_block there block) = omega arith
blocks-few who from to n (next_block before middle there e blocks none of_envelope block) =
    omega (arith, blocks-few who from middle before blocks, block-few who (e ∷ middle) there block)

-- what keeps the journal keeps the count
pub run_counts-keeps : (h new : RunState) (turn : Turn) → KeepsJournal h new → CountsRun h turn → CountsRun new turn
run_counts-keeps h new turn k t = record {
  blocks =
      subst (λ (x : Identity × List Entry × List Entry). AreBlocks x.0 x.1 turn.envelopes x.2)
      (λ i. (sym k.same.who i, sym k.same.before i, sym k.journal i)) t.blocks;
  system = ap (λ j. turn.system + systems_in j) k.same.before ∙ t.system ∙ ap systems_in (sym k.journal);
  actor = t.actor ∙ sym k.same.actor;
  begins =
      subst (λ (x : List ℕ × List Entry × List Entry). BeginsAt x.0 x.1 x.2) (λ i. (sym k.loaded i, sym k.same.before i, sym k.journal i)) t.begins;
}

module _ (h : RunState) (new : Contents) (turn : Turn) (t : CountsRun h turn) where
  with_who : (n : ℕ) → new.cell.who ≡ h.home.cell.who → AreBlocks h.home.cell.who h.before n new.cell.journal →
      AreBlocks new.cell.who h.before n new.cell.journal
  with_who n who blocks = subst (λ (w : Identity). AreBlocks w h.before n new.cell.journal) (sym who) blocks

  -- a system message more
  pub run_counts-applied : AppliesNext h.home new → CountsRun (record h { home = new }) (record turn { system = turn.system + 1 })
  run_counts-applied a = record {
    blocks =
        with_who turn.envelopes (ap (λ (c : CellView). c.who) a.taken.adds) (applied-blocks h.before turn.envelopes h.home new a t.blocks);
    system =
        let more : systems_in new.cell.journal ≡ systems_in h.home.cell.journal + 1 = ap (λ (c : CellView). systems_in c.journal) a.taken.adds in
        omega (arith, t.system, more);
    actor = t.actor;
    begins =
        subst (λ (c : CellView). BeginsAt (loaded_words h.log) h.before c.journal) (sym a.taken.adds)
        (begins-system (loaded_words h.log) h.before h.home.cell.journal a.number a.message a.taken.outcome t.begins);
  }

  of-envelope : (e : Entry) (envelope : Envelope) (reading : ℕ) → IsOf envelope reading e →
      systems_in (e ∷ h.home.cell.journal) ≡ systems_in h.home.cell.journal
  of-envelope (Handled x r o) envelope reading of_it = refl
  of-envelope (System n m o) envelope reading of_it = absurd of_it
  of-envelope (Dropped x) envelope reading of_it = refl

  -- an envelope more, where nothing is put in front, and the status word was loaded at which it was begun
  pub run_counts-begun : (reading : ℕ) (log : List Observation) → loaded_words log ≡ reading ∷ loaded_words h.log → Begins h.home new reading →
      next_front h.home.cell.who h.home.cell.journal ≡ None →
      CountsRun (record h { home = new; log = log }) (record turn { envelopes = turn.envelopes + 1 })
  run_counts-begun reading log loaded b none = record {
    blocks =
        with_who (turn.envelopes + 1) (ap (λ (c : CellView). c.who) b.taken.adds)
        (subst (λ n. AreBlocks h.home.cell.who h.before n new.cell.journal) (let one : suc turn.envelopes ≡ turn.envelopes + 1 = omega arith in one)
        (begun-blocks h.before turn.envelopes h.home new reading b none t.blocks));
    system =
        t.system ∙ sym (ap (λ (c : CellView). systems_in c.journal) b.taken.adds ∙ of-envelope b.taken.entry b.envelope reading b.taken.of_it);
    actor = t.actor;
    begins =
        subst (λ (x : List ℕ × CellView). BeginsAt x.0 h.before x.1.journal) (λ i. (sym loaded i, sym b.taken.adds i))
        (begins-envelope (loaded_words h.log) h.before h.home.cell.journal b.taken.entry b.envelope reading b.taken.of_it t.begins);
  }

  -- and the run is the same
  pub same-applied : AppliesNext h.home new → SameRun h (record h { home = new })
  same-applied a = record {
    actor = refl;
    who = ap (λ (c : CellView). c.who) a.taken.adds;
    before = refl;
    takes = takes-same _ _ (ap (λ (x : Contents). x.take) a.same);
    counted = ap (λ (x : Contents). length x.take.taken + counted_by h) a.same;
  }
