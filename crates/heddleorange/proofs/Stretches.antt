-- The entries of each run of a mailbox are a stretch of its actor's journal in the report.
use Rattle.std.proofs.Common.{◌≡◌, ◌+◌, ◌++◌, ℕ, suc, List, [], ◌∷◌, ap, append_assoc, arith, length, refl, subst, sym, ◌∙◌, Some}
use Rattle.std.specs.Prelude.{All, slice_get}
use Rattle.std.proofs.lemmas.List.{length-append}
use Rattle.std.proofs.lemmas.List.Elements.{All-cons, All-nil}
use Rattle.std.specs.Global.{Box}
use Rattle.mb_actor.specs.Behaviour.{Moment, Reply}
use Rattle.mb_dispatch.specs.Runs.{MadeRuns, RanMailbox}
use Rattle.mb_gate.specs.Rule.{IsAmong}
use Rattle.mb_gate.specs.Untouched.{Origin}
use Rattle.mb_gate.specs.View.{Observation, View}
use Rattle.mb_home.specs.Contents.{Contents}
use Rattle.mb_ghost.specs.Seen.{Each}
use Rattle.mb_journal.specs.Entry.{Entry}
use Rattle.mb_journal.specs.Entry.Entry.{Dropped, Handled, System}
use Rattle.mb_journal.specs.Identity.{Identity}
use Rattle.mb_journal.specs.Run.{AreBlocks, IsBlock, IsOfEnvelope}
use Rattle.mb_journal.specs.Run.AreBlocks.{first_block, next_block}
use Rattle.mb_journal.specs.Run.IsBlock.{no_more, one_more}
use Rattle.mb_mailbox.specs.Ran.{systems_in}
use Rattle.mb_mailbox.specs.declared.turn.Turn.{Turn}
use Rattle.mb_report.specs.declared.report.ActorReport.{ActorReport}
use Rattle.mb_report.specs.declared.report.Report.{Report}
use Rattle.mb_shutdown.specs.Seen.{ReportExtends}
use Rattle.mb_system.specs.OnlyLooks.{OnlyLooks}
use Rattle.heddleorange.specs.Turns.{AreOfTurn, AreStretches, IsStretch}
use Rattle.heddleorange.proofs.Covered.{systems-append}

-- ---- the entries that a run added

of-envelope : (e : Entry) (xs : List Entry) → IsOfEnvelope e → systems_in (e ∷ xs) ≡ systems_in xs
of-envelope (Handled envelope reading outcome) xs is = refl
of-envelope (System number m outcome) xs is = absurd is
of-envelope (Dropped envelope) xs is = refl

-- one journal is another with entries added, of which so many are of envelopes
record Adds (from : List Entry) (envelopes : ℕ) (to : List Entry) : Type 0 where
  entries : List Entry
  is : to ≡ entries ++ from
  count : length entries ≡ systems_in entries + envelopes

block-adds : (who : Identity) (from to : List Entry) → IsBlock who from to → Adds from 0 to
block-adds who from to no_more = record { entries = []; is = refl; count = refl }
block-adds who from to (one_more middle number m outcome block due) =
    let adds = block-adds who from middle block in
    let count = adds.count in
    record {
      entries = System number m outcome ∷ adds.entries;
      is = ap (λ l. System number m outcome ∷ l) adds.is;
      count = omega (arith, count);
    }

blocks-add : (who : Identity) (from : List Entry) (envelopes : ℕ) (to : List Entry) → AreBlocks who from envelopes to → Adds from envelopes to
blocks-add who from envelopes to (first_block same block) = block-adds who from to block
blocks-add who from envelopes to (next_block n middle same e blocks none envelope block) =
    let first = blocks-add who from n middle blocks in
    let last = block-adds who (e ∷ middle) to block in
    let all = last.entries ++ e ∷ first.entries in
    let long : length all ≡ length last.entries + suc (length first.entries) = length-append last.entries (e ∷ first.entries) in
    let some : systems_in all ≡ systems_in last.entries + systems_in first.entries =
    systems-append last.entries (e ∷ first.entries) ∙ ap (λ k. systems_in last.entries + k) (of-envelope e first.entries envelope) in
    let one = first.count in let other = last.count in
    record {
      entries = all;
      is = last.is ∙ ap (λ l. last.entries ++ e ∷ l) first.is ∙ sym (append_assoc last.entries (e ∷ first.entries) from);
      count = omega (arith, long, some, one, other);
    }

-- ---- what was seen of them

pub each-right : {X : Type 0} (P : X → Type 0) (xs ys : List X) → Each P (xs ++ ys) → Each P ys
each-right P [] ys each = each
each-right P (x ∷ xs) ys each = each-right P xs ys each.1

each-left : {X : Type 0} (P : X → Type 0) (xs ys : List X) → Each P (xs ++ ys) → Each P xs
each-left P [] ys each = tt
each-left P (x ∷ xs) ys each = (each.0, each-left P xs ys each.1)

pub each-among : {X : Type 0} (P : X → Type 0) (x : X) (xs : List X) → IsAmong x xs → Each P xs → P x
each-among P x xs among each = (each-right P among.before (x ∷ among.after) (subst (Each P) among.joined each)).0

module _ (gives : ℕ → Moment → Reply → Type 0) (origin : Origin (Box Contents)) (throughput : ℕ) where
  -- the entries that a run added
  pub run-adds : (old new : View) (turn : Turn) → (ran : RanMailbox gives origin throughput old new turn)
      → (entries : List Entry) × (ran.journal ≡ entries ++ ran.claim.home.value.cell.journal) × AreOfTurn turn entries
  run-adds old new turn ran =
      let claim = ran.claim in let before = claim.home.value.cell.journal in let left = ran.left in
      let adds = blocks-add claim.home.value.cell.who before left.run.envelopes ran.journal left.run.blocks in
      let both : systems_in ran.journal ≡ systems_in adds.entries + systems_in before = ap systems_in adds.is ∙ systems-append adds.entries before in
      let said = left.system in let count = adds.count in let same = left.envelopes in
      let systems : systems_in adds.entries ≡ turn.system = omega (arith, both, said) in
      (adds.entries, adds.is, (omega (arith, count, same, systems), systems))

  -- what holds of each that was seen after a run holds of each that was seen before it
  pub each-before-run : (P : Observation → Type 0) (old before after : View) (turn : Turn) → OnlyLooks old before
      → RanMailbox gives origin throughput before after turn → Each P after.log → Each P old.log
  each-before-run P old before after turn looks ran each =
      let over = ran.left.taken_over in
      let joined = each-right P over.own_log _ (subst (Each P) over.joined each) in
      each-right P looks.looks old.log (subst (Each P) looks.log (each-left P before.log ran.left.steps joined))

  each-before : (P : Observation → Type 0) (old : View) (turns : List Turn) (new : View) → MadeRuns gives origin throughput old turns new
      → Each P new.log → Each P old.log
  each-before P old [] new made each = each-right P made.looks old.log (subst (Each P) made.log each)
  each-before P old (turn ∷ turns) new made each =
      each-before-run P old made.0 made.1 turn made.2 made.3 (each-before P made.1 turns new made.4 each)

module _ (gives : ℕ → Moment → Reply → Type 0) (origin : Origin (Box Contents)) (throughput : ℕ) (report : Report) where
  -- the entries of a run of which the report tells
  stretch-of : (old new : View) (turn : Turn) → RanMailbox gives origin throughput old new turn → Each (ReportExtends report) new.log → (a : ActorReport)
      → slice_get report.actors.items turn.actor.0 ≡ Some a → IsStretch a.journal.entries turn
  stretch-of old new turn ran each a at =
      let before = ran.claim.home.value.cell.journal in
      let seen = each-among (ReportExtends report) _ new.log ran.left.seen each in
      let extends = seen a (subst (λ n. slice_get report.actors.items n ≡ Some a) ran.left.actor at) in
      let adds = run-adds gives origin throughput old new turn ran in
      record {
        newer = extends.newer;
        entries = adds.0;
        older = before;
        journal_is = extends.joined ∙ ap (λ l. extends.newer ++ l) adds.1 ∙ sym (append_assoc extends.newer adds.0 before);
        system = adds.2.1;
        all = adds.2.0;
      }

  pub stretches-of : (old : View) (turns : List Turn) (new : View) → MadeRuns gives origin throughput old turns new → Each (ReportExtends report) new.log
      → AreStretches report turns
  stretches-of old [] new made each = All-nil (λ (turn : Turn). (a : ActorReport) → slice_get report.actors.items turn.actor.0 ≡ Some a → IsStretch a.journal.entries turn)
  stretches-of old (turn ∷ turns) new made each =
      All-cons (λ (t : Turn). (a : ActorReport) → slice_get report.actors.items t.actor.0 ≡ Some a → IsStretch a.journal.entries t) turn turns
      (stretch-of made.0 made.1 turn made.3 (each-before gives origin throughput (ReportExtends report) made.1 turns new made.4 each))
      (stretches-of made.1 turns new made.4 each)
