use Rattle.std.proofs.Common.{rules, ◌≡◌, ◌+◌, ◌%◌, ap, sym, ◌∙◌, arith}
use mathlib.Core.Option.{some}
use Rattle.std.specs.declared.snapshot.Snapshot.{Snapshot}
use Rattle.mb_gate.specs.declared.slot.Slot.{Slot}
use Rattle.mb_gate.specs.declared.slot.Slot.TheVariants.{First}
use Rattle.mb_gate.proofs.Allowed.{schedules_allowed}
use Rattle.mb_gate.proofs.Wins.{free_mod, scheduled_word}
use Rattle.mb_gate.proofs.gates.Gates.exchange_word.Goals as goal

-- a memory as another one, but of this
abbrev memory : {A : Type 0} → Snapshot A → A → Snapshot A
memory m x = record { marker = m.marker; value = x }

-- the note is one of the home on which the gates' rule rests
noted : {H : Type 0} (note : Slot H) (m : Snapshot (Snapshot H)) (first : Snapshot H) → note ≡ First m → m.value ≡ first
    → note ≡ First (memory m first)
noted note m first is value = is ∙ (λ i. First (memory m (value i)))

pub compare_exchange_with-requires : goal.compare_exchange_with-requires
compare_exchange_with-requires g c =
    let note = c.first_note-note.ensures in let key = c.args.self.now.table.shared.key.first in (
      search rules,
      search rules,
      schedules_allowed g.H.MailboxState.is_of (memory note.0 key) g.H.MailboxState.facts _ _ _ _ c.args.id.0 _
          (let k = c.args.self.now.keyed in let t = c.requires.present in omega arith) _ _ _ (noted _ note.0 key note.1 note.2)
          c.word_index-index.ensures (ap (λ n. n % 4) c.word-before.ensures.word ∙ free_mod c.args.old c.requires.scheduled.free)
          (c.word-after.ensures.word ∙ (scheduled_word c.args.old c.args.new c.requires.scheduled.free c.requires.scheduled.scheduled
          ∙ ap (λ n. n + 2) (sym c.word-before.ensures.word))) c.requires.no_claim c.requires.share,
    )

pub returns-clause-won : goal.returns-clause-won
returns-clause-won g c won =
    let note = c.first_note-note.ensures in let key = c.args.self.now.table.shared.key.first in
    let wins = c.compare_exchange_with.ensures.2 in
    (wins _ (memory note.0 key) c.word_index-index.ensures (ap some (noted _ note.0 key note.1 note.2))).0 (won ∙ sym c.word-before.ensures.word)

pub returns-clause-lost : goal.returns-clause-lost
returns-clause-lost g c lost =
    let note = c.first_note-note.ensures in let key = c.args.self.now.table.shared.key.first in
    let loses = c.compare_exchange_with.ensures.2 in
    (loses _ (memory note.0 key) c.word_index-index.ensures (ap some (noted _ note.0 key note.1 note.2))).1
    (λ same. lost (same ∙ c.word-before.ensures.word))
