use Rattle.std.proofs.Common.{◌∙◌, sym, refl, inr}
use Rattle.mb_register.specs.Told.{noted_before}
use Rattle.mb_register.proofs.ToldLemmas.{told-here, told-only, told-still}
use Rattle.mb_register.proofs.Reading.{reads-none}
use Rattle.mb_register.proofs.registrar.Registrar.note_told.Goals as goal

-- ---- it was noted before

pub returns-then-contains-clause-only_reads : goal.returns-then-contains-clause-only_reads
returns-then-contains-clause-only_reads g c = reads-none c.args.id.0 c.args.self.now.pass

pub returns-then-contains-clause-noted : goal.returns-then-contains-clause-noted
returns-then-contains-clause-noted g c = inr (sym c.contains.ensures ∙ c.if-contains.true)

pub returns-then-contains-clause-only : goal.returns-then-contains-clause-only
returns-then-contains-clause-only g c other there = inr there

pub returns-then-contains-clause-order : goal.returns-then-contains-clause-order
returns-then-contains-clause-order g c = noted_before (sym c.contains.ensures ∙ c.if-contains.true) refl

-- ---- it is due

pub returns-clause-noted : goal.returns-clause-noted
returns-clause-noted g c = inr (told-here c.args.id.0 _ _ c.insert.ensures.set)

pub returns-clause-kept : goal.returns-clause-kept
returns-clause-kept g c other still = told-still c.args.id.0 _ _ c.insert.ensures.set other still

pub returns-clause-only : goal.returns-clause-only
returns-clause-only g c other there = told-only c.args.id.0 _ _ c.insert.ensures.set other there

pub returns-clause-only_reads : goal.returns-clause-only_reads
returns-clause-only_reads g c = c.can_be_scheduled.ensures.only_reads
