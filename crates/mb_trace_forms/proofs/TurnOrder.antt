-- The order of a quiet run whose turns do not cover the journals.
use Rattle.std.proofs.Common.{◌≡◌, ◌∙◌, Bool, false, List, ap, subst, sym}
use Rattle.std.specs.Prelude.{IsTrue}
use Rattle.std.proofs.lemmas.Bool.{both_ways}
use Rattle.mb_diagram.specs.declared.order.EntryOrder.TheVariants.{Uncovered}
use Rattle.mb_report.specs.declared.report.ActorReport.{ActorReport}
use Rattle.mb_trace.specs.Coverage.{CoverJournals}
use Rattle.mb_trace.specs.declared.trace.Trace.{Trace}
use Rattle.mb_trace.specs.declared.trace.TurnLength.{TurnLength}
use Rattle.mb_trace_forms.specs.Order.{HasTurnOrder, journal_lengths, part_steps}
use Rattle.mb_trace_forms.specs.Order.HasTurnOrder.{by_actor}
use Rattle.mb_trace_forms.proofs.OrderSteps.{journals-all}

-- the test of it says no
pub not-covered : (turns : List TurnLength) (actors reported : List ActorReport) (answer : Bool) → actors ≡ reported → answer ≡ false
    → (CoverJournals turns actors → IsTrue answer) → CoverJournals turns reported → ⊥
not-covered turns actors reported answer same is says cover = both_ways answer is (says (subst (CoverJournals turns) (sym same) cover))

-- then the parts are the journals
pub by-journals : (trace : Trace) (turns parts : List TurnLength) (actors : List ActorReport) → actors ≡ trace.report.now.actors.items
    → parts ≡ journal_lengths 0 actors → (CoverJournals turns trace.report.now.actors.items → ⊥) → HasTurnOrder trace turns Uncovered (part_steps trace parts)
by-journals trace turns parts actors same are none =
    subst (HasTurnOrder trace turns Uncovered)
    (sym (ap (part_steps trace) are ∙ (ap (λ (l : List ActorReport). part_steps trace (journal_lengths 0 l)) same ∙ journals-all trace)))
    (by_actor none)
