use Rattle.std.proofs.Common.{◌≡◌, ◌++◌, take}
use Rattle.std.specs.List.{flat_map}
use Rattle.mb_report.specs.declared.report.ActorReport.{ActorReport}
use Rattle.mb_trace_forms.specs.Letters.{cleaned}
use Rattle.mb_trace_forms.proofs.letters.add_all_cleaned.Given as goal

-- those of the actors so far were added
abbrev pub invariant-loop-actor : goal.invariant-loop-actor
invariant-loop-actor l =
    l.letters.items ≡ l.initial.letters.items ++ flat_map (λ (r : ActorReport). cleaned l.filter r.cleaned.items) (take l.actor-index l.actors)
