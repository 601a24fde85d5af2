use Rattle.std.proofs.Common.{◌≡◌, []}
use Rattle.mb_gate.specs.Accessors.{pass_id, pass_view}
use Rattle.mb_register.specs.Views.{GotAndGaveBack, LooksAfter}
use Rattle.mb_register.proofs.due.take_due_again.Given as goal

abbrev pub invariant-loop : goal.invariant-loop
invariant-loop g l =
    (goal.iterator-loop g).can_next l.iterator' × (goal.iterator-loop g).is_finite l.iterator'
    × (pass_id l.pass ≡ pass_id l.initial.pass) × LooksAfter l.id.0 (pass_view l.initial.pass) (pass_view l.pass)
    × GotAndGaveBack [] [] (pass_view l.initial.pass) (pass_view l.pass)
