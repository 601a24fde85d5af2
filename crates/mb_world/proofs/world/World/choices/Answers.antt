use Rattle.std.proofs.Common.{◌≢◌, List, ◌++◌, map, ap, subst, ◌∙◌}
use Rattle.std.specs.List.{AllPairs}
use Rattle.mb_msg.specs.declared.id.ActorId.{ActorId}
use Rattle.mb_world.specs.Choices.{AreSends}
use Rattle.mb_world.specs.World.{Sender, WorldView}
use Rattle.mb_world.specs.declared.choice.Choice.TheVariants.{Run}
use Rattle.mb_world.proofs.ChoiceLemmas.{choices-are}
use Rattle.mb_world.proofs.world.World.choices.Goals as goal

pub returns : goal.returns
returns g c =
    let is = c.self.view_is in let sends = c.in_ok-choices.choices.items in
    choices-are c.args.self.now sends c.add_runs.new.choices.items
    (subst (λ (l : List ActorId). AllPairs (λ (a b : ActorId). a ≢ b) l) (ap (λ (w : WorldView). w.registered) is) c.self.inside.dispatcher.registry.once)
    (subst (λ (l : List Sender). AreSends l sends) (c.deref.ensures.value ∙ ap (λ (w : WorldView). w.senders) is) c.in_ok-choices.ensures)
    (c.in_ok-add_runs.ensures ∙ ap (λ (w : WorldView). sends ++ map Run w.registered) is)
