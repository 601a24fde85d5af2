use Rattle.std.proofs.Common.{◌≡◌, List, to_z, of_z, w64, ap, ◌∙◌, rules}
use Rattle.mb_actor.specs.declared.message.Message.{Message}
use Rattle.mb_journal.specs.Identity.{Identity}
use Rattle.mb_journal.specs.Incarnation.{messages}
use Rattle.bench.proofs.messages.measured.measure_handling.Goals as goal

pub returns-clause-state : goal.returns-clause-state
returns-clause-state g c =
    let cell = c.handle_all.new.cell in
    let this = ap (λ (w : Identity). w.this.0) c.in_ok-acts.ensures.same_who ∙ ap (λ x. x.0) c.requires.the_actor in
    let kept : to_z w64 (of_z w64 c.state_of-state.result) ≡ c.state_of-state.result = search rules in
    kept ∙ c.state_of-state.ensures ∙ ap (λ n. g.K.Behaviours.after n (messages cell.who cell.journal)) this
    ∙ ap (λ (l : List Message). g.K.Behaviours.after 1 l) c.in_ok-acts.ensures.messages_added
