use Rattle.std.proofs.Common.{true, pos, ◌≤◌, List, ◌++◌, length, refl, sym, ap, subst, ◌∙◌, append_assoc, arith}
use Rattle.std.proofs.lemmas.List.{replicate_more}
use Rattle.mb_msg.specs.declared.envelope.Envelope.{Envelope}
use Rattle.mb_actor.specs.declared.message.Message.{Message}
use Rattle.mb_actor.specs.declared.message.Message.TheVariants.{User}
use Rattle.mb_journal.specs.Identity.{Identity}
use Rattle.mb_journal.specs.Incarnation.{messages, body_messages}
use Rattle.mb_status.specs.Mailbox.{word_of}
use Rattle.mb_cell.specs.MayHandle.{MayHandle}
use Rattle.mb_cell.specs.CellView.{CellView}
use Rattle.bench.specs.Idle.{IsIdle}
use Rattle.bench.specs.Steady.{IsSteady}
use Rattle.bench.specs.Sum.{sends}
use Rattle.bench.proofs.Steps.{Handles, handles, idle-open}
use Rattle.bench.proofs.messages.measured.handle_all.Goals as goal

pub loop-number-preserved : goal.loop-number-preserved
loop-number-preserved g c =
    let n = c.loop-number.number in
    let so_far = c.loop-number.invariant in
    let cell = c.loop-number.cell in
    let is_ready = c.in_ok-ready.ensures.ok in
    let is_taken = c.take_acts.ensures in
    let steady = subst (λ (w : Identity). IsSteady (g.K.Behaviours.gives w.this.0)) (sym so_far.same_who) c.requires.steady in
    let step : Handles cell c.envelope.result.body c.apply_envelope.new.self =
    handles g.K.Behaviours.gives cell c.ready.new.self c.apply_envelope.new.self c.envelope.result _ 1 (pos 7) steady so_far.idle is_ready
    (ap (λ (e : Envelope). e.body) c.envelope.ensures) c.apply_envelope.ensures.taken c.apply_envelope.ensures.lawful in
    let old = messages c.args.cell.now.who c.args.cell.now.journal in
    record {
      idle = subst (λ (s : CellView). IsIdle s) (sym is_taken) step.idle;
      same_who = ap (λ (s : CellView). s.who) is_taken ∙ step.same_who ∙ so_far.same_who;
      entries =
          let one = ap (λ (s : CellView). length s.journal) is_taken ∙ step.one_more in
          let before = so_far.entries in
          omega (arith, one, before);
      room = λ some.
          let not_full : cell.who.limit ≤ length cell.journal → ⊥ = λ full. let wrong = c.in_ok-ready.ensures.full.1 full in cc in
          let limit = ap (λ (w : Identity). w.limit) so_far.same_who in
          let before = so_far.entries in
          omega (arith, not_full, limit, before);
      messages_added = ap (λ (s : CellView). messages s.who s.journal) is_taken ∙ step.messages_added
          ∙ ap (λ (l : List Message). l ++ body_messages c.envelope.result.body) so_far.messages_added
          ∙ append_assoc old (sends n) (body_messages c.envelope.result.body)
          ∙ ap (λ (e : Envelope). old ++ (sends n ++ body_messages e.body)) c.envelope.ensures
          ∙ ap (λ (l : List Message). old ++ l) (replicate_more n (User 1 (pos 7)));
    }

pub apply_envelope-requires : goal.apply_envelope-requires
apply_envelope-requires g c =
    let so_far = c.loop-number.invariant in
    let cell = c.loop-number.cell in
    let readied : MayHandle (record cell { is_ready = true }) c.envelope.result (word_of c.open-reading.result) = record {
      ready = refl;
      carried_out = so_far.idle.no_acts;
      an_actor = so_far.idle.an_actor;
      addressed = ap (λ (e : Envelope). e.to) c.envelope.ensures ∙ sym (ap (λ (w : Identity). w.this) so_far.same_who ∙ c.requires.the_actor);
      live = so_far.idle.live;
      open_reading = idle-open cell c.open-reading.result so_far.idle c.open-reading.ensures;
    } in
    record {
      may_handle = subst (λ (s : CellView). MayHandle s c.envelope.result (word_of c.open-reading.result))
          (sym c.in_ok-ready.ensures.ok) readied;
    }
