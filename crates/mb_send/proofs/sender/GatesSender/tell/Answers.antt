use Rattle.std.proofs.Common.{rules, ◌∙◌, ◌+◌, ℕ, ap, subst, vec_len}
use Rattle.std.specs.Global.{Vec}
use Rattle.mb_queue.specs.Passes.{SendPassView}
use Rattle.mb_send.specs.Sends.{receiving_queues}
use Rattle.mb_send.specs.declared.send_log.SendLog.{SendLog}
use Rattle.mb_msg.specs.declared.id.ActorId.{ActorId}
use Rattle.mb_gate.specs.Accessors.{pass_view}
use Rattle.mb_gate.specs.View.{View}
use Rattle.mb_register.specs.ActorSet.{has_actor}
use Rattle.mb_register.specs.declared.actor_set.ActorSet.{ActorSet}
use Rattle.mb_register.specs.declared.registrar.Registrar.{Registrar}
use Rattle.mb_register.proofs.ClaimCounts.{loses-then}
use Rattle.mb_send.specs.Answers.{AnswersLook}
use Rattle.mb_register.specs.Registers.{account_of}
use Rattle.mb_send.specs.Asked.{RegistersAtMost}
use Rattle.mb_send.specs.declared.ticket.Look.{Look}
use Rattle.mb_send.proofs.Failing.{at-fault, not-unknown, only-looked}
use Rattle.mb_send.proofs.Handing.{loses-looked}
use Rattle.mb_send.proofs.Obligations.{registers-nobody, registers-since}
use Rattle.mb_send.proofs.sender.GatesSender.tell.Goals as goal

pub returns-in_err-look-clause-fails : goal.returns-in_err-look-clause-fails
returns-in_err-look-clause-fails g c = record {
  refused = search rules;
  unknown = λ unknown. c.in_err-look.ensures.refused.0;
  unsent = search rules;
}

pub look-requires-clause-same_gates : goal.look-requires-clause-same_gates
look-requires-clause-same_gates g c = c.requires.same_gates.0

pub look-requires-clause-all : goal.look-requires-clause-all
look-requires-clause-all g c = c.requires.all.0

pub returns-in_err-look-clause-leaves : goal.returns-in_err-look-clause-leaves
returns-in_err-look-clause-leaves g c = record {
  same_gates =
      let same = c.look.ensures.same in
      (same.4, ap g.W.RunQueue.origin same.3);
  still =
      let same = c.look.ensures.same in λ id owed.
      ap (λ (o : ActorSet). has_actor o id) same.2 ∙ owed;
  registered =
      let same = c.look.ensures.same in
      registers-nobody g.W.RunQueue.pushed g.W.RunQueue.refused c.args.to.0 c.args.self.now.registrar c.look.new.self.registrar same.3 same.2;
  handed =
      let same = c.look.ensures.same in let still = c.in_err-look.ensures.refused.0 in
      loses-looked g.W.RunQueue.pushed g.W.RunQueue.refused c.args.self.now.registrar c.look.new.self.registrar same.3 same.2
      (λ i. (pass_view (still i).registrar.pass).got) (λ i. (pass_view (still i).registrar.pass).returned);
  same =
      let same = c.look.ensures.same in
      (ap (λ (b : SendLog). b.by) same.0, ap vec_len same.1);
  keeps = ap (λ (b : SendLog). b.dead.retention) c.look.ensures.same.0;
  queues = ap (λ (s : Vec SendPassView). receiving_queues s.items) c.look.ensures.same.1;
}

pub put-requires-clause-same_gates : goal.put-requires-clause-same_gates
put-requires-clause-same_gates g c =
    let same = c.look.ensures.same in
    (same.4 ∙ c.requires.same_gates.0, ap g.W.RunQueue.origin same.3 ∙ c.requires.same_gates.1)

pub put-requires-clause-all : goal.put-requires-clause-all
put-requires-clause-all g c = ap (λ (s : Vec SendPassView). vec_len s + 1) c.look.ensures.same.1 ∙ c.requires.all.0

pub returns-in-Open-clause-present : goal.returns-in-Open-clause-present
returns-in-Open-clause-present g c = search rules

pub returns-in-Open-clause-told : goal.returns-in-Open-clause-told
returns-in-Open-clause-told g c = search rules

pub returns-in-Open-clause-discharged : goal.returns-in-Open-clause-discharged
returns-in-Open-clause-discharged g c = search rules

pub returns-in-Open-clause-fails : goal.returns-in-Open-clause-fails
returns-in-Open-clause-fails g c = record {
  refused = search rules;
  unknown = λ unknown. not-unknown c.put.result (at-fault c.put.result _ c.put.ensures.refused unknown).0 unknown;
  unsent =
      λ memory. let same = c.look.ensures.same in
      let unsent = (at-fault c.put.result _ c.put.ensures.refused memory).1 in
      only-looked c.args.to c.args.self.now c.look.new.self c.put.new.self c.in_ok-look.look c.in_ok-look.ensures.seen.2
      same.0 same.1 same.2 same.3 unsent.send_log unsent.sends unsent.registrar;
}

pub returns-in-Open-clause-leaves : goal.returns-in-Open-clause-leaves
returns-in-Open-clause-leaves g c = record {
  same_gates =
      let same = c.look.ensures.same in
      (c.put.ensures.leaves.same_gates.0 ∙ same.4, c.put.ensures.leaves.same_gates.1 ∙ ap g.W.RunQueue.origin same.3);
  still = λ id owed. c.put.ensures.leaves.still id (ap (λ (o : ActorSet). has_actor o id) c.look.ensures.same.2 ∙ owed);
  registered =
      let same = c.look.ensures.same in
      let old = account_of g.W.RunQueue.pushed g.W.RunQueue.refused c.args.self.now.registrar in
      let new = account_of g.W.RunQueue.pushed g.W.RunQueue.refused c.put.new.self.registrar in
      let seen = c.in_ok-look.ensures.seen.2 in
      let its = subst (λ (look : Look). AnswersLook c.args.to seen.seen look) c.in-Open.is seen.answer in
      subst (λ (id : ℕ). RegistersAtMost id old new) (ap (λ (to : ActorId). to.0) its.0)
      (registers-since g.W.RunQueue.pushed g.W.RunQueue.refused c.in-Open.ticket.to.0 c.args.self.now.registrar c.look.new.self.registrar new same.3 same.2
      c.put.ensures.leaves.registered);
  handed =
      let same = c.look.ensures.same in let read = c.in_ok-look.ensures.seen.2.read in
      loses-then _ _ _ _ (pass_view c.look.new.self.registrar.pass) _
      (loses-looked g.W.RunQueue.pushed g.W.RunQueue.refused c.args.self.now.registrar c.look.new.self.registrar same.3 same.2
      (ap (λ (v : View). v.got) read) (ap (λ (v : View). v.returned) read)) c.put.ensures.leaves.handed;
  same =
      let same = c.look.ensures.same in
      (c.put.ensures.leaves.same.0 ∙ ap (λ (b : SendLog). b.by) same.0, c.put.ensures.leaves.same.1 ∙ ap vec_len same.1);
  keeps = c.put.ensures.leaves.keeps ∙ ap (λ (b : SendLog). b.dead.retention) c.look.ensures.same.0;
  queues = c.put.ensures.leaves.queues ∙ ap (λ (s : Vec SendPassView). receiving_queues s.items) c.look.ensures.same.1;
}

pub returns-in-Closed-clause-present : goal.returns-in-Closed-clause-present
returns-in-Closed-clause-present g c = search rules

pub returns-in-Closed-clause-told : goal.returns-in-Closed-clause-told
returns-in-Closed-clause-told g c = search rules

pub returns-in-Closed-clause-discharged : goal.returns-in-Closed-clause-discharged
returns-in-Closed-clause-discharged g c = search rules

pub returns-in-Closed-clause-fails : goal.returns-in-Closed-clause-fails
returns-in-Closed-clause-fails g c = record {
  refused = search rules;
  unknown =
      λ unknown. not-unknown c.record_dead_letter.result (at-fault c.record_dead_letter.result _ c.record_dead_letter.ensures.refused unknown).0 unknown;
  unsent =
      λ memory. let same = c.look.ensures.same in
      only-looked c.args.to c.args.self.now c.look.new.self c.record_dead_letter.new.self c.in_ok-look.look c.in_ok-look.ensures.seen.2
      same.0 same.1 same.2 same.3 (at-fault c.record_dead_letter.result _ c.record_dead_letter.ensures.unsent memory) c.record_dead_letter.ensures.same.1 c.record_dead_letter.ensures.same.0;
}

pub returns-in-Closed-clause-leaves : goal.returns-in-Closed-clause-leaves
returns-in-Closed-clause-leaves g c = record {
  same_gates = search rules;
  still = search rules;
  registered =
      let same = c.look.ensures.same in let registrar = c.record_dead_letter.ensures.same.0 in
      registers-nobody g.W.RunQueue.pushed g.W.RunQueue.refused c.args.to.0 c.args.self.now.registrar c.record_dead_letter.new.self.registrar
      (ap (λ (w : Registrar _ _). w.run_queue) registrar ∙ same.3) (ap (λ (w : Registrar _ _). w.owed) registrar ∙ same.2);
  handed =
      let same = c.look.ensures.same in let read = c.in_ok-look.ensures.seen.2.read in let kept = c.record_dead_letter.ensures.same.0 in
      loses-looked g.W.RunQueue.pushed g.W.RunQueue.refused c.args.self.now.registrar c.record_dead_letter.new.self.registrar
      (ap (λ (w : Registrar _ _). w.run_queue) kept ∙ same.3) (ap (λ (w : Registrar _ _). w.owed) kept ∙ same.2)
      (ap (λ (w : Registrar _ _). (pass_view w.pass).got) kept ∙ ap (λ (v : View). v.got) read)
      (ap (λ (w : Registrar _ _). (pass_view w.pass).returned) kept ∙ ap (λ (v : View). v.returned) read);
  same =
      let same = c.look.ensures.same in let is_dead_letter = c.record_dead_letter.ensures.same in
      (is_dead_letter.2 ∙ ap (λ (b : SendLog). b.by) same.0, ap vec_len (is_dead_letter.1 ∙ same.1));
  keeps = c.record_dead_letter.ensures.keeps ∙ ap (λ (b : SendLog). b.dead.retention) c.look.ensures.same.0;
  queues = ap (λ (s : Vec SendPassView). receiving_queues s.items) (c.record_dead_letter.ensures.same.1 ∙ c.look.ensures.same.1);
}
