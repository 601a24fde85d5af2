-- What stands after an error of a sender.
use Rattle.std.proofs.Common.{◌≡◌, Err, IfOk, IsErr, OnErr, IsErrOf, Ok, Result, ap, subst, sym, ◌∙◌}
use Rattle.mb_msg.specs.declared.id.ActorId.{ActorId}
use Rattle.mb_gate.specs.Accessors.{pass_view}
use Rattle.mb_send.specs.Answers.{IsSeen}
use Rattle.mb_send.specs.Faults.{OnlyLooked, IsSameSendLog}
use Rattle.mb_send.specs.declared.send_log.SendLog.{SendLog}
use Rattle.mb_send.specs.declared.sender.GatesSender.{GatesSender}
use Rattle.mb_send.specs.declared.ticket.Look.{Look}
use Rattle.mb_send.specs.declared.send_error.SendError.{SendError}
use Rattle.mb_send.specs.declared.send_error.SendError.TheVariants.{NoMemory, NoSuchActor}
use Rattle.mb_register.specs.declared.registrar.Registrar.{Registrar}

-- a fault is no answer
pub no-answer : {T : Type 0} (P : T → Type 0) (r : Result T SendError) → IsErr r → IfOk r P
no-answer P (Ok x) is = cc
no-answer P (Err e) is = tt

-- what holds whatever is answered holds after a fault
pub after-any : {T P : Type 0} (r : Result T SendError) → P → OnErr r P
after-any (Ok x) holds = tt
after-any (Err e) holds = holds

-- what holds after each fault holds after this one
pub at-fault : {T P : Type 0} (r : Result T SendError) (fault : SendError) → OnErr r P → IsErrOf r fault → P
at-fault {T} {P} (Ok x) fault holds is = absurd (subst (λ (s : Result T SendError). OnErr s ⊥) is tt)
at-fault (Err e) fault holds is = holds

-- one fault is not the other
IsOfMemory : {T : Type 0} → Result T SendError → Type 0
IsOfMemory (Err NoMemory) = Unit {0}
IsOfMemory _ = ⊥

pub not-unknown : {T P : Type 0} (r : Result T SendError) → IsErrOf r NoMemory → IsErrOf r NoSuchActor → P
unfolding IsOfMemory
not-unknown r memory unknown = absurd (subst IsOfMemory (sym memory ∙ unknown) tt)

-- the receiver was looked at, and then nothing was sent
pub only-looked : {H W : Type 0} (to : ActorId) (a b c : GatesSender H W) (look : Look)
    → IsSeen to look (pass_view a.registrar.pass) (pass_view b.registrar.pass) → b.send_log ≡ a.send_log → b.sends ≡ a.sends → b.registrar.owed ≡ a.registrar.owed
    → b.registrar.run_queue ≡ a.registrar.run_queue → IsSameSendLog b.send_log c.send_log → c.sends ≡ b.sends → c.registrar ≡ b.registrar → OnlyLooked to a c
only-looked {H} {W} to a b c look seen send_log sends owed run_queue put_of passes registrar = record {
  look = look;
  seen = subst (λ (w : Registrar H W). IsSeen to look (pass_view a.registrar.pass) (pass_view w.pass)) (sym registrar) seen;
  send_log = subst (λ (k : SendLog). IsSameSendLog k c.send_log) send_log put_of;
  sends = passes ∙ sends;
  run_queue = ap (λ (w : Registrar H W). w.run_queue) registrar ∙ run_queue;
  owed = ap (λ (w : Registrar H W). w.owed) registrar ∙ owed;
}
