-- What the handles of a new system owe.
use Rattle.std.proofs.Common.{◌≡◌, ◌==◌, ◌||◌, ℕ, Bool, true, false, [], if◌then◌else◌, refl, ap, ◌∙◌, arith}
use Rattle.std.proofs.lemmas.Bool.Decides.{nat_tests}
use Rattle.mb_core.specs.declared.wake_obligation.WakeObligation.{WakeObligation}
use Rattle.mb_core.specs.Actor.{nothing}
use Rattle.mb_msg.specs.declared.system.SysMsg.{SysMsg}
use Rattle.mb_gate.specs.View.{View, added_obligations, obligation_of, either_obligation, enlisting, obligation_to}
use Rattle.mb_gate.proofs.SplitsAndJoins.{obligation_by-added}
use Rattle.mb_startup.specs.Begun.{OwesFirstRun, HasNoObligations}

or-false : (b : Bool) → (b || false) ≡ b
or-false true = refl
or-false false = refl

either-nothing : (d : WakeObligation) → either_obligation d nothing ≡ d
either-nothing d i = record { system = or-false d.system i; message = or-false d.message i; sending = or-false d.sending i }

-- who owed nothing put a message into the guardian's list
pub owes-first : (number : ℕ) (node : SysMsg) (v w : View) → w ≡ enlisting 0 number node v → v.obligations ≡ [] → OwesFirstRun w
owes-first number node v w is none = (
  ap (obligation_to 0) is ∙ ap (λ ds. record (obligation_of 0 ds) { system = true }) none,
  λ id other.
      let miss : (0 == id) ≡ false = grind (arith, nat_tests) in
      ap (obligation_to id) is ∙ ap (λ b. if b then record (obligation_to 0 v) { system = true } else obligation_to id v) miss ∙ ap (obligation_of id) none,
)

-- where the lists of what is owed are the same, the same is owed
pub owes-same : (v w : View) → w.obligations ≡ v.obligations → OwesFirstRun v → OwesFirstRun w
owes-same v w same first = (ap (obligation_of 0) same ∙ first.0, λ id other. ap (obligation_of id) same ∙ first.1 id other)

-- who owed nobody anything takes over what another owes
pub owes-over : (v mine w : View) → w.obligations ≡ added_obligations v.obligations mine.obligations → OwesFirstRun v → HasNoObligations mine → OwesFirstRun w
owes-over v mine w is first none = (at 0 ∙ first.0, λ id other. at id ∙ first.1 id other)
  where
    at : (id : ℕ) → obligation_to id w ≡ obligation_to id v
    at id =
        ap (obligation_of id) is ∙ obligation_by-added id v.obligations mine.obligations ∙ ap (either_obligation (obligation_to id v)) (none id) ∙ either-nothing (obligation_to id v)
