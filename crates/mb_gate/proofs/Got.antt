-- A claim that was just taken is as a run queue requires.
use Rattle.std.proofs.Common.{◌≡◌, ◌<◌, ℕ, Some, sym, ap, ◌∙◌, subst}
use Rattle.mb_status.specs.Mailbox.{Mailbox, word_of, idle}
use Rattle.mb_gate.specs.declared.claim.Claim.{Claim}
use Rattle.mb_gate.specs.HomeFacts.{HomeFacts}
use Rattle.mb_gate.specs.Claims.{claimed}
use Rattle.mb_gate.specs.Accessors.{claim_id, gave_last, status_of}
use Rattle.mb_gate.specs.Tries.{IsGot}
use Rattle.mb_gate.specs.View.{View}
use Rattle.mb_gate.specs.Untouched.{Origin, IsUntouched}

module _ {H : Type 0} (is_of : H → ℕ → H → Type 0) (facts : H → HomeFacts) where
  pub untouched : (origin : Origin H) (actor : ℕ) (before after : View) (seen : Mailbox) (claim : Claim H)
      → IsGot (is_of origin.first) facts actor before after seen claim → claim_id claim ≡ origin.gates
      → actor < origin.actors
      → IsUntouched is_of facts (Some origin) claim
  untouched origin actor before after seen claim got ours there =
      let back : idle (status_of claim) ≡ seen = ap idle got.status ∙ (λ i. record seen { scheduled = sym got.found.free i }) in record {
        same_gates = record {
          gates = ours;
          present = subst (λ a. a < origin.actors) (sym got.of) there;
          of_actor = subst (λ a. is_of origin.first a claim.home) (sym got.of) got.of_actor;
        };
        open_yet = ap (λ (m : Mailbox). m.closed) got.status ∙ got.found.open_yet;
        scheduled = ap (λ (m : Mailbox). m.scheduled) got.status;
        word = got.word ∙ ap word_of (sym back);
        rest = got.rest;
        known = got.known ∙ ap (λ a. claimed a (facts claim.home).journal (facts claim.home).closed_to (word_of (status_of claim)) (gave_last claim)
            (facts claim.home).given (facts claim.home).drained) (sym got.of);
        recorded = got.recorded;
      }
