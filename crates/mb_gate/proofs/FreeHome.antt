-- What a try that got a claim found in the actor's slot.
use Rattle.std.proofs.Common.{◌≡◌, ℕ, ◌+◌, ◌*◌, if◌then◌else◌, Bool, true, false, sym, refl, ap, ◌∙◌, arith}
use Rattle.mb_status.specs.Mailbox.{Mailbox, word_of, idle}
use Rattle.mb_gate.specs.HomeFacts.{HomeFacts}
use Rattle.mb_gate.specs.View.{View}
use Rattle.mb_gate.specs.Claims.{held_in}
use Rattle.mb_gate.specs.Tries.{IsFree, IsGot, IsExchanged}
use Rattle.mb_gate.proofs.Wins.{free_word}
use Rattle.mb_gate.specs.FreeHome.{WasFold, FreeIsFold}
use Rattle.mb_gate.specs.declared.claim.Claim.{Claim}
use Rattle.mb_gate.specs.declared.schedule.ScheduleOutcome.{ScheduleOutcome}
use Rattle.mb_gate.specs.declared.schedule.ScheduleOutcome.TheVariants.{Got, Already, Closed, Lost}

-- the parts of a mailbox with the word of a free one
free_parts : (n count : ℕ) (c s : Bool) → (if c then 1 else 4 * n + (if s then 2 else 0)) ≡ 4 * count → (c ≡ false) × (s ≡ false) × (n ≡ count)
free_parts n count true s e = absurd (omega arith)
free_parts n count false true e = absurd (omega arith)
free_parts n count false false e = (refl, refl, omega arith)

-- it is that mailbox
free_same : (m seen : Mailbox) → IsFree seen → word_of m ≡ word_of seen → m ≡ seen
free_same m seen f e =
    let parts = free_parts m.count seen.count m.closed m.scheduled (e ∙ free_word seen f) in
    (λ i. record {
      closed = (parts.0 ∙ sym f.open_yet) i;
      scheduled = (parts.1 ∙ sym f.free) i;
      count = parts.2 i;
    })

module _ {H : Type 0} (is_of : ℕ → H → Type 0) (facts : H → HomeFacts) (actor : ℕ) (before after : View) (seen : Mailbox) where
  was_fold : (claim : Claim H) → IsGot is_of facts actor before after seen claim → WasFold is_of facts actor claim
  was_fold claim got =
      let same : (facts claim.home).mailbox ≡ seen = free_same (facts claim.home).mailbox seen got.found got.word in
      record {
        of = got.of;
        of_actor = got.of_actor;
        free = record { open_yet = ap (λ (m : Mailbox). m.closed) same ∙ got.found.open_yet; free = ap (λ (m : Mailbox). m.scheduled) same ∙ got.found.free };
        status = got.status ∙ ap (λ (m : Mailbox). record m { scheduled = true }) (sym same);
        word = ap (λ (m : Mailbox). word_of (idle m)) got.status ∙ (ap (λ b. word_of (record seen { scheduled = b })) (sym got.found.free) ∙ sym got.word);
        journal = ap (λ (v : View). (held_in v).journal) got.known;
      }

  pub free_is_fold : (tried : ScheduleOutcome H) → IsExchanged is_of facts actor before after seen tried → FreeIsFold is_of facts actor tried
  free_is_fold (Got claim) got = was_fold claim got
  free_is_fold Already told = tt
  free_is_fold Closed told = tt
  free_is_fold (Lost found) told = tt
