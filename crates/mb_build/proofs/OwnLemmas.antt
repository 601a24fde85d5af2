-- A home is its own actor's.
use Rattle.std.proofs.Common.{◌≡◌, ◌<◌, ◌==◌, ℕ, zero, suc, ◌+◌, true, false, List, [], ◌∷◌, length, map, drop, refl, sym, ap, ◌∙◌, subst, arith}
use Rattle.std.specs.Prelude.{All, slice_get, Some}
use Rattle.std.proofs.lemmas.Bool.Decides.{nat_tests}
use Rattle.std.proofs.lemmas.List.Elements.{All-cons, All-nil}
use Rattle.std.proofs.lemmas.Option.{none-some}
use Rattle.mb_journal.specs.Identity.{Identity, is_guardian}
use Rattle.mb_msg.specs.declared.mailbox_type.MailboxType.{MailboxType}
use Rattle.mb_queue.specs.Passes.{SendPassView, TakePassView}
use Rattle.mb_home.specs.AgreesWithJournal.{IsOwn}
use Rattle.mb_home.specs.Steps.{at_first}
use Rattle.mb_build.specs.Handed.{passes_of}
use Rattle.mb_build.specs.NewHomes.{directory_of}
use Rattle.mb_build.specs.Identities.{IsPlanned}
use Rattle.mb_build.specs.Made.{AreEmpty, AreMade}
use Rattle.mb_build.specs.Unstarted.{unstarted}
use Rattle.mb_build.proofs.DirectoryLemmas.{enrolled-there, length-enrolled, queues-enrolled}

queues-of-passes : (takes : List TakePassView) (sender : ℕ) → map (λ (p : SendPassView). p.queue) (passes_of takes sender) ≡ map (λ (t : TakePassView). t.queue) takes
queues-of-passes [] sender = refl
queues-of-passes (t ∷ takes) sender = ap (λ l. t.queue ∷ l) (queues-of-passes takes sender)

all-by : (takes : List TakePassView) (sender : ℕ) → All (λ (p : SendPassView). p.by ≡ sender) (passes_of takes sender)
all-by [] sender = All-nil (λ (p : SendPassView). p.by ≡ sender)
all-by (t ∷ takes) sender = All-cons (λ (p : SendPassView). p.by ≡ sender) _ (passes_of takes sender) refl (all-by takes sender)

-- nothing was pushed yet
pub all-unused : (takes : List TakePassView) (sender : ℕ) → All (λ (p : SendPassView). p.pushed ≡ []) (passes_of takes sender)
all-unused [] sender = All-nil (λ (p : SendPassView). p.pushed ≡ [])
all-unused (t ∷ takes) sender = All-cons (λ (p : SendPassView). p.pushed ≡ []) _ (passes_of takes sender) refl (all-unused takes sender)

-- each pass is into the queue of the actor of its place
receivers : (kinds : List MailboxType) (to : ℕ) (senders : List ℕ) (takes : List TakePassView) (sender place : ℕ) (p : SendPassView) → AreEmpty kinds to senders takes
    → slice_get (passes_of takes sender) place ≡ Some p → p.queue.to ≡ to + place
receivers kinds to senders [] sender place p are there = absurd (none-some p there)
receivers [] to senders (t ∷ takes) sender place p are there = absurd are
receivers (k ∷ kinds) to senders (t ∷ takes) sender zero p are there =
    let is : record { queue = t.queue; by = sender; pushed = [] } ≡ p = cc in let sum : to ≡ to + 0 = omega arith in
    ap (λ (x : SendPassView). x.queue.to) (sym is) ∙ are.0.0.actor ∙ sum
receivers (k ∷ kinds) to senders (t ∷ takes) sender (suc place) p are there =
    let sum : (to + 1) + place ≡ to + suc place = omega arith in
    receivers kinds (to + 1) senders takes sender place p are.1 there ∙ sum

-- the pass of this place takes from the queue of its actor, and took nothing yet
empty-there : (kinds : List MailboxType) (to : ℕ) (senders : List ℕ) (takes : List TakePassView) (place : ℕ) (t : TakePassView) (rest : List TakePassView)
    → AreEmpty kinds to senders takes → drop place takes ≡ t ∷ rest → (t.queue.to ≡ to + place) × (t.taken ≡ [])
empty-there kinds to senders [] zero t rest are this = absurd (cc)
empty-there kinds to senders [] (suc place) t rest are this = absurd (cc)
empty-there [] to senders (x ∷ takes) place t rest are this = absurd are
empty-there (k ∷ kinds) to senders (x ∷ takes) zero t rest are this =
    let is : x ≡ t = cc in let sum : to ≡ to + 0 = omega arith in (
      ap (λ (y : TakePassView). y.queue.to) (sym is) ∙ are.0.0.actor ∙ sum,
      ap (λ (y : TakePassView). y.taken) (sym is) ∙ are.0.0.taken,
    )
empty-there (k ∷ kinds) to senders (x ∷ takes) (suc place) t rest are this =
    let sum : (to + 1) + place ≡ to + suc place = omega arith in let there = empty-there kinds (to + 1) senders takes place t rest are.1 this in
    (there.0 ∙ sum, there.1)

-- so it is where the guardian's pass is the first; and nobody pushes for that
pub record IsPassOf (place : ℕ) (t : TakePassView) : Type 0 where
  pub receiver : t.queue.to ≡ place
  pub taken : t.taken ≡ []
  pub nobody : place ≡ 0 → t.queue.senders ≡ []

pub pass-of : (kinds : List MailboxType) (senders : List ℕ) (guardian : TakePassView) (takes : List TakePassView) (rows : List (List SendPassView)) (place : ℕ) (t : TakePassView)
    (rest : List TakePassView) → AreMade kinds senders guardian takes rows → drop place (guardian ∷ takes) ≡ t ∷ rest → IsPassOf place t
pass-of kinds senders guardian takes rows zero t rest made this =
    let is : guardian ≡ t = cc in record {
      receiver = ap (λ (x : TakePassView). x.queue.to) (sym is) ∙ made.nobody.actor;
      taken = ap (λ (x : TakePassView). x.taken) (sym is) ∙ made.nobody.taken;
      nobody = λ _. ap (λ (x : TakePassView). x.queue.senders) (sym is) ∙ made.nobody.senders_are;
    }
pass-of kinds senders guardian takes rows (suc place) t rest made this =
    let there = empty-there kinds 1 senders takes place t rest made.empty this in let sum : 1 + place ≡ suc place = omega arith in record {
      receiver = there.0 ∙ sum;
      taken = there.1;
      nobody = λ none. absurd (omega (arith, none));
    }

guardian-first : (who : Identity) (place : ℕ) → is_guardian who ≡ (place == 0) → is_guardian who ≡ true → place ≡ 0
guardian-first who place is guards = let zeroth : (place == 0) ≡ true = sym is ∙ guards in grind (arith, nat_tests)

others-later : (who : Identity) (place : ℕ) → is_guardian who ≡ (place == 0) → is_guardian who ≡ false → 0 < place
others-later who place is plain = let other : (place == 0) ≡ false = sym is ∙ plain in grind (arith, nat_tests)

-- the home of the actor of this place, as it begins, is its own
pub own-first : (kinds : List MailboxType) (senders : List ℕ) (guardian : TakePassView) (takes : List TakePassView) (rows : List (List SendPassView)) (whos : List Identity)
    (place : ℕ) (who : Identity) (t : TakePassView) (whos' : List Identity) (takes' : List TakePassView) → AreMade kinds senders guardian takes rows
    → length (guardian ∷ takes) ≡ length whos → IsPlanned (length whos) place who → drop place whos ≡ who ∷ whos'
    → drop place (guardian ∷ takes) ≡ t ∷ takes'
    → IsOwn (at_first (unstarted who) t (passes_of takes place) 0 (directory_of whos (guardian ∷ takes)))
own-first kinds senders guardian takes rows whos place who t whos' takes' made many planned here this =
    let number : who.this.0 ≡ place = ap (λ x. x.0) planned.this in
    let pass = pass-of kinds senders guardian takes rows place t takes' made this in record {
      enrolled = ap (slice_get (directory_of whos (guardian ∷ takes))) number
          ∙ enrolled-there whos (guardian ∷ takes) place who t whos' takes' here this;
      all_there = planned.actors_are ∙ sym (length-enrolled whos (guardian ∷ takes) many);
      within_limit = planned.within_limit;
      not_zero = λ plain. subst (λ n. 0 < n) (sym number) (others-later who place planned.guardian_is plain);
      queues = queues-of-passes takes place ∙ ap (drop 1) (sym (queues-enrolled whos (guardian ∷ takes) many));
      by = subst (λ n. All (λ (p : SendPassView). p.by ≡ n) (passes_of takes place)) (sym number) (all-by takes place);
      receivers = λ at p there. let sum : 1 + at ≡ at + 1 = omega arith in receivers kinds 1 senders takes place at p made.empty there ∙ sum;
      receiver = pass.receiver ∙ sym number;
      nobody = λ guards. pass.nobody (guardian-first who place planned.guardian_is guards);
    }
