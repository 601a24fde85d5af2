-- Acts that are carried out on a closed mailbox leave it closed.
use Rattle.std.proofs.Common.{◌≡◌, ◌+◌, true, List, [], ◌∷◌, refl, sym, ap, ◌∙◌}
use Rattle.std.specs.Prelude.{if◌then◌else◌}
use Rattle.mb_status.specs.Mailbox.{Mailbox, suspend, resume, closed_mailbox}
use Rattle.mb_journal.specs.Acts.{Act}
use Rattle.mb_journal.specs.Acts.Act.{Tell, Sys, SuspendSelf, ResumeSelf, CloseSelf}
use Rattle.mb_home.specs.Carried.{Leads, mailbox_after}

stays-closed : (m : Mailbox) (rest : List Act) → m.closed ≡ true → (mailbox_after m rest).closed ≡ true
stays-closed m [] shut = shut
stays-closed m (Tell to body ∷ rest) shut = stays-closed m rest shut
stays-closed m (Sys to message ∷ rest) shut = stays-closed m rest shut
stays-closed m (SuspendSelf ∷ rest) shut =
    stays-closed (suspend m) rest (ap (λ b. (if b then m else record m { count = m.count + 1 }).closed) shut ∙ shut)
stays-closed m (ResumeSelf ∷ rest) shut = stays-closed (resume m) rest shut
stays-closed m (CloseSelf ∷ rest) shut = stays-closed closed_mailbox rest refl

pub leads-closed : (m to : Mailbox) (rest : List Act) → m.closed ≡ true → Leads m rest to → to.closed ≡ true
leads-closed m to rest shut l = sym (ap (λ (x : Mailbox). x.closed) l.ends) ∙ stays-closed m rest shut
