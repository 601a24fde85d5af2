-- Acts that are carried out one by one lead to the journal's mailbox, from the status with which a claim was taken.
use Rattle.std.proofs.Common.{◌≡◌, ◌+◌, ◌*◌, ◌<◌, Bool, true, false, List, [], ◌∷◌, refl, sym, ap, ◌∙◌, arith}
use Rattle.std.specs.Prelude.{if◌then◌else◌}
use Rattle.mb_status.specs.Mailbox.{Mailbox, most_suspensions, word_of, idle, suspend, resume, closed_mailbox}
use Rattle.mb_msg.specs.declared.envelope.Body.{Body}
use Rattle.mb_msg.specs.declared.id.ActorId.{ActorId}
use Rattle.mb_msg.specs.declared.system.SysMsg.{SysMsg}
use Rattle.mb_journal.specs.Acts.{Act}
use Rattle.mb_journal.specs.Acts.Act.{Tell, Sys, SuspendSelf, ResumeSelf, CloseSelf}
use Rattle.mb_home.specs.Carried.{Leads}

module _ (m to : Mailbox) (rest : List Act) where
  -- what is sent to others leaves the mailbox as it is
  pub leads-tell : (x : ActorId) (told : Body) → Leads m (Tell x told ∷ rest) to → Leads m rest to
  leads-tell x told l = record { ends = l.ends; counts = l.counts }

  pub leads-sys : (x : ActorId) (message : SysMsg) → Leads m (Sys x message ∷ rest) to → Leads m rest to
  leads-sys x message l = record { ends = l.ends; counts = l.counts }

  -- a suspension is one that the mailbox can count
  pub leads-suspend : Leads m (SuspendSelf ∷ rest) to → (m.count < most_suspensions) × Leads (suspend m) rest to
  leads-suspend l = (l.counts.0, record { ends = l.ends; counts = l.counts.1 })

  pub leads-resume : Leads m (ResumeSelf ∷ rest) to → Leads (resume m) rest to
  leads-resume l = record { ends = l.ends; counts = l.counts }

  pub leads-close : Leads m (CloseSelf ∷ rest) to → Leads closed_mailbox rest to
  leads-close l = record { ends = l.ends; counts = l.counts }

-- once all are carried out the mailbox is the journal's
pub leads-nowhere : (m to : Mailbox) → Leads m [] to → idle m ≡ to
leads-nowhere m to l = l.ends

-- two words that are the same are of one mailbox, if one of the two is open and neither is scheduled
pub same-word : (a b : Mailbox) → a.scheduled ≡ false → b.closed ≡ false → word_of a ≡ word_of (idle b) → idle b ≡ a
same-word a b free open_yet same = by_closed a.closed refl
  where
    at_b : word_of (idle b) ≡ 4 * b.count
    at_b = ap (λ c. if c then 1 else 4 * b.count + 0) open_yet ∙ (let sum : 4 * b.count + 0 ≡ 4 * b.count = omega arith in sum)

    by_closed : (c : Bool) → a.closed ≡ c → idle b ≡ a
    by_closed true is =
        let one : 1 ≡ 4 * b.count =
        sym (ap (λ c. if c then 1 else 4 * a.count + (if a.scheduled then 2 else 0)) is) ∙ same ∙ at_b in absurd (omega (arith, one))
    by_closed false is =
        let four : 4 * a.count + 0 ≡ 4 * b.count =
        sym (λ i. if is i then 1 else 4 * a.count + (if free i then 2 else 0)) ∙ same ∙ at_b in
        let counts : b.count ≡ a.count = omega (arith, four) in
        λ i. record { closed = (open_yet ∙ sym is) i; scheduled = sym free i; count = counts i }
