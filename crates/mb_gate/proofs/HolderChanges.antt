-- What the holder makes of a mailbox, it makes of the mailbox of its word.
use Rattle.std.proofs.Common.{◌≡◌, ℕ, ◌+◌, ◌*◌, ◌/◌, ◌%◌, ◌<◌, if◌then◌else◌, inl, inr, ⊎_elim, Bool, true, false, sym, refl, ap, ◌∙◌, subst, eq-eqb, ne_eqb, arith}
use Rattle.mb_status.specs.Mailbox.{Mailbox, word_of, mailbox_of, most_suspensions, suspend, resume, idle, closed_mailbox}
use Rattle.mb_gate.specs.TableSteps.{IsHolderChange}
use Rattle.mb_gate.proofs.Wins.{open_word, closed_word}

read_parts : (n : ℕ) (s : Bool) → mailbox_of (4 * n + (if s then 2 else 0)) ≡ record { closed = false; scheduled = s; count = n }
read_parts n true i = record {
  closed = ne_eqb (4 * n + 2) 1 (λ e. omega arith) i;
  scheduled = eq-eqb ((4 * n + 2) / 2 % 2) 1 (omega arith) i;
  count = count_of i;
}
  where
    count_of : (4 * n + 2) / 4 ≡ n
    count_of = omega arith
read_parts n false i = record {
  closed = ne_eqb (4 * n + 0) 1 (λ e. omega arith) i;
  scheduled = ne_eqb ((4 * n + 0) / 2 % 2) 1 (λ e. omega arith) i;
  count = count_of i;
}
  where
    count_of : (4 * n + 0) / 4 ≡ n
    count_of = omega arith

-- an open mailbox is the mailbox of its word
open_read : (m : Mailbox) → m.closed ≡ false → mailbox_of (word_of m) ≡ m
open_read m e = ap mailbox_of (open_word m e) ∙ (read_parts m.count m.scheduled ∙ (λ i. record {
  closed = sym e i;
  scheduled = m.scheduled;
  count = m.count;
}))

closed_read : (m : Mailbox) → m.closed ≡ true → mailbox_of (word_of m) ≡ closed_mailbox
closed_read m e = ap mailbox_of (closed_word m e)

suspend_read : (m n : Mailbox) (b : Bool) → m.closed ≡ b → m.count < most_suspensions → n ≡ suspend m → ((mailbox_of (word_of m)).count < most_suspensions)
    × (mailbox_of (word_of n) ≡ suspend (mailbox_of (word_of m)))
suspend_read m n true e few is =
    let old = closed_read m e in
    let same : n ≡ m = is ∙ ap (λ b. if b then m else record m { count = m.count + 1 }) e in (
      subst (λ (z : Mailbox). z.count < most_suspensions) (sym old) (omega arith),
      ap (λ z. mailbox_of (word_of z)) same ∙ (old ∙ ap suspend (sym old)),
    )
suspend_read m n false e few is =
    let old = open_read m e in
    let more : n ≡ record m { count = m.count + 1 } = is ∙ ap (λ b. if b then m else record m { count = m.count + 1 }) e in (
      subst (λ (z : Mailbox). z.count < most_suspensions) (sym old) few,
      open_read n (ap (λ (z : Mailbox). z.closed) more ∙ e) ∙ (is ∙ ap suspend (sym old)),
    )

resume_read : (m n : Mailbox) (b : Bool) → m.closed ≡ b → n ≡ resume m → mailbox_of (word_of n) ≡ resume (mailbox_of (word_of m))
resume_read m n true e is = closed_read n (ap (λ (z : Mailbox). z.closed) is ∙ e) ∙ ap resume (sym (closed_read m e))
resume_read m n false e is = open_read n (ap (λ (z : Mailbox). z.closed) is ∙ e) ∙ (is ∙ ap resume (sym (open_read m e)))

pub change_read : (m n : Mailbox) → IsHolderChange m n → IsHolderChange (mailbox_of (word_of m)) (mailbox_of (word_of n))
change_read m n change = ⊎_elim (λ s. inl (suspend_read m n m.closed refl s.0 s.1))
    (λ other. inr (⊎_elim (λ r. inl (resume_read m n m.closed refl r)) (λ c. inr (ap (λ z. mailbox_of (word_of z)) c)) other)) change

idle_parts : (n : ℕ) (s : Bool) → (4 * n + (if s then 2 else 0)) % 4 ≡ 2 → 4 * n + (if s then 2 else 0) ≡ 4 * n + 0 + 2
idle_parts n true e = omega arith
idle_parts n false e = absurd (omega arith)

-- a scheduled mailbox has two more in its word than it has once it is idle
pub idle_two : (m : Mailbox) → m.closed ≡ false → word_of m % 4 ≡ 2 → word_of m ≡ word_of (idle m) + 2
idle_two m e two = open_word m e ∙ (idle_parts m.count m.scheduled (ap (λ k. k % 4) (sym (open_word m e)) ∙ two) ∙ ap (λ k. k + 2) (sym (open_word (idle m) e)))
