-- What is kept beside a cell stays right where neither it nor the journal changes.
use Rattle.std.proofs.Common.{◌≡◌, ℕ, ◌+◌, ◌%◌, ◌^◌, Bool, true, false, List, [], length, refl, sym, ◌∙◌, subst, arith}
use Rattle.std.specs.Prelude.{MatchBool}
use Rattle.mb_status.specs.Mailbox.{Mailbox}
use Rattle.mb_journal.specs.Aside.{next_front, next_number}
use Rattle.mb_gate.specs.View.{SentSystem, Observation}
use Rattle.mb_home.specs.AtHome.{given_of}
use Rattle.mb_home.specs.Contents.{Contents}
use Rattle.mb_home.specs.Steps.{HasNoBacklog}
use Rattle.mb_mailbox.specs.RunState.{RunState}
use Rattle.mb_mailbox.specs.Running.{BacklogAgrees, KeepsJournal, SameRun, counted_by}
use Rattle.mb_mailbox.proofs.EmptiedLemmas.{takes-same, takes-then}

pub match-both : (b : Bool) (P Q P' Q' : Type 0) → (P → P') → (Q → Q') → MatchBool b P Q → MatchBool b P' Q'
match-both true P Q P' Q' f g p = f p
match-both false P Q P' Q' f g q = g q

module _ (h : RunState) (s : BacklogAgrees h) where
  -- what lies at home changed, but neither the journal nor what was drained
  pub backlog-home : (new : Contents) → new.cell.who ≡ h.home.cell.who → new.cell.journal ≡ h.home.cell.journal → new.rest ≡ h.home.rest →
      new.dropped ≡ h.home.dropped → BacklogAgrees (record h { home = new })
  backlog-home new who journal rest dropped = record {
    count = (λ i. (next_number (journal i) + dropped i + length (rest i)) % 2 ^ 64) ∙ s.count;
    rest =
        match-both h.status.closed (h.home.rest ≡ []) (h.gave ≡ false → HasNoBacklog h.home) (new.rest ≡ []) (h.gave ≡ false → HasNoBacklog new)
        (λ none. rest ∙ none)
        (λ no_backlog nothing. record {
          no_rest = rest ∙ (no_backlog nothing).no_rest;
          no_front = (λ i. next_front (who i) (journal i)) ∙ (no_backlog nothing).no_front;
        })
        s.rest;
  }

  -- the status was written, but the mailbox was not closed
  pub backlog-status : (status : Mailbox) → status.closed ≡ h.status.closed → BacklogAgrees (record h { status = status })
  backlog-status status same = record {
    count = s.count;
    rest = subst (λ b. MatchBool b (h.home.rest ≡ []) (h.gave ≡ false → HasNoBacklog h.home)) (sym same) s.rest;
  }

  -- a system message was sent
  pub backlog-recorded : (recorded : List SentSystem) → BacklogAgrees (record h { recorded = recorded })
  backlog-recorded recorded = record { count = s.count; rest = s.rest }

  -- the pass or the claim did something that no drain is
  pub backlog-log : (log : List Observation) → BacklogAgrees (record h { log = log })
  backlog-log log = record { count = s.count; rest = s.rest }

-- once it is closed, nothing is beside it
pub backlog-closed : (h : RunState) → h.status.closed ≡ true → given_of h.home ≡ h.given → h.home.rest ≡ [] → BacklogAgrees h
backlog-closed h shut count none = record {
  count = count;
  rest = subst (λ b. MatchBool b (h.home.rest ≡ []) (h.gave ≡ false → HasNoBacklog h.home)) (sym shut) none;
}

-- a run that keeps the journal, step after step
pub keeps-same : (h : RunState) → KeepsJournal h h
keeps-same h = record {
  same = record { actor = refl; who = refl; before = refl; takes = takes-same _ _ refl; counted = refl };
  journal = refl;
  loaded = refl;
}

-- as many were counted as came out, first and then
pub counted-then : (a b c x y z : ℕ) → b + x ≡ a + y → c + y ≡ b + z → c + x ≡ a + z
counted-then a b c x y z first then' = omega (arith, first, then')

pub keeps-then : (a b c : RunState) → KeepsJournal a b → KeepsJournal b c → KeepsJournal a c
keeps-then a b c p q = record {
  same = record {
    actor = q.same.actor ∙ p.same.actor;
    who = q.same.who ∙ p.same.who;
    before = q.same.before ∙ p.same.before;
    takes = takes-then _ _ _ p.same.takes q.same.takes;
    counted = counted-then _ _ _ (counted_by a) (counted_by b) (counted_by c) p.same.counted q.same.counted;
  };
  journal = q.journal ∙ p.journal;
  loaded = q.loaded ∙ p.loaded;
}

pub same-run-then : (a b c : RunState) → SameRun a b → SameRun b c → SameRun a c
same-run-then a b c p q = record {
  actor = q.actor ∙ p.actor;
  who = q.who ∙ p.who;
  before = q.before ∙ p.before;
  takes = takes-then _ _ _ p.takes q.takes;
  counted = counted-then _ _ _ (counted_by a) (counted_by b) (counted_by c) p.counted q.counted;
}
