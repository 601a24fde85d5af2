-- Which claims a run gets, and what becomes of them.
use Rattle.std.proofs.Common.{◌≡◌, ◌⊎◌, inl, inr, ℕ, ◌+◌, ◌<◌, ◌==◌, if◌then◌else◌, Bool, true, false}
use Rattle.mb_core.specs.Actor.{nothing}
use Rattle.mb_gate.specs.declared.claim.Claim.{Claim}
use Rattle.mb_register.specs.declared.actor_set.ActorSet.{ActorSet}
use Rattle.mb_register.specs.ActorSet.{has_actor}
use Rattle.std.proofs.Common.{List, [], ◌∷◌, ◌++◌, refl, sym, ap, ◌∙◌, subst, arith, append_assoc, append-nil}
use Rattle.mb_msg.specs.declared.system.SysMsg.{SysMsg}
use Rattle.mb_journal.specs.Entry.{Entry}
use Rattle.mb_gate.specs.ClaimCounts.{times}
use Rattle.mb_gate.specs.View.{View, Saw, Pushed, enlisting, idling, obligation_to, taking_in}
use Rattle.mb_register.specs.Caller.{Caller, CallerAdvances, IsDischargedOrOwed, IsTold, OwesForRefusals}
use Rattle.mb_register.specs.Due.{GotOnlyDue, GotDue}
use Rattle.mb_register.specs.Registering.{QueueAccount, HandsClaimOn, LosesNoClaim}
use Rattle.mb_register.specs.Views.{GotAndGaveBack, LooksAfter}
use Rattle.mb_register.specs.declared.hint.Hint.TheVariants as hint
use Rattle.mb_register.proofs.CallerLemmas.{account-none}
use Rattle.mb_register.proofs.ClaimCounts.{loses-handed, loses-then}
use Rattle.mb_register.proofs.DueLemmas.{all-carried, carries-below, carries-later, due-hinted-by, got-further, got-no-claim, got-registered}
use Rattle.mb_register.proofs.MoveLemmas.{Moves, further-tells, moves-does}
use Rattle.mb_register.proofs.Views.{does-enlisting}
use Rattle.mb_mailbox.specs.Ran.{LosesNoClaimBut, with_steps}

-- a system message was put into a list, and its receiver is to be registered
pub further-listed : {H : Type 0} (id number : ℕ) (message : SysMsg) (a b : Caller H) → b.view ≡ enlisting id number message a.view →
    b.account ≡ a.account → IsTold id b → ((other : ℕ) → IsTold other a → IsTold other b) → CallerAdvances a b
further-listed id number message a b put same here told =
    further-tells id a b
    (moves-does id (Pushed id number message ∷ []) _ a.view b.view (tt, tt) tt (does-enlisting id number message a.view b.view put))
    (subst (OwesForRefusals a.account) (sym same) (account-none a.account)) (inr here) told
    (loses-handed id a.account b.account a.view b.view false
    (inl (same, record { got = ap (λ (v : View). v.got) put; returned = ap (λ (v : View). v.returned) put })))
    (got-no-claim a.view b.view (ap (λ (v : View). v.got) put))

-- an envelope was sent or refused, and its receiver was noted if it is due
pub further-noted : {H : Type 0} (id : ℕ) (a b : Caller H) → Moves id a.view b.view → b.account ≡ a.account → id < 64 →
    (obligation_to id b.view ≡ nothing) ⊎ (has_actor b.told id ≡ true) → ((other : ℕ) → has_actor a.told other ≡ true → has_actor b.told other ≡ true) →
    GotAndGaveBack [] [] a.view b.view → CallerAdvances a b
further-noted id a b moves same few here told claims =
    further-tells id a b moves (subst (OwesForRefusals a.account) (sym same) (account-none a.account)) (noted here)
    (λ other still. (still.0, told other still.1)) (loses-handed id a.account b.account a.view b.view false (inl (same, claims)))
    (got-no-claim a.view b.view claims.got)
  where
    noted : (obligation_to id b.view ≡ nothing) ⊎ (has_actor b.told id ≡ true) → IsDischargedOrOwed id b ⊎ IsTold id b
    noted (inl owes_nothing) = inl (inl owes_nothing)
    noted (inr there) = inr (few, there)

-- the port and the looks that are owed are as before, and so is the account
pub same-account : {H W : Type 0} (pushed refused : W → List (Claim H)) (old new : W) (owed owed' : ActorSet) → new ≡ old → owed' ≡ owed →
    (let x : QueueAccount H = record { pushed = pushed new; refused = refused new; owed = owed' } in x)
    ≡ (let y : QueueAccount H = record { pushed = pushed old; refused = refused old; owed = owed } in y)
same-account pushed refused old new owed owed' same still = (λ i. record { pushed = pushed (same i); refused = refused (same i); owed = still i })

plus-moved : (f r b : ℕ) → f + (r + b) ≡ (f + r) + b
plus-moved f r b = omega arith

module _ {H : Type 0} (actor : ℕ) (journal : List Entry) (v mid : View) (a b : Caller H) (no_claim : v.got ≡ [])
    (known : mid ≡ idling actor journal (taking_in v b.view)) (g : CallerAdvances a b) where
  got-released : mid.got ≡ b.view.got
  got-released = ap (λ (x : View). x.got) known ∙ ap (λ l. b.view.got ++ l) no_claim ∙ append-nil b.view.got

  -- the run's own claim went home, and then its actor was registered
  pub loses-but : (new : Caller H) → v.returned ≡ [] → LosesNoClaim b.account new.account mid new.view → LosesNoClaimBut actor a new
  loses-but new none registered = loses-then a.account b.account new.account (record a.view { returned = actor ∷ a.view.returned }) mid new.view released registered
    where
      home : mid.returned ≡ actor ∷ b.view.returned
      home = ap (λ (x : View). x.returned) known ∙ ap (λ l. actor ∷ (b.view.returned ++ l)) none ∙ ap (λ l. actor ∷ l) (append-nil b.view.returned)

      released : LosesNoClaim a.account b.account (record a.view { returned = actor ∷ a.view.returned }) mid
      released = record {
        went = g.claims.went;
        back = g.claims.back;
        pushed = g.claims.pushed;
        refused = g.claims.refused;
        got = λ it. ap (times it) got-released ∙ g.claims.got it;
        returned = λ it. ap (times it) home ∙ ap (λ n. (if actor == it then 1 else 0) + n) (g.claims.returned it)
            ∙ plus-moved (if actor == it then 1 else 0) _ _;
      }

  pub run-due : (id : ℕ) (old new_account : QueueAccount H) (new : View) (result : Bool) → LooksAfter id mid new → HandsClaimOn id old new_account mid new result →
      GotOnlyDue hint.None mid new → GotDue (with_steps v.log a.view) new
  run-due id old new_account new result looks handed due =
      got-further (with_steps v.log a.view) mid new (Saw actor journal ∷ g.more) (looks.looks ++ []) longer looks.log first
      (got-registered id hint.None old new_account mid mid new result handed due
      (due-hinted-by id hint.None mid mid new [] refl refl
      (λ has. let e : false ≡ true = has in absurd (cc)))
      refl)
    where
      below : View
      below = with_steps v.log a.view

      between : View
      between = with_steps v.log b.view

      after : mid.log ≡ Saw actor journal ∷ (b.view.log ++ v.log)
      after = ap (λ (x : View). x.log) known

      longer : mid.log ≡ Saw actor journal ∷ (g.more ++ (a.view.log ++ v.log))
      longer = after ∙ ap (λ l. Saw actor journal ∷ l) (ap (λ l. l ++ v.log) g.log ∙ append_assoc g.more a.view.log v.log)

      first : GotDue below mid
      first = record {
        of_these = g.got_due.of_these;
        got = got-released ∙ g.got_due.got;
        due = all-carried below between below mid (carries-later below between mid (Saw actor journal ∷ []) after) g.got_due.of_these
            (all-carried a.view b.view below between (carries-below a.view b.view below between v.log refl refl) g.got_due.of_these g.got_due.due);
      }
