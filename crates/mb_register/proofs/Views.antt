-- What the steps of a pass at one actor do to what it knows.
use Rattle.std.proofs.Common.{◌≡◌, ◌≢◌, ◌==◌, ℕ, Bool, true, false, ◌||◌, if◌then◌else◌}
use Rattle.std.proofs.Common.{List, [], ◌∷◌, ◌++◌, refl, sym, ap, ◌∙◌, subst, arith, append_assoc, append-nil}
use Rattle.std.proofs.lemmas.Bool.Decides.{nat_tests}
use Rattle.mb_status.specs.Mailbox.{mailbox_of}
use Rattle.mb_msg.specs.declared.system.SysMsg.{SysMsg}
use Rattle.mb_core.specs.declared.wake_obligation.WakeObligation.{WakeObligation}
use Rattle.mb_core.specs.Actor.{nothing}
use Rattle.mb_core.specs.Run.{after_reading}
use Rattle.mb_journal.specs.Entry.{Entry}
use Rattle.mb_ghost.proofs.SeenLemmas.{each_append}
use Rattle.mb_gate.specs.Claims.{claimed}
use Rattle.mb_gate.specs.View.{View, Observation, Saw, Sent, Unsent, Pushed, Ended, SentSystem, obligation_to, with_obligation, obligation_of, added_obligations, either_obligation}
use Rattle.mb_gate.specs.View.{seeing, reading, winning, counting, looking, idling, taking_in, sending, unsending, enlisting, refusing}
use Rattle.mb_register.specs.Views.{Does, IsLook, LooksAfter}
use Rattle.mb_register.proofs.Unchanged.{unchanged-none, unchanged-then}

module _ (id : ℕ) where
  pub owes-same : (d : WakeObligation) (v : View) → obligation_to id (with_obligation id d v) ≡ d
  owes-same d v = let same : (id == id) ≡ true = grind (arith, nat_tests) in ap (λ b. if b then d else obligation_to id v) same

  pub owes-other : (d : WakeObligation) (v : View) (other : ℕ) → other ≢ id → obligation_to other (with_obligation id d v) ≡ obligation_to other v
  owes-other d v other ne = let apart : (id == other) ≡ false = grind (arith, nat_tests) in ap (λ b. if b then d else obligation_to other v) apart

  pub looks-none : (v : View) → LooksAfter id v v
  looks-none v = record {
    looks = [];
    only = tt;
    log = refl;
    sent_system = refl;
    others = λ other ne. refl;
    share = refl;
    gives_back = unchanged-none _ _ refl;
  }

  -- something done, and then looks
  pub does-then : (did : List Observation) (told : List SentSystem) (u v w : View) → Does id did told u v → LooksAfter id v w → Does id did told u w
  does-then did told u v w a b = record {
    looks = b.looks ++ a.looks;
    only = each_append (IsLook id) b.looks a.looks b.only a.only;
    log = b.log ∙ ap (λ l. (b.looks ++ []) ++ l) a.log ∙ joined;
    sent_system = b.sent_system ∙ a.sent_system;
    others = λ other ne. b.others other ne ∙ a.others other ne;
    share = b.share ∙ a.share;
    gives_back = unchanged-then u v w a.gives_back b.gives_back;
  }
    where
      joined : (b.looks ++ []) ++ ((a.looks ++ did) ++ u.log) ≡ ((b.looks ++ a.looks) ++ did) ++ u.log
      joined =
          ap (λ l. l ++ ((a.looks ++ did) ++ u.log)) (append-nil b.looks) ∙ sym (append_assoc b.looks (a.looks ++ did) u.log)
          ∙ ap (λ l. l ++ u.log) (sym (append_assoc b.looks a.looks did))

  pub looks-then : (u v w : View) → LooksAfter id u v → LooksAfter id v w → LooksAfter id u w
  looks-then = does-then [] []

  pub looks-seeing : (s : Observation) (v : View) → IsLook id s → LooksAfter id v (seeing s v)
  looks-seeing s v is = record {
    looks = s ∷ [];
    only = (is, tt);
    log = refl;
    sent_system = refl;
    others = λ other ne. refl;
    share = refl;
    gives_back = unchanged-none _ _ refl;
  }

  pub looks-reading : (word : ℕ) (v : View) → LooksAfter id v (reading id word v)
  looks-reading word v = record {
    looks = _ ∷ [];
    only = (refl, tt);
    log = refl;
    sent_system = refl;
    others = owes-other (after_reading (mailbox_of word) (obligation_to id v)) v;
    share = refl;
    gives_back = unchanged-none _ _ refl;
  }

  looks-if : (b : Bool) (u v w : View) → LooksAfter id u v → LooksAfter id u w → LooksAfter id u (if b then v else w)
  looks-if true u v w a b = a
  looks-if false u v w a b = b

  pub looks-counting : (n : ℕ) (v : View) → LooksAfter id v (counting id n v)
  looks-counting n v = looks-if (n == 0) v _ _
      (record {
        looks = _ ∷ [];
        only = (refl, tt);
        log = refl;
        sent_system = refl;
        others = owes-other (record (obligation_to id v) { message = false }) v;
        share = refl;
        gives_back = unchanged-none _ _ refl;
      })
      (looks-seeing _ v refl)

  pub looks-looking : (b : Bool) (v : View) → LooksAfter id v (looking id b v)
  looks-looking true v = looks-seeing _ v refl
  looks-looking false v = record {
    looks = _ ∷ [];
    only = (refl, tt);
    log = refl;
    sent_system = refl;
    others = owes-other (record (obligation_to id v) { system = false }) v;
    share = refl;
    gives_back = unchanged-none _ _ refl;
  }

  looks-winning : (v : View) → LooksAfter id v (winning id v)
  looks-winning v = record {
    looks = [];
    only = tt;
    log = refl;
    sent_system = refl;
    others = owes-other nothing (record v { got = id ∷ v.got });
    share = refl;
    gives_back = unchanged-none _ _ refl;
  }

  -- after a reading; after one and another; after one that was followed by a won exchange
  pub looks-read : (a : ℕ) (v w : View) → w ≡ reading id a v → LooksAfter id v w
  looks-read a v w is = subst (LooksAfter id v) (sym is) (looks-reading a v)

  pub looks-read-twice : (a b : ℕ) (v w : View) → w ≡ reading id b (reading id a v) → LooksAfter id v w
  looks-read-twice a b v w is =
      subst (LooksAfter id v) (sym is) (looks-then v (reading id a v) (reading id b (reading id a v)) (looks-reading a v) (looks-reading b
      (reading id a v)))

  pub looks-read-won : (a : ℕ) (v w : View) → w ≡ winning id (reading id a v) → LooksAfter id v w
  looks-read-won a v w is =
      subst (LooksAfter id v) (sym is) (looks-then v (reading id a v) (winning id (reading id a v)) (looks-reading a v) (looks-winning
      (reading id a v)))

  -- an envelope was counted, or counted and taken back
  pub does-sending : (v w : View) → w ≡ sending id 1 v → Does id (Sent id 1 ∷ []) [] v w
  does-sending v w is = subst (Does id (Sent id 1 ∷ []) [] v) (sym is) (record {
    looks = [];
    only = tt;
    log = refl;
    sent_system = refl;
    others = owes-other (record (obligation_to id v) { sending = true }) v;
    share = refl;
    gives_back = unchanged-none _ _ refl;
  })

  pub does-unsending : (u v w : View) → v ≡ sending id 1 u → w ≡ unsending id 1 v → Does id (Unsent id 1 ∷ Sent id 1 ∷ []) [] u w
  does-unsending u v w sent is = let a = does-sending u v sent in subst (Does id (Unsent id 1 ∷ Sent id 1 ∷ []) [] u) (sym is) (record {
    looks = [];
    only = tt;
    log = ap (λ (x : View). Unsent id 1 ∷ x.log) sent;
    sent_system = a.sent_system;
    others = λ other ne. owes-other (record (obligation_to id v) { message = true; sending = false }) v other ne ∙ a.others other ne;
    share = a.share;
    gives_back = unchanged-then u v _ a.gives_back (unchanged-none _ _ refl);
  })

  -- a message was put into the list, or found it ended
  pub does-enlisting : (number : ℕ) (message : SysMsg) (v w : View) → w ≡ enlisting id number message v →
      Does id (Pushed id number message ∷ []) (record { to = id; message = message; was_ended = false } ∷ []) v w
  does-enlisting number message v w is =
      subst (Does id (Pushed id number message ∷ []) (record { to = id; message = message; was_ended = false } ∷ []) v) (sym is) (record {
        looks = [];
        only = tt;
        log = refl;
        sent_system = refl;
        others = owes-other (record (obligation_to id v) { system = true }) v;
        share = refl;
        gives_back = unchanged-none _ _ refl;
      })

  pub does-refusing : (message : SysMsg) (v w : View) → w ≡ refusing id message v →
      Does id (Ended id [] ∷ []) (record { to = id; message = message; was_ended = true } ∷ []) v w
  does-refusing message v w is =
      subst (Does id (Ended id [] ∷ []) (record { to = id; message = message; was_ended = true } ∷ []) v) (sym is)
      (record {
        looks = [];
        only = tt;
        log = refl;
        sent_system = refl;
        others = λ other ne. refl;
        share = refl;
        gives_back = unchanged-none _ _ refl;
      })

-- what is owed by a pass is as it was once a claim that owed nothing was put into its place
or-false : (b : Bool) → (b || false) ≡ b
or-false true = refl
or-false false = refl

either-none : (d : WakeObligation) → either_obligation d nothing ≡ d
either-none d = λ i. record { system = or-false d.system i; message = or-false d.message i; sending = or-false d.sending i }

added-none : (other : ℕ) (ds : List (ℕ × WakeObligation)) → obligation_of other (added_obligations ds []) ≡ obligation_of other ds
added-none other [] = refl
added-none other (d ∷ ds) = λ i. if d.0 == other then either-none d.1 i else added-none other ds i

-- a claim that was just taken is given back
module _ (id : ℕ) (j : List Entry) (shut : List ℕ) (word : ℕ) (gave : Bool) (given : ℕ) (drained : List (ℕ × SysMsg)) where
  looks-idled : (v : View) → LooksAfter id v (idling id j (taking_in (claimed id j shut word gave given drained) v))
  looks-idled v = record {
    looks = Saw id j ∷ [];
    only = (refl, tt);
    log = ap (λ l. Saw id j ∷ l) (append-nil v.log);
    sent_system = refl;
    others = λ other ne. owes-other id _ (taking_in (claimed id j shut word gave given drained) v) other ne ∙ added-none other v.obligations;
    share = append-nil v.share;
    gives_back = record {
      more = record { actor = id; taken = j; back = j } ∷ [];
      unchanged = (refl, tt);
      releases = ap (λ l. record { actor = id; taken = j; back = j } ∷ l) (append-nil v.releases);
    };
  }

  pub looks-back : (v c w : View) → c ≡ claimed id j shut word gave given drained → w ≡ idling id j (taking_in c v) → LooksAfter id v w
  looks-back v c w is after = subst (LooksAfter id v) (sym (after ∙ ap (λ (u : View). idling id j (taking_in u v)) is)) (looks-idled v)
