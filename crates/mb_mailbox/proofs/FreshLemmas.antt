-- A run may begin with a claim that was just taken.
use Rattle.std.proofs.Common.{◌≡◌, inl, ℕ, false, List, [], ◌∷◌, ◌++◌, length, Some, refl, sym, ap, ◌∙◌, subst, append-nil, arith}
use Rattle.std.specs.Prelude.{MatchBool}
use Rattle.std.specs.Global.{Box}
use Rattle.mb_status.specs.Mailbox.{Mailbox}
use Rattle.mb_actor.specs.Behaviour.{Moment, Reply}
use Rattle.mb_journal.specs.Life.{closed}
use Rattle.mb_journal.specs.Run.{AreBlocks}
use Rattle.mb_journal.specs.Run.IsBlock.{no_more}
use Rattle.mb_journal.specs.Run.AreBlocks.{first_block}
use Rattle.mb_ghost.specs.Seen.{Each}
use Rattle.mb_journal.specs.Fates.{begun}
use Rattle.mb_gate.specs.Claims.{held_in}
use Rattle.mb_gate.specs.declared.claim.Claim.{Claim}
use Rattle.mb_gate.specs.Accessors.{claim_id, held_actor, claim_view, status_of, gave_last, taken_with}
use Rattle.mb_gate.specs.Rule.{IsAmong}
use Rattle.mb_gate.specs.Untouched.{Origin}
use Rattle.mb_gate.specs.View.{View, Observation}
use Rattle.mb_gate.proofs.Numbers.{among_first, among_left, among_more, among_right}
use Rattle.mb_home.specs.AtHome.{closed_receivers, drained_of, given_of, mailbox_at, system_entries}
use Rattle.mb_home.specs.Contents.{Contents}
use Rattle.mb_home.specs.Directory.{DirectoryEntry}
use Rattle.mb_home.specs.Steps.{HasNoBacklog}
use Rattle.mb_home.proofs.CarryLemmas.{same-word}
use Rattle.mb_mailbox.specs.declared.turn.Turn.{Turn}
use Rattle.mb_home.specs.Fresh.{IsFreshClaim}
use Rattle.mb_mailbox.specs.RunState.{RunState, run_state}
use Rattle.mb_mailbox.specs.Ran.{CountsRun}
use Rattle.mb_mailbox.specs.Running.{IsRunning, BacklogAgrees, IsKnownClosedTo}
use Rattle.mb_mailbox.proofs.SentDueLemmas.{told-first}

each-of : {A : Type 0} (P : A → Type 0) (xs : List A) → ((x : A) → IsAmong x xs → P x) → Each P xs
each-of P [] f = tt
each-of P (x ∷ xs) f = (f x (among_first x xs), each-of P xs (λ y a. f y (among_more y x xs a)))

module _ (gives : ℕ → Moment → Reply → Type 0) (origin : Origin (Box Contents)) (c : Claim (Box Contents)) (u : IsFreshClaim gives (Some origin) c)
  where
    -- as it was taken
    abbrev fresh_hold : RunState
    fresh_hold = record {
      gates = claim_id c;
      actor = held_actor c;
      status = status_of c;
      home = c.home.value;
      before = c.home.value.cell.journal;
      closed_to = closed_receivers c.home.value.dead;
      gave = gave_last c;
      given = given_of c.home.value;
      drained = drained_of c.home.value;
      recorded = [];
      log = [];
      obligations = [];
      share = [];
      releases = [];
      got = [];
      returned = [];
    }

    hold-fresh : run_state c ≡ fresh_hold
    hold-fresh = λ i. record {
      gates = claim_id c;
      actor = held_actor c;
      status = status_of c;
      home = c.home.value;
      before = (held_in (u.known i)).journal;
      closed_to = (held_in (u.known i)).closed_to;
      gave = (held_in (u.known i)).gave;
      given = (held_in (u.known i)).given;
      drained = (held_in (u.known i)).drained;
      recorded = u.recorded i;
      log = (u.known i).log;
      obligations = (u.known i).obligations;
      share = (u.known i).share;
      releases = (u.known i).releases;
      got = (u.known i).got;
      returned = (u.known i).returned;
    }

    pub taken-fresh : taken_with c ≡ c.home.value.cell.journal
    taken-fresh = ap (λ (v : View). (held_in v).journal) u.known

    -- nothing was done with it
    pub log-fresh : (claim_view c).log ≡ []
    log-fresh = ap (λ (v : View). v.log) u.known

    -- and all that came out of the queue was begun
    pub taken-begun : c.home.value.take.taken ≡ begun c.home.value.cell.journal
    taken-begun =
        let h = c.home.value in
        let same = same-word (mailbox_at h.cell.who h.cell.journal) (status_of c) refl u.open_yet u.word in
        let open_yet : closed h.cell.who h.cell.journal ≡ false = sym (ap (λ (m : Mailbox). m.closed) same) ∙ u.open_yet in
        u.same_gates.of_actor.settled.taken ∙ ap (λ l. begun h.cell.journal ++ l) (u.same_gates.of_actor.settled.open_keeps open_yet)
        ∙ append-nil (begun h.cell.journal)

    pub running-fresh : (seen : List Observation) → length origin.first.value.directory ≡ origin.actors → IsRunning gives origin [] seen (run_state c)
    running-fresh seen many =
        let h = c.home.value in
        subst (IsRunning gives origin [] seen) (sym hold-fresh)
        (record {
          same_gates = u.same_gates.gates;
          present = u.same_gates.present;
          directory = u.same_gates.of_actor.directory;
          number = u.same_gates.of_actor.number;
          settled = u.same_gates.of_actor.settled;
          leads = record {
            ends = same-word (mailbox_at h.cell.who h.cell.journal) (status_of c) refl u.open_yet u.word;
            counts = tt;
          };
          told = told-first h.cell.who (held_actor c) h.cell.journal (status_of c).closed;
          known_closed = each-of (IsKnownClosedTo seen fresh_hold) (closed_receivers h.dead) (λ other among. inl among);
          entered = each-of (λ m. IsAmong m (drained_of h)) (system_entries h.cell.journal) (λ m among. among_left m (system_entries h.cell.journal) h.rest among);
          left = each-of (λ m. IsAmong m (drained_of h)) h.rest (λ m among. among_right m (system_entries h.cell.journal) h.rest among);
          logged = tt;
          same_count = u.same_gates.of_actor.settled.is_own.all_there ∙ ap (λ (l : List DirectoryEntry). length l) u.same_gates.of_actor.directory ∙ many;
          named = u.same_gates.of_actor.named;
          sends = tt;
          only_drained = tt;
          puts_nothing = refl;
          owes_nothing = refl;
          bare = refl;
          none_released = refl;
          none_got = refl;
          none_returned = refl;
        })

    pub backlog-fresh : BacklogAgrees (run_state c)
    backlog-fresh =
        subst BacklogAgrees (sym hold-fresh)
        (record {
          count = refl;
          rest =
              subst (λ b. MatchBool b (c.home.value.rest ≡ []) (gave_last c ≡ false → HasNoBacklog c.home.value)) (sym u.open_yet) u.rest;
        })

    pub run_counts-fresh : (turn : Turn) → turn.actor.0 ≡ held_actor c → turn.system ≡ 0 → turn.envelopes ≡ 0 → CountsRun (run_state c) turn
    run_counts-fresh turn actor system envelopes =
        subst (λ (x : RunState). CountsRun x turn) (sym hold-fresh)
        (record {
          blocks =
              subst (λ n. AreBlocks c.home.value.cell.who c.home.value.cell.journal n c.home.value.cell.journal) (sym envelopes)
              (first_block c.home.value.cell.journal no_more);
          system = omega (arith, system);
          actor = actor;
          begins = record { newer = []; joined = refl; begun_at = refl };
        })
