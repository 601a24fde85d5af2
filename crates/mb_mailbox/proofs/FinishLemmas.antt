-- What the last step of a run needs, and what it leaves.
use Rattle.std.proofs.Common.{◌≡◌, ◌≢◌, ◌⊎◌, inl, inr, ℕ, ◌+◌, ◌≤◌, ◌==◌, Bool, true, false, ◌||◌, List, [], ◌∷◌, ◌++◌}
use Rattle.std.proofs.Common.{refl, sym, ap, ◌∙◌, subst, append_assoc, append-nil, length, arith}
use Rattle.std.specs.Prelude.{MatchBool, Option, Some, None, if◌then◌else◌, reverse}
use Rattle.std.specs.Global.{Box}
use Rattle.mb_status.specs.Mailbox.{Mailbox, word_of, idle}
use Rattle.mb_msg.specs.declared.envelope.Envelope.{Envelope}
use Rattle.mb_actor.specs.Behaviour.{Moment, Reply}
use Rattle.mb_core.specs.declared.wake_obligation.WakeObligation.{WakeObligation}
use Rattle.mb_journal.specs.Entry.{Entry}
use Rattle.mb_journal.specs.Identity.{Identity}
use Rattle.mb_journal.specs.Life.{closed}
use Rattle.mb_journal.specs.Run.{IsReason, AreBlocks, Stopped, most_envelopes}
use Rattle.mb_journal.specs.Run.Stopped.{UsedUp, NotOpen, NoEnvelope, AtClosing, NoRoom}
use Rattle.mb_queue.specs.Passes.{TakePassView}
use Rattle.mb_ghost.specs.Summed.{total}
use Rattle.mb_ghost.proofs.SummedLemmas.{total_append}
use Rattle.mb_journal.specs.Fates.{begun}
use Rattle.mb_gate.specs.declared.claim.Claim.{Claim}
use Rattle.mb_gate.specs.Accessors.{held_actor, claim_view, recorded_by, status_of, taken_with, gave_last}
use Rattle.mb_gate.specs.Claims.{held_in, held_or}
use Rattle.mb_gate.specs.Returned.{GoesOn}
use Rattle.mb_gate.specs.SentSystem.{HasSentDueSince}
use Rattle.mb_ghost.specs.Seen.{Each}
use Rattle.mb_ghost.proofs.SeenLemmas.{each_append}
use Rattle.mb_gate.specs.Rule.{Extends, IsAmong, IsPart}
use Rattle.mb_gate.specs.Untouched.{Origin}
use Rattle.mb_gate.specs.View.{View, Observation, Saw, Held, obligation_to, obligation_of, added_obligations, either_obligation}
use Rattle.mb_gate.specs.View.{idling, taking_in, taken_journal}
use Rattle.mb_gate.specs.Waiting.{counted_off}
use Rattle.mb_core.specs.Actor.{nothing}
use Rattle.mb_gate.proofs.Numbers.{among_first, among_right}
use Rattle.mb_home.specs.AtHome.{IsHomeOf, mailbox_at}
use Rattle.mb_home.specs.Contents.{Contents}
use Rattle.mb_home.specs.Steps.{HasNoBacklog}
use Rattle.mb_register.specs.Due.{GotDue}
use Rattle.mb_register.specs.Views.{LooksAfter}
use Rattle.mb_register.proofs.Bits.{same_or_other}
use Rattle.mb_register.proofs.Views.{owes-other}
use Rattle.mb_mailbox.specs.declared.turn.Turn.{Turn}
use Rattle.mb_register.specs.Caller.{Caller, CallerAdvances, TakesNothing, IsDischargedOrOwed, IsTold, OwesForRefusals, TakesOver}
use Rattle.mb_register.specs.declared.actor_set.ActorSet.{ActorSet}
use Rattle.mb_register.specs.ActorSet.{has_actor}
use Rattle.mb_mailbox.specs.RunRegistrar.{LeavesTelling}
use Rattle.mb_mailbox.specs.Loaded.{loaded_words, BeginsAt}
use Rattle.mb_mailbox.specs.OnlyDrained.{TakesOnlyDrained}
use Rattle.mb_mailbox.specs.Emptied.{FindsNoMore, IsCleared}
use Rattle.mb_mailbox.specs.RunState.{RunState, run_state}
use Rattle.mb_mailbox.specs.RunSends.{IsSentByRun, ended_in, given_by, listed_by, listed_of, refused_of}
use Rattle.mb_mailbox.specs.Ran.{LastTakeFoundNone, LastTakeHadRoom, EndsDrained, EndsEmpty, GivesBackOne, HadRoom, CountsRun, LeavesRun, systems_in, taken_of, with_steps}
use Rattle.mb_mailbox.specs.Recorded.{GrowAlike}
use Rattle.mb_mailbox.specs.Running.{IsRunning, BacklogAgrees, SameRun}
use Rattle.mb_register.proofs.CallerLemmas.{account-then}
use Rattle.mb_mailbox.proofs.CleanLemmas.{ended-closed}
use Rattle.mb_mailbox.proofs.CountLemmas.{begun-since, begun-blocks, counted-all, counts-over}
use Rattle.mb_register.proofs.MoveLemmas.{looks-take-none}
use Rattle.mb_mailbox.proofs.RestLemmas.{closed-front}
use Rattle.mb_register.proofs.SendingLemmas.{looks-send-none, sends-append}
use Rattle.mb_mailbox.proofs.RecordedLemmas.{looks-give-none, looks-list-none}
use Rattle.mb_mailbox.proofs.RunSendsLemmas.{given-append, listed-append}
use Rattle.mb_mailbox.proofs.RunningMoves.{status-at}
use Rattle.mb_mailbox.proofs.RunningSteps.{each-right}
use Rattle.mb_mailbox.proofs.SentDueLemmas.{told-all}

-- ---- the claim may be given back

module _ (gives : ℕ → Moment → Reply → Type 0) (origin : Origin (Box Contents)) (seen : List Observation) (c : Claim (Box Contents))
    (r : IsRunning gives origin [] seen (run_state c)) where
  pub home-own : c.home.value.cell.acts ≡ [] → IsHomeOf (gives (held_actor c)) origin.first.value (held_actor c) c.home.value
  home-own none = record { directory = r.directory; number = r.number; carried_out = none; settled = r.settled; named = r.named }

  pub home-longer : Extends c.home.value.cell.journal (taken_with c)
  home-longer = record { newer = r.told.newer; joined = r.told.joined }

  pub home-fold : word_of (mailbox_at c.home.value.cell.who c.home.value.cell.journal) ≡ word_of (idle (status_of c))
  home-fold = ap word_of (sym (status-at (run_state c) r.leads))

  pub home-told : HasSentDueSince c.home.value.cell.who (held_actor c) (status_of c).closed c.home.value.cell.journal (taken_with c) (recorded_by c)
  home-told =
      told-all c.home.value.cell.who (held_actor c) (taken_with c) (status_of c).closed c.home.value.cell.journal (recorded_by c) r.told

  pub home-rest : BacklogAgrees (run_state c) → ((status_of c).closed ≡ true) ⊎ (gave_last c ≡ false) → HasNoBacklog c.home.value
  home-rest s why = by_test (status_of c).closed refl why
    where
      rest : (b : Bool) → (status_of c).closed ≡ b → MatchBool b (c.home.value.rest ≡ []) (gave_last c ≡ false → HasNoBacklog c.home.value)
      rest b is = subst (λ x. MatchBool x (c.home.value.rest ≡ []) (gave_last c ≡ false → HasNoBacklog c.home.value)) is s.rest

      by_test : (b : Bool) → (status_of c).closed ≡ b → ((status_of c).closed ≡ true) ⊎ (gave_last c ≡ false) → HasNoBacklog c.home.value
      by_test true shut w = record {
        no_rest = rest true shut;
        no_front =
            closed-front c.home.value.cell.who c.home.value.cell.journal (ended-closed gives origin seen (run_state c) [] shut r);
      }
      by_test false open_yet (inl shut) = absurd (cc (open_yet, shut))
      by_test false open_yet (inr nothing) = rest false open_yet nothing

-- ---- what its pass knows and owes then

or-false : (b : Bool) → (b || false) ≡ b
or-false true = refl
or-false false = refl

either-none : (d : WakeObligation) → either_obligation d nothing ≡ d
either-none d = λ i. record { system = or-false d.system i; message = or-false d.message i; sending = or-false d.sending i }

added-none : (other : ℕ) (ds : List (ℕ × WakeObligation)) → obligation_of other (added_obligations ds []) ≡ obligation_of other ds
added-none other [] = refl
added-none other (d ∷ ds) = λ i. if d.0 == other then either-none d.1 i else added-none other ds i

taken-held : (c : Option Held) → taken_journal c ≡ (held_or c).journal
taken-held None = refl
taken-held (Some c) = refl

-- what holds of all that a caller knows held of all that it knew
pub each-before : {H : Type 0} (P : Observation → Type 0) (a b : Caller H) → CallerAdvances a b → Each P b.view.log → Each P a.view.log
each-before P a b g all = each-right P g.more a.view.log (subst (Each P) g.log all)

module _ (actor : ℕ) (journal : List Entry) (v w mid : View) (obligations : v.obligations ≡ []) (known : mid ≡ idling actor journal (taking_in v w)) where
  log-released : mid.log ≡ Saw actor journal ∷ (w.log ++ v.log)
  log-released = ap (λ (x : View). x.log) known

  owes-released : (other : ℕ) → other ≢ actor → obligation_to other mid ≡ obligation_to other w
  owes-released other apart =
      ap (obligation_to other) known ∙ owes-other actor _ (taking_in v w) other apart
      ∙ ap (λ ds. obligation_of other (added_obligations w.obligations ds)) obligations ∙ added-none other w.obligations

  module _ (new : View) (looks : LooksAfter actor mid new) where
    log-after : new.log ≡ (looks.looks ++ []) ++ Saw actor journal ∷ (w.log ++ v.log)
    log-after = looks.log ∙ ap (λ l. (looks.looks ++ []) ++ l) log-released

    pub saw-journal : IsAmong (Saw actor journal) new.log
    saw-journal =
        subst (IsAmong (Saw actor journal)) (sym log-after)
        (among_right (Saw actor journal) (looks.looks ++ []) (Saw actor journal ∷ (w.log ++ v.log)) (among_first (Saw actor journal)
        (w.log ++ v.log)))

    -- what lists gave to the pass, and to the claim
    pub given-after : given_by new.log ≡ given_by v.log ++ given_by w.log
    given-after =
        ap given_by log-after ∙ given-append (looks.looks ++ []) (Saw actor journal ∷ (w.log ++ v.log))
        ∙ ap (λ l. given_by (w.log ++ v.log) ++ l) (given-append looks.looks [] ∙ looks-give-none actor looks.looks looks.only)
        ∙ append-nil (given_by (w.log ++ v.log)) ∙ given-append w.log v.log

    puts-after : listed_by v.log ≡ [] → listed_by new.log ≡ listed_by w.log
    puts-after none =
        ap listed_by log-after ∙ listed-append (looks.looks ++ []) (Saw actor journal ∷ (w.log ++ v.log))
        ∙ ap (λ l. l ++ listed_by (w.log ++ v.log))
        (listed-append looks.looks [] ∙ append-nil (listed_by looks.looks) ∙ looks-list-none actor looks.looks looks.only)
        ∙ listed-append w.log v.log ∙ ap (λ l. listed_by w.log ++ l) none ∙ append-nil (listed_by w.log)

    -- what the pass put into lists, and the claim nothing; and what the pass found ended
    pub listed-after : listed_by v.log ≡ [] → (listed_by new.log ≡ listed_by w.log)
        × ((to : ℕ) → total (ended_in to) w.log ≤ total (ended_in to) new.log)
    listed-after none = (
      puts-after none,
      λ to.
          (let all = ap (total (ended_in to)) log-after in
          let one = total_append (ended_in to) (looks.looks ++ []) (Saw actor journal ∷ (w.log ++ v.log)) in
          let two = total_append (ended_in to) w.log v.log in omega (arith, all, one, two)),
    )

    -- the claim's own steps, besides what it knew before and did itself
    pub steps-taken : {H : Type 0} (a b : Caller H) → b.view ≡ w → CallerAdvances a b → TakesOver a.view new v.log
    steps-taken a b here g = record {
      own_log = (looks.looks ++ []) ++ Saw actor journal ∷ g.more;
      took_none = each_append TakesNothing (looks.looks ++ []) (Saw actor journal ∷ g.more)
          (each_append TakesNothing looks.looks [] (looks-take-none actor looks.looks looks.only) tt) (tt, g.took_none);
      sends_open = sends-append (looks.looks ++ []) (Saw actor journal ∷ g.more)
          (sends-append looks.looks [] (looks-send-none actor looks.looks looks.only) tt) g.sends_open;
      joined =
          log-after ∙ ap (λ l. (looks.looks ++ []) ++ Saw actor journal ∷ (l ++ v.log)) (sym (ap (λ (x : View). x.log) here) ∙ g.log)
          ∙ ap (λ l. (looks.looks ++ []) ++ Saw actor journal ∷ l) (append_assoc g.more a.view.log v.log)
          ∙ sym (append_assoc (looks.looks ++ []) (Saw actor journal ∷ g.more) (a.view.log ++ v.log));
    }

    -- the cell went back, and before and after it cells whose claims the run queue refused
    pub gives-back : {H : Type 0} (a b : Caller H) → b.view ≡ w → CallerAdvances a b → v.releases ≡ [] →
        GivesBackOne (record { actor = actor; taken = (held_in v).journal; back = journal }) a.view new
    gives-back a b here g none_released = record {
      earlier = g.gives_back.more;
      earlier_unchanged = g.gives_back.unchanged;
      later = looks.gives_back.more;
      later_unchanged = looks.gives_back.unchanged;
      releases =
          looks.gives_back.releases
          ∙ ap (λ l. looks.gives_back.more ++ l)
          (ap (λ (x : View). x.releases) known ∙ (λ i. record { actor = actor; taken = taken-held v.claim i; back = journal } ∷ before i));
    }
      where
        before : w.releases ++ v.releases ≡ g.gives_back.more ++ a.view.releases
        before =
            ap (λ l. w.releases ++ l) none_released ∙ append-nil w.releases ∙ sym (ap (λ (x : View). x.releases) here) ∙ g.gives_back.releases

    known-still : (more old : List Observation) → w.log ≡ more ++ old → IsPart old new.log
    known-still more old is = record {
      before = (looks.looks ++ []) ++ Saw actor journal ∷ more;
      after = v.log;
      joined =
          log-after ∙ ap (λ l. (looks.looks ++ []) ++ Saw actor journal ∷ (l ++ v.log)) is
          ∙ ap (λ l. (looks.looks ++ []) ++ Saw actor journal ∷ l) (append_assoc more old v.log)
          ∙ sym (append_assoc (looks.looks ++ []) (Saw actor journal ∷ more) (old ++ v.log));
    }

-- the run went on, the claim was given back, and the actor was registered
pub leaves-caller : {H : Type 0} (actor : ℕ) (journal : List Entry) (v mid : View) (a b new : Caller H) → v.obligations ≡ [] → v.share ≡ [] →
    mid ≡ idling actor journal (taking_in v b.view) → LooksAfter actor mid new.view → CallerAdvances a b → new.told ≡ b.told →
    OwesForRefusals b.account new.account → IsDischargedOrOwed actor new → LeavesTelling a new
leaves-caller actor journal v mid a b new obligations bare known looks g same_told account discharged = record {
  log = known-still actor journal v b.view mid obligations known new.view looks g.more a.view.log g.log;
  account = account-then a.account b.account new.account g.account account;
  obligations = λ other. by_actor other (same_or_other other actor);
  share = looks.share ∙ ap (λ (x : View). x.share) known ∙ ap (λ s. b.view.share ++ s) bare ∙ append-nil b.view.share ∙ g.share;
}
  where
    by_run : (other : ℕ) → obligation_to other new.view ≡ obligation_to other b.view →
        IsDischargedOrOwed other b ⊎ (obligation_to other b.view ≡ obligation_to other a.view) ⊎ IsTold other b →
        IsDischargedOrOwed other new ⊎ (obligation_to other new.view ≡ obligation_to other a.view) ⊎ IsTold other new
    by_run other kept (inl (inl none)) = inl (inl (kept ∙ none))
    by_run other kept (inl (inr owed)) = inl (inr (account.still other owed))
    by_run other kept (inr (inl same)) = inr (inl (kept ∙ same))
    by_run other kept (inr (inr still)) = inr (inr (still.0, ap (λ (o : ActorSet). has_actor o other) same_told ∙ still.1))

    by_actor : (other : ℕ) → (other ≡ actor) ⊎ (other ≢ actor) →
        IsDischargedOrOwed other new ⊎ (obligation_to other new.view ≡ obligation_to other a.view) ⊎ IsTold other new
    by_actor other (inl same) = inl (subst (λ n. IsDischargedOrOwed n new) (sym same) discharged)
    by_actor other (inr apart) =
        by_run other (looks.others other apart ∙ owes-released actor journal v b.view mid obligations known other apart) (g.obligations other)

-- ---- what a run tells

-- the run ends with an empty queue
pub ends-empty : (who : Identity) (throughput n : ℕ) (stopped : Stopped) (from : TakePassView) (h : RunState) → HadRoom stopped →
    LastTakeFoundNone from h.home.take stopped → IsReason who throughput n h.home.cell.journal stopped →
    (closed who h.home.cell.journal ≡ true → FindsNoMore from h.home.take) → EndsEmpty stopped (closed who h.home.cell.journal) →
    FindsNoMore from h.home.take
ends-empty who throughput n UsedUp from h had asked reason cleared ends = cleared ends
ends-empty who throughput n (NotOpen word) from h had asked reason cleared ends = cleared ends
ends-empty who throughput n (NoEnvelope word) from h had asked reason cleared ends = asked
ends-empty who throughput n AtClosing from h had asked reason cleared ends = cleared reason
ends-empty who throughput n NoRoom from h had asked reason cleared ends = absurd ends

-- an actor that ended in the run was cleaned up
pub ends-cleared : (gives : ℕ → Moment → Reply → Type 0) (origin : Origin (Box Contents)) (seen : List Observation) (first last : RunState) →
    first.status.closed ≡ false → IsRunning gives origin [] seen last → IsCleared first last →
    closed last.home.cell.who last.home.cell.journal ≡ true → FindsNoMore first.home.take last.home.take
ends-cleared gives origin seen first last open_yet r cleared ended =
    by_case (cleared (ap (λ (m : Mailbox). m.closed) (status-at last r.leads) ∙ ended))
  where
    by_case : ((first.status.closed ≡ true) × (last.home.take ≡ first.home.take)) ⊎ FindsNoMore first.home.take last.home.take →
        FindsNoMore first.home.take last.home.take
    by_case (inl shut) = absurd (cc (open_yet, shut.0))
    by_case (inr found) = found

pub leaves-run : (throughput : ℕ) (first last : Claim (Box Contents)) (old pass : View) (turn : Turn) (stopped : Stopped) →
    taken_with first ≡ first.home.value.cell.journal → SameRun (run_state first) (run_state last) → CountsRun (run_state last) turn →
    turn.envelopes ≤ most_envelopes throughput →
    IsReason last.home.value.cell.who throughput turn.envelopes last.home.value.cell.journal stopped →
    EndsDrained (held_actor last) (claim_view last).log stopped → LastTakeHadRoom last.home.value.cell.who last.home.value.cell.journal stopped →
    TakesOnlyDrained (held_actor last) (claim_view last).log → IsAmong (Saw (held_actor last) last.home.value.cell.journal) pass.log →
    Each (GoesOn (held_actor last) (taken_with last)) old.log → pass.share ≡ old.share →
    GivesBackOne (record { actor = held_actor last; taken = taken_with last; back = last.home.value.cell.journal }) old pass →
    TakesOver old pass (claim_view last).log → GotDue (with_steps (claim_view last).log old) pass → (w : View) → GrowAlike (recorded_by first) old (recorded_by last) w →
    pass.sent_system ≡ w.sent_system →
    (listed_by pass.log ≡ listed_by w.log) × ((to : ℕ) → total (ended_in to) w.log ≤ total (ended_in to) pass.log) →
    given_by pass.log ≡ given_by (claim_view last).log ++ given_by w.log →
    recorded_by first ≡ [] →
    IsSentByRun first.home.value.cell.who (held_actor first) last.home.value.cell.journal first.home.value.cell.journal first.home.value.rest
    (claim_view last).log (recorded_by last) → (claim_view first).log ≡ [] →
    first.home.value.take.taken ≡ begun first.home.value.cell.journal →
    last.home.value.take.taken ≡ begun last.home.value.cell.journal ++ last.home.value.cleaned →
    (closed last.home.value.cell.who last.home.value.cell.journal ≡ false → last.home.value.cleaned ≡ []) →
    (EndsEmpty stopped (closed first.home.value.cell.who last.home.value.cell.journal) → FindsNoMore first.home.value.take last.home.value.take) →
    LeavesRun throughput first old pass last.home.value.cell.journal turn stopped
leaves-run throughput first last old pass turn stopped taken same t few reason ends room only_drained saw goes_on share gives_back part got_due w sends kept puts given unsent told fresh at_first at_last keeps empty =
    let before : (run_state last).before ≡ first.home.value.cell.journal = same.before ∙ taken in
    let journal = last.home.value.cell.journal in
    let blocks : AreBlocks first.home.value.cell.who first.home.value.cell.journal turn.envelopes journal =
    subst (λ (x : Identity × List Entry). AreBlocks x.0 x.1 turn.envelopes journal) (λ i. (same.who i, before i)) t.blocks in
    let steps = (claim_view last).log in
    let all_sent : sends.more ≡ recorded_by last = sym (sends.recorded ∙ ap (λ l. l ++ sends.more) unsent) in
    let since = begun-since first.home.value.cell.who first.home.value.cell.journal journal turn.envelopes blocks in
    let counted : total (counted_off (held_actor first)) steps ≡ turn.envelopes + length last.home.value.cleaned =
    ap (λ n. total (counted_off n) steps) (sym same.actor)
    ∙ counted-all journal first.home.value.cell.journal last.home.value.take.taken last.home.value.cleaned first.home.value.take.taken
    (total (counted_off (held_actor first)) (claim_view first).log) (total (counted_off (held_actor last)) steps) turn.envelopes same.counted
    (ap (total (counted_off (held_actor first))) fresh) (ap (λ (l : List Envelope). length l) at_first) at_last
    (begun-blocks first.home.value.cell.who first.home.value.cell.journal journal turn.envelopes blocks) in
    record {
      run = record {
        envelopes = turn.envelopes;
        blocks = blocks;
        at_most = few;
        reason = subst (λ (w : Identity). IsReason w throughput turn.envelopes journal stopped) same.who reason;
      };
      actor = t.actor ∙ same.actor;
      envelopes = refl;
      system = ap (λ j. turn.system + systems_in j) (sym before) ∙ t.system;
      seen = subst (λ n. IsAmong (Saw n journal) pass.log) same.actor saw;
      goes_on = subst (λ (x : ℕ × List Entry). Each (GoesOn x.0 x.1) old.log) (λ i. (same.actor i, before i)) goes_on;
      share = share;
      gives_back = subst (λ (x : ℕ × List Entry). GivesBackOne (record { actor = x.0; taken = x.1; back = journal }) old pass)
          (λ i. (same.actor i, before i)) gives_back;
      steps = (claim_view last).log;
      taken_over = part;
      got_due = got_due;
      told = recorded_by last;
      told_is = told;
      puts = puts.0 ∙ sends.puts ∙ ap (λ l. listed_of (reverse l) ++ listed_by old.log) all_sent;
      refused = λ to.
          (let sent = sends.refused to in let later = puts.1 to in let all = ap (total (refused_of to)) all_sent in omega (arith, sent, later, all));
      given = given ∙ ap (λ l. given_by (claim_view last).log ++ l) sends.got_nothing;
      sent_system = kept ∙ sends.sent ∙ ap (λ l. reverse l ++ old.sent_system) all_sent;
      only_drained = subst (λ n. TakesOnlyDrained n (claim_view last).log) same.actor only_drained;
      begins = subst (λ j. BeginsAt (loaded_words (claim_view last).log) j journal) before t.begins;
      last = subst (λ n. EndsDrained n (claim_view last).log stopped) same.actor ends;
      room = subst (λ (w : Identity). LastTakeHadRoom w journal stopped) same.who room;
      started = since.0;
      started_is = since.1;
      cleaned = last.home.value.cleaned;
      none_cleaned = λ open_yet. keeps (ap (λ (w : Identity). closed w journal) same.who ∙ open_yet);
      emptied = λ ends. record {
        left = last.home.value.take;
        gave =
            at_last ∙ ap (λ l. l ++ last.home.value.cleaned) (since.1 ∙ ap (λ l. l ++ since.0) (sym at_first))
            ∙ append_assoc first.home.value.take.taken since.0 last.home.value.cleaned;
        empty = empty ends;
      };
      counted = counted;
      counts =
          counts-over (held_actor first) old pass steps (turn.envelopes + length last.home.value.cleaned) part
          (subst (λ n. TakesOnlyDrained n steps) same.actor only_drained) counted
          ∙ (let sum : total (taken_of (held_actor first)) old.log + (turn.envelopes + length last.home.value.cleaned)
          ≡ total (taken_of (held_actor first)) old.log + turn.envelopes + length last.home.value.cleaned = omega arith in sum);
    }
