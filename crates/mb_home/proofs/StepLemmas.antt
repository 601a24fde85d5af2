-- A home that agrees with its journal still does after each step.
use Rattle.std.proofs.Common.{◌≡◌, inl, inr, ℕ, ◌+◌, ◌%◌, ◌^◌, ◌<◌, ◌≤◌, Bool, true, false, List, [], ◌∷◌, ◌++◌, length, refl, sym, ap, ◌∙◌}
use Rattle.std.proofs.Common.{subst, arith, append-nil}
use Rattle.std.specs.Prelude.{All, Contains, if◌then◌else◌, ◌==◌, not, ◌&&◌, slice_get, Option, Some, None, IsTrue}
use Rattle.std.proofs.Math.Nat.{mod-eq_of_lt}
use Rattle.std.proofs.lemmas.List.Elements.{All-nil}
use Rattle.std.proofs.lemmas.Option.{slice_get_within, get_or_from_slice_get}
use Rattle.mb_msg.specs.declared.dead_letter.DeadLetter.{DeadLetter}
use Rattle.mb_msg.specs.declared.envelope.Envelope.{Envelope}
use Rattle.mb_msg.specs.declared.system.SysMsg.{SysMsg}
use Rattle.mb_syslist.specs.MessageList.{numbered}
use Rattle.mb_actor.specs.Behaviour.{Moment, Reply}
use Rattle.mb_actor.specs.declared.phase.Phase.{Phase}
use Rattle.mb_actor.specs.declared.phase.Phase.TheVariants.{Fresh, Live, Broken, Ending, Ended}
use Rattle.mb_journal.specs.Acts.{acts}
use Rattle.mb_journal.specs.Aside.{aside, ever_aside, first_of_list, next_front, next_number}
use Rattle.mb_journal.specs.Reading.{IsOpen}
use Rattle.mb_journal.specs.Suspension.{count}
use Rattle.mb_cell.proofs.OpenLaws.{open-live}
use Rattle.std.proofs.lemmas.Bool.Decides.{nat_tests}
use Rattle.mb_journal.specs.Entry.{Entry, Outcome}
use Rattle.mb_journal.specs.Entry.Entry.{Handled, System, Dropped}
use Rattle.mb_journal.specs.Identity.{Identity, is_guardian}
use Rattle.mb_journal.specs.Lawful.{IsLawful, IsNumbered}
use Rattle.mb_journal.specs.Life.{closed, phase, phase_after}
use Rattle.mb_journal.specs.Phase.{phase_is}
use Rattle.mb_cell.specs.CellView.{CellView, IsOf, MayTake, TakesSystem, TakesEnvelope}
use Rattle.mb_queue.specs.Passes.{SendPassView, TakePassView}
use Rattle.mb_journal.specs.Fates.{begun}
use Rattle.mb_journal.specs.Tells.{AddressedBody, told}
use Rattle.mb_home.specs.Contents.{Contents}
use Rattle.mb_home.specs.Directory.{DirectoryEntry}
use Rattle.mb_home.specs.AgreesWithJournal.{IsOwn, IsReason, AgreesWithJournal, messages_in, aside_at_end}
use Rattle.mb_home.specs.Steps.{most_tells, at_first, AppliesNext, IsDue}
use Rattle.mb_home.proofs.CountLemmas.{aside-below, few-numbers, front-of, next-new, next-again, rest-first}
use Rattle.mb_home.proofs.AgreesLemmas.{SameQueue, settled-more, settled-ready, with_more}

-- ---- the next number

module _ (h : Contents) (gives : Moment → Reply → Type 0) (s : AgreesWithJournal gives [] h) (not_ended : closed h.cell.who h.cell.journal ≡ false) where
  none_dropped : h.dropped ≡ 0
  none_dropped = s.counted.none not_ended

  small : next_number h.cell.journal < 2 ^ 64
  small = omega (arith, few-numbers h.cell.who gives h.cell.journal s.lawful.entries, s.lawful.within_limit, s.is_own.within_limit)

  at_next : (next_number h.cell.journal + h.dropped) % 2 ^ 64 ≡ next_number h.cell.journal
  at_next =
      ap (λ d. (next_number h.cell.journal + d) % 2 ^ 64) none_dropped
      ∙ ap (λ n. n % 2 ^ 64) (let sum : next_number h.cell.journal + 0 ≡ next_number h.cell.journal = omega arith in sum)
      ∙ mod-eq_of_lt small

  -- the number of the message that is due is the one that the cell asks for
  pub number-due : (number : ℕ) (m : SysMsg) (left : List (ℕ × SysMsg)) → IsDue (next_front h.cell.who h.cell.journal) h.rest number m left →
      IsNumbered h.cell.who h.cell.journal number m
  number-due number m left due = by_front (next_front h.cell.who h.cell.journal) refl due
    where
      by_front : (o : Option (ℕ × SysMsg)) → next_front h.cell.who h.cell.journal ≡ o → IsDue o h.rest number m left →
          IsNumbered h.cell.who h.cell.journal number m
      by_front None none is = inl ((rest-first _ h.rest left number m s.counted.rest is).0 ∙ at_next)
      by_front (Some front) some is = inr (some ∙ ap (λ (x : ℕ × SysMsg). Some x) is.0)

  -- what is drained goes on from the message that was applied
  goes_on : (number : ℕ) (m : SysMsg) (outcome : Outcome) (left : List (ℕ × SysMsg)) →
      IsDue (next_front h.cell.who h.cell.journal) h.rest number m left →
      left ≡ numbered ((next_number (System number m outcome ∷ h.cell.journal) + h.dropped) % 2 ^ 64) (messages_in left)
  goes_on number m outcome left due = by_front (next_front h.cell.who h.cell.journal) refl due
    where
      by_front : (o : Option (ℕ × SysMsg)) → next_front h.cell.who h.cell.journal ≡ o → IsDue o h.rest number m left →
          left ≡ numbered ((next_number (System number m outcome ∷ h.cell.journal) + h.dropped) % 2 ^ 64) (messages_in left)
      by_front None none is =
          let first = rest-first _ h.rest left number m s.counted.rest is in
          let new : number ≡ next_number h.cell.journal = first.0 ∙ at_next in
          let next : (next_number h.cell.journal + h.dropped) % 2 ^ 64 + 1 ≡ next_number (System number m outcome ∷ h.cell.journal) + h.dropped =
          omega (arith, at_next, next-new h.cell.journal number m outcome new, new, none_dropped) in
          first.1 ∙ ap (λ n. numbered (n % 2 ^ 64) (messages_in left)) next
      by_front (Some front) some is =
          let less : number < next_number h.cell.journal =
          front-of (λ (x : ℕ × SysMsg). x.0 < next_number h.cell.journal) h.cell.who h.cell.journal (number, m) (some
          ∙ ap (λ (x : ℕ × SysMsg). Some x) is.0)
          (aside-below h.cell.who gives h.cell.journal s.lawful.entries) in
          is.1
          ∙ s.counted.rest
          ∙ ap (λ n. numbered ((n + h.dropped) % 2 ^ 64) (messages_in h.rest)) (sym (next-again h.cell.journal number m outcome less))
          ∙ ap (λ l. numbered ((next_number (System number m outcome ∷ h.cell.journal) + h.dropped) % 2 ^ 64) (messages_in l)) (sym is.1)

  -- then the message that was due
  pub settled-next : (new : CellView) (number : ℕ) (m : SysMsg) (left : List (ℕ × SysMsg)) (aside_dead : ℕ) → most_tells ≤ h.room →
      TakesSystem h.cell new number m → IsDue (next_front h.cell.who h.cell.journal) h.rest number m left → IsLawful new.who gives new.journal →
      aside_dead ≡ (if closed new.who new.journal then length (aside h.cell.who h.cell.journal) else 0) →
      AgreesWithJournal gives new.acts (record h { cell = new; rest = left; aside_dead = aside_dead })
  settled-next new number m left aside_dead room took due lawful counted =
      let e : Entry = System number m took.outcome in
      let lawful' : IsLawful h.cell.who gives (e ∷ h.cell.journal) = subst (λ (c : CellView). IsLawful c.who gives c.journal) took.adds lawful in
      subst (λ (c : CellView). AgreesWithJournal gives c.acts (record h { cell = c; rest = left; aside_dead = aside_dead })) (sym took.adds)
      (settled-more h gives e h.take left aside_dead s not_ended lawful' room (refl, refl)
      (s.taken ∙ ap (λ l. begun h.cell.journal ++ l) (s.open_keeps not_ended) ∙ append-nil (begun h.cell.journal))
      (record {
        rest = goes_on number m took.outcome left due;
        aside = counted ∙ ap (λ (c : CellView). if closed c.who c.journal then length (aside h.cell.who h.cell.journal) else 0) took.adds;
        none = λ _. none_dropped;
      }))

-- ---- envelopes

phase-of-envelope : (p : Phase) (who : Identity) (e : Entry) (before : List Entry) (envelope : Envelope) (reading : ℕ) → IsOf envelope reading e →
    phase_is (phase_after p who e before) Ended ≡ phase_is p Ended
phase-of-envelope Fresh who (Handled x r o) before envelope reading of_it = refl
phase-of-envelope Live who (Handled x r o) before envelope reading of_it = refl
phase-of-envelope Broken who (Handled x r o) before envelope reading of_it = refl
phase-of-envelope Ending who (Handled x r o) before envelope reading of_it = refl
phase-of-envelope Ended who (Handled x r o) before envelope reading of_it = refl
phase-of-envelope Fresh who (Dropped x) before envelope reading of_it = refl
phase-of-envelope Live who (Dropped x) before envelope reading of_it = refl
phase-of-envelope Broken who (Dropped x) before envelope reading of_it = refl
phase-of-envelope Ending who (Dropped x) before envelope reading of_it = refl
phase-of-envelope Ended who (Dropped x) before envelope reading of_it = refl
phase-of-envelope p who (System n m o) before envelope reading of_it = absurd of_it

closed-same : (who : Identity) (e : Entry) (before : List Entry) (envelope : Envelope) (reading : ℕ) → IsOf envelope reading e →
    closed who (e ∷ before) ≡ closed who before
unfolding phase
closed-same who e before envelope reading of_it = phase-of-envelope (phase who before) who e before envelope reading of_it

number-same : (before : List Entry) (e : Entry) (envelope : Envelope) (reading : ℕ) → IsOf envelope reading e → next_number (e ∷ before)
    ≡ next_number before
unfolding next_number
number-same before (Handled x r o) envelope reading of_it = refl
number-same before (System n m o) envelope reading of_it = absurd of_it
number-same before (Dropped x) envelope reading of_it = refl

begun-one : (before : List Entry) (e : Entry) (envelope : Envelope) (reading : ℕ) → IsOf envelope reading e → begun (e ∷ before)
    ≡ begun before ++ envelope ∷ []
begun-one before (Handled x r o) envelope reading of_it = ap (λ (y : Envelope). begun before ++ y ∷ []) of_it.0
begun-one before (System n m o) envelope reading of_it = absurd of_it
begun-one before (Dropped x) envelope reading of_it = ap (λ (y : Envelope). begun before ++ y ∷ []) of_it

pub open-aside : (who : Identity) (journal : List Entry) → closed who journal ≡ false → aside_at_end who journal ≡ 0
open-aside who [] not_ended = refl
open-aside who (e ∷ before) not_ended = ap (λ b. if b then length (aside who before) else 0) not_ended

-- then an envelope that was begun
pub settled-begun : (h : Contents) (gives : Moment → Reply → Type 0) (new : CellView) (take : TakePassView) (envelope : Envelope) (reading : ℕ) →
    AgreesWithJournal gives [] h →
    closed h.cell.who h.cell.journal ≡ false → most_tells ≤ h.room → TakesEnvelope h.cell new envelope reading → IsLawful new.who gives new.journal →
    SameQueue take h.take → take.taken ≡ h.take.taken ++ envelope ∷ [] → AgreesWithJournal gives new.acts (record h { cell = new; take = take })
settled-begun h gives new take envelope reading s not_ended room took lawful same taken =
    let e : Entry = took.entry in
    let lawful' : IsLawful h.cell.who gives (e ∷ h.cell.journal) = subst (λ (c : CellView). IsLawful c.who gives c.journal) took.adds lawful in
    let still : closed h.cell.who (e ∷ h.cell.journal) ≡ false = closed-same h.cell.who e h.cell.journal envelope reading took.of_it ∙ not_ended in
    subst (λ (c : CellView). AgreesWithJournal gives c.acts (record h { cell = c; take = take })) (sym took.adds)
    (settled-ready (with_more h e take h.rest h.aside_dead) gives (acts h.cell.who h.cell.journal e) new.is_ready h.room
    (settled-more h gives e take h.rest h.aside_dead s not_ended lawful' room same
    (taken
    ∙ ap (λ l. l ++ envelope ∷ [])
    (s.taken ∙ ap (λ l. begun h.cell.journal ++ l) (s.open_keeps not_ended) ∙ append-nil (begun h.cell.journal))
    ∙ sym (begun-one h.cell.journal e envelope reading took.of_it))
    (record {
      rest = s.counted.rest ∙ ap (λ n. numbered ((n + h.dropped) % 2 ^ 64) (messages_in h.rest)) (sym
          (number-same h.cell.journal e envelope reading took.of_it));
      aside = s.counted.aside ∙ open-aside h.cell.who h.cell.journal not_ended ∙ sym (open-aside h.cell.who (e ∷ h.cell.journal) still);
      none = λ _. s.counted.none not_ended;
    })) (omega arith))

-- ---- the beginning

all-unused : (sends : List SendPassView) (place : ℕ) (p : SendPassView) → All (λ (q : SendPassView). q.pushed ≡ []) sends → slice_get sends place ≡ Some p →
    p.pushed ≡ []
all-unused sends place p all there =
    let it = all place p (slice_get_within sends place p there) in
    ap (λ (q : SendPassView). q.pushed) (sym (get_or_from_slice_get sends place p p there)) ∙ it

-- an unused home
pub settled-first : (gives : Moment → Reply → Type 0) (cell : CellView) (take : TakePassView) (sends : List SendPassView) (room : ℕ) (directory : List DirectoryEntry) →
    cell.journal ≡ [] → take.taken ≡ [] → All (λ (p : SendPassView). p.pushed ≡ []) sends → IsOwn (at_first cell take sends 0 directory) →
    IsLawful cell.who gives cell.journal →
    AgreesWithJournal gives [] (at_first cell take sends room directory)
settled-first gives cell take sends room directory untouched none_taken none_pushed own lawful = record {
  is_own = record {
    enrolled = own.enrolled;
    all_there = own.all_there;
    within_limit = own.within_limit;
    not_zero = own.not_zero;
    queues = own.queues;
    by = own.by;
    receivers = own.receivers;
    receiver = own.receiver;
    nobody = own.nobody;
  };
  lawful = lawful;
  taken = none_taken ∙ ap (λ j. begun j ++ []) (sym untouched);
  open_keeps = λ _. refl;
  fit = record { present = All-nil (λ (t : AddressedBody). (0 < t.0.0) × (t.0.0 ≤ length sends)); room = omega arith };
  posted = record {
    postings = [];
    told = ap (λ j. told cell.who j) (sym untouched);
    sent = refl;
    pushed = λ place p there. all-unused sends place p none_pushed there;
    dead = refl;
  };
  counted = record { rest = refl; aside = ap (λ j. aside_at_end cell.who j) (sym untouched); none = λ _. refl };
  reasons = All-nil (λ (d : DeadLetter). IsReason directory d.why d.envelope.to.0);
}

-- nothing is to be applied to an actor to which nothing came
pub no_backlog-first : (cell : CellView) → cell.journal ≡ [] → next_front cell.who cell.journal ≡ None
unfolding next_front aside ever_aside
no_backlog-first cell untouched = ap (λ j. next_front cell.who j) untouched ∙ by_tests (count cell.who [] == 0 && not (phase_is
    (phase cell.who []) Ending)) (closed cell.who [])
  where
    by_tests : (b c : Bool) → (if b then first_of_list (if c then [] else []) else None) ≡ None
    by_tests false c = refl
    by_tests true true = refl
    by_tests true false = refl

-- an open reading is of a Live actor
pub open-phase : (h : Contents) (gives : Moment → Reply → Type 0) (reading : ℕ) → AgreesWithJournal gives [] h → IsOpen h.cell.who h.cell.journal reading →
    (closed h.cell.who h.cell.journal ≡ false) × (phase h.cell.who h.cell.journal ≡ Live)
open-phase h gives reading s is_open =
    let tests : (closed h.cell.who h.cell.journal ≡ false) × (count h.cell.who h.cell.journal ≡ 0) = (
      grind (arith, nat_tests, is_open.open_word, is_open.same_count, is_open.same_closing),
      grind
          (arith, nat_tests, is_open.open_word, is_open.same_count, is_open.same_closing),
    ) in
    (tests.0, open-live h.cell.who gives h.cell.journal s.lawful.entries tests.1 tests.0)

-- the guardian is given no envelope: nobody pushes for it
pub an-actor : (h : Contents) (gives : Moment → Reply → Type 0) (by : ℕ) → AgreesWithJournal gives [] h → Contains h.take.queue.senders by →
    is_guardian h.cell.who ≡ false
an-actor h gives by s known = by_test (is_guardian h.cell.who) refl
  where
    by_test : (b : Bool) → is_guardian h.cell.who ≡ b → b ≡ false
    by_test false an_actor = refl
    by_test true guardian = absurd (let none : Contains [] by = subst (λ (l : List ℕ). Contains l by) (s.is_own.nobody guardian) known in
        omega (arith, none.1))

-- ---- a system message that is due

-- the cell may be given it
pub may-take : (h : Contents) (gives : Moment → Reply → Type 0) → AgreesWithJournal gives [] h → closed h.cell.who h.cell.journal ≡ false →
    (mid : Contents) (number : ℕ) (m : SysMsg) → IsTrue h.cell.is_ready → h.cell.acts ≡ [] →
    IsDue (next_front h.cell.who h.cell.journal) h.rest number m mid.rest → mid ≡ record h { rest = mid.rest } → MayTake mid.cell number m
may-take h gives s not_ended mid number m ready none due same =
    subst (λ (x : Contents). MayTake x.cell number m) (sym same)
    (record { ready = ready; carried_out = none; not_ended = not_ended; numbered = number-due h gives s not_ended number m mid.rest due })

cell-kept : (h mid : Contents) → mid ≡ record h { rest = mid.rest } → mid.cell ≡ h.cell
cell-kept h mid same = ap (λ (x : Contents). x.cell) same

whole : (h mid new : Contents) → mid ≡ record h { rest = mid.rest } → new ≡ record mid { cell = new.cell; aside_dead = new.aside_dead } →
    new ≡ record h { cell = new.cell; rest = mid.rest; aside_dead = new.aside_dead }
whole h mid new same later =
    later ∙ ap (λ (x : Contents). record x { cell = new.cell; aside_dead = new.aside_dead }) same

rest-kept : (h mid new : Contents) → mid ≡ record h { rest = mid.rest } → new ≡ record mid { cell = new.cell; aside_dead = new.aside_dead } →
    mid.rest ≡ new.rest
rest-kept h mid new same later = sym (ap (λ (x : Contents). x.rest) later)

-- it was taken
pub applies-next : (h mid new : Contents) (number : ℕ) (m : SysMsg) → IsDue (next_front h.cell.who h.cell.journal) h.rest number m mid.rest →
    mid ≡ record h { rest = mid.rest } → TakesSystem mid.cell new.cell number m → new ≡ record mid { cell = new.cell; aside_dead = new.aside_dead } →
    AppliesNext h new
applies-next h mid new number m due same took later = record {
  number = number;
  message = m;
  due = subst (λ l. IsDue (next_front h.cell.who h.cell.journal) h.rest number m l) (rest-kept h mid new same later) due;
  taken = subst (λ (x : CellView). TakesSystem x new.cell number m) (cell-kept h mid same) took;
  same = whole h mid new same later ∙ ap (λ l. record h { cell = new.cell; rest = l; aside_dead = new.aside_dead }) (rest-kept h mid new same later);
}

-- and the home agrees with its journal but for its acts
pub settled-applied : (h mid new : Contents) (gives : ℕ → Moment → Reply → Type 0) (number : ℕ) (m : SysMsg) →
    AgreesWithJournal (gives h.cell.who.this.0) [] h → closed h.cell.who h.cell.journal ≡ false → most_tells ≤ h.room →
    IsDue (next_front h.cell.who h.cell.journal) h.rest number m mid.rest → mid ≡ record h { rest = mid.rest } →
    TakesSystem mid.cell new.cell number m → IsLawful new.cell.who (gives new.cell.who.this.0) new.cell.journal →
    new.aside_dead ≡ (if closed new.cell.who new.cell.journal then length (aside mid.cell.who mid.cell.journal) else mid.aside_dead) →
    new ≡ record mid { cell = new.cell; aside_dead = new.aside_dead } → AgreesWithJournal (gives new.cell.who.this.0) new.cell.acts new
settled-applied h mid new gives number m s not_ended room due same took lawful counted later =
    let took' : TakesSystem h.cell new.cell number m = subst (λ (x : CellView). TakesSystem x new.cell number m) (cell-kept h mid same) took in
    let who : new.cell.who ≡ h.cell.who = ap (λ (x : CellView). x.who) took'.adds in
    let lawful' : IsLawful new.cell.who (gives h.cell.who.this.0) new.cell.journal =
    subst (λ (w : Identity). IsLawful new.cell.who (gives w.this.0) new.cell.journal) who lawful in
    let counted' : new.aside_dead ≡ (if closed new.cell.who new.cell.journal then length (aside h.cell.who h.cell.journal) else 0) =
    counted
    ∙ ap (λ (x : Contents). if closed new.cell.who new.cell.journal then length (aside x.cell.who x.cell.journal) else x.aside_dead) same
    ∙ ap (λ n. if closed new.cell.who new.cell.journal then length (aside h.cell.who h.cell.journal) else n)
    (s.counted.aside ∙ open-aside h.cell.who h.cell.journal not_ended) in
    let done =
    settled-next h (gives h.cell.who.this.0) s not_ended new.cell number m mid.rest new.aside_dead room took' due lawful' counted' in
    subst (λ (w : Identity). AgreesWithJournal (gives w.this.0) new.cell.acts new) (sym who)
    (subst (λ (x : Contents). AgreesWithJournal (gives h.cell.who.this.0) new.cell.acts x) (sym (whole h mid new same later)) done)
