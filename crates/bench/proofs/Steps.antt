-- What the start and a message make of the cell of an actor that never fails.
use Rattle.std.proofs.Common.{◌≡◌, ℕ, ◌-◌, ◌+◌, ℤ, Bool, true, false, List, [], ◌∷◌, ◌++◌, length, refl, sym, ap, subst, ◌∙◌, arith}
use Rattle.std.specs.Prelude.{is_some, Option, Some, None}
use Rattle.std.proofs.lemmas.Bool.{false≢true}
use Rattle.mb_msg.specs.declared.envelope.Body.{Body}
use Rattle.mb_msg.specs.declared.envelope.Body.TheVariants.{User}
use Rattle.mb_msg.specs.declared.envelope.Envelope.{Envelope}
use Rattle.mb_msg.specs.declared.system.SysMsg.TheVariants.{Create}
use Rattle.mb_status.specs.Mailbox.{Mailbox, word_of}
use Rattle.mb_actor.specs.Behaviour.{Moment, Reply}
use Rattle.mb_actor.specs.declared.answer.Answer.{Answer}
use Rattle.mb_actor.specs.declared.call.Call.{Call}
use Rattle.mb_actor.specs.declared.call.Call.TheVariants.{Start}
use Rattle.mb_actor.specs.declared.effect.Effect.{Effect}
use Rattle.mb_actor.specs.declared.phase.Phase.TheVariants.{Fresh, Ended}
use Rattle.mb_journal.specs.Aside.{ever_aside, next_number}
use Rattle.mb_journal.specs.Entry.{Entry, Outcome, is_failed}
use Rattle.mb_journal.specs.Entry.Entry.{Handled, System, Dropped}
use Rattle.mb_journal.specs.Entry.Outcome.{Applied, SetAside}
use Rattle.mb_journal.specs.Failure.{failure_of}
use Rattle.mb_journal.specs.Identity.{Identity, is_guardian}
use Rattle.mb_journal.specs.Incarnation.{messages, body_messages}
use Rattle.mb_journal.specs.Lawful.{AreLawful, IsGiven, IsLawful, IsLawfulEntry, IsUnexpected, call_of, envelope_call}
use Rattle.mb_journal.specs.Life.{closed, has_start, is_start, phase}
use Rattle.mb_journal.specs.Phase.{phase_is}
use Rattle.mb_journal.specs.Reading.{IsOpen}
use Rattle.mb_journal.specs.Suspension.{count, marks, pluses, minuses, greatest_net}
use Rattle.mb_journal.proofs.CreateLemmas.{count-create, messages-create, phase-create, sets_aside-create}
use Rattle.mb_journal.proofs.EnvelopeLemmas.{count-handled, ever_aside-handled, failure_of-user, messages-handled, phase-handled}
use Rattle.mb_journal.proofs.LawfulLemmas.{ever_aside-applied}
use Rattle.mb_journal.proofs.TestLemmas.{if_false, if_true}
use Rattle.mb_cell.specs.CellView.{IsOf, CellView, TakesEnvelope, TakesSystem, with_entry}
use Rattle.bench.specs.Idle.{IsIdle, open_mailbox}
use Rattle.bench.specs.Steady.{IsSteady}

pub phase-none : (who : Identity) → phase who [] ≡ Fresh
unfolding phase
phase-none who = refl

count-none : (who : Identity) → count who [] ≡ 1
unfolding phase count marks pluses minuses greatest_net
count-none who = refl

ever_aside-none : ever_aside [] ≡ []
unfolding ever_aside
ever_aside-none = refl

pub next_number-none : next_number [] ≡ 0
unfolding next_number
next_number-none = refl

-- an actor that is idle has not ended
pub idle-not_closed : (cell : CellView) → IsIdle cell → closed cell.who cell.journal ≡ false
idle-not_closed cell idle = ap (λ p. phase_is p Ended) idle.live

-- an open mailbox shows the word of an actor that is idle
pub idle-open : (cell : CellView) (m : Mailbox) → IsIdle cell → m ≡ open_mailbox → IsOpen cell.who cell.journal (word_of m)
idle-open cell m idle is =
    subst (λ (b : Mailbox). IsOpen cell.who cell.journal (word_of b)) (sym is)
    (record { open_word = refl; same_count = sym idle.unsuspended; same_closing = sym (idle-not_closed cell idle) })

-- ---- the start

-- a cell to which nothing came, and that has room
abbrev pub ready_cell : Identity → CellView
ready_cell who = record { who = who; journal = []; acts = []; is_ready = true }

-- the cell without what is to be carried out
abbrev pub taken : CellView → CellView
taken cell = record cell { acts = [] }

pub record Starts (who : Identity) (cell : CellView) : Type 0 where
  pub same_who : cell.who ≡ who
  pub idle : IsIdle (taken cell)
  pub one : length cell.journal ≡ 1
  pub unheard : messages cell.who cell.journal ≡ []

starts : (a : Option Answer) (effects : List Effect) → is_start (System 0 Create (Applied a effects)) [] ≡ true
unfolding has_start
starts a effects = refl

calls_start : (who : Identity) (a : Option Answer) (effects : List Effect) → is_guardian who ≡ false →
    call_of who [] (System 0 Create (Applied a effects)) ≡ Some Start
calls_start who a effects an_actor = if_false _ _ _ an_actor ∙ if_true _ _ _ (starts a effects)

started_by : (who : Identity) (gives : Moment → Reply → Type 0) (outcome : Outcome) → is_guardian who ≡ false → IsSteady gives →
    IsLawfulEntry who gives [] (System 0 Create outcome) → Starts who (with_entry (ready_cell who) (System 0 Create outcome))
started_by who gives SetAside an_actor steady may_come =
    let rule = may_come.by_rule in
    let applied = sets_aside-create who [] in
    absurd (cc)
started_by who gives (Applied None effects) an_actor steady may_come =
    absurd (false≢true ((subst (λ (call : Option Call). IsGiven who gives [] call None effects) (calls_start who None effects an_actor)
    may_come.1).answered))
started_by who gives (Applied (Some answer) effects) an_actor steady may_come =
    let given = subst (λ (call : Option Call). IsGiven who gives [] call (Some answer) effects) (calls_start who (Some answer) effects an_actor)
    may_come.1 in
    let well : is_failed (Some answer) ≡ false = steady _ _ given.allowed in
    record {
      same_who = refl;
      idle = record {
        an_actor = an_actor;
        live = phase-create who [] 0 answer effects (phase-none who) ∙ if_false _ _ _ well;
        unsuspended = count-create who [] 0 answer effects (phase-none who) ∙ if_false _ _ _ well ∙ ap (λ (n : ℕ). n - 1) (count-none who);
        none_aside = ever_aside-applied [] 0 Create (Some answer) effects ever_aside-none;
        no_acts = refl;
      };
      one = refl;
      unheard = messages-create who [] 0 answer effects (phase-none who);
    }

last_entry : (who : Identity) (gives : Moment → Reply → Type 0) (before : List Entry) (e : Entry) → IsLawful who gives (e ∷ before) →
    IsLawfulEntry who gives before e
unfolding AreLawful
last_entry who gives before e lawful = lawful.entries.0

pub starts_actor : (gives : ℕ → Moment → Reply → Type 0) (who : Identity) (ready cell : CellView) → is_guardian who ≡ false → IsSteady (gives
    who.this.0) →
    ready ≡ ready_cell who → TakesSystem ready cell 0 Create → IsLawful cell.who (gives cell.who.this.0) cell.journal → Starts who cell
starts_actor gives who ready cell an_actor steady is_ready took lawful =
    let e : Entry = System 0 Create took.outcome in
    let is : cell ≡ with_entry (ready_cell who) e = took.adds ∙ ap (λ (s : CellView). with_entry s e) is_ready in
    let there : IsLawful who (gives who.this.0) (e ∷ []) = subst (λ (s : CellView). IsLawful s.who (gives s.who.this.0) s.journal) is lawful in
    subst (λ (s : CellView). Starts who s) (sym is)
    (started_by who (gives who.this.0) took.outcome an_actor steady (last_entry who (gives who.this.0) [] e there))

-- ---- a message

-- the cell with room
abbrev readied : CellView → CellView
readied cell = record cell { is_ready = true }

pub record Handles (old : CellView) (body : Body) (new : CellView) : Type 0 where
  pub same_who : new.who ≡ old.who
  pub idle : IsIdle (taken new)
  pub one_more : length new.journal ≡ length old.journal + 1
  pub messages_added : messages new.who new.journal ≡ messages old.who old.journal ++ body_messages body

not_dropped : (who : Identity) (before : List Entry) (b : Body) (kind : ℕ) (value : ℤ) → b ≡ User kind value → IsUnexpected who before b → ⊥
not_dropped who before b kind value is unexpected = subst (λ (x : Body). IsUnexpected who before x) is unexpected

handled_by : (gives : Moment → Reply → Type 0) (cell : CellView) (envelope : Envelope) (reading : ℕ) (entry : Entry) (ready : Bool) (kind : ℕ) (value : ℤ) →
    IsSteady gives → IsIdle cell → envelope.body ≡ User kind value → IsOf envelope reading entry → IsLawfulEntry cell.who gives cell.journal entry →
    Handles cell envelope.body (record (with_entry (readied cell) entry) { is_ready = ready })
handled_by gives cell envelope reading (Handled e r (Applied a effects)) ready kind value steady idle is of_it may_come =
    let who = cell.who in
    let before = cell.journal in
    let body_is : e.body ≡ User kind value = ap (λ (x : Envelope). x.body) of_it.0 ∙ is in
    let given = subst (λ (b : Body). IsGiven who gives before (envelope_call b) a effects) body_is may_come.given in
    let well : is_failed a ≡ false = steady _ _ given.allowed in
    let fails_not : is_some (failure_of e.body a) ≡ false =
    ap (λ (b : Body). is_some (failure_of b a)) body_is ∙ ap is_some (failure_of-user kind value a well) in
    record {
      same_who = refl;
      idle = record {
        an_actor = idle.an_actor;
        live = phase-handled who before e r a effects ∙ idle.live;
        unsuspended = count-handled who before e r a effects (idle-not_closed cell idle) fails_not ∙ idle.unsuspended;
        none_aside = ever_aside-handled who before e r a effects ∙ idle.none_aside;
        no_acts = refl;
      };
      one_more = omega arith;
      messages_added = messages-handled who before e r a effects ∙ ap (λ (x : Envelope). messages who before ++ body_messages x.body) of_it.0;
    }
handled_by gives cell envelope reading (Handled e r SetAside) ready kind value steady idle is of_it may_come = absurd may_come
handled_by gives cell envelope reading (System number m outcome) ready kind value steady idle is of_it may_come = absurd of_it
handled_by gives cell envelope reading (Dropped e) ready kind value steady idle is of_it may_come =
    absurd (not_dropped cell.who cell.journal e.body kind value (ap (λ (x : Envelope). x.body) of_it ∙ is) may_come.unexpected)

pub handles : (gives : ℕ → Moment → Reply → Type 0) (cell ready new : CellView) (envelope : Envelope) (reading : ℕ) (kind : ℕ) (value : ℤ) →
    IsSteady (gives cell.who.this.0) → IsIdle cell → ready ≡ record cell { is_ready = true } → envelope.body ≡ User kind value →
    TakesEnvelope ready new envelope reading → IsLawful new.who (gives new.who.this.0) new.journal → Handles cell envelope.body new
handles gives cell ready new envelope reading kind value steady idle is_ready user took lawful =
    let who = cell.who in
    let is : new ≡ record (with_entry (readied cell) took.entry) { is_ready = new.is_ready } =
    took.adds ∙ ap (λ (s : CellView). record (with_entry s took.entry) { is_ready = new.is_ready }) is_ready in
    let there : IsLawful who (gives who.this.0) (took.entry ∷ cell.journal) =
    subst (λ (s : CellView). IsLawful s.who (gives s.who.this.0) s.journal) is lawful in
    subst (λ (s : CellView). Handles cell envelope.body s) (sym is)
    (handled_by (gives who.this.0) cell envelope reading took.entry new.is_ready kind value steady idle user took.of_it
    (last_entry who (gives who.this.0) cell.journal took.entry there))
