-- What becomes of an envelope: from the queries of the journal to the newest entry or effect.
use Rattle.std.proofs.Common.{◌≡◌, ℕ, Bool, true, false, not, List, [], ◌∷◌, ◌++◌, refl, sym, ap, ◌∙◌, subst}
use Rattle.std.specs.Prelude.{if◌then◌else◌, Option, None}
use Rattle.std.proofs.lemmas.List.{append-nil}
use Rattle.mb_msg.specs.declared.envelope.Body.{Body}
use Rattle.mb_msg.specs.declared.envelope.Body.TheVariants as body
use Rattle.mb_msg.specs.declared.envelope.Envelope.{Envelope}
use Rattle.mb_msg.specs.declared.id.ActorId.{ActorId}
use Rattle.mb_msg.specs.declared.supervision.Cause.TheVariants as cause
use Rattle.mb_msg.specs.declared.system.SysMsg.TheVariants as system
use Rattle.mb_actor.specs.ActorList.{has}
use Rattle.mb_actor.specs.Behaviour.{Moment, Reply}
use Rattle.mb_actor.specs.declared.answer.Answer.{Answer}
use Rattle.mb_actor.specs.declared.effect.Effect.{Effect}
use Rattle.mb_journal.specs.Acts.{acts, effect_acts, envelope_acts, report, to_each}
use Rattle.mb_journal.specs.Acts.Act.{SuspendSelf}
use Rattle.mb_journal.specs.Entry.{Entry}
use Rattle.mb_journal.specs.Entry.Entry.{Handled, System, Dropped}
use Rattle.mb_journal.specs.Entry.Outcome.{Applied, SetAside}
use Rattle.mb_journal.specs.Failure.{is_nobody}
use Rattle.mb_journal.specs.Identity.{Identity}
use Rattle.mb_journal.specs.Lawful.{AreLawful, IsExpected, IsGiven, IsLawful, IsUnexpected, envelope_call}
use Rattle.mb_journal.specs.Life.{children}
use Rattle.mb_journal.specs.Watching.{due}
use Rattle.mb_journal.proofs.ChildrenLaw.{children-remain}
use Rattle.mb_journal.proofs.DueLaw.{due-newest}
use Rattle.mb_journal.proofs.FailedLaw.{failed-newest}
use Rattle.mb_journal.proofs.Kept.{has-once}
use Rattle.mb_journal.proofs.TestLemmas.{none_excepted}
use Rattle.mb_cell.specs.ByNewest.{EnvelopeByNewest, is_to_be_told, newest_failure, remaining_children}
use Rattle.mb_cell.specs.CellView.{CellView, IsOf, TakesEnvelope, with_entry}

-- ---- a Terminated

due-has : (who : Identity) (journal : List Entry) (x : ActorId) → has (due who journal) x ≡ is_to_be_told who journal x
due-has who journal x = has-once x (due who journal) (is_to_be_told who journal x) (due-newest who journal x)

not_true : (b : Bool) → not b ≡ true → b ≡ false
not_true true e = cc
not_true false e = refl

terminated-by_newest : (old : CellView) (gives : Moment → Reply → Type 0) (envelope : Envelope) (reading : ℕ) (e : Entry) (x : ActorId) →
    IsOf envelope reading e → IsLawful old.who gives (e ∷ old.journal) → envelope.body ≡ body.Terminated x →
    EnvelopeByNewest old (with_entry old e) (body.Terminated x)
unfolding AreLawful
terminated-by_newest old gives envelope reading (Handled env r (Applied a effects)) x of_it lawful is =
    let told : IsExpected old.who old.journal (body.Terminated x) =
    subst (λ b. IsExpected old.who old.journal b) (ap (λ (v : Envelope). v.body) of_it.0 ∙ is) lawful.entries.0.expected in
    sym told ∙ due-has old.who old.journal x
terminated-by_newest old gives envelope reading (Handled env r SetAside) x of_it lawful is = absurd lawful.entries.0
terminated-by_newest old gives envelope reading (System number m outcome) x of_it lawful is = absurd of_it
terminated-by_newest old gives envelope reading (Dropped env) x of_it lawful is =
    let untold : IsUnexpected old.who old.journal (body.Terminated x) =
    subst (λ b. IsUnexpected old.who old.journal b) (ap (λ (v : Envelope). v.body) of_it ∙ is) lawful.entries.0.unexpected in
    sym (not_true (has (due old.who old.journal) x) untold) ∙ due-has old.who old.journal x

-- ---- a Kill

kill-acts : (who : Identity) (before : List Entry) →
    envelope_acts who before body.Kill None []
    ≡ (if is_nobody (newest_failure who before)
    then SuspendSelf ∷ to_each system.Suspend (remaining_children who before) ++ report who cause.Killed ∷ []
    else [])
unfolding effect_acts
kill-acts who before =
    λ i. if is_nobody (failed-newest who before i)
    then SuspendSelf ∷ to_each system.Suspend
    ((none_excepted (children who before ++ []) ∙ append-nil (children who before) ∙ children-remain who before) i)
    ++ report who cause.Killed ∷ []
    else []

killed-acts : (who : Identity) (before : List Entry) (env : Envelope) (r : ℕ) (a : Option Answer) (effects : List Effect) →
    env.body ≡ body.Kill → a ≡ None → effects ≡ [] →
    acts who before (Handled env r (Applied a effects)) ≡ envelope_acts who before body.Kill None []
unfolding acts
killed-acts who before env r a effects is none empty = λ i. envelope_acts who before (is i) (none i) (empty i)

kill-by_newest : (old : CellView) (gives : Moment → Reply → Type 0) (envelope : Envelope) (reading : ℕ) (e : Entry) →
    IsOf envelope reading e → IsLawful old.who gives (e ∷ old.journal) → envelope.body ≡ body.Kill →
    EnvelopeByNewest old (with_entry old e) body.Kill
unfolding AreLawful
kill-by_newest old gives envelope reading (Handled env r (Applied a effects)) of_it lawful is =
    let kill : env.body ≡ body.Kill = ap (λ (v : Envelope). v.body) of_it.0 ∙ is in
    let given : IsGiven old.who gives old.journal None a effects =
    subst (λ b. IsGiven old.who gives old.journal (envelope_call b) a effects) kill lawful.entries.0.given in
    killed-acts old.who old.journal env r a effects kill given.0 given.1 ∙ kill-acts old.who old.journal
kill-by_newest old gives envelope reading (Handled env r SetAside) of_it lawful is = absurd lawful.entries.0
kill-by_newest old gives envelope reading (System number m outcome) of_it lawful is = absurd of_it
kill-by_newest old gives envelope reading (Dropped env) of_it lawful is =
    let no : IsUnexpected old.who old.journal body.Kill =
    subst (λ b. IsUnexpected old.who old.journal b) (ap (λ (v : Envelope). v.body) of_it ∙ is) lawful.entries.0.unexpected in absurd no

-- ---- any envelope

by_body : (old : CellView) (gives : Moment → Reply → Type 0) (envelope : Envelope) (reading : ℕ) (e : Entry) (ready : Bool) → IsOf envelope reading e →
    IsLawful old.who gives (e ∷ old.journal) → (b : Body) → envelope.body ≡ b → EnvelopeByNewest old (record (with_entry old e) { is_ready = ready }) b
by_body old gives envelope reading e ready of_it lawful (body.User kind value) is = tt
by_body old gives envelope reading e ready of_it lawful (body.Control kind value) is = tt
by_body old gives envelope reading e ready of_it lawful body.PoisonPill is = tt
by_body old gives envelope reading e ready of_it lawful body.Kill is = kill-by_newest old gives envelope reading e of_it lawful is
by_body old gives envelope reading e ready of_it lawful (body.Terminated x) is =
    terminated-by_newest old gives envelope reading e x of_it lawful is

pub envelope-by_newest : (gives : ℕ → Moment → Reply → Type 0) (old new : CellView) (envelope : Envelope) (reading : ℕ) →
    TakesEnvelope old new envelope reading → IsLawful new.who (gives new.who.this.0) new.journal → EnvelopeByNewest old new envelope.body
envelope-by_newest gives old new envelope reading took lawful =
    subst (λ (s : CellView). EnvelopeByNewest old s envelope.body) (sym took.adds)
    (by_body old (gives old.who.this.0) envelope reading took.entry new.is_ready took.of_it
    (subst (λ (s : CellView). IsLawful s.who (gives s.who.this.0) s.journal) took.adds lawful)
    envelope.body refl)
