-- What a cell becomes by its actor's restart.
use Rattle.std.proofs.Common.{◌≡◌, ℕ, ◌+◌, ◌-◌, ◌<◌, Bool, true, false, List, [], ◌∷◌, ◌++◌, length, take, refl, ap, sym, ◌∙◌, arith}
use Rattle.std.proofs.lemmas.List.{take_at}
use Rattle.std.specs.Prelude.{Some, if◌then◌else◌}
use Rattle.mb_msg.specs.declared.id.ActorId.{ActorId}
use Rattle.mb_msg.specs.declared.supervision.Cause.{Cause}
use Rattle.mb_msg.specs.declared.supervision.Cause.TheVariants as cause
use Rattle.mb_msg.specs.declared.system.SysMsg.{SysMsg}
use Rattle.mb_msg.specs.declared.system.SysMsg.TheVariants as system
use Rattle.mb_actor.specs.OutboxView.{spawns_of}
use Rattle.mb_actor.specs.declared.answer.Answer.{Answer}
use Rattle.mb_actor.specs.declared.answer.Answer.TheVariants.{Handled, Unhandled, Failed}
use Rattle.mb_actor.specs.declared.effect.Effect.{Effect}
use Rattle.mb_actor.specs.declared.phase.Phase.TheVariants.{Live, Broken}
use Rattle.mb_journal.specs.Acts.{Act, effect_acts, fail_acts, to_each}
use Rattle.mb_journal.specs.Acts.Act.{ResumeSelf}
use Rattle.mb_journal.specs.Aside.{without_number}
use Rattle.mb_journal.specs.Entry.{is_failed}
use Rattle.mb_journal.specs.Failure.{is_nobody}
use Rattle.mb_journal.specs.declared.failed_by.FailedBy.{FailedBy}
use Rattle.mb_journal.specs.declared.failed_by.FailedBy.TheVariants.{Nobody, Itself}
use Rattle.mb_journal.specs.Identity.{Identity}
use Rattle.mb_journal.specs.Watching.{watching_after, due_after}
use Rattle.mb_supervision.specs.CellStateRecord.{CellState}
use Rattle.mb_supervision.specs.Rows.{failing, recreated, taken, with_effects}

pub not-failed : (a : Answer) → ((error : ℕ) → a ≡ Failed error → ⊥) → is_failed (Some a) ≡ false
not-failed Handled other = refl
not-failed Unhandled other = refl
not-failed (Failed error) other = absurd (other error refl)

-- the children that were there before those that were started
pub first-ones : (n : ℕ) (list first more : List ActorId) → list ≡ first ++ more → n ≡ length first → take n list ≡ first
first-ones n list first more is many = ap (take n) is ∙ take_at first more n (sym many)

pub one-less : (count before bound : ℕ) → count ≡ before - 1 → before < bound → count < bound
one-less count before bound is few = omega arith

module _ (who : Identity) (c : Cause) (a : Answer) (effects : List Effect) (number : ℕ) (b : CellState) (count : ℕ) (aside : List (ℕ × SysMsg))
    (children watching due : List ActorId) (none pushed carried : List Act) (less : count ≡ b.count - 1) (gone : aside ≡ without_number b.aside number)
    (nothing : none ≡ []) (resumes : pushed ≡ none ++ ResumeSelf ∷ []) (did : carried ≡ pushed ++ effect_acts who.this b.watching effects)
    (own : children ≡ b.children ++ spawns_of effects) (sees : watching ≡ watching_after who.this b.watching effects)
    (told : due ≡ due_after b.due effects) where
  abbrev begun : CellState
  begun = record b {
    count = count;
    failed = Nobody;
    children = children;
    watching = watching;
    due = due;
    aside = aside;
    acts = carried;
    is_ready = false;
  }

  abbrev started : CellState
  started = with_effects who effects (record (taken number b) { count = b.count - 1; failed = Nobody; acts = ResumeSelf ∷ [] })

  began : begun ≡ started
  began = λ i. record b {
    count = less i;
    failed = Nobody;
    children = own i;
    watching = sees i;
    due = told i;
    aside = gone i;
    acts = (did ∙ ap (λ l. l ++ effect_acts who.this b.watching effects) (resumes ∙ ap (λ l. l ++ ResumeSelf ∷ []) nothing)) i;
    is_ready = false;
  }

  by : (failed : Bool) → is_failed (Some a) ≡ failed → (if failed then failing who Itself cause.Init b.children (record started { phase = Broken })
      else record started { phase = Live; acts = started.acts ++ to_each (system.Recreate c) b.children }) ≡ recreated who c (Some a) effects number b
  by failed is =
      ap (λ (f : Bool). if f then failing who Itself cause.Init b.children (record started { phase = Broken })
      else record started { phase = Live; acts = started.acts ++ to_each (system.Recreate c) b.children }) (sym is)

  pub recreated-live : (kept : List ActorId) (acts : List Act) → is_failed (Some a) ≡ false → kept ≡ b.children →
      acts ≡ carried ++ to_each (system.Recreate c) kept → record begun { phase = Live; acts = acts } ≡ recreated who c (Some a) effects number b
  recreated-live kept acts is same more =
      ap (λ l. record begun { phase = Live; acts = l }) (more ∙ ap (λ l. carried ++ to_each (system.Recreate c) l) same)
      ∙ (ap (λ (s : CellState). record s { phase = Live; acts = s.acts ++ to_each (system.Recreate c) b.children }) began ∙ by false is)

  pub recreated-broken : (kept here : List ActorId) (count' : ℕ) (failed : FailedBy) (acts : List Act) → is_failed (Some a) ≡ true →
      kept ≡ b.children → here ≡ children → count' ≡ (if is_nobody Nobody then count + 1 else count) →
      failed ≡ (if is_nobody Nobody then Itself else Nobody) → acts ≡ carried ++ fail_acts who Nobody here cause.Init kept →
      record begun { phase = Broken; count = count'; failed = failed; acts = acts } ≡ recreated who c (Some a) effects number b
  recreated-broken kept here count' failed acts is same place by_count by_failed more =
      (λ i. record begun {
        phase = Broken;
        count = by_count i;
        failed = by_failed i;
        acts = (more ∙ (λ j. carried ++ fail_acts who Nobody (place j) cause.Init (same j))) i;
      })
      ∙ (ap (λ (s : CellState). failing who Itself cause.Init b.children (record s { phase = Broken })) began ∙ by true is)
