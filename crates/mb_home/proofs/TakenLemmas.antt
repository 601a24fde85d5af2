-- An envelope came out of the queue, and is handled then.
use Rattle.std.proofs.Common.{◌≡◌, ℕ, ◌≤◌, [], ◌++◌, append-nil, refl, sym, ap, ◌∙◌, subst}
use Rattle.std.specs.Prelude.{IsTrue, Option, Some, None, IfSome, IfNone, option_to_list}
use Rattle.mb_msg.specs.declared.envelope.Envelope.{Envelope}
use Rattle.mb_actor.specs.Behaviour.{Moment, Reply}
use Rattle.mb_journal.specs.Lawful.{IsLawful}
use Rattle.mb_journal.specs.Reading.{IsOpen}
use Rattle.mb_cell.specs.MayHandle.{MayHandle}
use Rattle.mb_cell.specs.CellView.{CellView, TakesEnvelope}
use Rattle.mb_queue.specs.Passes.{IsOfQueue, TakePassView}
use Rattle.mb_queue.specs.Takes.{IsTake}
use Rattle.mb_home.specs.Carried.{LeadsOn}
use Rattle.mb_home.specs.Contents.{Contents}
use Rattle.mb_home.specs.AgreesWithJournal.{AgreesWithJournal}
use Rattle.mb_home.specs.Steps.{most_tells, Begins, FindsNone, IsSamePass}
use Rattle.mb_home.specs.Taken.{TakesOut}
use Rattle.mb_home.proofs.LeadLemmas.{begun-leads}
use Rattle.mb_home.proofs.AgreesLemmas.{settled-take}
use Rattle.mb_home.proofs.TellSteps.{may-handle, settled-taken}

-- by what the take pass says
pub takes-out : (old : Contents) (take : TakePassView) (r : Option Envelope) → take.taken ≡ old.take.taken ++ option_to_list r → IsSamePass old.take take →
    IfSome r (IsOfQueue old.take.queue) →
    IsTake old.take.discipline old.take r take → IfSome r (λ e. TakesOut old (record old { take = take }) e)
takes-out old take None taken same of_queue follows_discipline = tt
takes-out old take (Some e) taken same of_queue follows_discipline = record {
  took = taken;
  follows_discipline = follows_discipline;
  pass = same;
  sender = of_queue.0;
  addressed = of_queue.1;
  same = refl;
}

-- or none did
pub finds-none : (old : Contents) (gives : Moment → Reply → Type 0) (take : TakePassView) (r : Option Envelope) →
    take.taken ≡ old.take.taken ++ option_to_list r → IsSamePass old.take take → IsTake old.take.discipline old.take r take →
    AgreesWithJournal gives old.cell.acts old →
    IfNone r (FindsNone old (record old { take = take })) × IfNone r (AgreesWithJournal gives old.cell.acts (record old { take = take }))
finds-none old gives take None taken same follows_discipline s =
    let none : take.taken ≡ old.take.taken = taken ∙ append-nil old.take.taken in
    (record { took = none; follows_discipline = follows_discipline; pass = same; same = refl }, settled-take old gives old.cell.acts take s (same.0, same.1) none)
finds-none old gives take (Some e) taken same follows_discipline s = (tt, tt)

-- what is known once it came out
module _ (b h : Contents) (e : Envelope) (reading : ℕ) (t : TakesOut b h e) where
  same_cell : h.cell ≡ b.cell
  same_cell = ap (λ (x : Contents). x.cell) t.same

  -- the cell may be given it
  pub may-begin : (gives : Moment → Reply → Type 0) → AgreesWithJournal gives [] b → IsOpen h.cell.who h.cell.journal reading → IsTrue h.cell.is_ready →
      h.cell.acts ≡ [] → MayHandle h.cell e reading
  may-begin gives s is_open ready none =
      subst (λ (c : CellView). MayHandle c e reading) (sym same_cell)
      (may-handle b gives e reading s (subst (λ (c : CellView). IsOpen c.who c.journal reading) same_cell is_open)
      (subst (λ (c : CellView). IsTrue c.is_ready) same_cell ready) (subst (λ (c : CellView). c.acts ≡ []) same_cell none) t.sender t.addressed)

  -- it is begun then
  pub begins-taken : (new : Contents) → TakesEnvelope h.cell new.cell e reading → new ≡ record h { cell = new.cell } → Begins b new reading
  begins-taken new took is =
      let take : new.take ≡ h.take = ap (λ (x : Contents). x.take) is in
      record {
        envelope = e;
        took = ap (λ (k : TakePassView). k.taken) take ∙ t.took;
        follows_discipline = subst (λ (k : TakePassView). IsTake b.take.discipline b.take (Some e) k) (sym take) t.follows_discipline;
        pass = subst (IsSamePass b.take) (sym take) t.pass;
        taken = subst (λ (c : CellView). TakesEnvelope c new.cell e reading) same_cell took;
        same = is ∙ (ap (λ (x : Contents). record x { cell = new.cell }) t.same ∙ ap (λ (k : TakePassView). record b { cell = new.cell; take = k })
            (sym take));
      }

  -- its acts lead on
  pub leads-begun : (new : Contents) (own gives : Moment → Reply → Type 0) → AgreesWithJournal own [] b → TakesEnvelope h.cell new.cell e reading →
      IsLawful new.cell.who gives new.cell.journal → LeadsOn h new
  leads-begun new own gives s took lawful =
      subst (λ (x : Contents). LeadsOn x new) (sym t.same)
      (begun-leads b new own gives e reading s (subst (λ (c : CellView). TakesEnvelope c new.cell e reading) same_cell took) lawful)

  -- and the home agrees with its journal but for these
  pub settled-begins : (gives : ℕ → Moment → Reply → Type 0) (new : CellView) → AgreesWithJournal (gives b.cell.who.this.0) [] b →
      IsOpen h.cell.who h.cell.journal reading → most_tells ≤ h.room → TakesEnvelope h.cell new e reading →
      IsLawful new.who (gives new.who.this.0) new.journal → AgreesWithJournal (gives new.who.this.0) new.acts (record h { cell = new })
  settled-begins gives new s is_open room took lawful =
      subst (λ (x : Contents). AgreesWithJournal (gives new.who.this.0) new.acts (record x { cell = new })) (sym t.same)
      (settled-taken b gives new h.take e reading s (subst (λ (c : CellView). IsOpen c.who c.journal reading) same_cell is_open)
      (subst (λ n. most_tells ≤ n) (ap (λ (x : Contents). x.room) t.same) room)
      (subst (λ (c : CellView). TakesEnvelope c new e reading) same_cell took) lawful (t.pass.0, t.pass.1) t.took)
