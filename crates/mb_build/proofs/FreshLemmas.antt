-- Gates may be made of homes to which nothing came.
use Rattle.std.proofs.Common.{◌≡◌, ℕ, zero, suc, ◌+◌, ◌%◌, ◌^◌, List, [], ◌∷◌, ◌++◌, length, refl, sym, ap, ◌∙◌, subst, arith}
use Rattle.std.specs.Prelude.{IsTrue, slice_get, Some}
use Rattle.std.specs.Global.{Box}
use Rattle.std.proofs.lemmas.List.Elements.{All-nil}
use Rattle.std.proofs.lemmas.Option.{none-some}
use Rattle.mb_msg.specs.declared.id.ActorId.{ActorId}
use Rattle.mb_msg.specs.declared.system.SysMsg.{SysMsg}
use Rattle.mb_status.specs.Mailbox.{is_possible}
use Rattle.mb_actor.specs.Behaviour.{Moment, Reply}
use Rattle.mb_journal.specs.Aside.{next_number}
use Rattle.mb_journal.specs.Identity.{Identity}
use Rattle.mb_journal.specs.Life.{phase}
use Rattle.mb_journal.specs.Suspension.{count, greatest_net, marks, minuses, pluses}
use Rattle.mb_cell.specs.CellView.{CellView}
use Rattle.mb_queue.specs.Passes.{SendPassView, TakePassView}
use Rattle.mb_gate.specs.NamedActors.{NamesBelow}
use Rattle.mb_gate.specs.Starts.{IsFresh}
use Rattle.mb_gate.specs.Tries.{IsFree}
use Rattle.mb_home.specs.AtHome.{IsHomeOf, mailbox_at, given_of, drained_of, closed_receivers, facts_of}
use Rattle.mb_home.specs.Contents.{Contents}
use Rattle.mb_home.specs.NamedActors.{NamesActors}
use Rattle.mb_home.specs.Directory.{DirectoryEntry}
use Rattle.mb_home.specs.AgreesWithJournal.{AgreesWithJournal}
use Rattle.mb_home.specs.Steps.{HasNoBacklog, at_first}
use Rattle.mb_build.specs.Handed.{passes_of}
use Rattle.mb_build.specs.NewHomes.{AreAtFirst, AreFresh}
use Rattle.mb_build.specs.Identities.{ArePlanned, IsPlanned}
use Rattle.mb_build.specs.Unstarted.{unstarted}

none-yet : next_number [] ≡ 0
unfolding next_number
none-yet = refl

possible-first : (who : Identity) → IsTrue (is_possible (mailbox_at who []))
unfolding phase count marks pluses minuses greatest_net
possible-first who = refl

open-first : (who : Identity) → IsFree (mailbox_at who [])
unfolding phase
open-first who = record { open_yet = refl; free = refl }

-- a new home names only actors that exist
names-first : (actors number : ℕ) (who : Identity) (t : TakePassView) (sends : List SendPassView) (room : ℕ) (directory : List DirectoryEntry)
    → IsPlanned actors number who → NamesActors (at_first (unstarted who) t sends room directory)
names-first actors number who t sends room directory planned =
    subst (λ n. NamesActors (at_first (unstarted (record who { actors = n })) t sends room directory)) (sym planned.actors_are) (record {
      parent = planned.parent;
      prepared = planned.prepared;
      journal = tt;
      rest = All-nil (λ (m : ℕ × SysMsg). NamesBelow actors m.1);
    })

module _ (gives : ℕ → Moment → Reply → Type 0) where
  -- each of these homes, which are numbered on from this one, is settled and rested
  abbrev pub AreSettled : ℕ → List (Box Contents) → Type 0
  AreSettled number [] = Unit {0}
  AreSettled number (h ∷ homes) = (AgreesWithJournal (gives number) [] h.value × HasNoBacklog h.value) × AreSettled (number + 1) homes

  -- one home more
  pub settled-more : (number : ℕ) (homes : List (Box Contents)) (h : Box Contents) → AreSettled number homes
      → AgreesWithJournal (gives (number + length homes)) [] h.value → HasNoBacklog h.value → AreSettled number (homes ++ h ∷ [])
  settled-more number [] h are settled no_backlog =
      let sum : number + 0 ≡ number = omega arith in
      ((subst (λ n. AgreesWithJournal (gives n) [] h.value) sum settled, no_backlog), tt)
  settled-more number (x ∷ homes) h are settled no_backlog =
      let sum : number + suc (length homes) ≡ (number + 1) + length homes = omega arith in
      (are.0, settled-more (number + 1) homes h are.1 (subst (λ n. AgreesWithJournal (gives n) [] h.value) sum settled) no_backlog)

  -- the gates may begin with it, where this is the first
  abbrev pub IsFreshHome : Contents → ℕ → Box Contents → Type 0
  IsFreshHome first = IsFresh (λ (id : ℕ) (x : Box Contents). IsHomeOf (gives id) first id x.value)
      (λ (x : Box Contents). facts_of x.value)

  fresh-first : (first : Contents) (actors number : ℕ) (who : Identity) (t : TakePassView) (sends : List SendPassView) (directory : List DirectoryEntry) (h : Box Contents)
      → h.value ≡ at_first (unstarted who) t sends h.value.room directory → directory ≡ first.directory → IsPlanned actors number who
      → AgreesWithJournal (gives number) [] h.value → HasNoBacklog h.value
      → IsFreshHome first number h
  fresh-first first actors number who t sends directory h is same planned settled no_backlog =
      let cell : h.value.cell ≡ unstarted who = ap (λ (c : Contents). c.cell) is in record {
        of_actor = record {
          directory = ap (λ (c : Contents). c.directory) is ∙ same;
          number = ap (λ (c : Contents). c.cell.who.this.0) is ∙ ap (λ (x : ActorId). x.0) planned.this;
          carried_out = ap (λ (c : Contents). c.cell.acts) is;
          settled = settled;
          named = subst NamesActors (sym is) (names-first actors number who t sends h.value.room directory planned);
        };
        not_run = ap (λ (c : Contents). c.cell.journal) is;
        none_given = ap given_of is ∙ ap (λ n. (n + 0 + 0) % 2 ^ 64) none-yet;
        none_closed = ap (λ (c : Contents). closed_receivers c.dead) is;
        none_drained = ap drained_of is;
        possible = subst (λ (c : Contents). IsTrue (is_possible (mailbox_at c.cell.who c.cell.journal))) (sym is) (possible-first who);
        free = subst (λ (c : Contents). IsFree (mailbox_at c.cell.who c.cell.journal)) (sym is) (open-first who);
        rest = no_backlog;
      }

  found : (directory : List DirectoryEntry) (others : List TakePassView) (first : Contents) (actors number : ℕ) (whos : List Identity) (takes : List TakePassView)
      (homes : List (Box Contents)) (place actor : ℕ) (home : Box Contents) → directory ≡ first.directory → actor ≡ number + place
      → AreAtFirst directory others number whos takes homes → ArePlanned actors number whos → AreSettled number homes
      → slice_get homes place ≡ Some home → IsFreshHome first actor home
  found directory others first actors number whos takes [] place actor home same at are planned settled there = absurd (none-some home there)
  found directory others first actors number [] [] (h ∷ homes) place actor home same at are planned settled there = absurd are
  found directory others first actors number [] (t ∷ takes) (h ∷ homes) place actor home same at are planned settled there = absurd are
  found directory others first actors number (who ∷ whos) [] (h ∷ homes) place actor home same at are planned settled there = absurd are
  found directory others first actors number (who ∷ whos) (t ∷ takes) (h ∷ homes) zero actor home same at are planned settled there =
      let is : h ≡ home = cc in let here : number ≡ actor = omega (arith, at) in
      subst (λ n. IsFreshHome first n home) here (subst (IsFreshHome first number) is
      (fresh-first first actors number who t (passes_of others number) directory h are.0 same planned.0 settled.0.0 settled.0.1))
  found directory others first actors number (who ∷ whos) (t ∷ takes) (h ∷ homes) (suc place) actor home same at are planned settled there =
      let further : actor ≡ (number + 1) + place = omega (arith, at) in
      found directory others first actors (number + 1) whos takes homes place actor home same further are.1 planned.1 settled.1 there

  directory-of-first : (directory : List DirectoryEntry) (others : List TakePassView) (number : ℕ) (whos : List Identity) (takes : List TakePassView)
      (homes : List (Box Contents)) (first : Box Contents) → AreAtFirst directory others number whos takes homes → slice_get homes 0 ≡ Some first
      → directory ≡ first.value.directory
  directory-of-first directory others number whos takes [] first are there = absurd (none-some first there)
  directory-of-first directory others number [] [] (h ∷ homes) first are there = absurd are
  directory-of-first directory others number [] (t ∷ takes) (h ∷ homes) first are there = absurd are
  directory-of-first directory others number (who ∷ whos) [] (h ∷ homes) first are there = absurd are
  directory-of-first directory others number (who ∷ whos) (t ∷ takes) (h ∷ homes) first are there =
      let is : h ≡ first = cc in
      sym (ap (λ (c : Contents). c.directory) are.0) ∙ ap (λ (x : Box Contents). x.value.directory) is

  -- the gates may begin with all of them
  pub all-fresh : (directory : List DirectoryEntry) (others : List TakePassView) (actors : ℕ) (whos : List Identity) (takes : List TakePassView)
      (homes : List (Box Contents)) → AreAtFirst directory others 0 whos takes homes → ArePlanned actors 0 whos → AreSettled 0 homes
      → AreFresh gives homes
  all-fresh directory others actors whos takes homes are planned settled = λ first zeroth actor home there.
      let same = directory-of-first directory others 0 whos takes homes first are zeroth in let at : actor ≡ 0 + actor = omega arith in
      found directory others first.value actors 0 whos takes homes actor actor home same at are planned settled there

-- a home as it was made
pub as-made : (value home : Contents) (cell : CellView) (t : TakePassView) (row passes : List SendPassView) (directory all : List DirectoryEntry) (who : Identity)
    → value ≡ home → home ≡ at_first cell t row home.room directory → cell ≡ unstarted who → row ≡ passes → directory ≡ all
    → value ≡ at_first (unstarted who) t passes value.room all
as-made value home cell t row passes directory all who same made is these whole =
    same ∙ made ∙ ap (λ x. at_first x t row home.room directory) is ∙ ap (λ l. at_first (unstarted who) t l home.room directory) these
    ∙ ap (λ l. at_first (unstarted who) t passes home.room l) whole
    ∙ ap (λ (c : Contents). at_first (unstarted who) t passes c.room all) (sym same)

-- one home more, as it begins
pub first-more : (directory : List DirectoryEntry) (others : List TakePassView) (number : ℕ) (whos : List Identity) (who : Identity) (takes : List TakePassView)
    (t : TakePassView) (homes : List (Box Contents)) (h : Box Contents) → AreAtFirst directory others number whos takes homes
    → h.value ≡ at_first (unstarted who) t (passes_of others (number + length homes)) h.value.room directory
    → AreAtFirst directory others number (whos ++ who ∷ []) (takes ++ t ∷ []) (homes ++ h ∷ [])
first-more directory others number [] who [] t [] h are is =
    let sum : number + 0 ≡ number = omega arith in
    (subst (λ n. h.value ≡ at_first (unstarted who) t (passes_of others n) h.value.room directory) sum is, tt)
first-more directory others number [] who [] t (x ∷ homes) h are is = absurd are
first-more directory others number [] who (y ∷ takes) t homes h are is = absurd are
first-more directory others number (w ∷ whos) who [] t homes h are is = absurd are
first-more directory others number (w ∷ whos) who (y ∷ takes) t [] h are is = absurd are
first-more directory others number (w ∷ whos) who (y ∷ takes) t (x ∷ homes) h are is =
    let sum : number + suc (length homes) ≡ (number + 1) + length homes = omega arith in (
      are.0,
      first-more directory others (number + 1) whos who takes t homes h are.1
          (subst (λ n. h.value ≡ at_first (unstarted who) t (passes_of others n) h.value.room directory) sum is),
    )
