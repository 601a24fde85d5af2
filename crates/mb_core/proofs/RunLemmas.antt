-- An event has one outcome at most, and so has a run.
use Rattle.std.proofs.Common.{◌≡◌, ◌↔◌, ℕ, suc, ◌+◌, ◌<◌, ◌≤◌, Bool, true, false, IsTrue, IsSome, IfSome, Option, All, List, ◌∷◌, Some}
use Rattle.std.proofs.Common.{length, get_or, drop, add-one, ap, sym, ◌∙◌, refl, subst}
use Rattle.std.proofs.lemmas.Option.{same_Some}
use Rattle.std.proofs.lemmas.List.{drop_all}
use Rattle.std.proofs.Math.ListN.{set}
use Rattle.std.proofs.Math.Seq.{drop-cons}
use Rattle.mb_core.specs.declared.event.Event.{Event}
use Rattle.mb_core.specs.declared.event.Step.{Step}
use Rattle.mb_core.specs.declared.event.Step.TheVariants.{Read, Schedule, Idle, Suspend, Resume, Close, Sent, Unsent}
use Rattle.mb_core.specs.declared.event.Step.TheVariants.{Taken, Count, Push, Take, SysAdd, SysRead, SysDrain, SysEnd}
use Rattle.mb_core.specs.Actor.{MachineActor}
use Rattle.mb_core.specs.Run.{Change, Transition, Run, IsMade, LeadsTo, can_start, start}

-- what a step makes of its actor is one thing
pub one_change : (x : MachineActor) (party : ℕ) (step : Step) (y z : MachineActor) → Change x party step y → Change x party step z → z ≡ y
one_change x party Read y z one other = other ∙ sym one
one_change x party Schedule y z one other = other.2 ∙ sym one.2
one_change x party (Idle rest) y z one other = other.1 ∙ sym one.1
one_change x party Suspend y z one other = other.2 ∙ sym one.2
one_change x party Resume y z one other = other.1 ∙ sym one.1
one_change x party Close y z one other = other.1 ∙ sym one.1
one_change x party Sent y z one other = other ∙ sym one
one_change x party Unsent y z one other = other.1 ∙ sym one.1
one_change x party Taken y z one other = other.1 ∙ sym one.1
one_change x party Count y z one other = other ∙ sym one
one_change x party (Push envelope) y z one other = other ∙ sym one
one_change x party (Take place) y z one other = other.2 ∙ sym one.2
one_change x party (SysAdd message) y z one other = other.1 ∙ sym one.1
one_change x party SysRead y z one other = other ∙ sym one
one_change x party SysDrain y z one other = other.1 ∙ sym one.1
one_change x party SysEnd y z one other = other.2 ∙ sym one.2

-- one event leads to one state
pub one_step : (old : List MachineActor) (event : Event) (new other : List MachineActor) → Transition old event new → Transition old event other → other ≡ new
one_step old event new other one two =
    let same_before : two.before ≡ one.before = same_Some two.before one.before (sym two.actor_there ∙ one.actor_there) in
    let change : Change one.before event.party event.step two.after =
    subst (λ (x : MachineActor). Change x event.party event.step two.after) same_before two.change in
    let same_after : two.after ≡ one.after = one_change one.before event.party event.step one.after two.after one.change change in
    two.others_stay ∙ ap (set old event.actor.0) same_after ∙ sym one.others_stay

-- once the first event is made, the rest leads where all of them lead
pub rest_leads :
    (old : List MachineActor) (event : Event) (events : List Event) (next state : List MachineActor) → Transition old event next →
    Run old (event ∷ events) state ↔ Run next events state
rest_leads old event events next state step = (
  λ whole. subst (λ (s : List MachineActor). Run s events state) (one_step old event next whole.0 step whole.1) whole.2,
  λ rest. (next, step, rest),
)

-- before any event is made, all of them lead from here where they lead from the start
pub begins_here :
    (words : List ℕ) (parties : ℕ) (events : List Event) (found : Option (List MachineActor)) (first : List MachineActor) →
    IfSome found (λ (m : List MachineActor). m ≡ start words parties) → found ≡ Some first →
    (state : List MachineActor) → Run (start words parties) events state ↔ Run first events state
begins_here words parties events found first at is state =
    let same : first ≡ start words parties =
    subst (λ (o : Option (List MachineActor)). IfSome o (λ (m : List MachineActor). m ≡ start words parties)) is at in (
      subst (λ (s : List MachineActor). Run s events state) (sym same),
      subst (λ (s : List MachineActor). Run s events state) same,
    )

-- once the next event is made, what is left leads where all of them lead
pub goes_on :
    (old now new : List MachineActor) (events : List Event) (index : ℕ) (event : Event) (done : Bool) → index < length events →
    event ≡ get_or events index event → IsMade now event new done → done ≡ true →
    ((state : List MachineActor) → Run old events state ↔ Run now (drop index events) state) →
    (state : List MachineActor) → Run old events state ↔ Run new (drop (index + 1) events) state
goes_on old now new events index event done inside next stepped made same state =
    let left : drop index events ≡ event ∷ drop (index + 1) events =
    rw add-one (drop-cons events index event inside ∙ ap (λ (e : Event). e ∷ drop (suc index) events) (sym next)) in
    let step : Transition now event new = subst (IsMade now event new) made stepped in
    let rest : Run now (event ∷ drop (index + 1) events) state ↔ Run new (drop (index + 1) events) state =
    rest_leads now event (drop (index + 1) events) new state step in (
      λ run. rest.0 (subst (λ (es : List Event). Run now es state) left ((same state).0 run)),
      λ run. (same state).1 (subst (λ (es : List Event). Run now es state) (sym left) (rest.1 run)),
    )

-- once none is left, the events lead to where they are
pub leads_here :
    (words : List ℕ) (parties : ℕ) (events : List Event) (found : Option (List MachineActor)) (first now : List MachineActor) (index : ℕ) →
    (IsSome found → All (λ word. IsTrue (can_start word)) words) → found ≡ Some first → length events ≤ index →
    ((state : List MachineActor) → Run (start words parties) events state ↔ Run now (drop index events) state) →
    LeadsTo words parties events now
leads_here words parties events found first now index starts is ended same = record {
  can_start = starts (rw is refl);
  run = (same now).1 (rw (drop_all index events ended) refl);
}

-- and nowhere else
pub exactly_here :
    (words : List ℕ) (parties : ℕ) (events : List Event) (now : List MachineActor) (index : ℕ) →
    LeadsTo words parties events now → length events ≤ index →
    ((state : List MachineActor) → Run (start words parties) events state ↔ Run now (drop index events) state) →
    (state : List MachineActor) → (Some now ≡ Some state) ↔ LeadsTo words parties events state
exactly_here words parties events now index leads ended same state = (
  λ is. subst (LeadsTo words parties events) (same_Some now state is) leads,
  λ led. ap (λ (s : List MachineActor). Some s)
      (sym (subst (λ (es : List Event). Run now es state) (drop_all index events ended) ((same state).0 led.run))),
)

-- where the next event is refused, the events lead nowhere
pub no_run :
    (old now new : List MachineActor) (events : List Event) (index : ℕ) (event : Event) (done : Bool) → index < length events →
    event ≡ get_or events index event → IsMade now event new done → done ≡ false →
    ((state : List MachineActor) → Run old events state ↔ Run now (drop index events) state) →
    (state : List MachineActor) → Run old events state → ⊥
no_run old now new events index event done inside next stepped refused same state run =
    let left : drop index events ≡ event ∷ drop (suc index) events =
    drop-cons events index event inside ∙ ap (λ (e : Event). e ∷ drop (suc index) events) (sym next) in
    let here : Run now (event ∷ drop (suc index) events) state =
    subst (λ (es : List Event). Run now es state) left ((same state).0 run) in
    let never : (other : List MachineActor) → Transition now event other → ⊥ = subst (IsMade now event new) refused stepped in
    never here.0 here.1
