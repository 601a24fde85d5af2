-- The effects of a call, one more at the front.
use Rattle.std.proofs.Common.{◌≡◌, ℕ, ◌+◌, ◌-◌, ◌*◌, ◌^◌, ◌<◌, ◌≤◌, arith, Bool, true, false, List, [], ◌∷◌, ◌++◌, length, get_or, drop}
use Rattle.std.proofs.Common.{drop-cons, add-one, append_assoc, refl, ap, sym, ◌∙◌, rules}
use Rattle.std.proofs.lemmas.List.{append-nil}
use Rattle.std.specs.Prelude.{not, ◌||◌, if◌then◌else◌, cond}
use Rattle.mb_msg.specs.declared.id.ActorId.{ActorId}
use Rattle.mb_msg.specs.declared.system.SysMsg.TheVariants as system
use Rattle.mb_actor.specs.ActorList.{is_same, has}
use Rattle.mb_actor.specs.OutboxView.{spawns_of}
use Rattle.mb_actor.specs.declared.effect.Effect.{Effect}
use Rattle.mb_actor.specs.declared.effect.Effect.TheVariants as effect
use Rattle.mb_journal.specs.Acts.{Act, effect_acts}
use Rattle.mb_journal.specs.Acts.Act.{Sys}
use Rattle.mb_journal.specs.ActorList.{without}
use Rattle.mb_journal.specs.Watching.{watching_after, due_after}

either : (a b : Bool) → (a || b) ≡ false → (a ≡ false) × (b ≡ false)
either a b h = grind rules

-- a list without one that is not in it
pub without-absent : (list : List ActorId) (x : ActorId) → has list x ≡ false → without list x ≡ list
without-absent [] x absent = refl
without-absent (a ∷ list) x absent =
    let both = either (is_same x a) (has list x) absent in
    (λ i. cond (not (both.0 i)) (a ∷ without list x) (without list x)) ∙ ap (λ l. a ∷ l) (without-absent list x both.1)

by_watch : (here there : Bool) (s : Act) (list more : List ActorId) (rest : List ActorId → List Act) →
    (if here || there then rest list else s ∷ rest more)
    ≡ (if here || there then [] else s ∷ []) ++ rest (if here then list else (if there then list else more))
by_watch true there s list more rest = refl
by_watch false true s list more rest = refl
by_watch false false s list more rest = refl

by_unwatch : (there : Bool) (s : Act) (list less : List ActorId) (rest : List ActorId → List Act) → (there ≡ false → less ≡ list) →
    (if there then s ∷ rest less else rest list) ≡ (if there then s ∷ [] else []) ++ rest less
by_unwatch true s list less rest same = refl
by_unwatch false s list less rest same = ap rest (sym (same refl))

-- the acts of effects are those of the first, and those of the others with the list that it leaves
pub effect_acts-more : (this : ActorId) (list : List ActorId) (e : Effect) (effects : List Effect) →
    effect_acts this list (e ∷ effects)
    ≡ effect_acts this list (e ∷ []) ++ effect_acts this (watching_after this list (e ∷ [])) effects
unfolding effect_acts
effect_acts-more this list (effect.Tell to kind value) effects = refl
effect_acts-more this list (effect.Control to kind value) effects = refl
effect_acts-more this list (effect.Watch x) effects =
    by_watch (is_same this x) (has list x) (Sys x (system.Watch this)) list (list ++ x ∷ []) (λ l. effect_acts this l effects)
effect_acts-more this list (effect.Unwatch x) effects =
    by_unwatch (has list x) (Sys x (system.Unwatch this)) list (without list x) (λ l. effect_acts this l effects)
    (λ absent. without-absent list x absent)
effect_acts-more this list (effect.Stop x) effects = refl
effect_acts-more this list (effect.Spawn x) effects = refl

pub effect_acts-none : (this : ActorId) (list : List ActorId) → effect_acts this list [] ≡ []
unfolding effect_acts
effect_acts-none this list = refl

pub watching_after-more : (this : ActorId) (list : List ActorId) (e : Effect) (effects : List Effect) →
    watching_after this list (e ∷ effects) ≡ watching_after this (watching_after this list (e ∷ [])) effects
watching_after-more this list (effect.Tell to kind value) effects = refl
watching_after-more this list (effect.Control to kind value) effects = refl
watching_after-more this list (effect.Watch x) effects = refl
watching_after-more this list (effect.Unwatch x) effects = refl
watching_after-more this list (effect.Stop x) effects = refl
watching_after-more this list (effect.Spawn x) effects = refl

pub due_after-more : (list : List ActorId) (e : Effect) (effects : List Effect) →
    due_after list (e ∷ effects) ≡ due_after (due_after list (e ∷ [])) effects
due_after-more list (effect.Tell to kind value) effects = refl
due_after-more list (effect.Control to kind value) effects = refl
due_after-more list (effect.Watch x) effects = refl
due_after-more list (effect.Unwatch x) effects = refl
due_after-more list (effect.Stop x) effects = refl
due_after-more list (effect.Spawn x) effects = refl

pub spawns_of-more : (e : Effect) (effects : List Effect) → spawns_of (e ∷ effects) ≡ spawns_of (e ∷ []) ++ spawns_of effects
spawns_of-more (effect.Tell to kind value) effects = refl
spawns_of-more (effect.Control to kind value) effects = refl
spawns_of-more (effect.Watch x) effects = refl
spawns_of-more (effect.Unwatch x) effects = refl
spawns_of-more (effect.Stop x) effects = refl
spawns_of-more (effect.Spawn x) effects = refl

-- the effects from one on
pub from-next : (effects : List Effect) (i : ℕ) (d : Effect) → i < length effects →
    drop i effects ≡ get_or effects i d ∷ drop (i + 1) effects
from-next effects i d within =
    drop-cons effects i d within ∙ ap (λ n. get_or effects i d ∷ drop n effects) (sym (add-one i))

-- ---- one effect is carried out, and the others are left

pub acts-step : (this : ActorId) (acts new_acts whole : List Act) (list new_list : List ActorId) (e : Effect) (rest all : List Effect) →
    new_acts ≡ acts ++ effect_acts this list (e ∷ []) → new_list ≡ watching_after this list (e ∷ []) → all ≡ e ∷ rest →
    acts ++ effect_acts this list all ≡ whole → new_acts ++ effect_acts this new_list rest ≡ whole
acts-step this acts new_acts whole list new_list e rest all by_acts by_list is before =
    (λ i. by_acts i ++ effect_acts this (by_list i) rest)
    ∙ (append_assoc acts (effect_acts this list (e ∷ [])) (effect_acts this (watching_after this list (e ∷ [])) rest)
    ∙ (ap (λ more. acts ++ more) (sym (effect_acts-more this list e rest))
    ∙ (ap (λ es. acts ++ effect_acts this list es) (sym is) ∙ before)))

pub children-step : (children new_children whole : List ActorId) (e : Effect) (rest all : List Effect) →
    new_children ≡ children ++ spawns_of (e ∷ []) → all ≡ e ∷ rest → children ++ spawns_of all ≡ whole →
    new_children ++ spawns_of rest ≡ whole
children-step children new_children whole e rest all by_children is before =
    ap (λ list. list ++ spawns_of rest) by_children
    ∙ (append_assoc children (spawns_of (e ∷ [])) (spawns_of rest)
    ∙ (ap (λ more. children ++ more) (sym (spawns_of-more e rest)) ∙ (ap (λ es. children ++ spawns_of es) (sym is) ∙ before)))

pub watching-step : (this : ActorId) (list new_list whole : List ActorId) (e : Effect) (rest all : List Effect) →
    new_list ≡ watching_after this list (e ∷ []) → all ≡ e ∷ rest → watching_after this list all ≡ whole →
    watching_after this new_list rest ≡ whole
watching-step this list new_list whole e rest all by_list is before =
    ap (λ l. watching_after this l rest) by_list
    ∙ (sym (watching_after-more this list e rest) ∙ (ap (λ es. watching_after this list es) (sym is) ∙ before))

pub due-step : (list new_list whole : List ActorId) (e : Effect) (rest all : List Effect) →
    new_list ≡ due_after list (e ∷ []) → all ≡ e ∷ rest → due_after list all ≡ whole → due_after new_list rest ≡ whole
due-step list new_list whole e rest all by_list is before =
    ap (λ l. due_after l rest) by_list ∙ (sym (due_after-more list e rest) ∙ (ap (λ es. due_after list es) (sym is) ∙ before))

pub acts-done : (this : ActorId) (acts whole : List Act) (list : List ActorId) (all : List Effect) → all ≡ [] →
    acts ++ effect_acts this list all ≡ whole → acts ≡ whole
acts-done this acts whole list all none before =
    sym (ap (λ es. acts ++ effect_acts this list es) none ∙ (ap (λ more. acts ++ more) (effect_acts-none this list) ∙ append-nil acts)) ∙ before

pub children-done : (children whole : List ActorId) (all : List Effect) → all ≡ [] → children ++ spawns_of all ≡ whole → children ≡ whole
children-done children whole all none before = sym (ap (λ es. children ++ spawns_of es) none ∙ append-nil children) ∙ before

pub watching-done : (this : ActorId) (list whole : List ActorId) (all : List Effect) → all ≡ [] → watching_after this list all ≡ whole → list ≡ whole
watching-done this list whole all none before = sym (ap (λ es. watching_after this list es) none) ∙ before

pub due-done : (list whole : List ActorId) (all : List Effect) → all ≡ [] → due_after list all ≡ whole → list ≡ whole
due-done list whole all none before = sym (ap (λ es. due_after list es) none) ∙ before

-- ---- room for what is left

pub act-fits : (first now steps count : ℕ) → first ≤ now + steps → count ≤ first → steps < count → 0 < now
act-fits first now steps count so_far enough more = omega arith

pub place-fits : (first now steps count before capacity : ℕ) → now ≤ first + steps → first + count ≤ before → before ≤ capacity → steps < count →
    now < capacity
place-fits first now steps count before capacity so_far enough same more = omega arith

-- ---- room for the effects of a call, and for what follows them

pub acts-fit : (effects others room now : ℕ) → effects ≤ 16 → others + 40 ≤ room → now ≡ room - 1 → effects ≤ now
acts-fit effects others room now few enough is = omega arith

pub some-act-fits : (others room : ℕ) → others + 40 ≤ room → 0 < room
some-act-fits others room enough = omega arith

pub spawned-fit : (effects children fanout capacity : ℕ) → effects ≤ 16 → children + (16 + fanout) ≤ capacity → children + effects ≤ capacity
spawned-fit effects children fanout capacity few enough = omega arith

pub watched-fit : (effects watching capacity : ℕ) → effects ≤ 16 → watching + 16 ≤ capacity → watching + effects ≤ capacity
watched-fit effects watching capacity few enough = omega arith

pub acts-below : (children watchers watching fanout n m k : ℕ) → n ≡ children → m ≡ watchers → k ≡ watching →
    children < 2 ^ 60 → watchers < 2 ^ 61 → watching < 2 ^ 61 → fanout < 2 ^ 60 →
    2 * n + m + k + fanout + 40 < 2 ^ 63
acts-below children watchers watching fanout n m k a b c few_children few_watchers few_watched small = omega arith
