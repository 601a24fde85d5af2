use Rattle.std.proofs.Common.{rules, ◌≡◌, ◌≢◌, ◌⊎◌, ◌<◌, ◌∷◌, List, [], ℕ, suc, length, map, drop, refl, sym, ap, ◌∙◌, subst, length-append, arith}
use Rattle.std.specs.Prelude.{get_or, slice_get}
use Rattle.std.specs.Vec.Iter.{into_iter_items}
use Rattle.std.proofs.lemmas.List.{length-drop, nil_from_length}
use Rattle.std.proofs.lemmas.Option.{none-some, slice_get-get_or}
use Rattle.mb_msg.specs.declared.envelope.Envelope.{Envelope}
use Rattle.mb_report.specs.declared.report.ActorReport.{ActorReport}
use Rattle.mb_shutdown.specs.Mismatched.{CanHandle, DiffersFromCountFor}
use Rattle.mb_shutdown.proofs.Lists.{within}
use Rattle.mb_shutdown.proofs.Mismatches.{otherwise-at}
use Rattle.mb_shutdown.proofs.Steps.{drop-first, drop-rest, each-shown, every-one, nothing-left}
use Rattle.mb_shutdown.proofs.actor_reports.report_on.Goals as goal

pub loop-one-preserved : goal.loop-one-preserved
loop-one-preserved g c =
    let at = c.loop-one in let one = c.in-Some.one in let left = c.in-Some-next.left in let k : ℕ = length at.actors.items in
    let rest = into_iter_items c.next.new.self in let rest' = into_iter_items c.next-in-loop-one.new.self in
    let steps : one ∷ rest ≡ drop k c.args.ended.items = sym c.in-Some.ensures.steps.0 ∙ at.invariant.0 in
    let steps' : left ∷ rest' ≡ drop k c.args.lefts.items = search (rules, at.invariant.1) in
    let longer : length c.push_reserved.new.self.items ≡ suc k
    = ap length c.push_reserved.ensures.items ∙ length-append at.actors.items (c.actor_report.result ∷ []) ∙ (omega arith) in
    let below = within c.args.ended.items k one (drop-first c.args.ended.items k one rest steps) in
    let agreed = c.if-not-agrees.ensures in
    let same : c.deref.result.now ≡ left.items = search rules in
    let here : c.len-place.result ≡ k = search rules in
    let inside : k < length c.args.waiting.now
    = let b = c.requires.same_count in omega (arith, below, b) in
    let steps'' = c.in-Some.ensures.steps in let len = at.invariant.4 in let fewer = ap length c.in-Some.ensures.steps.0 in
    let less = c.in-Some.ensures.steps.1 in (
      drop-rest c.args.ended.items k one rest steps ∙ ap (λ n. drop n c.args.ended.items) (sym longer),
      drop-rest c.args.lefts.items k left rest' steps' ∙ ap (λ n. drop n c.args.lefts.items) (sym longer),
      (omega (arith, longer, below)),
      c.push_reserved.ensures.capacity ∙ at.invariant.3,
      (omega (arith, len, fewer, less)),
      each-shown g.K.Behaviours.after c.args.ended.items c.args.lefts.items c.args.waiting.now at.actors.items c.push_reserved.new.self.items
          c.actor_report.result one left (get_or c.args.waiting.now k 0) c.push_reserved.ensures.items at.invariant.5 (drop-first c.args.ended.items k one rest steps)
          (drop-first c.args.lefts.items k left rest' steps') (slice_get-get_or c.args.waiting.now k 0 inside) c.actor_report.ensures
          (ap length (sym same) ∙ agreed.0 ∙ ap (λ n. get_or c.args.waiting.now n 0) here) (λ some. agreed.1 (λ none. some (sym same ∙ none))),
    )

pub invariant_of-result-clause-few_actors : goal.invariant_of-result-clause-few_actors
invariant_of-result-clause-few_actors g c =
    let at = c.loop-one.invariant in
    let all = every-one g.K.Behaviours.after c.args.ended.items c.loop-one.actors.items (into_iter_items c.loop-one.one-iterator) at.0
    (nothing-left _ (sym at.4 ∙ c.in-None.ensures.steps.0)) at.2 in let few = c.requires.same_count.2 in omega (arith, all, few)

pub returns-clause-shows : goal.returns-clause-shows
returns-clause-shows g c =
    let at = c.loop-one.invariant in (
      record {
        same_count = every-one g.K.Behaviours.after c.args.ended.items c.loop-one.actors.items (into_iter_items c.loop-one.one-iterator) at.0
            (nothing-left _ (sym at.4 ∙ c.in-None.ensures.steps.0)) at.2;
        each = at.5;
      },
      refl,
    )

pub returns-then-not-agrees-clause-differs : goal.returns-then-not-agrees-clause-differs
returns-then-not-agrees-clause-differs g c =
    let at = c.loop-one in let one = c.in-Some.one in let left = c.in-Some-next.left in let k : ℕ = length at.actors.items in
    let rest = into_iter_items c.next.new.self in let rest' = into_iter_items c.next-in-loop-one.new.self in
    let steps : one ∷ rest ≡ drop k c.args.ended.items = sym c.in-Some.ensures.steps.0 ∙ at.invariant.0 in
    let steps' : left ∷ rest' ≡ drop k c.args.lefts.items = search (rules, at.invariant.1) in
    let below = within c.args.ended.items k one (drop-first c.args.ended.items k one rest steps) in
    let same : c.deref.result.now ≡ left.items = search rules in
    let here : c.len-place.result ≡ k = search rules in
    let inside : k < length c.args.waiting.now = let b = c.requires.same_count in omega (arith, below, b) in
    let count = get_or c.args.waiting.now k 0 in
    subst (λ id. DiffersFromCountFor c.args.ended.items (map (λ l. l.items) c.args.lefts.items) c.args.waiting.now id) (search (rules, here))
    (otherwise-at c.args.ended.items c.args.lefts.items c.args.waiting.now k one left count (drop-first c.args.ended.items k one rest steps)
    (drop-first c.args.lefts.items k left rest' steps') (slice_get-get_or c.args.waiting.now k 0 inside)
    (subst (λ (x : List Envelope × ℕ). (length x.0 ≢ x.1) ⊎ ((x.0 ≢ []) × CanHandle one.cell))
    (λ i. (same i, ap (λ n. get_or c.args.waiting.now n 0) here i)) c.if-not-agrees.ensures))

pub loop-one-init : goal.loop-one-init
loop-one-init g c =
    let none = c.requires.room.0 in let empty = ap length none in (
      c.into_iter-one-iterator.ensures.into_iter_gives.0 ∙ ap (λ (l : List ActorReport). drop (length l) c.args.ended.items) (sym none),
      c.into_iter-lefts.ensures.rest ∙ ap (λ (l : List ActorReport). drop (length l) c.args.lefts.items) (sym none),
      (omega (arith, empty)),
      refl,
      search rules,
      λ place e left n a e_is left_is n_is a_is. absurd (none-some a (sym (ap (λ l. slice_get l place) none) ∙ a_is)),
    )

pub unreachable-requires : goal.unreachable-requires
unreachable-requires g c =
    let at = c.loop-one in let one = c.in-Some.one in let k : ℕ = length at.actors.items in let rest = into_iter_items c.next.new.self in
    let steps : one ∷ rest ≡ drop k c.args.ended.items = sym c.in-Some.ensures.steps.0 ∙ at.invariant.0 in
    let below = within c.args.ended.items k one (drop-first c.args.ended.items k one rest steps) in
    let none : into_iter_items at.lefts ≡ [] = nil_from_length (into_iter_items at.lefts) (sym at.lefts.rest.ok.0 ∙ c.in_default.ensures.cases.0) in
    let left = length-drop k c.args.lefts.items in let over = ap length (sym at.invariant.1 ∙ none) in let many = c.requires.same_count.0 in
    omega (arith, below, left, over, many)

pub bounds-waiting-place : goal.bounds-waiting-place
bounds-waiting-place g c =
    let at = c.loop-one in let one = c.in-Some.one in let k : ℕ = length at.actors.items in let rest = into_iter_items c.next.new.self in
    let steps : one ∷ rest ≡ drop k c.args.ended.items = sym c.in-Some.ensures.steps.0 ∙ at.invariant.0 in
    let below = within c.args.ended.items k one (drop-first c.args.ended.items k one rest steps) in
    let here : c.len-place.result ≡ k = search rules in let many = c.requires.same_count.1 in
    omega (arith, here, below, many)

pub offset_bounds-waiting-place : goal.offset_bounds-waiting-place
offset_bounds-waiting-place g c =
    let at = c.loop-one in let one = c.in-Some.one in let k : ℕ = length at.actors.items in let rest = into_iter_items c.next.new.self in
    let steps : one ∷ rest ≡ drop k c.args.ended.items = sym c.in-Some.ensures.steps.0 ∙ at.invariant.0 in
    let below = within c.args.ended.items k one (drop-first c.args.ended.items k one rest steps) in
    let here : c.len-place.result ≡ k = search rules in let few = c.requires.same_count.2 in
    omega (arith, here, below, few)

pub overflow_cast-result : goal.overflow_cast-result
overflow_cast-result g c =
    let at = c.loop-one in let one = c.in-Some.one in let k : ℕ = length at.actors.items in let rest = into_iter_items c.next.new.self in
    let steps : one ∷ rest ≡ drop k c.args.ended.items = sym c.in-Some.ensures.steps.0 ∙ at.invariant.0 in
    let below = within c.args.ended.items k one (drop-first c.args.ended.items k one rest steps) in
    let here : c.len-place.result ≡ k = search rules in let few = c.requires.same_count.2 in
    omega (arith, here, below, few)

pub push_reserved-requires : goal.push_reserved-requires
push_reserved-requires g c =
    let at = c.loop-one in let one = c.in-Some.one in let k : ℕ = length at.actors.items in let rest = into_iter_items c.next.new.self in
    let steps : one ∷ rest ≡ drop k c.args.ended.items = sym c.in-Some.ensures.steps.0 ∙ at.invariant.0 in
    let below = within c.args.ended.items k one (drop-first c.args.ended.items k one rest steps) in
    let room = c.requires.room.1 in let same = at.invariant.3 in omega (arith, below, room, same)

pub returns-then-not-agrees-clause-shows : goal.returns-then-not-agrees-clause-shows
returns-then-not-agrees-clause-shows g c = tt

pub returns-clause-differs : goal.returns-clause-differs
returns-clause-differs g c = tt
