use Rattle.std.proofs.Common.{rules, ◌≡◌, ℕ, suc, ◌+◌, ◌-◌, ◌∷◌, [], ◌++◌, length, map, take, drop, refl, sym, ap, ◌∙◌, subst, append-nil, arith}
use Rattle.mb_shutdown.specs.Mismatched.{IsTooMuchFor}
use Rattle.mb_shutdown.specs.Taken.{AreTaken}
use Rattle.mb_shutdown.proofs.Lists.{length-mapped}
use Rattle.mb_shutdown.proofs.Rests.{are-taken, first-removed, guardian-given, lent, lent-empty, lent-rooms, none-listed, rest-over, rooms-of}
use Rattle.mb_shutdown.proofs.left_envelopes.take_rests.Goals as goal

pub returns-clause-taken : goal.returns-clause-taken
returns-clause-taken g c =
    let now = c.deref_mut.result.now in let rooms = c.join_and_drain.new.rooms in let rows = map (λ row. row.items) c.args.rows.items in
    let guardian = c.remove-guardian.result in let rest = c.remove-guardian.new.self.items in let last = c.take.new.self in
    let base : now ≡ c.args.lefts.now.items = search rules in
    let takes_are : c.args.takes.items ≡ guardian ∷ rest
    = first-removed c.args.takes.items guardian c.requires.not_empty.0 c.remove-guardian.ensures.value
    ∙ ap (λ l. guardian ∷ l) (sym c.remove-guardian.ensures.items) in
    let many_now : length now ≡ length c.args.takes.items = ap length base ∙ c.requires.same_count in
    let many_takes = ap length takes_are in
    let many_rooms : length rooms + 1 ≡ length now = search (rules, many_now, many_takes) in
    let some = c.requires.not_empty.0 in
    let none : last.taken ≡ guardian.taken
    = c.take.ensures.taken ∙ ap (λ l. guardian.taken ++ l) (none-listed c.take.result (search rules)) ∙ append-nil guardian.taken in
    let many_lefts = c.requires.same_count in
    subst (λ l. AreTaken c.args.takes.items rows (map (λ room. room.items) l))
    (sym (lent now c.args.lefts.now.items rooms c.args.lefts.now.len base (omega (arith, some, many_now)) (search rules) many_rooms
    ∙ ap (λ l. take 1 l ++ rooms) base))
    (are-taken c.args.takes.items rest guardian last rows (map (λ room. room.items) (take 1 c.args.lefts.now.items ++ rooms))
    (map (λ room. room.items) rooms) [] takes_are c.take.ensures.same.0 none c.take.ensures.known
    (rooms-of (λ room. room.items) c.args.lefts.now.items rooms (omega (arith, some, many_lefts)) c.requires.empty) refl
    (length-mapped (λ room. room.items) rooms ∙ omega (arith, many_rooms, many_now, many_takes)) c.in_default.ensures.collected.came
    c.in_default.ensures.collected.known c.in_default.ensures.collected.ordered)

pub returns-then-is_some-clause-overfull : goal.returns-then-is_some-clause-overfull
returns-then-is_some-clause-overfull g c =
    let rows = map (λ row. row.items) c.args.rows.items in let rooms = c.args.lefts.now.items in
    let guardian = c.remove-guardian.result in let rest = c.remove-guardian.new.self.items in
    let takes_are : c.args.takes.items ≡ guardian ∷ rest
    = first-removed c.args.takes.items guardian c.requires.not_empty.0 c.remove-guardian.ensures.value
    ∙ ap (λ l. guardian ∷ l) (sym c.remove-guardian.ensures.items) in
    guardian-given c.args.takes.items rest guardian c.take.new.self rows rooms c.take.result takes_are c.take.ensures.same.0 c.take.ensures.taken
    c.take.ensures.known (search rules)

pub join_and_drain-requires-clause-empty : goal.join_and_drain-requires-clause-empty
join_and_drain-requires-clause-empty g c =
    let now = c.deref_mut.result.now in let old = c.args.lefts.now.items in
    let base : now ≡ old = search rules in
    lent-empty (λ room. room.items ≡ []) old now base c.requires.empty

pub returns-in-Err-clause-overfull : goal.returns-in-Err-clause-overfull
returns-in-Err-clause-overfull g c =
    let rows = map (λ row. row.items) c.args.rows.items in let rooms = c.args.lefts.now.items in let now = c.deref_mut.result.now in
    let guardian = c.remove-guardian.result in let rest = c.remove-guardian.new.self.items in let place : ℕ = c.in-Err.field-0.0 in
    let takes_are : c.args.takes.items ≡ guardian ∷ rest
    = first-removed c.args.takes.items guardian c.requires.not_empty.0 c.remove-guardian.ensures.value
    ∙ ap (λ l. guardian ∷ l) (sym c.remove-guardian.ensures.items) in
    let base : now ≡ rooms = search rules in
    subst (λ n. IsTooMuchFor c.args.takes.items rows rooms n) (let e : suc place ≡ place + 1 = omega arith in e)
    (rest-over c.args.takes.items rest guardian rows rooms (take (length now - 1) (drop 1 now)) place takes_are
    (lent-rooms now ∙ ap (drop 1) base) c.in-Err.ensures.too_many.overfull)
