use Rattle.std.proofs.Common.{◌≡◌, ◌++◌, subst, sym}
use Rattle.std.specs.Prelude.{IfNone, IfSome, option_to_list}
use Rattle.mb_queue.specs.Fates.{HasGivenAll, NothingLeft}
use Rattle.mb_queue.specs.Representation.{taking_of}
use Rattle.mb_queue.specs.Passes.{IsOfQueue, TakePassView}
use Rattle.mb_queue.specs.Takes.{IsTake}
use Rattle.mb_queue.proofs.NextTaken.{ended-next, given_all-next, of_queue-next, pass-next, take-next, taken-next}
use Rattle.mb_queue.proofs.take_pass.TakePass.take.Goals as goal

pub invariant_of-self : goal.invariant_of-self
invariant_of-self g c = let i = c.self.inside in let next = c.take_next-next.new in
    pass-next i.main i.order i.taken i.accounts next.main next.order c.add_taken.new.taken c.take_next-next.result c.self.invariant
    c.take_next-next.ensures c.add_taken.ensures

pub returns-clause-taken : goal.returns-clause-taken
returns-clause-taken g c = let i = c.self.inside in let next = c.take_next-next.new in
    subst (λ (t : TakePassView). c.add_taken.new.taken ≡ t.taken ++ option_to_list c.take_next-next.result) c.self.view_is
    (taken-next i.main i.order i.taken i.accounts next.main next.order c.add_taken.new.taken c.take_next-next.result c.add_taken.ensures)

-- all that was ever given is of the queue
pub returns-clause-known : goal.returns-clause-known
returns-clause-known g c = (invariant_of-self g c).1

pub returns-clause-of_queue : goal.returns-clause-of_queue
returns-clause-of_queue g c = let i = c.self.inside in let next = c.take_next-next.new in
    subst (λ (t : TakePassView). IfSome c.take_next-next.result (IsOfQueue t.queue)) c.self.view_is
    (of_queue-next i.main i.order i.taken i.accounts next.main next.order c.add_taken.new.taken c.self.invariant.0 c.take_next-next.result
    c.take_next-next.ensures)

pub returns-clause-follows_discipline : goal.returns-clause-follows_discipline
returns-clause-follows_discipline g c = let i = c.self.inside in let next = c.take_next-next.new in
    subst (λ (t : TakePassView). IsTake t.discipline t c.take_next-next.result (taking_of next.main next.order c.add_taken.new.taken i.accounts))
    c.self.view_is
    (take-next i.main i.order i.taken i.accounts next.main next.order c.add_taken.new.taken c.self.invariant.0 c.take_next-next.result
    c.take_next-next.ensures c.add_taken.ensures)

pub returns-clause-given_all : goal.returns-clause-given_all
returns-clause-given_all g c = let i = c.self.inside in let next = c.take_next-next.new in
    subst (λ (t : TakePassView). IfNone c.take_next-next.result (HasGivenAll t.discipline
    (taking_of next.main next.order c.add_taken.new.taken i.accounts))) c.self.view_is
    (given_all-next i.main i.order i.taken i.accounts next.main next.order c.add_taken.new.taken c.self.invariant.0 c.take_next-next.result
    c.take_next-next.ensures c.add_taken.ensures)

pub returns-clause-ended : goal.returns-clause-ended
returns-clause-ended g c = λ nothing. let i = c.self.inside in let next = c.take_next-next.new in
    ended-next i.main i.order i.taken i.accounts next.main next.order c.add_taken.new.taken c.self.invariant.0 c.take_next-next.result
    c.take_next-next.ensures (subst NothingLeft (sym c.self.view_is) nothing)
