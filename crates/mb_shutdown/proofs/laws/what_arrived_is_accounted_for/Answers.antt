use Rattle.mb_shutdown.proofs.JoinAndDrainLemmas.{in_order, often, once, parts_in_order}
use Rattle.mb_shutdown.proofs.laws.what_arrived_is_accounted_for.Goals as goal

pub returns-clause-as_often_as_accepted : goal.returns-clause-as_often_as_accepted
returns-clause-as_often_as_accepted c = often

pub returns-clause-once : goal.returns-clause-once
returns-clause-once c = once

pub returns-clause-in_order : goal.returns-clause-in_order
returns-clause-in_order c = in_order

pub returns-clause-parts_in_order : goal.returns-clause-parts_in_order
returns-clause-parts_in_order c = parts_in_order
