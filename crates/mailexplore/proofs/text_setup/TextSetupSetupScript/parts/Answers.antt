use Rattle.std.proofs.Common.{rules, List, length, sym, ap, ◌∙◌}
use Rattle.mb_msg.specs.declared.order.SenderOrder.{SenderOrder}
use Rattle.mb_scenario.specs.View.{scenario_data}
use Rattle.mailexplore.specs.Described.{lists_of}
use Rattle.mailexplore.proofs.ReadLemmas.{behave, orders-read, scripts-read}
use Rattle.mailexplore.proofs.text_setup.TextSetupSetupScript.parts.Goals as goal

pub returns-clause-same_count : goal.returns-clause-same_count
returns-clause-same_count c =
    let text = c.args.self.now in let scenario = scenario_data c.in_ok-scenario.scenario in
    (search rules, sym (ap length (scripts-read text scenario c.in_ok-scenario.ensures)))

pub returns-clause-orders : goal.returns-clause-orders
returns-clause-orders c =
    let text = c.args.self.now in let scenario = scenario_data c.in_ok-scenario.scenario in
    c.in_ok-orders.ensures ∙ ap (λ (l : List SenderOrder). lists_of c.in_ok-scenario.scenario.plan.senders l) c.deref.ensures.value
    ∙ sym (orders-read text scenario c.in_ok-scenario.ensures)

pub returns-clause-behave : goal.returns-clause-behave
returns-clause-behave c =
    behave c.args.self.now (scenario_data c.in_ok-scenario.scenario) c.in_ok-scenario.ensures
