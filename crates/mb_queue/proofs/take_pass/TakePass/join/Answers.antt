use Rattle.std.proofs.Common.{◌≡◌, ℕ, List, [], ◌∷◌, ◌++◌, subst, sym, ap, ◌∙◌, Option, Some, None}
use Rattle.mb_queue.specs.declared.ledger.Account.{Account}
use Rattle.mb_queue.specs.Ledger.{account, home}
use Rattle.mb_queue.proofs.Lists.{account-other, account-same}
use Rattle.mb_queue.specs.Port.{FifoPort}
use Rattle.mb_queue.specs.declared.take_order.TakeOrder.{TakeOrder}
use Rattle.mb_queue.specs.declared.take_order.TakeOrder.TheVariants.{ControlFirst, FirstInFirstOut, ByRank}
use Rattle.mb_queue.specs.declared.take_pass.TakePass.TheInside.{Inside}
use Rattle.mb_queue.specs.Passes.{SendPassView, TakePassView}
use Rattle.mb_queue.specs.Representation.{IsSending, IsTaking, IsTakePass}
use Rattle.mb_queue.proofs.Joins.{control_joined, fifo_joined, joined, rank_joined}
use Rattle.mb_queue.proofs.Ours.{ours-joined}
use Rattle.mb_queue.proofs.take_pass.TakePass.join.Goals as goal
use Rattle.mb_queue.proofs.take_pass.TakePass.join.Goals.{in-ControlFirst-Some, in-FirstInFirstOut-None, in-ByRank-None}

pub invariant_of-self : goal.invariant_of-self
invariant_of-self c =
    let i = c.self.inside in let p = c.pass.inside in let by : ℕ = p.by.0 in
    let back : (order : TakeOrder) (now : Inside) → now ≡ record { main = c.join.new.self; order = order; taken = i.taken; accounts = i.accounts }
    → c.match-self.self-inside ≡ now → IsTaking (joined i.main p.main) order i.taken (i.accounts ++ home by p.pushed ∷ [])
    → IsTakePass c.match-self.self-inside.main c.match-self.self-inside.order c.match-self.self-inside.taken c.add.new.self
    = λ order now is here kept. subst (λ (y : Inside × List Account). IsTakePass y.0.main y.0.order y.0.taken y.1) (λ k. (
      sym (here ∙ is ∙ (λ l. record { main = c.join.ensures l; order = order; taken = i.taken; accounts = i.accounts })) k,
      sym (c.add.ensures ∙ ap (λ (j : Inside). j.accounts ++ home by p.pushed ∷ []) (here ∙ is)) k,
    )) (kept, ours-joined i.main p.main i.order order i.taken c.self.invariant.1) in
    let sent : (control : Option FifoPort) → p.control ≡ control → IsSending by p.main control p.pushed
    = λ control is. subst (λ o. IsSending by p.main o p.pushed) is c.pass.invariant in
    let kept : (order : TakeOrder) → i.order ≡ order → IsTaking i.main order i.taken i.accounts
    = λ order is. subst (λ o. IsTaking i.main o i.taken i.accounts) is c.self.invariant.0 in
    elim c.match-self.branch [
      | in-ControlFirst-Some w ↦
          let own = w.in-ControlFirst-Some.own in let his = w.in-ControlFirst-Some.control in
          back (ControlFirst (joined own his)) _ (λ k. record {
            main = c.join.new.self;
            order = ControlFirst (w.join-in-ControlFirst-Some.ensures k);
            taken = i.taken;
            accounts = i.accounts;
          }) w.self-inside-is
          (control_joined i.main p.main i.taken i.accounts by p.pushed own his (kept (ControlFirst own) w.in-ControlFirst-Some.is-0)
          (sent (Some his) w.in-ControlFirst-Some.is-1))
      | in-FirstInFirstOut-None w ↦
          back FirstInFirstOut _ (λ k. record {
            main = c.join.new.self;
            order = w.in-FirstInFirstOut-None.is-0 k;
            taken = i.taken;
            accounts =
                i.accounts;
          }) w.self-inside-is
          (fifo_joined i.main p.main i.taken i.accounts by p.pushed (kept FirstInFirstOut w.in-FirstInFirstOut-None.is-0)
          (sent None w.in-FirstInFirstOut-None.is-1))
      | in-ByRank-None w ↦
          let choice = w.in-ByRank-None.field-0-0 in
          back (ByRank choice) _ (λ k. record {
            main = c.join.new.self;
            order = w.in-ByRank-None.is-0 k;
            taken = i.taken;
            accounts =
                i.accounts;
          }) w.self-inside-is
          (rank_joined i.main p.main i.taken i.accounts by p.pushed choice (kept (ByRank choice) w.in-ByRank-None.is-0)
          (sent None w.in-ByRank-None.is-1))
    ]

pub returns-clause-account : goal.returns-clause-account
returns-clause-account c = let p = c.pass.inside in
    ap (λ l. account l c.args.pass.by) c.add.ensures
    ∙ account-same c.match-self.self-inside.accounts (home p.by.0 p.pushed) c.args.pass.by (ap (λ (x : SendPassView). x.by) c.pass.view_is)
    ∙ ap (λ (x : SendPassView). Some x.pushed) c.pass.view_is

pub returns-clause-others : goal.returns-clause-others
returns-clause-others c = λ sender ne.
    let p = c.pass.inside in let i = c.self.inside in
    let kept : c.match-self.self-inside.accounts ≡ i.accounts = elim c.match-self.branch [
      | in-ControlFirst-Some w ↦ ap (λ (j : Inside). j.accounts) w.self-inside-is
      | in-FirstInFirstOut-None w ↦ ap (λ (j : Inside). j.accounts) w.self-inside-is
      | in-ByRank-None w ↦ ap (λ (j : Inside). j.accounts) w.self-inside-is
    ] in
    ap (λ l. account l sender) c.add.ensures
    ∙ account-other c.match-self.self-inside.accounts (home p.by.0 p.pushed) sender
    (λ same. ne (sym same ∙ ap (λ (x : SendPassView). x.by) c.pass.view_is))
    ∙ ap (λ l. account l sender) kept ∙ ap (λ (t : TakePassView). account t.accounts sender) c.self.view_is
