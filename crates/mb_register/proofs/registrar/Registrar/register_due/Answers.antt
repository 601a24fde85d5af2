use Rattle.std.proofs.Common.{◌∙◌, ℕ, [], ◌∷◌, refl, subst, ap, inl, inr}
use Rattle.mb_status.specs.Mailbox.{word_of}
use Rattle.mb_gate.specs.Accessors.{pass_view, held_actor}
use Rattle.mb_gate.specs.declared.claim.Claim.{Claim}
use Rattle.mb_register.specs.Registering.{OwesALook}
use Rattle.mb_register.specs.Views.{GotAndGaveBack, LooksAfter}
use Rattle.mb_register.proofs.Joining.{joins-none, joins-one}
use Rattle.mb_register.proofs.Views.{looks-then, looks-read, looks-read-twice, looks-read-won}
use Rattle.mb_register.proofs.ClaimCounts.{claims-then, claims-read, claims-read-twice, claims-read-won, hands-after}
use Rattle.mb_register.proofs.registrar.Registrar.register_due.Goals as goal

-- ---- the exchange won, and the run queue took the claim

pub returns-in-Ok-clause-registers : goal.returns-in-Ok-clause-registers
returns-in-Ok-clause-registers g c =
    let tried = c.in-Got.ensures.answer in record {
      same_gates = (c.in-Got.ensures.same_gates.0, c.push.ensures.same);
      looks = looks-read-won c.args.id.0 (word_of tried.0) (pass_view c.args.self.now.pass) (pass_view c.try_schedule.new.pass) tried.1.pass;
      told = refl;
    }

pub returns-in-Ok-clause-registered : goal.returns-in-Ok-clause-registered
returns-in-Ok-clause-registered g c = record {
  claim = c.in-Got.claim;
  of = c.in-Got.ensures.answer.1.of;
  pushed = c.in-Ok.ensures.pushed.0;
  refused = c.in-Ok.ensures.pushed.1;
  owed = refl;
}

pub returns-in-Ok-clause-handed : goal.returns-in-Ok-clause-handed
returns-in-Ok-clause-handed g c =
    let tried = c.in-Got.ensures.answer in (
      record {
        claim = c.in-Got.claim;
        of = tried.1.of;
        pushed = c.in-Ok.ensures.pushed.0;
        refused = c.in-Ok.ensures.pushed.1;
        owed = refl;
      },
      claims-read-won c.args.id.0 (word_of tried.0) (pass_view c.args.self.now.pass) (pass_view c.try_schedule.new.pass) tried.1.pass,
    )

pub returns-in-Ok-clause-owes : goal.returns-in-Ok-clause-owes
returns-in-Ok-clause-owes g c = joins-none _ _ (pass_view c.try_schedule.new.pass) refl

-- ---- the run queue refused it

pub returns-in-Err-clause-registers : goal.returns-in-Err-clause-registers
returns-in-Err-clause-registers g c =
    let id = c.args.id.0 in let tried = c.in-Got.ensures.answer in
    let a = pass_view c.args.self.now.pass in let b = pass_view c.try_schedule.new.pass in let d = pass_view c.give_home.new.pass in
    let here = ap (λ (k : Claim _). held_actor k) c.in-Err.ensures.pushed.0 ∙ tried.1.of in
    record {
      same_gates = (c.give_home.ensures.same_gates ∙ c.in-Got.ensures.same_gates.0, c.push.ensures.same);
      looks = looks-then id a b d (looks-read-won id (word_of tried.0) a b tried.1.pass)
          (subst (λ (n : ℕ). LooksAfter n b d) here c.give_home.ensures.looks);
      told = refl;
    }

pub returns-in-Err-clause-registered : goal.returns-in-Err-clause-registered
returns-in-Err-clause-registered g c = inr (record {
  claim = c.in-Got.claim;
  of = c.in-Got.ensures.answer.1.of;
  pushed = c.in-Err.ensures.pushed.1;
  refused = c.in-Err.ensures.pushed.2;
  owed = c.insert.ensures;
})

pub returns-in-Err-clause-handed : goal.returns-in-Err-clause-handed
returns-in-Err-clause-handed g c =
    let id = c.args.id.0 in let tried = c.in-Got.ensures.answer in
    let a = pass_view c.args.self.now.pass in let b = pass_view c.try_schedule.new.pass in let d = pass_view c.give_home.new.pass in
    let here = ap (λ (k : Claim _). held_actor k) c.in-Err.ensures.pushed.0 ∙ tried.1.of in
    inr (
      record {
        claim = c.in-Got.claim;
        of = tried.1.of;
        pushed = c.in-Err.ensures.pushed.1;
        refused = c.in-Err.ensures.pushed.2;
        owed = c.insert.ensures;
      },
      claims-then (id ∷ []) [] [] (id ∷ []) a b d (claims-read-won id (word_of tried.0) a b tried.1.pass)
          (subst (λ (n : ℕ). GotAndGaveBack [] (n ∷ []) b d) here c.give_home.ensures.claims),
    )

pub returns-in-Err-clause-owes : goal.returns-in-Err-clause-owes
returns-in-Err-clause-owes g c =
    let here = ap (λ (k : Claim _). held_actor k) c.in-Err.ensures.pushed.0 ∙ c.in-Got.ensures.answer.1.of in
    joins-one c.args.id.0 _ _ (pass_view c.give_home.new.pass) c.insert.ensures
    (subst (λ n. OwesALook n (pass_view c.give_home.new.pass)) here c.give_home.ensures.owes)

-- ---- a worker holds it already

pub returns-in-Already-clause-registers : goal.returns-in-Already-clause-registers
returns-in-Already-clause-registers g c =
    let tried = c.in-Already.ensures.answer in record {
      same_gates = (c.in-Already.ensures.same_gates.0, refl);
      looks = looks-read c.args.id.0 (word_of tried.0) (pass_view c.args.self.now.pass) (pass_view c.try_schedule.new.pass) tried.1.2;
      told = refl;
    }

pub returns-in-Already-clause-handed : goal.returns-in-Already-clause-handed
returns-in-Already-clause-handed g c =
    let tried = c.in-Already.ensures.answer in
    inl (refl, claims-read c.args.id.0 (word_of tried.0) (pass_view c.args.self.now.pass) (pass_view c.try_schedule.new.pass) tried.1.2)

pub returns-in-Already-clause-owes : goal.returns-in-Already-clause-owes
returns-in-Already-clause-owes g c = joins-none _ _ (pass_view c.try_schedule.new.pass) refl

-- ---- it is closed

pub returns-in-Closed-clause-registers : goal.returns-in-Closed-clause-registers
returns-in-Closed-clause-registers g c =
    let tried = c.in-Closed.ensures.answer in record {
      same_gates = (c.in-Closed.ensures.same_gates.0, refl);
      looks = looks-read c.args.id.0 (word_of tried.0) (pass_view c.args.self.now.pass) (pass_view c.try_schedule.new.pass) tried.1.1;
      told = refl;
    }

pub returns-in-Closed-clause-handed : goal.returns-in-Closed-clause-handed
returns-in-Closed-clause-handed g c =
    let tried = c.in-Closed.ensures.answer in
    inl (refl, claims-read c.args.id.0 (word_of tried.0) (pass_view c.args.self.now.pass) (pass_view c.try_schedule.new.pass) tried.1.1)

pub returns-in-Closed-clause-owes : goal.returns-in-Closed-clause-owes
returns-in-Closed-clause-owes g c = joins-none _ _ (pass_view c.try_schedule.new.pass) refl

-- ---- another step came between

pub returns-in-Lost-clause-registers : goal.returns-in-Lost-clause-registers
returns-in-Lost-clause-registers g c =
    let id = c.args.id.0 in let tried = c.in-Lost.ensures.answer in let then = c.register_due_again.ensures.registers in
    let a = pass_view c.args.self.now.pass in let b = pass_view c.try_schedule.new.pass in let d = pass_view c.register_due_again.new.self.pass in
    record {
      same_gates = (then.same_gates.0 ∙ c.in-Lost.ensures.same_gates.0, then.same_gates.1);
      looks = looks-then id a b d (looks-read-twice id (word_of tried.0) (word_of c.in-Lost.field-0) a b tried.1.2) then.looks;
      told = then.told;
    }

pub returns-in-Lost-clause-handed : goal.returns-in-Lost-clause-handed
returns-in-Lost-clause-handed g c =
    let id = c.args.id.0 in let tried = c.in-Lost.ensures.answer in
    let a = pass_view c.args.self.now.pass in let b = pass_view c.try_schedule.new.pass in let d = pass_view c.register_due_again.new.self.pass in
    hands-after id _ _ a b d c.register_due_again.result
    (claims-read-twice id (word_of tried.0) (word_of c.in-Lost.field-0) a b tried.1.2) c.register_due_again.ensures.handed
