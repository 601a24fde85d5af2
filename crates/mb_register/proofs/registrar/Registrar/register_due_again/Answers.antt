use Rattle.std.proofs.Common.{◌∙◌, ℕ, [], ◌∷◌, refl, subst, ap, inl, inr}
use Rattle.mb_gate.specs.Accessors.{pass_view, held_actor}
use Rattle.mb_gate.specs.declared.claim.Claim.{Claim}
use Rattle.mb_register.specs.Registering.{OwesALook}
use Rattle.mb_register.specs.Views.{GotAndGaveBack, LooksAfter}
use Rattle.mb_register.proofs.Joining.{joins-none, joins-one}
use Rattle.mb_register.proofs.Views.{looks-then}
use Rattle.mb_register.proofs.ClaimCounts.{claims-then}
use Rattle.mb_register.proofs.registrar.Registrar.register_due_again.Goals as goal

pub returns-in-Ok-clause-registered : goal.returns-in-Ok-clause-registered
returns-in-Ok-clause-registered g c = record {
  claim = c.in-Some.claim;
  of = c.in-Some.ensures.claim.0;
  pushed = c.in-Ok.ensures.pushed.0;
  refused = c.in-Ok.ensures.pushed.1;
  owed = refl;
}

pub returns-in_default-clause-registers : goal.returns-in_default-clause-registers
returns-in_default-clause-registers g c = record {
  same_gates = (c.take_due_again.ensures.same_gates, refl);
  looks = c.take_due_again.ensures.looks;
  told = refl;
}

pub returns-in-Ok-clause-registers : goal.returns-in-Ok-clause-registers
returns-in-Ok-clause-registers g c = record {
  same_gates = (c.take_due_again.ensures.same_gates, c.push.ensures.same);
  looks = c.take_due_again.ensures.looks;
  told = refl;
}

pub returns-in-Err-clause-registers : goal.returns-in-Err-clause-registers
returns-in-Err-clause-registers g c =
    let id = c.args.id.0 in
    let a = pass_view c.args.self.now.pass in let b = pass_view c.take_due_again.new.pass in let d = pass_view c.give_home.new.pass in
    let here = ap (λ (k : Claim _). held_actor k) c.in-Err.ensures.pushed.0 ∙ c.in-Some.ensures.claim.0 in
    record {
      same_gates = (c.give_home.ensures.same_gates ∙ c.take_due_again.ensures.same_gates, c.push.ensures.same);
      looks = looks-then id a b d c.take_due_again.ensures.looks (subst (λ (n : ℕ). LooksAfter n b d) here c.give_home.ensures.looks);
      told = refl;
    }

pub returns-in-Err-clause-registered : goal.returns-in-Err-clause-registered
returns-in-Err-clause-registered g c = inr (record {
  claim = c.in-Some.claim;
  of = c.in-Some.ensures.claim.0;
  pushed = c.in-Err.ensures.pushed.1;
  refused = c.in-Err.ensures.pushed.2;
  owed = c.insert.ensures;
})

pub returns-in_default-clause-handed : goal.returns-in_default-clause-handed
returns-in_default-clause-handed g c = inl (refl, c.in_default.ensures.claims)

pub returns-in-Ok-clause-handed : goal.returns-in-Ok-clause-handed
returns-in-Ok-clause-handed g c = (
  record {
    claim = c.in-Some.claim;
    of = c.in-Some.ensures.claim.0;
    pushed = c.in-Ok.ensures.pushed.0;
    refused = c.in-Ok.ensures.pushed.1;
    owed = refl;
  },
  c.in-Some.ensures.claims,
)

pub returns-in-Err-clause-handed : goal.returns-in-Err-clause-handed
returns-in-Err-clause-handed g c =
    let id = c.args.id.0 in
    let a = pass_view c.args.self.now.pass in let b = pass_view c.take_due_again.new.pass in let d = pass_view c.give_home.new.pass in
    let here = ap (λ (k : Claim _). held_actor k) c.in-Err.ensures.pushed.0 ∙ c.in-Some.ensures.claim.0 in
    inr (
      record {
        claim = c.in-Some.claim;
        of = c.in-Some.ensures.claim.0;
        pushed = c.in-Err.ensures.pushed.1;
        refused = c.in-Err.ensures.pushed.2;
        owed = c.insert.ensures;
      },
      claims-then (id ∷ []) [] [] (id ∷ []) a b d c.in-Some.ensures.claims
          (subst (λ (n : ℕ). GotAndGaveBack [] (n ∷ []) b d) here c.give_home.ensures.claims),
    )

pub returns-in_default-clause-owes : goal.returns-in_default-clause-owes
returns-in_default-clause-owes g c = joins-none _ _ (pass_view c.take_due_again.new.pass) refl

pub returns-in-Ok-clause-owes : goal.returns-in-Ok-clause-owes
returns-in-Ok-clause-owes g c = joins-none _ _ (pass_view c.take_due_again.new.pass) refl

pub returns-in-Err-clause-owes : goal.returns-in-Err-clause-owes
returns-in-Err-clause-owes g c =
    let here = ap (λ (k : Claim _). held_actor k) c.in-Err.ensures.pushed.0 ∙ c.in-Some.ensures.claim.0 in
    joins-one c.args.id.0 _ _ (pass_view c.give_home.new.pass) c.insert.ensures
    (subst (λ n. OwesALook n (pass_view c.give_home.new.pass)) here c.give_home.ensures.owes)
