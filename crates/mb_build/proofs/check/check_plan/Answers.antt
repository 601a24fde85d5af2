use Rattle.std.proofs.Common.{rules, ◌≡◌, ◌==◌, ◌++◌, ◌∙◌, true, false, length, sym, ap, arith}
use Rattle.std.specs.Prelude.{nat_lt}
use Rattle.std.proofs.lemmas.Bool.Decides.{nat_tests}
use Rattle.mb_build.specs.Reasons.{bad_bounds, bad_numbers, bad_parents}
use Rattle.mb_build.specs.declared.check.PlanError.TheVariants.{Actors, Boxes}
use Rattle.mb_build.proofs.ReasonLemmas.{is_first, is_none_here}
use Rattle.mb_build.proofs.check.check_plan.Goals as goal

pub returns-then-len : goal.returns-then-len
returns-then-len c =
    let all = c.args.plan.now.actors.items in let many = c.if-len.true in let n = c.len.ensures in
    let bad : nat_lt (length all) 64 ≡ false = grind (arith, nat_tests) in
    (_, is_first (nat_lt (length all) 64) Actors _ bad)

pub returns-then-len-actors : goal.returns-then-len-actors
returns-then-len-actors c =
    let all = c.args.plan.now.actors.items in let few = c.if-len.false in let n = c.len.ensures in let m = c.len-2.ensures in
    let others = c.if-len-actors.true in
    let good : nat_lt (length all) 64 ≡ true = grind (arith, nat_tests) in
    let bad : (length all == c.args.actors) ≡ false = grind (arith, nat_tests) in
    (_, is_none_here (nat_lt (length all) 64) Actors _ good ∙ is_first (length all == c.args.actors) Boxes _ bad)

pub returns-in-Err : goal.returns-in-Err
returns-in-Err c =
    let plan = c.args.plan.now in let all = plan.actors.items in
    let few = c.if-len.false in let n = c.len.ensures in let m = c.len-2.ensures in let same = c.if-len-actors.false in
    let good : nat_lt (length all) 64 ≡ true = grind (arith, nat_tests) in
    let as_many : (length all == c.args.actors) ≡ true = grind (arith, nat_tests) in
    let these : c.deref.result.now ≡ all = search rules in (
      _,
      is_none_here (nat_lt (length all) 64) Actors _ good ∙ is_none_here (length all == c.args.actors) Boxes _ as_many
          ∙ ap (λ l. bad_parents 1 l ++ (bad_bounds 1 all ++ bad_numbers plan)) (sym these)
          ∙ ap (λ l. l ++ (bad_bounds 1 all ++ bad_numbers plan)) c.in-Err.ensures.1,
    )

pub returns-in-Err-check_bounds : goal.returns-in-Err-check_bounds
returns-in-Err-check_bounds c =
    let plan = c.args.plan.now in let all = plan.actors.items in
    let few = c.if-len.false in let n = c.len.ensures in let m = c.len-2.ensures in let same = c.if-len-actors.false in
    let good : nat_lt (length all) 64 ≡ true = grind (arith, nat_tests) in
    let as_many : (length all == c.args.actors) ≡ true = grind (arith, nat_tests) in
    let these : c.deref.result.now ≡ all = search rules in
    let those : c.deref-2.result.now ≡ all = search rules in (
      _,
      is_none_here (nat_lt (length all) 64) Actors _ good ∙ is_none_here (length all == c.args.actors) Boxes _ as_many
          ∙ ap (λ l. bad_parents 1 l ++ (bad_bounds 1 all ++ bad_numbers plan)) (sym these)
          ∙ ap (λ l. l ++ (bad_bounds 1 all ++ bad_numbers plan)) c.in_default.ensures
          ∙ ap (λ l. bad_bounds 1 l ++ bad_numbers plan) (sym those)
          ∙ ap (λ l. l ++ bad_numbers plan) c.in-Err-check_bounds.ensures.1,
    )
