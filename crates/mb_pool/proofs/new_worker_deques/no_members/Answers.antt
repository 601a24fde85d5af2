use Rattle.std.proofs.Common.{◌≡◌, [], ◌∷◌, ◌++◌, None, ap, arith, replicate, ◌∙◌}
use Rattle.std.proofs.lemmas.List.{replicate_more}
use Rattle.mb_pool.proofs.new_worker_deques.no_members.Goals as goal

pub loop-member-preserved : goal.loop-member-preserved
loop-member-preserved g c = let at = c.loop-member in c.in_ok-push.ensures.items ∙ ap (λ l. l ++ None ∷ []) at.invariant
    ∙ replicate_more at._member None

pub returns : goal.returns
returns g c = let at = c.loop-member in
    let handle : at._member ≡ c.args.count = omega (arith, c.loop-member-test.false, at.auto._member-end) in
    at.invariant ∙ ap (λ n. replicate n None) handle
