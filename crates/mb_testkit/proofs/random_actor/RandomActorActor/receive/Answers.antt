use mir.Val.{SFits}
use Rattle.std.proofs.Common.{ap, refl, rules, w64, ◌∙◌}
use Rattle.std.proofs.lemmas.Int.{to_z-of_z}
use Rattle.mb_testkit.specs.Sum.{sum_with}
use Rattle.mb_testkit.proofs.Summing.{sum_next}
use Rattle.mb_testkit.proofs.random_actor.RandomActorActor.receive.Goals as goal

pub returns-in-User-clause-continues : goal.returns-in-User-clause-continues
returns-in-User-clause-continues c =
    let sum = c.args.self.now.sum in let message = c.args.message.now in let after = c.with-self in
    let was : SFits w64 sum = search rules in let fits : SFits w64 after.result = search rules in
    sum_next sum _ message (to_z-of_z w64 after.result fits ∙ after.ensures ∙ ap (λ s. sum_with s message) (to_z-of_z w64 sum was))

pub returns-in-User-clause-given : goal.returns-in-User-clause-given
returns-in-User-clause-given c = λ _ _. tt

pub returns-in-User-clause-kept : goal.returns-in-User-clause-kept
returns-in-User-clause-kept c =
    record { after_kept = refl; gives_kept = λ m r. (λ h. h, λ h. h); actors_kept = c.hear.ensures.actors; unspawned_kept = c.hear.ensures.unspawned }

pub returns-in-Control-clause-continues : goal.returns-in-Control-clause-continues
returns-in-Control-clause-continues c =
    let sum = c.args.self.now.sum in let message = c.args.message.now in let after = c.with-self in
    let was : SFits w64 sum = search rules in let fits : SFits w64 after.result = search rules in
    sum_next sum _ message (to_z-of_z w64 after.result fits ∙ after.ensures ∙ ap (λ s. sum_with s message) (to_z-of_z w64 sum was))

pub returns-in-Control-clause-given : goal.returns-in-Control-clause-given
returns-in-Control-clause-given c = λ _ _. tt

pub returns-in-Control-clause-kept : goal.returns-in-Control-clause-kept
returns-in-Control-clause-kept c =
    let did = c.hear-in-Control.ensures in
    record { after_kept = refl; gives_kept = λ m r. (λ h. h, λ h. h); actors_kept = did.actors; unspawned_kept = did.unspawned }

pub returns-clause-continues : goal.returns-clause-continues
returns-clause-continues c =
    let sum = c.args.self.now.sum in let message = c.args.message.now in let after = c.with-self in
    let was : SFits w64 sum = search rules in let fits : SFits w64 after.result = search rules in
    sum_next sum _ message (to_z-of_z w64 after.result fits ∙ after.ensures ∙ ap (λ s. sum_with s message) (to_z-of_z w64 sum was))

pub returns-clause-given : goal.returns-clause-given
returns-clause-given c = λ _ _. tt

pub returns-clause-kept : goal.returns-clause-kept
returns-clause-kept c =
    record { after_kept = refl; gives_kept = λ m r. (λ h. h, λ h. h); actors_kept = refl; unspawned_kept = refl }
