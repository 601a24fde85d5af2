use Rattle.std.proofs.Common.{◌≡◌, ℤ, pos, to_z, of_z, w64, List, [], ◌∷◌, ◌++◌, sym, ap, ◌∙◌, rules}
use Rattle.std.proofs.lemmas.List.Sums.{fold-append}
use Rattle.mb_actor.specs.declared.message.Message.{Message}
use Rattle.mb_actor.specs.declared.message.Message.TheVariants.{User, Control}
use Rattle.bench.specs.Sum.{after_message, sum_of}
use Rattle.bench.proofs.messages.adder.AdderActor.receive.Goals as goal

one_more : (sum : ℤ) (l : List Message) (m n : Message) → n ≡ m → sum ≡ sum_of l → after_message sum m ≡ sum_of (l ++ n ∷ [])
one_more sum l m n is same =
    ap (λ (s : ℤ). after_message s m) same ∙ ap (after_message (sum_of l)) (sym is) ∙ sym (fold-append after_message (pos 0) l (n ∷ []))

pub returns-in-User-clause-continues : goal.returns-in-User-clause-continues
returns-in-User-clause-continues c =
    let m = User c.in-User.kind c.in-User.value in
    let added : to_z w64 (of_z w64 c.saturating_add-self.result) ≡ after_message c.args.self.now.sum m = search rules in
    λ l same. added ∙ one_more c.args.self.now.sum l m c.args.message.now c.in-User.is same

pub returns-in-Control-clause-continues : goal.returns-in-Control-clause-continues
returns-in-Control-clause-continues c =
    let m = Control c.in-Control.kind c.in-Control.value in
    let added : to_z w64 (of_z w64 c.saturating_add-self-in-Control.result) ≡ after_message c.args.self.now.sum m = search rules in
    λ l same. added ∙ one_more c.args.self.now.sum l m c.args.message.now c.in-Control.is same
