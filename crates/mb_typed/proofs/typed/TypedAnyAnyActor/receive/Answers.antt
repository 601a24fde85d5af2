use Rattle.std.proofs.Common.{rules, ◌≡◌, ◌∙◌, Some, None, ap, sym}
use Rattle.mb_typed.specs.Decoding.{all_decoded, decoded}
use Rattle.mb_typed.proofs.Decoding.{all_decoded-more, all_decoded-none}
use Rattle.mb_typed.proofs.typed.TypedAnyAnyActor.receive.Goals as goal

pub returns-in-Some-clause-continues : goal.returns-in-Some-clause-continues
returns-in-Some-clause-continues g c =
    λ l was.
    let unpacked = g.C.Command.unpacked in
    let is : decoded unpacked c.args.message.now ≡ Some c.in-Some.incoming = search rules in
    c.receive.ensures.continues (all_decoded unpacked l) was
    ∙ ap (g.T.TypedActor.after c.receive.new.self) (sym (all_decoded-more unpacked l c.args.message.now (Some c.in-Some.incoming) is))

pub returns-in-None-clause-continues : goal.returns-in-None-clause-continues
returns-in-None-clause-continues g c =
    λ l was.
    let unpacked = g.C.Command.unpacked in
    let is : decoded unpacked c.args.message.now ≡ None = search rules in
    was ∙ ap (g.T.TypedActor.after c.args.self.now.inner) (sym (all_decoded-none unpacked l c.args.message.now is))
