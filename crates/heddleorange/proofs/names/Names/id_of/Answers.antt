use Rattle.std.proofs.Common.{rules, ◌≡◌, ◌+◌, true, false, string_bytes}
use Rattle.std.specs.Str.{bytes_eq}
use Rattle.heddleorange.specs.Names.{number_of}
use Rattle.heddleorange.proofs.Lookup.{found-there, not-there}
use Rattle.heddleorange.proofs.names.Names.id_of.Goals as goal

pub returns-then-eq-2 : goal.returns-then-eq-2
returns-then-eq-2 c =
    let texts = c.args.self.now.texts.items in let name = c.args.name.now in let at = c.loop-place in
    let same : bytes_eq name (string_bytes c.text-item.result) ≡ true = search rules in
    found-there texts at.place c.text-item.result (search rules) (search rules) (bytes_eq name) (at.place + 1) (number_of texts name) at.invariant same

pub loop-place-preserved : goal.loop-place-preserved
loop-place-preserved c =
    let texts = c.args.self.now.texts.items in let name = c.args.name.now in let at = c.loop-place in
    let other : bytes_eq name (string_bytes c.text-item.result) ≡ false = search rules in
    not-there texts at.place c.text-item.result (search rules) (search rules) (bytes_eq name) (at.place + 1) (number_of texts name) at.invariant other
