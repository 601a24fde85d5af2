use Rattle.std.proofs.Common.{◌≡◌, ◌+◌, drop}
use Rattle.std.specs.List.{position_from}
use Rattle.std.specs.Str.{bytes_eq}
use Rattle.heddleorange.specs.Names.{number_of, texts_of}
use Rattle.heddleorange.proofs.names.Names.id_of.Given as goal

-- no actor so far has the name
abbrev pub invariant-loop-place : goal.invariant-loop-place
invariant-loop-place l =
    position_from (bytes_eq l.name) (l.place + 1) (texts_of (drop l.place l.self.texts.items)) ≡ number_of l.self.texts.items l.name
