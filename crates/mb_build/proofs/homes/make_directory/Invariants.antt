use Rattle.std.proofs.Common.{◌≡◌, ◌++◌, drop, length, map, vec_capacity}
use Rattle.mb_build.specs.NewHomes.{directory_of}
use Rattle.mb_build.proofs.HomeLemmas.{whose}
use Rattle.mb_build.proofs.homes.make_directory.Given as goal

abbrev pub invariant-loop-number : goal.invariant-loop-number
invariant-loop-number g l =
    (map (λ n. record { who = n.cell.value.who; queue = n.take.value.queue; discipline = n.take.value.discipline }) l.directory.items
    ++ directory_of (whose (drop l.number l.cells)) (drop l.number l.takes) ≡ directory_of (whose l.cells) l.takes)
    × (length l.directory.items ≡ l.number) × (vec_capacity l.directory ≡ length l.cells)
