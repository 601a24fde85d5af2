use Rattle.std.proofs.Common.{◌≡◌, ◌++◌, take}
use Rattle.mb_trace_forms.specs.Letters.{refused}
use Rattle.mb_trace_forms.proofs.letters.add_refused.Given as goal

-- those so far were added
abbrev pub invariant-loop-letter : goal.invariant-loop-letter
invariant-loop-letter l = l.letters.items ≡ l.initial.letters.items ++ refused l.filter (take l.letter-index l.dead)
