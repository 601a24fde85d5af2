use Rattle.std.proofs.Common.{◌≡◌, ◌++◌, take}
use Rattle.mb_trace_forms.specs.Letters.{cleaned}
use Rattle.mb_trace_forms.proofs.letters.add_cleaned.Given as goal

-- those so far were added
abbrev pub invariant-loop-envelope : goal.invariant-loop-envelope
invariant-loop-envelope l = l.letters.items ≡ l.initial.letters.items ++ cleaned l.filter (take l.envelope-index l.envelopes)
