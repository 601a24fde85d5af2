use Rattle.std.proofs.Common.{take, map, string_bytes}
use Rattle.std.specs.Fmt.{HasWritten, IsPlainFormatter}
use Rattle.mb_trace.specs.Entries.{effect_lines_text}
use Rattle.mb_trace.proofs.effect_lines.EffectLinesDisplay.fmt.Given as goal

-- the lines so far are written
abbrev pub invariant-loop-effect : goal.invariant-loop-effect
invariant-loop-effect g l =
    IsPlainFormatter l.initial.f → HasWritten g.W.Write.write_str_gives l.initial.f
    (effect_lines_text (map string_bytes l.self.names.now) (take l.effect-index l.effect-items)) l.f
