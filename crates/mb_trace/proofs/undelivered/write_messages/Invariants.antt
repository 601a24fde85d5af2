use Rattle.std.proofs.Common.{ℕ, map, string_bytes, take}
use Rattle.std.specs.Io.KnownBytes.{Appends}
use Rattle.std.specs.List.{flat_map}
use Rattle.mb_msg.specs.declared.system.SysMsg.{SysMsg}
use Rattle.mb_trace.specs.Ends.{aside_text}
use Rattle.mb_trace.proofs.undelivered.write_messages.Given as goal

-- the lines so far are written
abbrev pub invariant-loop-number : goal.invariant-loop-number
invariant-loop-number g l =
    Appends (g.W.Write.contents l.fn.out) (g.W.Write.contents l.out)
    (flat_map (λ (m : ℕ × SysMsg). aside_text (map string_bytes l.names) l.actor.0 m.0 m.1) (take l.number-index l.aside))
