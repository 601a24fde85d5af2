use Rattle.std.proofs.Common.{◌≡◌, ℕ, ◌-◌, drop, length, map, string_bytes, take}
use Rattle.std.specs.Prelude.{◌==◌, filter, if◌then◌else◌}
use Rattle.std.specs.Io.KnownBytes.{Appends}
use Rattle.mb_trace.specs.Cursors.{left_of}
use Rattle.mb_trace.specs.Text.{is_shown, titled}
use Rattle.mb_trace.proofs.Shown.{has_any, seen}
use Rattle.mb_trace.proofs.parts.write_part.Given as goal

-- the entries so far were gone past, and those that are shown are written
abbrev pub invariant-loop-entry : goal.invariant-loop-entry
invariant-loop-entry g l =
    let ys = take l._entry (left_of l.initial.steps l.part.actor.0) in
    record {
      steps : (a : ℕ) → left_of l.steps a ≡ drop (if a == l.part.actor.0 then l._entry else 0) (left_of l.initial.steps a);
      may_show : l.may_show ≡ l.left - length (filter (is_shown l.filter) ys);
      has_title : l.has_title ≡ has_any (seen (is_shown l.filter) l.left ys);
      written : Appends (g.W.Write.contents l.initial.out) (g.W.Write.contents l.out)
          (titled (map string_bytes l.names) l.part.title.now l.part.actor.0 (seen (is_shown l.filter) l.left ys));
    }
