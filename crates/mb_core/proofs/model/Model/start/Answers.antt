-- One word more can start, and its actor goes at the end.
use Rattle.std.proofs.Common.{arith, ◌<◌, length, refl, sym, IsTrue}
use Rattle.std.proofs.lemmas.List.Elements.{All-more}
use Rattle.mb_core.specs.Run.{can_start}
use Rattle.mb_core.proofs.StartLemmas.{can_start_by, start_more, at_start_of}
use Rattle.mb_core.proofs.model.Model.start.Goals as goal

pub loop-word-preserved : goal.loop-word-preserved
loop-word-preserved c =
    let inside : c.loop-word.word-index < length c.args.words.now = omega arith in
    record {
      words = All-more (λ word. IsTrue (can_start word)) c.args.words.now c.loop-word.word-index 0 inside c.loop-word.invariant.words
          (can_start_by _ c.in-Some.status (c.in-Some.ensures.valid.0 refl) c.in-Some.ensures.value (sym c.if-scheduled.ensures));
      actors =
          cc (
            c.in_ok-push.ensures.items,
            start_more c.args.words.now c.loop-word.word-index c.args.parties inside,
            at_start_of c.args.parties _ c.in-Some.status c.in_ok-start.field-0 c.in-Some.ensures.value c.in_ok-start.ensures,
          );
    }
