use Rattle.std.proofs.Common.{refl}
use Rattle.mb_dispatch_tests.proofs.meeting.meet.Goals as goal

pub text_with-requires-clause-unused : goal.text_with-requires-clause-unused
text_with-requires-clause-unused g c κs within = λ k d there. refl
