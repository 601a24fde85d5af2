use Rattle.mb_dispatch_tests.proofs.whole_run.story_text.Goals as goal

pub text_with-requires-clause-unused : goal.text_with-requires-clause-unused
text_with-requires-clause-unused g c κs within = c.in-Ok.ensures
