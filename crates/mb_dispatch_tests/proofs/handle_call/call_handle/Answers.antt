use Rattle.mb_dispatch.proofs.Alone.{alone-ours}
use Rattle.mb_dispatch_tests.proofs.handle_call.call_handle.Goals as goal

pub returns-in-RunQuietly-clause-handles : goal.returns-in-RunQuietly-clause-handles
returns-in-RunQuietly-clause-handles g c =
    alone-ours c.args.system.now c.args.handles.now c.run_quietly.new.handles c.requires.handles c.run_quietly.ensures.alone
