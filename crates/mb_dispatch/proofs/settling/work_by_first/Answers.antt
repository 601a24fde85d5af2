use Rattle.mb_dispatch.proofs.Continuing.{first-ended}
use Rattle.mb_dispatch.proofs.settling.work_by_first.Goals as goal

pub returns : goal.returns
returns g c =
    let did = c.work.ensures in let gives = g.K.Behaviours.gives in let system = c.args.system.now in
    let new = c.work.new.handle in
    first-ended gives system c.args.handles.now c.index-handles-0.result new c.work.result c.in-len1-up.len_at_least c.requires.handles c.requires.worked
    did.keeps did.done did.fault
