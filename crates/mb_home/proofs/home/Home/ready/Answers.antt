use Rattle.std.proofs.Common.{sym, subst}
use Rattle.mb_home.specs.Contents.{Contents}
use Rattle.mb_home.specs.AgreesWithJournal.{AgreesWithJournal}
use Rattle.mb_home.proofs.AgreesLemmas.{settled-ready}
use Rattle.mb_home.proofs.home.Home.ready.Goals as goal

pub returns-clause-settled : goal.returns-clause-settled
returns-clause-settled g c =
    let h : Contents = c.args.self.now in
    λ pending s. subst (λ (x : Contents). AgreesWithJournal (g.K.Behaviours.gives x.cell.who.this.0) pending x) (sym c.make_room.ensures.same)
    (settled-ready h (g.K.Behaviours.gives h.cell.who.this.0) pending c.make_room.new.self.cell.is_ready c.make_room.new.self.room s
    c.make_room.ensures.room)
