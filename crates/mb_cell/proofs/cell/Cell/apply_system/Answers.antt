use Rattle.std.proofs.Common.{◌≡◌, false, subst, sym, ◌∙◌}
use Rattle.mb_msg.specs.declared.system.SysMsg.{SysMsg}
use Rattle.mb_journal.specs.Aside.{sets_aside}
use Rattle.mb_cell.specs.CellView.{MayTake, TakesSystem}
use Rattle.mb_cell.proofs.ByNewestLaw.{system-by_newest}
use Rattle.mb_cell.proofs.cell.Cell.apply_system.Goals as goal

-- ---- it is set aside

pub set_aside-requires : goal.set_aside-requires
set_aside-requires g c = record { may_take = c.requires.may_take; waits = sym c.waits.ensures ∙ c.if-waits.true }

pub returns-then-waits : goal.returns-then-waits
returns-then-waits g c = record {
  taken = c.set_aside.ensures.taken;
  lawful = c.set_aside.ensures.lawful;
  by_newest = system-by_newest g.K.Behaviours.gives c.args.self.now c.set_aside.new.self c.args.number c.args.message c.requires.may_take
      c.set_aside.ensures.taken c.set_aside.ensures.lawful;
}

-- ---- it is applied

pub dispatch_create-requires : goal.dispatch_create-requires
dispatch_create-requires g c = record {
  may_take = subst (λ (m : SysMsg). MayTake c.args.self.now c.args.number m) c.in-Create.is c.requires.may_take;
  applied = subst (λ (m : SysMsg). sets_aside c.args.self.now.who c.args.self.now.journal m ≡ false) c.in-Create.is
      (sym c.waits.ensures ∙ c.if-waits.false);
}

pub returns-in-Create : goal.returns-in-Create
returns-in-Create g c =
    let old = c.args.self.now in
    let new = c.dispatch_create.new.self in
    let taken = subst (λ (m : SysMsg). TakesSystem old new c.args.number m) (sym c.in-Create.is) c.dispatch_create.ensures.taken in
    record {
      taken = taken;
      lawful = c.dispatch_create.ensures.lawful;
      by_newest = system-by_newest g.K.Behaviours.gives old new c.args.number c.args.message c.requires.may_take taken c.dispatch_create.ensures.lawful;
    }

pub dispatch_suspend-requires : goal.dispatch_suspend-requires
dispatch_suspend-requires g c = record {
  may_take = subst (λ (m : SysMsg). MayTake c.args.self.now c.args.number m) c.in-Suspend.is c.requires.may_take;
  applied = subst (λ (m : SysMsg). sets_aside c.args.self.now.who c.args.self.now.journal m ≡ false) c.in-Suspend.is
      (sym c.waits.ensures ∙ c.if-waits.false);
}

pub returns-in-Suspend : goal.returns-in-Suspend
returns-in-Suspend g c =
    let old = c.args.self.now in
    let new = c.dispatch_suspend.new.self in
    let taken = subst (λ (m : SysMsg). TakesSystem old new c.args.number m) (sym c.in-Suspend.is) c.dispatch_suspend.ensures.taken in
    record {
      taken = taken;
      lawful = c.dispatch_suspend.ensures.lawful;
      by_newest = system-by_newest g.K.Behaviours.gives old new c.args.number c.args.message c.requires.may_take taken c.dispatch_suspend.ensures.lawful;
    }

pub dispatch_resume-requires : goal.dispatch_resume-requires
dispatch_resume-requires g c = record {
  may_take = subst (λ (m : SysMsg). MayTake c.args.self.now c.args.number m) c.in-Resume.is c.requires.may_take;
  applied = subst (λ (m : SysMsg). sets_aside c.args.self.now.who c.args.self.now.journal m ≡ false) c.in-Resume.is
      (sym c.waits.ensures ∙ c.if-waits.false);
}

pub returns-in-Resume : goal.returns-in-Resume
returns-in-Resume g c =
    let old = c.args.self.now in
    let new = c.dispatch_resume.new.self in
    let taken = subst (λ (m : SysMsg). TakesSystem old new c.args.number m) (sym c.in-Resume.is) c.dispatch_resume.ensures.taken in
    record {
      taken = taken;
      lawful = c.dispatch_resume.ensures.lawful;
      by_newest = system-by_newest g.K.Behaviours.gives old new c.args.number c.args.message c.requires.may_take taken c.dispatch_resume.ensures.lawful;
    }

pub dispatch_recreate-requires : goal.dispatch_recreate-requires
dispatch_recreate-requires g c = record {
  may_take = subst (λ (m : SysMsg). MayTake c.args.self.now c.args.number m) c.in-Recreate.is c.requires.may_take;
  applied = subst (λ (m : SysMsg). sets_aside c.args.self.now.who c.args.self.now.journal m ≡ false) c.in-Recreate.is
      (sym c.waits.ensures ∙ c.if-waits.false);
}

pub returns-in-Recreate : goal.returns-in-Recreate
returns-in-Recreate g c =
    let old = c.args.self.now in
    let new = c.dispatch_recreate.new.self in
    let taken = subst (λ (m : SysMsg). TakesSystem old new c.args.number m) (sym c.in-Recreate.is) c.dispatch_recreate.ensures.taken in
    record {
      taken = taken;
      lawful = c.dispatch_recreate.ensures.lawful;
      by_newest = system-by_newest g.K.Behaviours.gives old new c.args.number c.args.message c.requires.may_take taken c.dispatch_recreate.ensures.lawful;
    }

pub dispatch_failed-requires : goal.dispatch_failed-requires
dispatch_failed-requires g c = record {
  may_take = subst (λ (m : SysMsg). MayTake c.args.self.now c.args.number m) c.in-Failed.is c.requires.may_take;
  applied = subst (λ (m : SysMsg). sets_aside c.args.self.now.who c.args.self.now.journal m ≡ false) c.in-Failed.is
      (sym c.waits.ensures ∙ c.if-waits.false);
}

pub returns-in-Failed : goal.returns-in-Failed
returns-in-Failed g c =
    let old = c.args.self.now in
    let new = c.dispatch_failed.new.self in
    let taken = subst (λ (m : SysMsg). TakesSystem old new c.args.number m) (sym c.in-Failed.is) c.dispatch_failed.ensures.taken in
    record {
      taken = taken;
      lawful = c.dispatch_failed.ensures.lawful;
      by_newest = system-by_newest g.K.Behaviours.gives old new c.args.number c.args.message c.requires.may_take taken c.dispatch_failed.ensures.lawful;
    }

pub dispatch_terminate-requires : goal.dispatch_terminate-requires
dispatch_terminate-requires g c = record {
  may_take = subst (λ (m : SysMsg). MayTake c.args.self.now c.args.number m) c.in-Terminate.is c.requires.may_take;
  applied = subst (λ (m : SysMsg). sets_aside c.args.self.now.who c.args.self.now.journal m ≡ false) c.in-Terminate.is
      (sym c.waits.ensures ∙ c.if-waits.false);
}

pub returns-in-Terminate : goal.returns-in-Terminate
returns-in-Terminate g c =
    let old = c.args.self.now in
    let new = c.dispatch_terminate.new.self in
    let taken = subst (λ (m : SysMsg). TakesSystem old new c.args.number m) (sym c.in-Terminate.is) c.dispatch_terminate.ensures.taken in
    record {
      taken = taken;
      lawful = c.dispatch_terminate.ensures.lawful;
      by_newest = system-by_newest g.K.Behaviours.gives old new c.args.number c.args.message c.requires.may_take taken c.dispatch_terminate.ensures.lawful;
    }

pub apply_watch-requires : goal.apply_watch-requires
apply_watch-requires g c = record { may_take = subst (λ (m : SysMsg). MayTake c.args.self.now c.args.number m) c.in-Watch.is c.requires.may_take }

pub returns-in-Watch : goal.returns-in-Watch
returns-in-Watch g c =
    let old = c.args.self.now in
    let new = c.apply_watch.new.self in
    let taken = subst (λ (m : SysMsg). TakesSystem old new c.args.number m) (sym c.in-Watch.is) c.apply_watch.ensures.taken in
    record {
      taken = taken;
      lawful = c.apply_watch.ensures.lawful;
      by_newest = system-by_newest g.K.Behaviours.gives old new c.args.number c.args.message c.requires.may_take taken c.apply_watch.ensures.lawful;
    }

pub apply_unwatch-requires : goal.apply_unwatch-requires
apply_unwatch-requires g c = record { may_take = subst (λ (m : SysMsg). MayTake c.args.self.now c.args.number m) c.in-Unwatch.is c.requires.may_take }

pub returns-in-Unwatch : goal.returns-in-Unwatch
returns-in-Unwatch g c =
    let old = c.args.self.now in
    let new = c.apply_unwatch.new.self in
    let taken = subst (λ (m : SysMsg). TakesSystem old new c.args.number m) (sym c.in-Unwatch.is) c.apply_unwatch.ensures.taken in
    record {
      taken = taken;
      lawful = c.apply_unwatch.ensures.lawful;
      by_newest = system-by_newest g.K.Behaviours.gives old new c.args.number c.args.message c.requires.may_take taken c.apply_unwatch.ensures.lawful;
    }

pub dispatch_died-requires : goal.dispatch_died-requires
dispatch_died-requires g c = record {
  may_take = subst (λ (m : SysMsg). MayTake c.args.self.now c.args.number m) c.in-Died.is c.requires.may_take;
  applied = subst (λ (m : SysMsg). sets_aside c.args.self.now.who c.args.self.now.journal m ≡ false) c.in-Died.is
      (sym c.waits.ensures ∙ c.if-waits.false);
}

pub returns-in-Died : goal.returns-in-Died
returns-in-Died g c =
    let old = c.args.self.now in
    let new = c.dispatch_died.new.self in
    let taken = subst (λ (m : SysMsg). TakesSystem old new c.args.number m) (sym c.in-Died.is) c.dispatch_died.ensures.taken in
    record {
      taken = taken;
      lawful = c.dispatch_died.ensures.lawful;
      by_newest = system-by_newest g.K.Behaviours.gives old new c.args.number c.args.message c.requires.may_take taken c.dispatch_died.ensures.lawful;
    }
