use Rattle.std.proofs.Common.{◌∙◌, [], ◌∷◌, refl}
use Rattle.mb_status.specs.Mailbox.{word_of}
use Rattle.mb_gate.specs.Accessors.{pass_view}
use Rattle.mb_register.proofs.Views.{looks-none, looks-then, looks-read, looks-read-twice, looks-read-won}
use Rattle.mb_register.proofs.ClaimCounts.{claims-none, claims-then, claims-read, claims-read-twice, claims-read-won}
use Rattle.mb_register.proofs.due.take_due_again.Goals as goal

pub returns-then-not-can_be_scheduled-clause-looks : goal.returns-then-not-can_be_scheduled-clause-looks
returns-then-not-can_be_scheduled-clause-looks g c =
    let a = pass_view c.args.pass.now in let b = pass_view c.loop.pass in let d = pass_view c.can_be_scheduled.new.pass in
    looks-then c.args.id.0 a b d c.loop.invariant.3 c.can_be_scheduled.ensures.only_reads.looks

pub returns-then-not-can_be_scheduled-clause-claims : goal.returns-then-not-can_be_scheduled-clause-claims
returns-then-not-can_be_scheduled-clause-claims g c =
    let a = pass_view c.args.pass.now in let b = pass_view c.loop.pass in let d = pass_view c.can_be_scheduled.new.pass in
    claims-then [] [] [] [] a b d c.loop.invariant.4 c.can_be_scheduled.ensures.only_reads.claims

pub returns-in-Got-clause-looks : goal.returns-in-Got-clause-looks
returns-in-Got-clause-looks g c =
    let id = c.args.id.0 in let a = pass_view c.args.pass.now in let b = pass_view c.loop.pass in
    let d = pass_view c.can_be_scheduled.new.pass in let e = pass_view c.try_schedule.new.pass in
    let tried = c.in-Got.ensures.answer in
    looks-then id a d e (looks-then id a b d c.loop.invariant.3 c.can_be_scheduled.ensures.only_reads.looks) (looks-read-won id (word_of tried.0) d e tried.1.pass)

pub returns-in-Got-clause-claims : goal.returns-in-Got-clause-claims
returns-in-Got-clause-claims g c =
    let id = c.args.id.0 in let a = pass_view c.args.pass.now in let b = pass_view c.loop.pass in
    let d = pass_view c.can_be_scheduled.new.pass in let e = pass_view c.try_schedule.new.pass in
    let tried = c.in-Got.ensures.answer in
    claims-then [] [] (id ∷ []) [] a d e (claims-then [] [] [] [] a b d c.loop.invariant.4 c.can_be_scheduled.ensures.only_reads.claims)
    (claims-read-won id (word_of tried.0) d e tried.1.pass)

pub returns-in-Already-clause-looks : goal.returns-in-Already-clause-looks
returns-in-Already-clause-looks g c =
    let id = c.args.id.0 in let a = pass_view c.args.pass.now in let b = pass_view c.loop.pass in
    let d = pass_view c.can_be_scheduled.new.pass in let e = pass_view c.try_schedule.new.pass in
    let tried = c.in-Already.ensures.answer in
    looks-then id a d e (looks-then id a b d c.loop.invariant.3 c.can_be_scheduled.ensures.only_reads.looks) (looks-read id (word_of tried.0) d e tried.1.2)

pub returns-in-Already-clause-claims : goal.returns-in-Already-clause-claims
returns-in-Already-clause-claims g c =
    let id = c.args.id.0 in let a = pass_view c.args.pass.now in let b = pass_view c.loop.pass in
    let d = pass_view c.can_be_scheduled.new.pass in let e = pass_view c.try_schedule.new.pass in
    let tried = c.in-Already.ensures.answer in
    claims-then [] [] [] [] a d e (claims-then [] [] [] [] a b d c.loop.invariant.4 c.can_be_scheduled.ensures.only_reads.claims)
    (claims-read id (word_of tried.0) d e tried.1.2)

pub returns-in-Closed-clause-looks : goal.returns-in-Closed-clause-looks
returns-in-Closed-clause-looks g c =
    let id = c.args.id.0 in let a = pass_view c.args.pass.now in let b = pass_view c.loop.pass in
    let d = pass_view c.can_be_scheduled.new.pass in let e = pass_view c.try_schedule.new.pass in
    let tried = c.in-Closed.ensures.answer in
    looks-then id a d e (looks-then id a b d c.loop.invariant.3 c.can_be_scheduled.ensures.only_reads.looks) (looks-read id (word_of tried.0) d e tried.1.1)

pub returns-in-Closed-clause-claims : goal.returns-in-Closed-clause-claims
returns-in-Closed-clause-claims g c =
    let id = c.args.id.0 in let a = pass_view c.args.pass.now in let b = pass_view c.loop.pass in
    let d = pass_view c.can_be_scheduled.new.pass in let e = pass_view c.try_schedule.new.pass in
    let tried = c.in-Closed.ensures.answer in
    claims-then [] [] [] [] a d e (claims-then [] [] [] [] a b d c.loop.invariant.4 c.can_be_scheduled.ensures.only_reads.claims)
    (claims-read id (word_of tried.0) d e tried.1.1)

pub loop-init : goal.loop-init
loop-init g c = let a = pass_view c.args.pass.now in (tt, tt, refl, looks-none c.args.id.0 a, claims-none a)

pub loop-preserved : goal.loop-preserved
loop-preserved g c =
    let id = c.args.id.0 in let a = pass_view c.args.pass.now in let b = pass_view c.loop.pass in
    let d = pass_view c.can_be_scheduled.new.pass in let e = pass_view c.try_schedule.new.pass in
    let tried = c.in-Lost.ensures.answer in (
      tt,
      tt,
      c.in-Lost.ensures.same_gates.0 ∙ c.can_be_scheduled.ensures.only_reads.same_gates ∙ c.loop.invariant.2,
      looks-then id a d e (looks-then id a b d c.loop.invariant.3 c.can_be_scheduled.ensures.only_reads.looks)
          (looks-read-twice id (word_of tried.0) (word_of c.in-Lost.field-0) d e tried.1.2),
      claims-then [] [] [] [] a d e (claims-then [] [] [] [] a b d c.loop.invariant.4 c.can_be_scheduled.ensures.only_reads.claims)
          (claims-read-twice id (word_of tried.0) (word_of c.in-Lost.field-0) d e tried.1.2),
    )
