use Rattle.std.proofs.Common.{subst, sym}
use Rattle.mb_trace.specs.Whole.{IsOfEntries}
use Rattle.mb_trace.proofs.text.write_entries.Goals as goal

pub returns-in-Some : goal.returns-in-Some
returns-in-Some g c =
    let trace = c.args.trace.now in
    let f = c.args.filter.now in
    let told = c.write_quiet.ensures in
    (told.0, subst (λ o. IsOfEntries trace f o told.0) (sym c.in-Some.is) told.1, told.2)

pub returns-in-None : goal.returns-in-None
returns-in-None g c =
    let trace = c.args.trace.now in
    let f = c.args.filter.now in
    let told = c.write_on_threads.ensures in
    (told.0, subst (λ o. IsOfEntries trace f o told.0) (sym c.in-None.is) told.1, told.2)
