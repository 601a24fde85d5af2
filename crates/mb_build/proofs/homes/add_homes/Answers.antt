use Rattle.std.proofs.Common.{rules, ◌≡◌, ◌+◌, ◌++◌, ◌∷◌, [], suc, List, length, map, take, drop, sym, ap, ◌∙◌, subst, append_assoc, arith}
use Rattle.std.specs.Prelude.{All}
use Rattle.std.specs.Global.{Box}
use Rattle.std.specs.Vec.Iter.{into_iter_items}
use Rattle.std.proofs.lemmas.List.{append-nil, drop-map, length-drop, length_push, map_push, nil_from_length, take_all}
use Rattle.mb_msg.specs.declared.id.ActorId.{ActorId}
use Rattle.mb_journal.specs.Identity.{Identity}
use Rattle.mb_cell.specs.CellView.{CellView}
use Rattle.mb_queue.specs.Passes.{SendPassView, TakePassView}
use Rattle.mb_home.specs.Contents.{Contents}
use Rattle.mb_home.specs.AgreesWithJournal.{IsOwn, AgreesWithJournal}
use Rattle.mb_home.specs.Steps.{HasNoBacklog, at_first}
use Rattle.mb_build.specs.Handed.{passes_of}
use Rattle.mb_build.specs.NewHomes.{AreAtFirst, directory_of}
use Rattle.mb_build.specs.Identities.{id}
use Rattle.mb_build.proofs.FreshLemmas.{AreSettled, all-fresh, as-made, first-more, settled-more}
use Rattle.mb_build.proofs.HomeLemmas as here
use Rattle.mb_build.proofs.HomeLemmas.{whose}
use Rattle.mb_build.proofs.OwnLemmas.{all-unused}
use Rattle.mb_build.proofs.DirectoryLemmas.{drop-next, take-next}
use Rattle.mb_build.proofs.FaultLemmas.{if-none}
use Rattle.mb_build.proofs.homes.add_homes.Goals as goal

pub loop-cell-init : goal.loop-cell-init
loop-cell-init g c =
    let none : c.args.homes.now.items ≡ [] = c.requires.none.0 in let all_takes = c.args.takes.items in
    let directory = directory_of (whose c.args.cells.items) all_takes in record {
      cells = c.into_iter-cell-iterator.ensures.into_iter_gives.0;
      count = ap length none;
      room = c.requires.none.1;
      takes = c.into_iter-takes.ensures.rest ∙ ap (λ (l : List (Box Contents)). drop (length l) all_takes) (sym none);
      rows = ap (λ (l : List (Box Contents)). drop (length l) (into_iter_items c.args.rows.now)) (sym none);
      first = subst (λ (l : List (Box Contents)). AreAtFirst directory (drop 1 all_takes) 0 [] (take (length l) all_takes) l) (sym none) tt;
      settled = subst (λ (l : List (Box Contents)). AreSettled g.K.Behaviours.gives 0 l) (sym none) tt;
    }

pub unreachable-requires : goal.unreachable-requires
unreachable-requires g c =
    let at = c.loop-cell in let cells = c.args.cells.items in let made = c.requires.made in let all_takes = c.args.takes.items in
    let rows = map (λ row. row.items) (into_iter_items c.args.rows.now) in
    let cell = c.in-Some.cell in let rest = into_iter_items c.next.new.self in let place = length at.homes.items in
    let steps : into_iter_items at.cell-iterator ≡ cell ∷ rest = c.in-Some.ensures.steps.0 in
    let all = ap (λ l. at.yielded ++ l) (sym steps) ∙ at.invariant.cells in
    let lt = here.place-in cells made.0 made.1 all_takes rows c.requires.cells.0 c.requires.cells.1 made.2 made.3
    at.yielded cell rest place all at.invariant.count in
    let count = here.passes-count cells made.0 made.1 all_takes rows c.requires.cells.0 c.requires.cells.1 made.2 made.3 in
    let none : into_iter_items at.takes ≡ [] = nil_from_length (into_iter_items at.takes) (sym at.takes.rest.ok.0 ∙ c.in_default.ensures.cases.0) in
    let left = length-drop place all_takes in let over = ap length (sym at.invariant.takes ∙ none) in
    omega (arith, lt, count, left, over)

pub unreachable-requires-in_default-next : goal.unreachable-requires-in_default-next
unreachable-requires-in_default-next g c =
    let at = c.loop-cell in let cells = c.args.cells.items in let made = c.requires.made in let all_takes = c.args.takes.items in
    let rows = map (λ row. row.items) (into_iter_items c.args.rows.now) in
    let cell = c.in-Some.cell in let rest = into_iter_items c.next.new.self in let place = length at.homes.items in
    let steps : into_iter_items at.cell-iterator ≡ cell ∷ rest = c.in-Some.ensures.steps.0 in
    let all = ap (λ l. at.yielded ++ l) (sym steps) ∙ at.invariant.cells in
    let none : into_iter_items at.rows ≡ [] = nil_from_length (into_iter_items at.rows) (sym at.rows.rest.ok.0 ∙ c.in_default-next.ensures.cases.0) in
    let empty : drop place rows ≡ [] =
    drop-map (λ r. r.items) place (into_iter_items c.args.rows.now) ∙ ap (map (λ r. r.items)) (sym at.invariant.rows ∙ none) in
    here.rows-left cells made.0 made.1 all_takes rows c.requires.cells.0 c.requires.cells.1 made.2 made.3
    at.yielded cell rest place all at.invariant.count empty

pub overflow_cast-len : goal.overflow_cast-len
overflow_cast-len g c =
    let at = c.loop-cell in let cells = c.args.cells.items in let made = c.requires.made in let all_takes = c.args.takes.items in
    let rows = map (λ row. row.items) (into_iter_items c.args.rows.now) in
    let cell = c.in-Some.cell in let rest = into_iter_items c.next.new.self in let place = length at.homes.items in
    let steps : into_iter_items at.cell-iterator ≡ cell ∷ rest = c.in-Some.ensures.steps.0 in
    let all = ap (λ l. at.yielded ++ l) (sym steps) ∙ at.invariant.cells in
    let number : c.len.result ≡ place = search rules in
    let lt = here.place-in cells made.0 made.1 all_takes rows c.requires.cells.0 c.requires.cells.1 made.2 made.3
    at.yielded cell rest place all at.invariant.count in
    let few = c.requires.within_limit in omega (arith, number, lt, few)

pub new-requires-clause-number : goal.new-requires-clause-number
new-requires-clause-number g c =
    let at = c.loop-cell in let cells = c.args.cells.items in let made = c.requires.made in let all_takes = c.args.takes.items in
    let rows = map (λ row. row.items) (into_iter_items c.args.rows.now) in
    let cell = c.in-Some.cell in let rest = into_iter_items c.next.new.self in let place = length at.homes.items in
    let steps : into_iter_items at.cell-iterator ≡ cell ∷ rest = c.in-Some.ensures.steps.0 in
    let all = ap (λ l. at.yielded ++ l) (sym steps) ∙ at.invariant.cells in
    let number : c.len.result ≡ place = search rules in
    let planned = here.planned-here cells made.0 made.1 all_takes rows c.requires.cells.0 c.requires.cells.1 made.2 made.3
    at.yielded cell rest place all at.invariant.count in
    ap id number ∙ sym planned.this

pub new-requires-clause-unused : goal.new-requires-clause-unused
new-requires-clause-unused g c =
    let at = c.loop-cell in let cells = c.args.cells.items in let made = c.requires.made in let all_takes = c.args.takes.items in
    let rows = map (λ row. row.items) (into_iter_items c.args.rows.now) in
    let cell = c.in-Some.cell in let rest = into_iter_items c.next.new.self in let place = length at.homes.items in
    let steps : into_iter_items at.cell-iterator ≡ cell ∷ rest = c.in-Some.ensures.steps.0 in
    let all = ap (λ l. at.yielded ++ l) (sym steps) ∙ at.invariant.cells in
    let unstarted_is = here.unstarted-there cells made.0 made.1 all_takes rows c.requires.cells.0 c.requires.cells.1 made.2 made.3
    at.yielded cell rest place all at.invariant.count in
    let take' = c.in-Some-next.take in
    let mine : into_iter_items at.takes ≡ take' ∷ into_iter_items c.next-in-loop-cell.new.self = c.in-Some-next.ensures.cases.0 in
    let this : drop place all_takes ≡ take' ∷ into_iter_items c.next-in-loop-cell.new.self = sym at.invariant.takes ∙ mine in
    let pass = here.pass-there cells made.0 made.1 all_takes rows c.requires.cells.0 c.requires.cells.1 made.2 made.3
    at.yielded cell rest place all at.invariant.count take' _ this in
    let sends = c.in-Some-next-2.sends in
    let lines : into_iter_items at.rows ≡ sends ∷ into_iter_items c.next-in-loop-cell-2.new.self = c.in-Some-next-2.ensures.cases.0 in
    let row : drop place rows ≡ sends.items ∷ map (λ r. r.items) (into_iter_items c.next-in-loop-cell-2.new.self) =
    drop-map (λ r. r.items) place (into_iter_items c.args.rows.now) ∙ ap (map (λ r. r.items)) (sym at.invariant.rows ∙ lines) in
    let row_is = here.row-there cells made.0 made.1 all_takes rows c.requires.cells.0 c.requires.cells.1 made.2 made.3
    at.yielded cell rest place all at.invariant.count sends.items _ row in
    record {
      untouched = (ap (λ (x : CellView). x.journal) unstarted_is, ap (λ (x : CellView). x.acts) unstarted_is);
      none_taken = pass.taken;
      none_pushed = subst (All (λ (p : SendPassView). p.pushed ≡ [])) (sym row_is) (all-unused (drop 1 all_takes) place);
    }

pub new-requires-clause-owner : goal.new-requires-clause-owner
new-requires-clause-owner g c =
    let at = c.loop-cell in let cells = c.args.cells.items in let made = c.requires.made in let all_takes = c.args.takes.items in
    let rows = map (λ row. row.items) (into_iter_items c.args.rows.now) in
    let cell = c.in-Some.cell in let rest = into_iter_items c.next.new.self in let place = length at.homes.items in
    let steps : into_iter_items at.cell-iterator ≡ cell ∷ rest = c.in-Some.ensures.steps.0 in
    let all = ap (λ l. at.yielded ++ l) (sym steps) ∙ at.invariant.cells in
    let take' = c.in-Some-next.take in
    let mine : into_iter_items at.takes ≡ take' ∷ into_iter_items c.next-in-loop-cell.new.self = c.in-Some-next.ensures.cases.0 in
    let this : drop place all_takes ≡ take' ∷ into_iter_items c.next-in-loop-cell.new.self = sym at.invariant.takes ∙ mine in
    let sends = c.in-Some-next-2.sends in
    let lines : into_iter_items at.rows ≡ sends ∷ into_iter_items c.next-in-loop-cell-2.new.self = c.in-Some-next-2.ensures.cases.0 in
    let row : drop place rows ≡ sends.items ∷ map (λ r. r.items) (into_iter_items c.next-in-loop-cell-2.new.self) =
    drop-map (λ r. r.items) place (into_iter_items c.args.rows.now) ∙ ap (map (λ r. r.items)) (sym at.invariant.rows ∙ lines) in
    subst (λ l. IsOwn (at_first cell take' sends.items 0 l)) (sym c.requires.directory)
    (here.own-there cells made.0 made.1 all_takes rows c.requires.cells.0 c.requires.cells.1 made.2 made.3
    at.yielded cell rest place all at.invariant.count take' _ this sends.items _ row)

pub add-requires : goal.add-requires
add-requires g c =
    let at = c.loop-cell in let cells = c.args.cells.items in let made = c.requires.made in let all_takes = c.args.takes.items in
    let rows = map (λ row. row.items) (into_iter_items c.args.rows.now) in
    let cell = c.in-Some.cell in let rest = into_iter_items c.next.new.self in let place = length at.homes.items in
    let steps : into_iter_items at.cell-iterator ≡ cell ∷ rest = c.in-Some.ensures.steps.0 in
    let all = ap (λ l. at.yielded ++ l) (sym steps) ∙ at.invariant.cells in
    let lt = here.place-in cells made.0 made.1 all_takes rows c.requires.cells.0 c.requires.cells.1 made.2 made.3
    at.yielded cell rest place all at.invariant.count in
    let room = at.invariant.room in omega (arith, lt, room)

pub loop-cell-preserved : goal.loop-cell-preserved
loop-cell-preserved g c =
    let at = c.loop-cell in let cells = c.args.cells.items in let made = c.requires.made in let all_takes = c.args.takes.items in
    let rows = map (λ row. row.items) (into_iter_items c.args.rows.now) in
    let cell = c.in-Some.cell in let rest = into_iter_items c.next.new.self in let place = length at.homes.items in
    let steps : into_iter_items at.cell-iterator ≡ cell ∷ rest = c.in-Some.ensures.steps.0 in
    let all = ap (λ l. at.yielded ++ l) (sym steps) ∙ at.invariant.cells in
    let take' = c.in-Some-next.take in
    let mine : into_iter_items at.takes ≡ take' ∷ into_iter_items c.next-in-loop-cell.new.self = c.in-Some-next.ensures.cases.0 in
    let this : drop place all_takes ≡ take' ∷ into_iter_items c.next-in-loop-cell.new.self = sym at.invariant.takes ∙ mine in
    let sends = c.in-Some-next-2.sends in
    let lines : into_iter_items at.rows ≡ sends ∷ into_iter_items c.next-in-loop-cell-2.new.self = c.in-Some-next-2.ensures.cases.0 in
    let row : drop place rows ≡ sends.items ∷ map (λ r. r.items) (into_iter_items c.next-in-loop-cell-2.new.self) =
    drop-map (λ r. r.items) place (into_iter_items c.args.rows.now) ∙ ap (map (λ r. r.items)) (sym at.invariant.rows ∙ lines) in
    let new = c.add.new.homes.items in let added = c.in_ok-add.ensures.added in let box = added.0 in let home = c.in_ok-home.home in
    let others = drop 1 all_takes in let directory = directory_of (whose cells) all_takes in
    let pushed : new ≡ at.homes.items ++ box ∷ [] = added.2 in
    let longer : length new ≡ place + 1 = ap length pushed ∙ length_push at.homes.items box in
    let further : length (at.yielded ++ cell ∷ []) ≡ length at.yielded + 1 = length_push at.yielded cell in
    let count = at.invariant.count in
    let next : suc place ≡ length new = omega (arith, longer) in
    let is = here.unstarted-there cells made.0 made.1 all_takes rows c.requires.cells.0 c.requires.cells.1 made.2 made.3
    at.yielded cell rest place all at.invariant.count in
    let passes = here.row-there cells made.0 made.1 all_takes rows c.requires.cells.0 c.requires.cells.1 made.2 made.3
    at.yielded cell rest place all at.invariant.count sends.items _ row in
    let planned = here.planned-here cells made.0 made.1 all_takes rows c.requires.cells.0 c.requires.cells.1 made.2 made.3
    at.yielded cell rest place all at.invariant.count in
    let sum : place ≡ 0 + place = omega arith in
    let same : box.value ≡ home = added.1 in
    let settled = subst (λ n. AgreesWithJournal (g.K.Behaviours.gives n) [] home) (ap (λ (x : ActorId). x.0) planned.this ∙ sum)
    c.in_ok-home.ensures.settled in
    let homes_first = first-more directory others 0 (whose at.yielded) cell.who (take place all_takes) take' at.homes.items box at.invariant.first
    (as-made box.value home cell take' sends.items (passes_of others (0 + place)) _ directory cell.who same c.in_ok-home.ensures.first is
    (passes ∙ ap (passes_of others) sum) c.requires.directory) in record {
      cells = append_assoc at.yielded (cell ∷ []) rest ∙ all;
      count = omega (arith, longer, further, count);
      room = let same = c.in_ok-add.ensures.room in let room = at.invariant.room in omega (arith, same, room);
      takes = sym (drop-next place all_takes take' _ this) ∙ ap (λ n. drop n all_takes) next;
      rows = sym (drop-next place (into_iter_items c.args.rows.now) sends _ (sym at.invariant.rows ∙ lines))
          ∙ ap (λ n. drop n (into_iter_items c.args.rows.now)) next;
      first = subst (λ (l : List (Box Contents)). AreAtFirst directory others 0 (whose (at.yielded ++ cell ∷ [])) (take (length new) all_takes) l) (sym pushed)
          (subst (λ (l : List TakePassView). AreAtFirst directory others 0 (whose (at.yielded ++ cell ∷ [])) l (at.homes.items ++ box ∷ []))
          (sym (take-next place all_takes take' _ this) ∙ ap (λ n. take n all_takes) next)
          (subst (λ (l : List Identity). AreAtFirst directory others 0 l (take place all_takes ++ take' ∷ []) (at.homes.items ++ box ∷ []))
          (sym (map_push (λ (x : CellView). x.who) at.yielded cell)) homes_first));
      settled = subst (λ (l : List (Box Contents)). AreSettled g.K.Behaviours.gives 0 l) (sym pushed)
          (settled-more g.K.Behaviours.gives 0 at.homes.items box at.invariant.settled
          (subst (λ x. AgreesWithJournal (g.K.Behaviours.gives (0 + place)) [] x) (sym same) settled) (subst HasNoBacklog (sym same) c.in_ok-home.ensures.no_backlog));
    }

pub returns-clause-first : goal.returns-clause-first
returns-clause-first g c =
    let at = c.loop-cell in let cells = c.args.cells.items in let made = c.requires.made in let all_takes = c.args.takes.items in
    let rows = map (λ row. row.items) (into_iter_items c.args.rows.now) in
    let none : into_iter_items at.cell-iterator ≡ [] =
    nil_from_length (into_iter_items at.cell-iterator) (sym at.cell-iterator.rest.ok.0 ∙ c.in-None.ensures.steps.0) in
    let all : at.yielded ≡ cells = sym (append-nil at.yielded) ∙ ap (λ l. at.yielded ++ l) (sym none) ∙ at.invariant.cells in
    let directory = directory_of (whose cells) all_takes in
    let many = here.passes-count cells made.0 made.1 all_takes rows c.requires.cells.0 c.requires.cells.1 made.2 made.3 in
    let whole = ap length all in let count = at.invariant.count in
    subst (λ (l : List Identity). AreAtFirst directory (drop 1 all_takes) 0 l all_takes at.homes.items) (ap whose all)
    (subst (λ (l : List TakePassView). AreAtFirst directory (drop 1 all_takes) 0 (whose at.yielded) l at.homes.items)
    (take_all (length at.homes.items) all_takes (omega (arith, many, whole, count))) at.invariant.first)

pub returns-clause-fresh : goal.returns-clause-fresh
returns-clause-fresh g c =
    let all_takes = c.args.takes.items in let cells = c.args.cells.items in let homes = c.loop-cell.homes.items in
    let first : AreAtFirst (directory_of (whose cells) all_takes) (drop 1 all_takes) 0 (whose cells) all_takes homes = returns-clause-first g c in
    all-fresh g.K.Behaviours.gives (directory_of (whose cells) all_takes) (drop 1 all_takes) (length cells) (whose cells) all_takes homes first
    c.requires.cells.1 c.loop-cell.invariant.settled

pub returns-clause-rest : goal.returns-clause-rest
returns-clause-rest g c =
    let at = c.loop-cell in let cells = c.args.cells.items in
    let none : into_iter_items at.cell-iterator ≡ [] =
    nil_from_length (into_iter_items at.cell-iterator) (sym at.cell-iterator.rest.ok.0 ∙ c.in-None.ensures.steps.0) in
    let all : at.yielded ≡ cells = sym (append-nil at.yielded) ∙ ap (λ l. at.yielded ++ l) (sym none) ∙ at.invariant.cells in
    let many : length at.homes.items ≡ length cells = at.invariant.count ∙ ap length all in
    at.invariant.rows ∙ ap (λ n. drop n (into_iter_items c.args.rows.now)) many

pub returns-in_err-add-clause-first : goal.returns-in_err-add-clause-first
returns-in_err-add-clause-first g c = if-none _ c.from_residual-in_err-add.result c.in_err-add.field-0.0 c.from_residual-in_err-add.ensures.1

pub returns-in_err-add-clause-fresh : goal.returns-in_err-add-clause-fresh
returns-in_err-add-clause-fresh g c = if-none _ c.from_residual-in_err-add.result c.in_err-add.field-0.0 c.from_residual-in_err-add.ensures.1

pub returns-in_err-add-clause-rest : goal.returns-in_err-add-clause-rest
returns-in_err-add-clause-rest g c = if-none _ c.from_residual-in_err-add.result c.in_err-add.field-0.0 c.from_residual-in_err-add.ensures.1

pub returns-in_err-home-clause-first : goal.returns-in_err-home-clause-first
returns-in_err-home-clause-first g c = if-none _ c.from_residual.result c.in_err-home.field-0.0 c.from_residual.ensures.1

pub returns-in_err-home-clause-fresh : goal.returns-in_err-home-clause-fresh
returns-in_err-home-clause-fresh g c = if-none _ c.from_residual.result c.in_err-home.field-0.0 c.from_residual.ensures.1

pub returns-in_err-home-clause-rest : goal.returns-in_err-home-clause-rest
returns-in_err-home-clause-rest g c = if-none _ c.from_residual.result c.in_err-home.field-0.0 c.from_residual.ensures.1
