-- What comes back after it was read, and what is known then.
use Rattle.std.proofs.Common.{◌≡◌, ℕ, ◌+◌, ◌<◌, ◌≤◌, List, [], ◌∷◌, ◌++◌, length, refl, sym, ap, ◌∙◌, subst, Some, append_assoc}
use Rattle.std.proofs.Common.{arith, drop, get_or, map}
use Rattle.std.specs.Prelude.{All, AllPairs, IfOk, MatchOption, Ok, Result, None, Option, ◌≢◌, slice_get, slice_set}
use Rattle.std.specs.Global.{Box}
use Rattle.std.specs.Vec.{with_item}
use Rattle.std.proofs.lemmas.List.Elements.{All-cons, All-head, All-same, All-tail}
use Rattle.std.proofs.lemmas.Option.{same_Some}
use Rattle.mb_gate.specs.declared.pass.Pass.{Pass}
use Rattle.mb_msg.specs.declared.id.ActorId.{ActorId}
use Rattle.mb_gate.specs.Accessors.{actors_of, gates_id, pass_view, pass_id}
use Rattle.mb_gate.specs.Rule.{IsAmong, IsPart}
use Rattle.mb_gate.specs.View.{Counted, Observation, View}
use Rattle.mb_home.specs.Contents.{Contents}
use Rattle.mb_pool.specs.Places.{gates_of}
use Rattle.mb_shutdown.specs.Rooms.{AreCounted, HasOnlyCounted}
use Rattle.mb_shutdown.specs.Idle.{WereReadIdle, WasReadBusy}
use Rattle.mb_shutdown.proofs.Lists.{length-mapped, mapped}
use Rattle.mb_shutdown.proofs.Steps.{only-part}
use Rattle.mb_report.specs.declared.report.ActorReport.{ActorReport}
use Rattle.mb_report.specs.declared.report.Report.{Report}
use Rattle.mb_pool.specs.WorkerPorts.{WorkerPortView}
use Rattle.mb_system.specs.Belonging.{BelongsTogether, senders_numbers}
use Rattle.mb_system.specs.Members.{IsHandleOf, IsSenderOf, OutsideSender, handle_numbers}
use Rattle.mb_system.specs.declared.built.Built.{Built}
use Rattle.mb_system.specs.declared.handle.WorkerHandle.{WorkerHandle}
use Rattle.mb_system.specs.declared.system.System.{System}
use Rattle.mb_shutdown.specs.Belonging.{AreThere, HasAllSeen, HasRead, OnlyFirstHandleRead, WasFoundIdle}
use Rattle.mb_shutdown.specs.Refused.{FindsIdle, FindsBusy, IsComplete, LeavesCounted}
use Rattle.mb_shutdown.proofs.Gathered.{seen_by_handle, seen_by_sender}
use Rattle.mb_shutdown.proofs.Parts.{AllSeen, part-trans}
use Rattle.mb_shutdown.proofs.IdleLemmas.{settled-part}

module _ {X : Type 0} where
  same-first : (x y : X) (xs ys : List X) → (x ∷ xs) ≡ (y ∷ ys) → x ≡ y
  same-first x y xs ys same = same_Some x y (ap (λ l. slice_get l 0) same)

  same-rest : (x y : X) (xs ys : List X) → (x ∷ xs) ≡ (y ∷ ys) → xs ≡ ys
  same-rest x y xs ys same = ap (drop 1) same

found-part : (many : ℕ) (before after : View) → FindsIdle many before after → IsPart before.log after.log
found-part many before after found =
    part-trans before.log found.0.log after.log (settled-part 0 many before found.0 found.1) (only-part found.0 after found.2)

-- what is among a part is among all
among-part : {X : Type 0} (x : X) (part all : List X) → IsPart part all → IsAmong x part → IsAmong x all
among-part x part all is among =
    let inner : part ++ is.after ≡ among.before ++ x ∷ (among.after ++ is.after)
    = ap (λ l. l ++ is.after) among.joined ∙ append_assoc among.before (x ∷ among.after) is.after in
    record {
      before = is.before ++ among.before;
      after = among.after ++ is.after;
      joined = is.joined ∙ ap (λ l. is.before ++ l) inner ∙ sym (append_assoc is.before among.before (x ∷ (among.after ++ is.after)));
    }

-- as many are left as were counted, each of which was read
pub left-counted : (report : Report) (waiting : List ℕ) (log : List Observation)
    → map (λ (a : ActorReport). length a.left.items) report.actors.items ≡ waiting → AreCounted log waiting → LeavesCounted log report
left-counted report waiting log same all id a found =
    all id (length a.left.items)
    (ap (λ l. slice_get l id) (sym same) ∙ mapped (λ (a : ActorReport). length a.left.items) report.actors.items id a found)

pub ok-at : {X E : Type 0} (P : X → Type 0) (result : Result X E) (x : X) → result ≡ Ok x → IfOk result P → P x
ok-at {X} {E} P result x is all = subst (λ (r : Result X E). IfOk r P) is all

module _ {A K : Type 0} where
  -- where the handle of a number below this many is there, there is a handle
  pub some-handle : (handles : List (WorkerHandle A K)) (many : ℕ) → 0 < many → AreThere many (handle_numbers handles) → 0 < length handles
  some-handle handles many some all =
      let one = all 0 some in
      let lt = one.1 in
      let many_are = length-mapped (λ (e : WorkerHandle A K). e.number) handles in
      omega (arith, lt, many_are)

  -- the first handle read by its pass
  split : (handles : List (WorkerHandle A K)) (first : WorkerHandle A K) → 0 < length handles → first ≡ get_or handles 0 first
      → (rest : List (WorkerHandle A K)) × (handles ≡ first ∷ rest) × ((e : WorkerHandle A K) → slice_set handles 0 e ≡ e ∷ rest)
  split [] first some is = absurd (omega (arith, some))
  split (e ∷ rest) first some is = (rest, ap (λ x. x ∷ rest) (sym is), λ x. refl)

  abbrev pub read_by : Built A K → WorkerHandle A K → Pass (Box Contents) → Built A K
  read_by built first pass = record {
    system = built.system;
    handles = with_item built.handles 0 (record {
      number = first.number;
      registrar = record { pass = pass; run_queue = first.registrar.run_queue; owed = first.registrar.owed; told = first.registrar.told };
      taken = first.taken;
    });
    senders = built.senders;
  }

  pub read-again : (built : Built A K) (first : WorkerHandle A K) (pass : Pass (Box Contents)) → 0 < length built.handles.items
      → first ≡ get_or built.handles.items 0 first → pass_id pass ≡ pass_id first.registrar.pass
      → OnlyFirstHandleRead built (read_by built first pass) (pass_view first.registrar.pass) (pass_view pass)
  read-again built first pass some is ours =
      let parts = split built.handles.items first some is in record {
        system = refl;
        senders = refl;
        first = first;
        first' = record { number = first.number; registrar = record { pass = pass; run_queue = first.registrar.run_queue; owed = first.registrar.owed; told = first.registrar.told }; taken = first.taken };
        rest = parts.0;
        was = parts.1;
        is = parts.2 (record { number = first.number; registrar = record { pass = pass; run_queue = first.registrar.run_queue; owed = first.registrar.owed; told = first.registrar.told }; taken = first.taken });
        others = (refl, refl, refl, refl);
        same_gates = ours;
        knew = refl;
        knows = refl;
      }

  -- the first handle is of the gates, as all are
  pub first-ours : (built : Built A K) (first : WorkerHandle A K) → 0 < length built.handles.items → first ≡ get_or built.handles.items 0 first
      → All (λ (e : WorkerHandle A K). IsHandleOf built.system.gates e.registrar) built.handles.items → pass_id first.registrar.pass ≡ gates_id built.system.gates
  first-ours built first some is all =
      (subst (λ (e : WorkerHandle A K). IsHandleOf built.system.gates e.registrar) (sym is) (all 0 first some)).0

  pub match-read : (found : Option ActorId) (many : ℕ) (old new : Built A K) (before after : View) → OnlyFirstHandleRead old new before after
      → MatchOption found (WereReadIdle 0 many before after)
      (λ id. (id.0 < many) × ((between : View) × WereReadIdle 0 id.0 before between × WasReadBusy id.0 between after))
      → MatchOption found (HasRead (WereReadIdle 0 many) old new) (λ id. (id.0 < many) × HasRead (FindsBusy id.0) old new)
  match-read None many old new before after back settled = (before, after, back, settled)
  match-read (Some id) many old new before after back busy = (busy.0, (before, after, back, busy.1))

  pub back-handles : (old new : Built A K) (before after : View) → OnlyFirstHandleRead old new before after
      → All (λ (e : WorkerHandle A K). IsHandleOf old.system.gates e.registrar) old.handles.items
      → All (λ (e : WorkerHandle A K). IsHandleOf new.system.gates e.registrar) new.handles.items
  back-handles old new before after back all =
      let IsOurs = λ (e : WorkerHandle A K). IsHandleOf old.system.gates e.registrar in
      let those = All-same IsOurs (back.first ∷ back.rest) old.handles.items (sym back.was) all in
      let one = All-head IsOurs back.first back.rest those in
      let first : IsOurs back.first' = (back.same_gates ∙ one.0, ap (λ (port : WorkerPortView (Box Contents)). gates_of port.handle) back.others.1 ∙ one.1, one.2) in
      subst (λ (s : System A K). All (λ (e : WorkerHandle A K). IsHandleOf s.gates e.registrar) new.handles.items) (sym back.system)
      (All-same IsOurs new.handles.items (back.first' ∷ back.rest) back.is
      (All-cons IsOurs back.first' back.rest first (All-tail IsOurs back.first back.rest those)))

  pub back-together : (old new : Built A K) (before after : View) → OnlyFirstHandleRead old new before after → BelongsTogether old → BelongsTogether new
  back-together old new before after back together =
      let same : ◌≡◌ {A = System A K × List OutsideSender} (old.system, old.senders.items) (new.system, new.senders.items) =
      λ i. (sym back.system i, sym back.senders i) in
      record {
        handles = back-handles old new before after back together.handles;
        senders = subst (λ (p : System A K × List OutsideSender). All (λ (s : OutsideSender). IsSenderOf p.0.gates s) p.1) same together.senders;
        once = subst (λ (l : List OutsideSender). AllPairs (λ a b. a ≢ b) (senders_numbers l)) (sym back.senders) together.once;
        numbered = subst (λ (p : System A K × List OutsideSender). All (λ (s : OutsideSender). (64 ≤ s.send_log.by.0)
            × (s.send_log.by.0 < 64 + p.0.senders)) p.1) same together.numbered;
      }

  pub back-complete : (old new : Built A K) (before after : View) → OnlyFirstHandleRead old new before after → IsComplete old → IsComplete new
  back-complete old new before after back complete =
      let handles : handle_numbers old.handles.items ≡ handle_numbers new.handles.items =
      ap handle_numbers back.was ∙ ap (λ n. n ∷ handle_numbers back.rest) (sym back.others.0) ∙ ap handle_numbers (sym back.is) in (
        subst (λ (p : System A K × List ℕ). AreThere p.0.workers p.1) (λ i. (sym back.system i, handles i)) complete.0,
        subst (λ (p : System A K × List OutsideSender). AreThere p.0.senders (senders_numbers p.1))
            (λ i. (sym back.system i, sym back.senders i)) complete.1,
      )

  pub back-some : (old new : Built A K) (before after : View) → OnlyFirstHandleRead old new before after → 0 < length new.handles.items
  back-some old new before after back =
      let many : length new.handles.items ≡ length (back.first' ∷ back.rest) = ap length back.is in
      omega (arith, many)

  -- what was read first, and what was read then
  pub back-twice : (old between new : Built A K) (before during then after : View) → OnlyFirstHandleRead old between before during → OnlyFirstHandleRead between new then after
      → OnlyFirstHandleRead old new before after
  back-twice old between new before during then after one two =
      let same : one.first' ∷ one.rest ≡ two.first ∷ two.rest = sym one.is ∙ two.was in
      let first = same-first one.first' two.first one.rest two.rest same in
      record {
        system = two.system ∙ one.system;
        senders = two.senders ∙ one.senders;
        first = one.first;
        first' = two.first';
        rest = one.rest;
        was = one.was;
        is = two.is ∙ ap (λ l. two.first' ∷ l) (sym (same-rest one.first' two.first one.rest two.rest same));
        others = (
          two.others.0 ∙ ap (λ (e : WorkerHandle A K). e.number) (sym first) ∙ one.others.0,
          two.others.1 ∙ ap (λ (e : WorkerHandle A K). e.registrar.run_queue) (sym first) ∙ one.others.1,
          two.others.2 ∙ ap (λ (e : WorkerHandle A K). e.registrar.owed) (sym first) ∙ one.others.2,
          two.others.3 ∙ ap (λ (e : WorkerHandle A K). e.taken) (sym first) ∙ one.others.3,
        );
        same_gates = two.same_gates ∙ ap (λ (e : WorkerHandle A K). pass_id e.registrar.pass) (sym first) ∙ one.same_gates;
        knew = one.knew;
        knows = two.knows;
      }

  known-between : (old between new : Built A K) (before during then after : View) → OnlyFirstHandleRead old between before during → OnlyFirstHandleRead between new then after
      → then ≡ during
  known-between old between new before during then after one two =
      let same : one.first' ∷ one.rest ≡ two.first ∷ two.rest = sym one.is ∙ two.was in
      sym two.knew ∙ ap (λ (e : WorkerHandle A K). pass_view e.registrar.pass) (sym (same-first one.first' two.first one.rest two.rest same)) ∙ one.knows

  abbrev pub ReadMore : Built A K → Built A K → Type 0
  ReadMore = HasRead HasOnlyCounted

  -- nothing was to run, and then waiting numbers were read
  pub settled-then-read : (many : ℕ) (old between new : Built A K) → HasRead (WereReadIdle 0 many) old between → ReadMore between new
      → HasRead (FindsIdle many) old new
  settled-then-read many old between new settled more = (
    settled.0,
    more.1,
    back-twice old between new settled.0 settled.1 more.0 more.1 settled.2 more.2,
    (
      settled.1,
      settled.3,
      subst (λ (v : View). HasOnlyCounted v more.1)
          (known-between old between new settled.0 settled.1 more.0 more.1 settled.2 more.2) more.3,
    ),
  )

  -- what the first handle had seen, and what the others, is a part of what all that came back had
  handles-seen : (old new : Built A K) (before after : View) (log : List Observation) → OnlyFirstHandleRead old new before after → IsPart before.log after.log
      → AllSeen seen_by_handle new.handles.items log → AllSeen seen_by_handle old.handles.items log
  handles-seen old new before after log back more all =
      let HasSeen = λ (e : WorkerHandle A K). IsPart (seen_by_handle e) log in
      let those = All-same HasSeen (back.first' ∷ back.rest) new.handles.items (sym back.is) all in
      let last : IsPart after.log log = subst (λ (v : View). IsPart v.log log) back.knows (All-head HasSeen back.first' back.rest those) in
      All-same HasSeen old.handles.items (back.first ∷ back.rest) back.was
      (All-cons HasSeen back.first back.rest
      (subst (λ (v : View). IsPart v.log log) (sym back.knew) (part-trans before.log after.log log more last))
      (All-tail HasSeen back.first' back.rest those))

  pub all-seen : (many : ℕ) (old new : Built A K) (log : List Observation) → HasRead (FindsIdle many) old new → HasAllSeen new log → HasAllSeen old log
  all-seen many old new log found all = (
    handles-seen old new found.0 found.1 log found.2 (found-part many found.0 found.1 found.3) all.0,
    All-same (λ (s : OutsideSender). IsPart (seen_by_sender s) log) old.senders.items new.senders.items (sym found.2.senders) all.1,
  )

  pub was-settled : (old new : Built A K) (log : List Observation) → HasRead (FindsIdle (actors_of old.system.gates)) old new
      → AllSeen seen_by_handle new.handles.items log → WasFoundIdle old log
  was-settled old new log found handles =
      let HasSeen = λ (e : WorkerHandle A K). IsPart (seen_by_handle e) log in
      let back = found.2 in
      let those = All-same HasSeen (back.first' ∷ back.rest) new.handles.items (sym back.is) handles in
      let last : IsPart found.1.log log =
      subst (λ (v : View). IsPart v.log log) back.knows (All-head HasSeen back.first' back.rest those) in
      record {
        first = back.first;
        rest = back.rest;
        are = back.was;
        read = found.3.0;
        settled = subst (λ (v : View). WereReadIdle 0 (actors_of old.system.gates) v found.3.0) (sym back.knew) found.3.1;
        among = part-trans found.3.0.log found.1.log log (only-part found.3.0 found.1 found.3.2) last;
      }

  -- what was counted as the first handle read it was seen
  pub counted-all : (old new : Built A K) (log : List Observation) (waiting : List ℕ)
      → HasRead (λ (before : View) (after : View). AreCounted after.log waiting) old new → AllSeen seen_by_handle new.handles.items log
      → AreCounted log waiting
  counted-all old new log waiting read handles =
      let HasSeen = λ (e : WorkerHandle A K). IsPart (seen_by_handle e) log in let back = read.2 in
      let those = All-same HasSeen (back.first' ∷ back.rest) new.handles.items (sym back.is) handles in
      let last : IsPart read.1.log log =
      subst (λ (v : View). IsPart v.log log) back.knows (All-head HasSeen back.first' back.rest those) in
      λ id n is. among-part (Counted id n) read.1.log log last (read.3 id n is)
