-- How a run of a mailbox goes on, message by message.
use Rattle.std.proofs.Common.{◌≡◌, ℕ, ◌-◌, ◌<◌, List, [], ◌∷◌, ◌++◌, length, sym, ap, ◌∙◌, append_assoc, arith}
use Rattle.std.specs.Prelude.{Some, slice_get, slice_set}
use Rattle.std.proofs.lemmas.List.{set-set}
use Rattle.mb_msg.specs.declared.envelope.Envelope.{Envelope}
use Rattle.mb_msg.specs.declared.id.ActorId.{ActorId}
use Rattle.mb_msg.specs.declared.system.SysMsg.{SysMsg}
use Rattle.mb_journal.specs.Entry.{Entry}
use Rattle.mb_journal.specs.Entry.Entry.{Handled, System, Dropped}
use Rattle.mb_journal.specs.Fates.{begun}
use Rattle.mb_cell.specs.CellView.{CellView, TakesSystem, TakesEnvelope, IsOf}
use Rattle.mb_world.specs.Dispatched.{cell_mark, marks_of, GivesTo}
use Rattle.mb_world.specs.MailboxView.{MailboxView}
use Rattle.mb_world.specs.Running.{IsInRun, LeavesInRun}
use Rattle.mb_world.proofs.DispatchLemmas.{set-there, there-set}

-- entries came, but no envelope
pub leaves-grown : (actor : ActorId) (old new : CellView) (before after : List MailboxView) (added : List Entry) → IsInRun actor old before →
    new.who ≡ old.who → new.journal ≡ added ++ old.journal → begun new.journal ≡ begun old.journal → new.acts ≡ [] →
    marks_of after ≡ marks_of before → LeavesInRun actor old new before after
leaves-grown actor old new before after added run who journal same acts marks =
    let mark : cell_mark new ≡ cell_mark old = λ i. ((who i).this, same i) in record {
      continues = record { same = who; added = added; extends = journal };
      run = record {
        own = ap (λ w. w.this) who ∙ run.own;
        carried_out = acts;
        begun = ap (λ l. slice_get l actor.0) marks ∙ run.begun ∙ ap (λ m. Some m) (sym mark);
      };
      others = marks ∙ sym (set-there (marks_of before) actor.0 (cell_mark old) run.begun) ∙ ap (slice_set (marks_of before) actor.0) (sym mark);
    }

-- nothing came, and there may be room
pub leaves-ready : (actor : ActorId) (old new : CellView) (before after : List MailboxView) → IsInRun actor old before →
    new ≡ record old { is_ready = new.is_ready } → marks_of after ≡ marks_of before → LeavesInRun actor old new before after
leaves-ready actor old new before after run is marks =
    leaves-grown actor old new before after [] run (ap (λ (s : CellView). s.who) is) (ap (λ (s : CellView). s.journal) is)
    (ap (λ (s : CellView). begun s.journal) is) (ap (λ (s : CellView). s.acts) is ∙ run.carried_out) marks

-- one stretch after another
pub leaves-after : (actor : ActorId) (a b c : CellView) (m n k : List MailboxView) → LeavesInRun actor a b m n → LeavesInRun actor b c n k →
    LeavesInRun actor a c m k
leaves-after actor a b c m n k p q = record {
  continues = record {
    same = q.continues.same ∙ p.continues.same;
    added = q.continues.added ++ p.continues.added;
    extends = q.continues.extends
        ∙ ap (λ l. q.continues.added ++ l) p.continues.extends
        ∙ sym (append_assoc q.continues.added p.continues.added a.journal);
  };
  run = q.run;
  others = q.others
      ∙ ap (λ l. slice_set l actor.0 (cell_mark c)) p.others
      ∙ set-set (marks_of m) actor.0 (cell_mark b) (cell_mark c);
}

-- a system message, whose acts are carried out
pub leaves-system : (actor : ActorId) (c0 c1 c2 c3 : CellView) (number : ℕ) (m : SysMsg) (before after : List MailboxView) → IsInRun actor c0 before →
    c1 ≡ record c0 { is_ready = c1.is_ready } → TakesSystem c1 c2 number m → c3 ≡ record c2 { acts = [] } →
    marks_of after ≡ marks_of before → LeavesInRun actor c0 c3 before after
leaves-system actor c0 c1 c2 c3 number m before after run ready took carried marks =
    let e : Entry = System number m took.outcome in
    let journal : c3.journal ≡ e ∷ c0.journal =
    ap (λ (s : CellView). s.journal) carried ∙ ap (λ (s : CellView). s.journal) took.adds ∙ ap (λ (s : CellView). e ∷ s.journal) ready in
    leaves-grown actor c0 c3 before after (e ∷ []) run
    (ap (λ (s : CellView). s.who) carried ∙ ap (λ (s : CellView). s.who) took.adds ∙ ap (λ (s : CellView). s.who) ready)
    journal (ap begun journal) (ap (λ (s : CellView). s.acts) carried) marks

-- so there is one entry more
pub one-fewer : (c0 c1 c2 c3 : CellView) (number : ℕ) (m : SysMsg) → c1 ≡ record c0 { is_ready = c1.is_ready } →
    length c1.journal < c1.who.limit → TakesSystem c1 c2 number m → c3 ≡ record c2 { acts = [] } →
    c3.who.limit - length c3.journal < c0.who.limit - length c0.journal
one-fewer c0 c1 c2 c3 number m ready room took carried =
    let entries = ap (λ (s : CellView). length s.journal) ready in let limit = ap (λ (s : CellView). s.who.limit) ready in
    let more = ap (λ (s : CellView). length s.journal) took.adds in let same = ap (λ (s : CellView). s.who.limit) took.adds in
    let rest = ap (λ (s : CellView). length s.journal) carried in let last = ap (λ (s : CellView). s.who.limit) carried in
    omega (arith, entries, limit, more, same, rest, last, room)

-- an envelope that the mailbox gave is to the actor of the cell
given-mark : (actor : ActorId) (cell : CellView) (before : List MailboxView) (marks : List (ActorId × List Envelope)) (e : Envelope) →
    IsInRun actor cell before → (gives : GivesTo (marks_of before) marks actor.0 e) → (gives.actor ≡ cell.who.this) × (gives.before ≡ begun cell.journal)
given-mark actor cell before marks e run gives =
    let some : Some (gives.actor, gives.before) ≡ Some (cell_mark cell) = sym gives.was ∙ run.begun in
    let same : (gives.actor, gives.before) ≡ cell_mark cell = cc in
    (ap (λ (m : ActorId × List Envelope). m.0) same, ap (λ (m : ActorId × List Envelope). m.1) same)

pub given-own : (actor : ActorId) (cell : CellView) (before : List MailboxView) (marks : List (ActorId × List Envelope)) (e : Envelope) →
    IsInRun actor cell before → GivesTo (marks_of before) marks actor.0 e → e.to ≡ cell.who.this
given-own actor cell before marks e run gives = gives.addressed ∙ (given-mark actor cell before marks e run gives).0

begun-more : (entry : Entry) (before : List Entry) (e : Envelope) (reading : ℕ) → IsOf e reading entry → begun (entry ∷ before) ≡ begun before ++ e ∷ []
begun-more (Handled x r o) before e reading of_it = ap (λ y. begun before ++ y ∷ []) of_it.0
begun-more (System number m o) before e reading of_it = absurd of_it
begun-more (Dropped x) before e reading of_it = ap (λ y. begun before ++ y ∷ []) of_it

-- an envelope, whose acts are carried out
pub leaves-envelope : (actor : ActorId) (c0 c1 c2 c3 : CellView) (e : Envelope) (before mid after : List MailboxView) → IsInRun actor c0 before →
    c1 ≡ record c0 { is_ready = c1.is_ready } → GivesTo (marks_of before) (marks_of mid) actor.0 e → TakesEnvelope c1 c2 e 0 →
    c3 ≡ record c2 { acts = [] } → marks_of after ≡ marks_of mid → LeavesInRun actor c0 c3 before after
leaves-envelope actor c0 c1 c2 c3 e before mid after run ready gives took carried marks =
    let who = ap (λ (s : CellView). s.who) carried ∙ ap (λ (s : CellView). s.who) took.adds ∙ ap (λ (s : CellView). s.who) ready in
    let journal : c3.journal ≡ took.entry ∷ c0.journal =
    ap (λ (s : CellView). s.journal) carried ∙ ap (λ (s : CellView). s.journal) took.adds ∙ ap (λ (s : CellView). took.entry ∷ s.journal) ready in
    let is = given-mark actor c0 before (marks_of mid) e run gives in
    let all = ap begun journal ∙ begun-more took.entry c0.journal e 0 took.of_it in
    let mark : (gives.actor, gives.before ++ e ∷ []) ≡ cell_mark c3 =
    λ i. ((is.0 ∙ ap (λ w. w.this) (sym who)) i, (ap (λ l. l ++ e ∷ []) is.1 ∙ sym all) i) in
    let set = marks ∙ gives.is ∙ ap (slice_set (marks_of before) actor.0) mark in record {
      continues = record { same = who; added = took.entry ∷ []; extends = journal };
      run = record {
        own = ap (λ w. w.this) who ∙ run.own;
        carried_out = ap (λ (s : CellView). s.acts) carried;
        begun = ap (λ l. slice_get l actor.0) set ∙ there-set (marks_of before) actor.0 (cell_mark c0) (cell_mark c3) run.begun;
      };
      others = set;
    }
