-- What one more actor, and one step, make of a system.
use Rattle.std.proofs.Common.{◌≡◌, ℕ, zero, suc, ◌+◌, ◌<◌, List, [], ◌∷◌, ◌++◌, length, map, refl, sym, ap, subst, ◌∙◌, arith}
use Rattle.std.specs.Prelude.{Some, slice_get, slice_set, option_map}
use Rattle.std.proofs.lemmas.List.{length_push, length-set, map-append, map-set}
use Rattle.std.proofs.lemmas.List.Elements.{All-get_or, All-nil, All-push, All-set}
use Rattle.std.proofs.lemmas.Option.{get_or_from_slice_get, slice_get-map, slice_get_within}
use Rattle.mb_msg.specs.declared.id.ActorId.{ActorId}
use Rattle.mb_journal.specs.Fates.{begun}
use Rattle.mb_cell.specs.CellView.{CellView}
use Rattle.mb_world.specs.Dispatched.{cell_mark, mark_of, marks_of}
use Rattle.mb_world.specs.MailboxView.{MailboxView}
use Rattle.mb_world.specs.Running.{IsInRun, LeavesInRun}
use Rattle.mb_world.specs.World.{AreNumberedFrom, IsAtRest, IsNew}

-- ---- the numbers of cells

pub numbered-push : (n : ℕ) (cells : List CellView) (c : CellView) → AreNumberedFrom n cells → c.who.this.0 ≡ n + length cells →
    AreNumberedFrom n (cells ++ c ∷ [])
numbered-push n [] c all is = (omega (arith, is), tt)
numbered-push n (x ∷ cells) c all is = (all.0, numbered-push (n + 1) cells c all.1 (omega (arith, is)))

pub numbered-get : (n : ℕ) (cells : List CellView) (i : ℕ) (c : CellView) → AreNumberedFrom n cells → slice_get cells i ≡ Some c → c.who.this.0 ≡ n + i
numbered-get n [] i c all is = absurd (cc is)
numbered-get n (x ∷ cells) zero c all is =
    let same : x ≡ c = cc in let here = ap (λ (s : CellView). s.who.this.0) same in let first = all.0 in omega (arith, here, first)
numbered-get n (x ∷ cells) (suc i) c all is = let later = numbered-get (n + 1) cells i c all.1 is in omega (arith, later)

pub numbered-set : (n : ℕ) (cells : List CellView) (i : ℕ) (c : CellView) → AreNumberedFrom n cells → c.who.this.0 ≡ n + i →
    AreNumberedFrom n (slice_set cells i c)
numbered-set n [] i c all is = tt
numbered-set n (x ∷ cells) zero c all is = (omega (arith, is), all.1)
numbered-set n (x ∷ cells) (suc i) c all is = (all.0, numbered-set (n + 1) cells i c all.1 (omega (arith, is)))

-- ---- one cell more

pub rest-push : (cells : List CellView) (mailboxes : List MailboxView) (c : CellView) (m : MailboxView) → IsAtRest cells mailboxes → length cells < 64 →
    c.who.this.0 ≡ length cells → c.acts ≡ [] → mark_of m ≡ cell_mark c → IsAtRest (cells ++ c ∷ []) (mailboxes ++ m ∷ [])
rest-push cells mailboxes c m rest few here acts mark = record {
  few = let longer = length_push cells c in omega (arith, longer, few);
  numbered = numbered-push 0 cells c rest.numbered (omega (arith, here));
  carried_out = All-push (λ (x : CellView). x.acts ≡ []) cells c rest.carried_out acts;
  begun = map-append mark_of mailboxes (m ∷ [])
      ∙ ap (λ l. l ++ mark_of m ∷ []) rest.begun
      ∙ ap (λ x. map cell_mark cells ++ x ∷ []) mark
      ∙ sym (map-append cell_mark cells (c ∷ []));
}

-- ---- one run

-- a cell at rest may be run
pub run-begins : (cells : List CellView) (mailboxes : List MailboxView) (actor : ActorId) (c : CellView) → IsAtRest cells mailboxes →
    slice_get cells actor.0 ≡ Some c → IsInRun actor c mailboxes
run-begins cells mailboxes actor c rest is = record {
  own = let number = numbered-get 0 cells actor.0 c rest.numbered is in let same : c.who.this.0 ≡ actor.0 = omega (arith, number) in
      λ i. record { 0 = same i };
  carried_out = subst (λ (x : CellView). x.acts ≡ []) (get_or_from_slice_get cells actor.0 c c is)
      (All-get_or (λ (x : CellView). x.acts ≡ []) cells actor.0 c (slice_get_within cells actor.0 c is) rest.carried_out);
  begun = ap (λ l. slice_get l actor.0) rest.begun ∙ slice_get-map cell_mark cells actor.0 ∙ ap (option_map cell_mark) is;
}

-- and after the run all are at rest
pub run-ends : (cells : List CellView) (before after : List MailboxView) (actor : ActorId) (c new : CellView) → IsAtRest cells before →
    slice_get cells actor.0 ≡ Some c → LeavesInRun actor c new before after → IsAtRest (slice_set cells actor.0 new) after
run-ends cells before after actor c new rest is leaves = record {
  few = let same = length-set cells actor.0 new in let few = rest.few in omega (arith, same, few);
  numbered = numbered-set 0 cells actor.0 new rest.numbered
      (let own = ap (λ (x : ActorId). x.0) leaves.run.own in omega (arith, own));
  carried_out = All-set (λ (x : CellView). x.acts ≡ []) cells actor.0 new leaves.run.carried_out rest.carried_out;
  begun = leaves.others ∙ ap (λ l. slice_set l actor.0 (cell_mark new)) rest.begun ∙ sym (map-set cell_mark cells actor.0 new);
}

-- of mailboxes only the marks count
pub rest-still : (cells : List CellView) (before after : List MailboxView) → IsAtRest cells before → marks_of after ≡ marks_of before →
    IsAtRest cells after
rest-still cells before after rest marks = record {
  few = rest.few;
  numbered = rest.numbered;
  carried_out = rest.carried_out;
  begun = marks ∙ rest.begun;
}

-- one more actor, to which nothing came yet
pub new-push : (n : ℕ) (cells : List CellView) (mailboxes : List MailboxView) (c : CellView) (m : MailboxView) → IsNew n cells mailboxes →
    length cells < 64 → c.journal ≡ [] → c.acts ≡ [] → c.who.this.0 ≡ length cells → m.actor ≡ c.who.this → m.given ≡ [] →
    IsNew (length cells + 1) (cells ++ c ∷ []) (mailboxes ++ m ∷ [])
new-push n cells mailboxes c m is few journal acts here own none = record {
  same_count = length_push cells c;
  fresh = All-push (λ (x : CellView). x.journal ≡ []) cells c is.fresh journal;
  rest = rest-push cells mailboxes c m is.rest few here acts (λ i. (own i, (none ∙ ap begun (sym journal)) i));
}

-- none yet
pub new-none : IsNew 0 [] []
new-none = record {
  same_count = refl;
  fresh = All-nil (λ (x : CellView). x.journal ≡ []);
  rest = record { few = omega arith; numbered = tt; carried_out = All-nil (λ (x : CellView). x.acts ≡ []); begun = refl };
}
