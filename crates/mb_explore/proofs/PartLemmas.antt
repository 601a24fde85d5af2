-- A run of a system whose journals are those of another, in the other's place.
use Rattle.std.proofs.Common.{◌≡◌, ℕ, zero, suc, List, [], ◌∷◌, length, map, refl, sym, ap, subst, ◌∙◌}
use Rattle.std.specs.Prelude.{Some, slice_get, slice_set}
use Rattle.std.specs.List.{All}
use Rattle.std.proofs.lemmas.List.Elements.{All-cons, All-head, All-nil, All-tail}
use Rattle.mb_cell.specs.CellView.{CellView}
use Rattle.mb_msg.specs.declared.order.Order.{Order}
use Rattle.mb_world.specs.Alike.{IsAlike, journal_of}
use Rattle.mb_world.specs.Choices.{IsPossible}
use Rattle.mb_world.specs.Running.{Continues}
use Rattle.mb_world.specs.World.{IsStart, SendsOnce, Steps, WorldView}
use Rattle.mb_world.specs.declared.choice.Choice.{Choice}
use Rattle.mb_world.specs.declared.choice.Choice.TheVariants.{Send, Run}
use Rattle.mb_explore.specs.Orders.{LeadsTo}

-- the model of a cell, with the cell's journal
abbrev pub with_journals : List CellView → List CellView → List CellView
with_journals [] cells = cells
with_journals (m ∷ models) [] = []
with_journals (m ∷ models) (c ∷ cells) = record m { journal = c.journal } ∷ with_journals models cells

abbrev pub at_place : List CellView → ℕ → CellView → CellView
at_place [] i c = c
at_place (m ∷ models) zero c = record m { journal = c.journal }
at_place (m ∷ models) (suc i) c = at_place models i c

-- the system with the cells of a model, and its own journals
abbrev pub in_place_of : WorldView → WorldView → WorldView
in_place_of model world = record world { cells = with_journals model.cells world.cells }

get-journals : (models cells : List CellView) (i : ℕ) (c : CellView) → slice_get cells i ≡ Some c →
    slice_get (with_journals models cells) i ≡ Some (at_place models i c)
get-journals [] cells i c is = is
get-journals (m ∷ models) [] i c is = absurd (cc is)
get-journals (m ∷ models) (x ∷ cells) zero c is =
    let same : x ≡ c = cc in ap (λ (y : CellView). Some (record m { journal = y.journal })) same
get-journals (m ∷ models) (x ∷ cells) (suc i) c is = get-journals models cells i c is

set-journals : (models cells : List CellView) (i : ℕ) (c : CellView) →
    with_journals models (slice_set cells i c) ≡ slice_set (with_journals models cells) i (at_place models i c)
set-journals [] cells i c = refl
set-journals (m ∷ models) [] i c = refl
set-journals (m ∷ models) (x ∷ cells) zero c = refl
set-journals (m ∷ models) (x ∷ cells) (suc i) c = ap (λ l. record m { journal = x.journal } ∷ l) (set-journals models cells i c)

continues-in-place : (models : List CellView) (i : ℕ) (before after : CellView) → Continues before after →
    Continues (at_place models i before) (at_place models i after)
continues-in-place [] i before after is = is
continues-in-place (m ∷ models) zero before after is = record { same = refl; added = is.added; extends = is.extends }
continues-in-place (m ∷ models) (suc i) before after is = continues-in-place models i before after is

length-journals : (models cells : List CellView) → length (with_journals models cells) ≡ length cells
length-journals [] cells = refl
length-journals (m ∷ models) [] = refl
length-journals (m ∷ models) (c ∷ cells) = ap suc (length-journals models cells)

abbrev IsFresh : CellView → Type 0
IsFresh c = c.journal ≡ []

fresh-in-place : (models cells : List CellView) → All IsFresh cells → All IsFresh (with_journals models cells)
fresh-in-place [] cells all = all
fresh-in-place (m ∷ models) [] all = All-nil IsFresh
fresh-in-place (m ∷ models) (c ∷ cells) all =
    All-cons IsFresh (record m { journal = c.journal }) (with_journals models cells) (All-head IsFresh c cells all)
    (fresh-in-place models cells (All-tail IsFresh c cells all))

-- with the same journals it is the model
same-in-place : (models cells : List CellView) → map journal_of models ≡ map journal_of cells → with_journals models cells ≡ models
same-in-place [] [] same = refl
same-in-place [] (c ∷ cells) same = absurd (cc same)
same-in-place (m ∷ models) [] same = absurd (cc same)
same-in-place (m ∷ models) (c ∷ cells) same =
    let here : m.journal ≡ c.journal = cc in let later : map journal_of models ≡ map journal_of cells = cc in
    λ i. record m { journal = sym here i } ∷ same-in-place models cells later i

pub start-in-place : (count : ℕ) (orders : List (List Order)) (model world : WorldView) → IsStart count orders world →
    IsStart count orders (in_place_of model world)
start-in-place count orders model world is = record {
  same_count = length-journals model.cells world.cells ∙ is.same_count;
  fresh = fresh-in-place model.cells world.cells is.fresh;
  unsent = is.unsent;
  as_many = is.as_many;
  own = is.own;
}

pub possible-in-place : (model world : WorldView) (choice : Choice) → IsPossible world choice → IsPossible (in_place_of model world) choice
possible-in-place model world (Send sender) possible = possible
possible-in-place model world (Run actor) possible = possible

steps-in-place : (model old : WorldView) (choice : Choice) (new : WorldView) → Steps old choice new →
    Steps (in_place_of model old) choice (in_place_of model new)
steps-in-place model old (Send sender) new made = (made.0, ap (with_journals model.cells) made.1)
steps-in-place model old (Run actor) new made = (
  record {
    before = at_place model.cells actor.0 made.0.before;
    after = at_place model.cells actor.0 made.0.after;
    was = get-journals model.cells old.cells actor.0 made.0.before made.0.was;
    continues = continues-in-place model.cells actor.0 made.0.before made.0.after made.0.continues;
    others = ap (with_journals model.cells) made.0.others ∙ set-journals model.cells old.cells actor.0 made.0.after;
  },
  made.1,
)

pub leads-in-place : (model first : WorldView) (order : List Choice) (last : WorldView) → LeadsTo first order last →
    LeadsTo (in_place_of model first) order (in_place_of model last)
leads-in-place model first [] last leads = ap (in_place_of model) leads
leads-in-place model first (choice ∷ order) last leads = (
  in_place_of model leads.0,
  possible-in-place model first choice leads.1,
  steps-in-place model first choice leads.0 leads.2,
  leads-in-place model leads.0 order last leads.3,
)

-- a step speaks of the cells and the outside senders of the system in which it is made
steps-from : (old other : WorldView) (choice : Choice) (new : WorldView) → other.cells ≡ old.cells → other.senders ≡ old.senders →
    Steps old choice new → Steps other choice new
steps-from old other (Send sender) new cells senders made =
    (subst (λ l. SendsOnce l new.senders sender) (sym senders) made.0, made.1 ∙ sym cells)
steps-from old other (Run actor) new cells senders made = (
  record {
    before = made.0.before;
    after = made.0.after;
    was = ap (λ l. slice_get l actor.0) cells ∙ made.0.was;
    continues = made.0.continues;
    others = made.0.others ∙ ap (λ l. slice_set l actor.0 made.0.after) (sym cells);
  },
  made.1 ∙ sym senders,
)

-- a step that was made in a system that is alike
pub steps-alike : (near world : WorldView) (choice : Choice) (next : WorldView) → IsAlike near world → Steps near choice next →
    Steps (in_place_of near world) choice next
steps-alike near world choice next alike made =
    steps-from near (in_place_of near world) choice next (same-in-place near.cells world.cells alike.journals) (sym alike.senders) made
