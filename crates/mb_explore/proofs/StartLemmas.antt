-- How a system begins.
use Rattle.std.proofs.Common.{◌≡◌, ℕ, ℤ, ◌+◌, List, [], ◌∷◌, map, length, sym, ap, subst, ◌∙◌}
use Rattle.std.specs.List.{All}
use Rattle.mb_actor.specs.Behaviour.{AllowsSame, Moment, Reply}
use Rattle.mb_actor.specs.declared.message.Message.{Message}
use Rattle.mb_cell.specs.CellView.{CellView}
use Rattle.mb_msg.specs.declared.order.Order.{Order}
use Rattle.mb_world.specs.Behaves.{BehaveFrom}
use Rattle.mb_world.specs.World.{IsStart, Sender, WorldView}

-- the same is said of the actors in other words
pub behave-as : {A : Type 0} (content : A → ℤ) (after : A → List Message → ℤ) (gives : A → Moment → Reply → Type 0)
    (said_after other_after : ℕ → List Message → ℤ) (said_gives other_gives : ℕ → Moment → Reply → Type 0) → other_after ≡ said_after →
    ((n : ℕ) → AllowsSame (said_gives n) (other_gives n)) → (number : ℕ) (actors : List A) →
    BehaveFrom content after gives said_after said_gives number actors → BehaveFrom content after gives other_after other_gives number actors
behave-as content after gives said_after other_after said_gives other_gives same allow number [] behave = tt
behave-as content after gives said_after other_after said_gives other_gives same allow number (actor ∷ actors) behave = (
  record {
    unused = behave.0.unused;
    behaves = behave.0.behaves ∙ ap (λ (f : ℕ → List Message → ℤ). f number) (sym same);
    allows = λ m r.
        (λ here. (allow number m r).0 ((behave.0.allows m r).0 here), λ there. (behave.0.allows m r).1 ((allow number m r).1 there));
  },
  behave-as content after gives said_after other_after said_gives other_gives same allow (number + 1) actors behave.1,
)

-- nothing came to a system whose cells and senders are those of a new one
pub start-stays : (count : ℕ) (orders : List (List Order)) (old new : WorldView) → IsStart count orders old → new.cells ≡ old.cells →
    new.senders ≡ old.senders → IsStart count orders new
start-stays count orders old new is cells senders = record {
  same_count = ap length cells ∙ is.same_count;
  fresh = subst (λ (l : List CellView). All (λ (c : CellView). c.journal ≡ []) l) (sym cells) is.fresh;
  unsent = subst (λ (l : List Sender). All (λ (s : Sender). (s.place ≡ 0) × (s.done ≡ 0)) l) (sym senders) is.unsent;
  as_many = ap length senders ∙ is.as_many;
  own = ap (map (λ (s : Sender). s.orders)) senders ∙ is.own;
}
