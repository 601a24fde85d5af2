-- All ways on from a system, and from one that is alike.
use Rattle.std.proofs.Common.{ℕ, ◌+◌, ◌≤◌, List, [], ◌∷◌, ◌++◌, map, refl, sym, subst, ◌∙◌, arith}
use Rattle.std.specs.Prelude.{ℤ}
use Rattle.mb_actor.specs.Behaviour.{Moment, Reply}
use Rattle.mb_actor.specs.declared.message.Message.{Message}
use Rattle.mb_msg.specs.declared.order.Order.{Order}
use Rattle.mb_world.specs.Alike.{IsAlike}
use Rattle.mb_world.specs.Choices.{HasLeft, IsPossible}
use Rattle.mb_world.specs.World.{IsStart, Sender, WorldView}
use Rattle.mb_world.specs.declared.choice.Choice.{Choice}
use Rattle.mb_world.specs.declared.choice.Choice.TheVariants.{Send, Run}
use Rattle.mb_explore.specs.Orders.{LeadsTo}
use Rattle.mb_explore.specs.Outcomes.{AllEndIn}
use Rattle.mb_explore.specs.Outcomes.AllEndIn.{ends, goes_on as goes_on_so}
use Rattle.mb_explore.specs.Search.{GoesOn}
use Rattle.mb_explore.specs.Ways.{AllEndAtStart, AllEndFrom, IsFoundWithin}
use Rattle.mb_explore.specs.Ways.AllEndFrom.{is_over, goes_on}
use Rattle.mb_explore.proofs.OrderLemmas.{contains-map, leads-more}
use Rattle.mb_explore.proofs.PartLemmas.{in_place_of, leads-in-place, possible-in-place, start-in-place, steps-alike}

pub alike-back : (a b : WorldView) → IsAlike a b → IsAlike b a
alike-back a b is = record {
  journals = sym is.journals;
  contents = sym is.contents;
  senders = sym is.senders;
  answered = sym is.answered;
  registered = λ actor. ((is.registered actor).1, (is.registered actor).0);
}

pub alike-on : (a b c : WorldView) → IsAlike a b → IsAlike b c → IsAlike a c
alike-on a b c is then = record {
  journals = is.journals ∙ then.journals;
  contents = is.contents ∙ then.contents;
  senders = is.senders ∙ then.senders;
  answered = is.answered ∙ then.answered;
  registered = λ actor.
      (λ here. (then.registered actor).0 ((is.registered actor).0 here), λ there. (is.registered actor).1 ((then.registered actor).1 there));
}

-- the same steps are possible in systems that are alike
pub possible-alike : (a b : WorldView) (choice : Choice) → IsAlike a b → IsPossible a choice → IsPossible b choice
possible-alike a b (Send sender) is possible = subst (λ (l : List Sender). HasLeft l sender) is.senders possible
possible-alike a b (Run actor) is possible = (is.registered actor).0 possible

pub found-longer : (found : List (List ℕ × List Choice)) (text : List ℕ) (m n : ℕ) → m ≤ n → IsFoundWithin found text m → IsFoundWithin found text n
found-longer found text m n most is =
    record { order = is.order; there = is.there; short = let short = is.short in omega (arith, most, short) }

module _ (after : ℕ → List Message → ℤ) (gives : ℕ → Moment → Reply → Type 0) (names : List (List ℕ)) (found : List (List ℕ × List Choice)) where
  -- more steps led there
  pub ways-longer : (m n : ℕ) (world : WorldView) → m ≤ n → AllEndFrom after gives names found m world → AllEndFrom after gives names found n world
  ways-longer m n world most (is_over _ _ text over told there) = is_over n world text over told (found-longer found text m n most there)
  ways-longer m n world most (goes_on _ _ some possible near next alike made on) =
      goes_on n world some possible near next alike made
      (λ choice is. ways-longer (m + 1) (n + 1) (next choice is) (omega (arith, most)) (on choice is))

  -- a system that is alike, in which some step is possible
  pub ways-alike : (steps : ℕ) (a b : WorldView) → IsAlike a b → GoesOn b → AllEndFrom after gives names found steps a →
      AllEndFrom after gives names found steps b
  ways-alike steps a b alike some (is_over _ _ text over told there) =
      absurd (over some.0 (possible-alike b a some.0 (alike-back a b alike) some.1))
  ways-alike steps a b alike some (goes_on _ _ other possible near next near_alike made on) =
      goes_on steps b some.0 some.1
      (λ choice is. near choice (possible-alike b a choice (alike-back a b alike) is))
      (λ choice is. next choice (possible-alike b a choice (alike-back a b alike) is))
      (λ choice is. alike-on _ a b (near_alike choice (possible-alike b a choice (alike-back a b alike) is)) alike)
      (λ choice is. made choice (possible-alike b a choice (alike-back a b alike) is))
      (λ choice is. on choice (possible-alike b a choice (alike-back a b alike) is))

  -- each order of steps ends in one of the texts
  pub orders-end : (count : ℕ) (orders : List (List Order)) (first : WorldView) (order : List Choice) (world : WorldView) (steps : ℕ) →
      IsStart count orders first → LeadsTo first order world → AllEndFrom after gives names found steps world →
      AllEndIn (IsStart count orders) after gives names (map (λ (f : List ℕ × List Choice). f.0) found) order
  orders-end count orders first order world steps starts leads (is_over _ _ text over told there) =
      ends order text
      (record {
        first = first;
        last = world;
        starts_so = starts;
        leads = leads;
        over = over;
        report = told.report;
        shown = told.shown;
        told = told.told;
      })
      (contains-map (λ (f : List ℕ × List Choice). f.0) found (text, there.order) there.there)
  orders-end count orders first order world steps starts leads (goes_on _ _ some possible near next alike made on) =
      goes_on_so order first world starts leads some possible
      (λ choice is.
      let model = near choice is in
      orders-end count orders (in_place_of model first) (order ++ choice ∷ []) (next choice is) (steps + 1)
      (start-in-place count orders model first starts)
      (leads-more (in_place_of model first) (in_place_of model world) (next choice is) order choice (leads-in-place model first order world leads)
      (possible-in-place model world choice is) (steps-alike model world choice (next choice is) (alike choice is) (made choice is)))
      (on choice is))

  -- so does the order of no step
  pub start-ends-in : (count : ℕ) (orders : List (List Order)) → AllEndAtStart after gives names (IsStart count orders) found →
      AllEndIn (IsStart count orders) after gives names (map (λ (f : List ℕ × List Choice). f.0) found) []
  start-ends-in count orders is = orders-end count orders is.first [] is.first 0 is.starts_so refl is.all_end
