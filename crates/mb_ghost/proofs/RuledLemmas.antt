-- A step at one place keeps the rule of the table.
use Rattle.std.proofs.Common.{
  ◌≡◌,
  ◌≢◌,
  ℕ,
  ◌+◌,
  ◌*◌,
  ◌<◌,
  ◌==◌,
  List,
  [],
  ◌∷◌,
  ◌++◌,
  length,
  get_or,
  set,
  sym,
  refl,
  ap,
  ◌∙◌,
  subst,
  arith,
  length-set,
}
use mathlib.Core.Logic.{dite}
use mathlib.Core.Option.{Option, none, some}
use native.Mathlib.Decide.{ℕ_discrete}
use lib.ListN.{get_elem?}
use Rattle.atomic_table.specs.Table.{State, Me, Act, keeps, takes, gives, carried_after, homes_after, put_back, stepped}
use Rattle.atomic_table.specs.Table.{Valid, Allows, Splits, Joins}
use Rattle.atomic_table.proofs.Lists.{set_else}
use Rattle.std.proofs.Common.{get_or-set_other}
use Rattle.mb_ghost.specs.Layout.{word_at, slot_at, Spot, spot_of, write, fill, put}
use Rattle.mb_ghost.specs.Ruled.{Ruled, SlotStep, stays, takes_from, gives_to, act_of, IsAble, slot_after, RuledStep}
use Rattle.mb_ghost.proofs.LayoutLemmas.{put_here, put_else, words_apart, slots_apart, word_inside, slot_inside, set_word, set_slot, same_spot}

module _ {W P S G V : Type 0} (word_offset : W → ℕ) (slot_offset : P → ℕ) (words_few : (w : W) → word_offset w < 32) (slots_few : (p : P) →
    slot_offset p < 2) (places : ℕ) (Fact : ℕ → Spot W P S G → List V → Type 0) where
  abbrev Rule : State S V → Type 0
  Rule = Ruled word_offset slot_offset places Fact

  abbrev At : State S V → (ℕ → G) → ℕ → Spot W P S G
  At = spot_of word_offset slot_offset

  -- the slots after a step at the place: as many, those of other places as they were, and its own as the step leaves them
  pub record Homes (homes homes' : List (Option S)) (place : ℕ) (slot' : P → Option (Option S)) : Type 0 where
    pub long : length homes' ≡ length homes
    pub mine : (p : P) → get_elem? homes' (slot_at place (slot_offset p)) ≡ slot' p
    pub others : (a : ℕ) (p : P) → a ≢ place → get_elem? homes' (slot_at a (slot_offset p)) ≡ get_elem? homes (slot_at a (slot_offset p))

  homes_set : (homes : List (Option S)) (place : ℕ) (p : P) (x : Option S) → place < places → length homes ≡ 2 * places
      → Homes homes (set homes (slot_at place (slot_offset p)) x) place (fill slot_offset (λ q. get_elem? homes (slot_at place (slot_offset q))) p x)
  homes_set homes place p x inside deep = record {
    long = length-set homes (slot_at place (slot_offset p)) x;
    mine = λ q. set_slot homes place (slot_offset p) (slot_offset q) x (let l = slot_inside place (slot_offset p) places (slots_few p) inside in
        omega arith);
    others = λ a q n. set_else homes (slot_at place (slot_offset p)) (slot_at a (slot_offset q)) x (slots_apart a place (slot_offset q)
        (slot_offset p) (slots_few q) (slots_few p) n);
  }

  homes_done : (homes : List (Option S)) (carried : List (ℕ × S)) (place : ℕ) (d : SlotStep P S) → place < places → length homes ≡ 2 * places
      → IsAble slot_offset place (λ q. get_elem? homes (slot_at place (slot_offset q))) carried d
      → Homes homes (homes_after homes carried (act_of slot_offset place d)) place (slot_after slot_offset (λ q. get_elem? homes (slot_at place
      (slot_offset q))) d)
  homes_done homes carried place stays inside deep able = record { long = refl; mine = λ q. refl; others = λ a q n. refl }
  homes_done homes carried place (takes_from p x) inside deep able = homes_set homes place p none inside deep
  homes_done homes carried place (gives_to p x) inside deep able =
      subst (λ c. Homes homes (put_back homes c) place (fill slot_offset (λ q. get_elem? homes (slot_at place (slot_offset q))) p (some x))) (sym
      able.1) (homes_set homes place p (some x) inside deep)

  valid_done : (homes : List (Option S)) (carried : List (ℕ × S)) (place : ℕ) (d : SlotStep P S)
      → IsAble slot_offset place (λ q. get_elem? homes (slot_at place (slot_offset q))) carried d → Valid homes carried (act_of slot_offset place d)
  valid_done homes carried place stays able = tt
  valid_done homes carried place (takes_from p x) able = able
  valid_done homes carried place (gives_to p x) able = tt

  at_place : (s : State S V) (ghosts : ℕ → G) (place : ℕ) → place < places → length s.words ≡ 32 * places → (name : W) (n : ℕ) (g : G) (homes' :
      List (Option S)) (slot' : P → Option (Option S)) (vs' : List V)
      → Homes s.homes homes' place slot'
      → At record { words = set s.words (word_at place (word_offset name)) n; homes = homes'; views = vs' } (put ghosts place g) place
      ≡ record { row = write word_offset (At s ghosts place).row name n; slot = slot'; ghost = g }
  at_place s ghosts place inside wide name n g homes' slot' vs' moved = same_spot _ _
      (λ i w. set_word s.words place (word_offset name) (word_offset w) n (let l = word_inside place (word_offset name) places (words_few name)
      inside in omega arith) i)
      (λ i p. moved.mine p i)
      (put_here ghosts place g)

  elsewhere : (s : State S V) (ghosts : ℕ → G) (place : ℕ) (name : W) (n : ℕ) (g : G) (homes' : List (Option S)) (slot' : P → Option (Option S))
      (vs' : List V)
      → Homes s.homes homes' place slot' → (a : ℕ) → a ≢ place
      → At record { words = set s.words (word_at place (word_offset name)) n; homes = homes'; views = vs' } (put ghosts place g) a ≡ At s ghosts a
  elsewhere s ghosts place name n g homes' slot' vs' moved a other = same_spot _ _
      (λ i w. get_or-set_other s.words (word_at place (word_offset name)) (word_at a (word_offset w)) n 0 (words_apart a place (word_offset w)
      (word_offset name) (words_few w) (words_few name) other) i)
      (λ i p. moved.others a p other i)
      (put_else ghosts place g a other)

  -- one place changes: a word of it, its slots, its ghost state, and the views
  pub changes : (s : State S V) (r : Rule s) (place : ℕ) → place < places → (name : W) (n : ℕ) (g : G) (homes' : List (Option S)) (slot' : P →
      Option (Option S)) (vs' : List V)
      → Homes s.homes homes' place slot'
      → Fact place (record { row = write word_offset (At s r.ghosts place).row name n; slot = slot'; ghost = g }) vs'
      → ((a : ℕ) → a ≢ place → (y : Spot W P S G) → Fact a y s.views → Fact a y vs')
      → Rule record { words = set s.words (word_at place (word_offset name)) n; homes = homes'; views = vs' }
  changes s r place inside name n g homes' slot' vs' moved here others = record {
    ghosts = put r.ghosts place g;
    word_count = length-set s.words (word_at place (word_offset name)) n ∙ r.word_count;
    slot_count = moved.long ∙ r.slot_count;
    each = λ a l. dite (ℕ_discrete a place)
        (λ e. subst (λ z. Fact z (At record { words = set s.words (word_at place (word_offset name)) n; homes = homes'; views = vs' } (put
        r.ghosts place g) z) vs') (sym e)
        (subst (λ y. Fact place y vs') (sym (at_place s r.ghosts place inside r.word_count name n g homes' slot' vs' moved)) here))
        (λ other. subst (λ y. Fact a y vs') (sym (elsewhere s r.ghosts place name n g homes' slot' vs' moved a other)) (others a other (At s
        r.ghosts a) (r.each a l)));
  }

  -- a step of one place is a step of the table
  pub allows : (slots id : ℕ) (me : Me S V) (place : ℕ) (name : W) (f : ℕ → ℕ) (then : ℕ → Me S V → Type 0) → place < places
      → ((x : Spot W P S G) (vs : List V) → Fact place x vs → get_elem? vs id ≡ some me.0 → x.row name < 18446744073709551616
      → RuledStep word_offset slot_offset Fact place id me name (f (x.row name)) (then (x.row name)) x vs)
      → Allows Rule slots id me (word_at place (word_offset name)) f then
  allows slots id me place name f then inside step s r deep at fits =
      let x = At s r.ghosts place in
      let g = step x s.views (r.each place inside) at fits in (
        g.view,
        act_of slot_offset place g.slot_step,
        valid_done s.homes me.1 place g.slot_step g.is_able,
        changes s r place inside name (f (x.row name)) g.kept (homes_after s.homes me.1 (act_of slot_offset place g.slot_step))
            (slot_after slot_offset x.slot g.slot_step) (set s.views id g.view)
            (homes_done s.homes me.1 place g.slot_step inside r.slot_count g.is_able) g.holds g.others,
        g.tells,
      )

  -- a view is cut in two
  pub splits : (id : ℕ) (v left right : V)
      → ((a : ℕ) (x : Spot W P S G) (vs : List V) → get_elem? vs id ≡ some v → Fact a x vs → Fact a x (set vs id left ++ right ∷ []))
      → Splits Rule id v left right
  splits id v left right step s r at = record {
    ghosts = r.ghosts;
    word_count = r.word_count;
    slot_count = r.slot_count;
    each = λ a l. step a (At s r.ghosts a) s.views at (r.each a l);
  }

  -- a seat takes over another's view
  pub joins : (id : ℕ) (v : V) (other : ℕ) (w both spent : V)
      → ((a : ℕ) (x : Spot W P S G) (vs : List V) → get_elem? vs id ≡ some v → ¬ (other ≡ id) → get_elem? (set vs id both) other ≡ some w → Fact
      a x vs → Fact a x (set (set vs id both) other spent))
      → Joins Rule id v other w both spent
  joins id v other w both spent step s r at apart there = record {
    ghosts = r.ghosts;
    word_count = r.word_count;
    slot_count = r.slot_count;
    each = λ a l. step a (At s r.ghosts a) s.views at apart there (r.each a l);
  }
