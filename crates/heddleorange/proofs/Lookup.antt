-- Looking a name up, and copying names, one after the other.
use Rattle.std.proofs.Common.{◌≡◌, ℕ, zero, suc, ◌+◌, ◌-◌, ◌<◌, ◌≤◌, Bool, true, false, cond, List, [], ◌∷◌, ◌++◌, Option, None, Some, drop, get_or, length, String, string_bytes}
use Rattle.std.proofs.Common.{ap, arith, refl, sym, ◌∙◌, option_map, slice_get}
use Rattle.std.proofs.lemmas.List.{append_assoc, drop_more, map-append}
use Rattle.std.proofs.lemmas.Option.{slice_get-get_or, slice_get-map, slice_get_past}
use Rattle.std.specs.Global.{Global}
use Rattle.std.specs.List.{position_from}
use Rattle.heddleorange.specs.Names.{names_by_number, texts_of}

module _ (texts : List (String Global)) (place : ℕ) (text : String Global) (within : place < length texts) (at : text ≡ get_or texts place text) where
  -- the names from a place on are the one there, and those behind it
  from-there : texts_of (drop place texts) ≡ string_bytes text ∷ texts_of (drop (place + 1) texts)
  from-there =
      ap texts_of (drop_more texts place text within)
      ∙ ap (λ (t : String Global). string_bytes t ∷ texts_of (drop (place + 1) texts)) (sym at)

  module _ (test : List ℕ → Bool) (i : ℕ) (whole : Option ℕ) (before : position_from test i (texts_of (drop place texts)) ≡ whole) where
    one-more : cond (test (string_bytes text)) (Some i) (position_from test (i + 1) (texts_of (drop (place + 1) texts))) ≡ whole
    one-more = sym (ap (position_from test i) from-there) ∙ before

    -- it is found there
    pub found-there : test (string_bytes text) ≡ true → Some i ≡ whole
    found-there passes =
        sym (ap (λ b. cond b (Some i) (position_from test (i + 1) (texts_of (drop (place + 1) texts)))) passes) ∙ one-more

    -- it is sought behind it
    pub not-there : test (string_bytes text) ≡ false → position_from test (i + 1) (texts_of (drop (place + 1) texts)) ≡ whole
    not-there fails =
        sym (ap (λ b. cond b (Some i) (position_from test (i + 1) (texts_of (drop (place + 1) texts)))) fails) ∙ one-more

  -- one name more is copied
  pub one-copied : (done more : List (String Global)) (copy : String Global) → string_bytes copy ≡ string_bytes text → more ≡ done ++ copy ∷ []
      → texts_of done ++ texts_of (drop place texts) ≡ texts_of texts → texts_of more ++ texts_of (drop (place + 1) texts) ≡ texts_of texts
  one-copied done more copy same pushed before =
      let rest : List (List ℕ) = texts_of (drop (place + 1) texts) in
      ap (λ (ts : List (String Global)). texts_of ts ++ rest) pushed
      ∙ ap (λ (ts : List (List ℕ)). ts ++ rest) (map-append string_bytes done (copy ∷ []))
      ∙ append_assoc (texts_of done) (string_bytes copy ∷ []) rest
      ∙ ap (λ (t : List ℕ). texts_of done ++ t ∷ rest) same
      ∙ ap (λ (ts : List (List ℕ)). texts_of done ++ ts) (sym from-there)
      ∙ before

module _ (texts : List (String Global)) where
  -- the name of an actor beside the guardian is the text at its place, if there is one
  later : (id : ℕ) → (id ≡ 0 → ⊥) → slice_get (names_by_number texts) id ≡ option_map string_bytes (slice_get texts (id - 1))
  later zero other = absurd (other refl)
  later (suc place) other =
      let same : place ≡ suc place - 1 = omega arith in
      slice_get-map string_bytes texts place ∙ ap (λ (n : ℕ). option_map string_bytes (slice_get texts n)) same

  pub name-there : (id : ℕ) (default : String Global) (text : List ℕ) → (id ≡ 0 → ⊥) → id - 1 < length texts
      → text ≡ string_bytes (get_or texts (id - 1) default) → Some text ≡ slice_get (names_by_number texts) id
  name-there id default text other within is =
      ap Some is ∙ sym (later id other ∙ ap (option_map string_bytes) (slice_get-get_or texts (id - 1) default within))

  pub no-name : (id : ℕ) → (id ≡ 0 → ⊥) → length texts ≤ id - 1 → None ≡ slice_get (names_by_number texts) id
  no-name id other past = sym (later id other ∙ ap (option_map string_bytes) (slice_get_past texts (id - 1) past))
