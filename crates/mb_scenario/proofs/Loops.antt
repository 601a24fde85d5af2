-- One more turn of a loop that reads the items of an array.
use Rattle.std.proofs.Common.{◌≡◌, ℕ, ◌+◌, ◌<◌, ◌≤◌, List, [], ◌∷◌, ◌++◌, length, map, get_or, drop, add-one}
use Rattle.std.proofs.Common.{append-nil, append_assoc, ap, sym, ◌∙◌}
use Rattle.std.proofs.lemmas.List.{map-append}
use Rattle.std.proofs.Math.ListN.{drop_of_length-le}
use Rattle.std.proofs.Math.Seq.{drop-cons}
use Rattle.toml.specs.Data.{Data}
use Rattle.toml.specs.View.{view, items_view}
use Rattle.toml.specs.declared.value.Value.{Value}
use Rattle.mb_scenario.specs.Fields.{map_items}

next : (values : List Value) (index : ℕ) (value : Value) → index < length values →
    drop index values ≡ get_or values index value ∷ drop (index + 1) values
next values index value inside = rw add-one (drop-cons values index value inside)

-- at first nothing is read yet, and at last all are
pub none_read : {A : Type 0} (read : Data → A) (values : List Value) (rows : List A) → rows ≡ [] →
    rows ++ map_items read (items_view values) ≡ map_items read (items_view values)
none_read {A} read values rows none = ap (λ (rs : List A). rs ++ map_items read (items_view values)) none

pub all_read : {A : Type 0} (read : Data → A) (values : List Value) (index : ℕ) (rows whole : List A) → length values ≤ index →
    rows ++ map_items read (items_view (drop index values)) ≡ whole → rows ≡ whole
all_read read values index rows whole over so =
    sym (append-nil rows) ∙ ap (λ (vs : List Value). rows ++ map_items read (items_view vs)) (sym (drop_of_length-le values over)) ∙ so

-- what one item more is read as, and those that are left, are all
pub past_value :
    {A : Type 0} (read : Data → A) (values : List Value) (index : ℕ) (value : Value) (rows more : List A) (row : A) (whole : List A) →
    index < length values → value ≡ get_or values index value → row ≡ read (view value) → more ≡ rows ++ row ∷ [] →
    rows ++ map_items read (items_view (drop index values)) ≡ whole →
    more ++ map_items read (items_view (drop (index + 1) values)) ≡ whole
past_value {A} read values index value rows more row whole inside is made pushed so =
    let rest : List A = map_items read (items_view (drop (index + 1) values)) in
    let is_next : row ≡ read (view (get_or values index value)) = made ∙ ap (λ (v : Value). read (view v)) is in
    let left : map_items read (items_view (drop index values)) ≡ row ∷ rest =
    ap (λ (vs : List Value). map_items read (items_view vs)) (next values index value inside) ∙ ap (λ (r : A). r ∷ rest) (sym is_next) in
    ap (λ (rs : List A). rs ++ rest) pushed ∙ append_assoc rows (row ∷ []) rest ∙ ap (λ (rs : List A). rows ++ rs) (sym left) ∙ so

-- the same where what is kept of an item is seen as what it is read as
pub past_seen :
    {A B : Type 0} (see : B → A) (read : Data → A) (values : List Value) (index : ℕ) (value : Value) (rows more : List B) (row : B)
    (whole : List A) → index < length values → value ≡ get_or values index value → see row ≡ read (view value) → more ≡ rows ++ row ∷ [] →
    map see rows ++ map_items read (items_view (drop index values)) ≡ whole →
    map see more ++ map_items read (items_view (drop (index + 1) values)) ≡ whole
past_seen see read values index value rows more row whole inside is made pushed so =
    past_value read values index value (map see rows) (map see more) (see row) whole inside is made
    (ap (map see) pushed ∙ map-append see rows (row ∷ [])) so
