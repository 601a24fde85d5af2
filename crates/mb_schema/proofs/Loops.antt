-- One more turn of a loop over keys, over items and over actors.
use Rattle.std.proofs.Common.{◌≡◌, ℕ, ◌+◌, ◌<◌, List, [], ◌∷◌, ◌++◌, Option, Some, None, Result, Err, length, map, get_or, drop, add-one}
use Rattle.std.proofs.Common.{append_assoc, ap, sym, ◌∙◌, subst}
use Rattle.std.proofs.lemmas.List.{map-append}
use Rattle.std.proofs.Math.Seq.{drop-cons}
use Rattle.toml.specs.Data.{Data, as_table}
use Rattle.toml.specs.View.{view, items_view}
use Rattle.toml.specs.declared.value.Value.{Value}
use Rattle.mb_schema.specs.Check.{actor_entries_of, each_from, actor_entry_of}
use Rattle.mb_schema.specs.Context.{ActorEntryData, actor_entry_data}
use Rattle.mb_schema.specs.Format.{KeyData, key_data}
use Rattle.mb_schema.specs.Location.{FindingData, Finds, fault_of, first}
use Rattle.mb_schema.specs.declared.context.ActorEntry.{ActorEntry}
use Rattle.mb_schema.specs.declared.finding.Finding.{Finding}
use Rattle.mb_schema.specs.declared.key.KeySchema.{KeySchema}

next : {A : Type 0} (xs : List A) (index : ℕ) (x : A) → index < length xs → drop index xs ≡ get_or xs index x ∷ drop (index + 1) xs
next xs index x inside = rw add-one (drop-cons xs index x inside)

-- where nothing is wrong with a key, the keys after it decide
pub past_key :
    (check : KeyData → Option FindingData) (keys : List KeySchema) (index : ℕ) (otherwise : KeySchema) (whole : Option FindingData) → index < length keys →
    check (key_data (get_or keys index otherwise)) ≡ None → first (map check (map key_data (drop index keys))) ≡ whole →
    first (map check (map key_data (drop (index + 1) keys))) ≡ whole
past_key check keys index otherwise whole inside well so =
    let rest : List (Option FindingData) = map check (map key_data (drop (index + 1) keys)) in
    let here : first (check (key_data (get_or keys index otherwise)) ∷ rest) ≡ whole =
    subst (λ (ks : List KeySchema). first (map check (map key_data ks)) ≡ whole) (next keys index otherwise inside) so in
    subst (λ (found : Option FindingData). first (found ∷ rest) ≡ whole) well here

-- what is wrong with a key, and with none before it, is what is found
pub at_key :
    (check : KeyData → Option FindingData) (keys : List KeySchema) (index : ℕ) (otherwise : KeySchema) (whole : Option FindingData)
    (result : Result (Unit {0}) Finding) (found told : Finding) → index < length keys →
    check (key_data (get_or keys index otherwise)) ≡ Some (fault_of found) → first (map check (map key_data (drop index keys))) ≡ whole →
    result ≡ Err told → told ≡ found → Finds result whole
at_key check keys index otherwise whole result found told inside bad so given same =
    let rest : List (Option FindingData) = map check (map key_data (drop (index + 1) keys)) in
    let here : first (check (key_data (get_or keys index otherwise)) ∷ rest) ≡ whole =
    subst (λ (ks : List KeySchema). first (map check (map key_data ks)) ≡ whole) (next keys index otherwise inside) so in
    let is : Some (fault_of found) ≡ whole = subst (λ (f : Option FindingData). first (f ∷ rest) ≡ whole) bad here in
    subst (λ (r : Result (Unit {0}) Finding). Finds r whole) (sym given) (sym is ∙ ap (λ (f : Finding). Some (fault_of f)) (sym same))

-- where nothing is wrong with an item, the items after it decide
pub past_item :
    (check : ℕ → Data → Option FindingData) (values : List Value) (index : ℕ) (value : Value) (whole : Option FindingData) → index < length values →
    value ≡ get_or values index value → check index (view value) ≡ None → first (each_from index check (items_view (drop index values))) ≡ whole →
    first (each_from (index + 1) check (items_view (drop (index + 1) values))) ≡ whole
past_item check values index value whole inside is well so =
    let rest : List (Option FindingData) = each_from (index + 1) check (items_view (drop (index + 1) values)) in
    let here : first (check index (view (get_or values index value)) ∷ rest) ≡ whole =
    subst (λ (vs : List Value). first (each_from index check (items_view vs)) ≡ whole) (next values index value inside) so in
    let well' : check index (view (get_or values index value)) ≡ None = subst (λ (v : Value). check index (view v) ≡ None) is well in
    subst (λ (found : Option FindingData). first (found ∷ rest) ≡ whole) well' here

-- an actor more, and those that are left, are all
pub past_actor :
    (values : List Value) (index : ℕ) (value : Value) (actor_entries more : List ActorEntry) (one : ActorEntry) (whole : List ActorEntryData) → index < length values →
    value ≡ get_or values index value → actor_entry_data one ≡ actor_entry_of (as_table (view value)) → more ≡ actor_entries ++ one ∷ [] →
    map actor_entry_data actor_entries ++ actor_entries_of (items_view (drop index values)) ≡ whole →
    map actor_entry_data more ++ actor_entries_of (items_view (drop (index + 1) values)) ≡ whole
past_actor values index value actor_entries more one whole inside is made pushed so =
    let rest : List ActorEntryData = actor_entries_of (items_view (drop (index + 1) values)) in
    let is_next : actor_entry_data one ≡ actor_entry_of (as_table (view (get_or values index value))) =
    made ∙ ap (λ (v : Value). actor_entry_of (as_table (view v))) is in
    let left : actor_entries_of (items_view (drop index values)) ≡ actor_entry_data one ∷ rest =
    ap (λ (vs : List Value). actor_entries_of (items_view vs)) (next values index value inside) ∙ ap (λ (k : ActorEntryData). k ∷ rest) (sym is_next) in
    let now : map actor_entry_data more ≡ map actor_entry_data actor_entries ++ actor_entry_data one ∷ [] = ap (map actor_entry_data) pushed ∙ map-append actor_entry_data actor_entries (one ∷ []) in
    ap (λ (ks : List ActorEntryData). ks ++ rest) now ∙ append_assoc (map actor_entry_data actor_entries) (actor_entry_data one ∷ []) rest ∙ ap (λ (ks : List ActorEntryData). map actor_entry_data actor_entries ++ ks) (sym left) ∙ so
