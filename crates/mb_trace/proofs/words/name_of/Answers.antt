use Rattle.std.proofs.Common.{◌≡◌, ℕ, zero, suc, ◌-◌, List, [], ap, arith, get_or, map, refl, string_bytes, sym, ◌∙◌}
use Rattle.std.proofs.lemmas.List.{get_or-map, get_or_past, length-map}
use Rattle.mb_trace.specs.Words.{name_of}
use Rattle.mb_trace.proofs.words.name_of.Goals as goal

-- the name of an actor beside the guardian
later : (names : List (List ℕ)) (id : ℕ) → (id ≡ 0 → ⊥) → name_of names id ≡ get_or names (id - 1) []
later names zero other = absurd (other refl)
later names (suc place) other = let same : place ≡ suc place - 1 = omega arith in ap (λ (n : ℕ). get_or names n []) same

pub returns-then-id-eq0 : goal.returns-then-id-eq0
returns-then-id-eq0 c = ap (name_of (map string_bytes c.args.names.now)) (sym c.if-id-eq0.true)

pub returns-in-Some : goal.returns-in-Some
returns-in-Some c =
    let names = c.args.names.now in let found = c.in-Some.ensures.lookup in
    c.as_str.ensures.value
    ∙ (ap string_bytes found.1
    ∙ (sym (get_or-map string_bytes names (c.args.id.0 - 1) c.in-Some.name.now [] found.3.0)
    ∙ sym (later (map string_bytes names) c.args.id.0 c.if-id-eq0.false)))

pub returns-in-None : goal.returns-in-None
returns-in-None c =
    let names = c.args.names.now in let past = c.in-None.ensures.lookup.3 in
    sym (later (map string_bytes names) c.args.id.0 c.if-id-eq0.false
    ∙ get_or_past (map string_bytes names) (c.args.id.0 - 1) [] (simp length-map past))
