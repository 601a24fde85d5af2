use Rattle.std.proofs.Common.{◌≡◌, ℕ, suc, ◌-◌, ◌<◌, List, String, Global, codes, get_or, length, map, sym, ap, ◌∙◌, string_bytes, arith}
use Rattle.std.proofs.lemmas.List.{get_or-map}
use Rattle.mb_trace_json.specs.Names.{name_of}
use Rattle.mb_trace_json.proofs.names.actor_name.Goals as goal

named : (names : List (String Global)) (i id : ℕ) (name : String Global) → suc i ≡ id → i < length names → name ≡ get_or names i name →
    string_bytes name ≡ name_of (map string_bytes names) id
named names i id name next low is =
    ap string_bytes is ∙ sym (get_or-map string_bytes names i name (codes "?") low) ∙ ap (name_of (map string_bytes names)) next

pub returns-in-Some : goal.returns-in-Some
returns-in-Some c =
    let found = c.in-Some.ensures.lookup in
    let other = c.if-id-eq0.false in
    c.as_str.ensures.value ∙ named c.args.names.now (c.args.id - 1) c.args.id c.in-Some.name.now (omega (arith, other)) found.3.0 found.1
