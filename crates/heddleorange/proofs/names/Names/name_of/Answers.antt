use Rattle.std.proofs.Common.{◌≡◌, List, None, Some, String, ap, slice_get, string_bytes, subst, ◌∙◌}
use Rattle.std.specs.Global.{Global}
use Rattle.heddleorange.specs.Names.{names_by_number}
use Rattle.heddleorange.proofs.Lookup.{name-there, no-name}
use Rattle.heddleorange.proofs.names.Names.name_of.Goals as goal

pub returns-in-Some : goal.returns-in-Some
returns-in-Some c =
    let found = c.in-Some.ensures.lookup in
    subst (λ (texts : List (String Global)). Some c.as_str.result.now ≡ slice_get (names_by_number texts) c.args.id.0) c.deref.ensures.value
    (name-there c.deref.result.now c.args.id.0 c.in-Some.text.now c.as_str.result.now c.if-id-eq0.false found.3.0
    (c.as_str.ensures.value ∙ ap string_bytes found.1))

pub returns-in-None : goal.returns-in-None
returns-in-None c =
    subst (λ (texts : List (String Global)). None ≡ slice_get (names_by_number texts) c.args.id.0) c.deref.ensures.value
    (no-name c.deref.result.now c.args.id.0 c.if-id-eq0.false c.in-None.ensures.lookup.3)
