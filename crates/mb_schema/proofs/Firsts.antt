-- What the first of several checks finds.
use Rattle.std.proofs.Common.{◌≡◌, List, ◌∷◌, Option, Some, None, Result, Err, ap, sym, ◌∙◌, subst}
use Rattle.mb_schema.specs.Location.{FindingData, Finds, fault_of, first}
use Rattle.mb_schema.specs.declared.finding.Finding.{Finding}

-- what it finds is found
pub first_bad :
    (check : Option FindingData) (rest : List (Option FindingData)) (result : Result (Unit {0}) Finding) (found told : Finding) → check ≡ Some (fault_of found) →
    result ≡ Err told → told ≡ found → Finds result (first (check ∷ rest))
first_bad check rest result found told bad given same =
    subst (λ (r : Result (Unit {0}) Finding). Finds r (first (check ∷ rest))) (sym given)
    (ap (λ (f : Option FindingData). first (f ∷ rest)) bad ∙ ap (λ (f : Finding). Some (fault_of f)) (sym same))

-- where it finds nothing, the others decide
pub first_well :
    (check : Option FindingData) (rest : List (Option FindingData)) (result : Result (Unit {0}) Finding) → check ≡ None → Finds result (first rest) →
    Finds result (first (check ∷ rest))
first_well check rest result well so = subst (λ (f : Option FindingData). Finds result (first (f ∷ rest))) (sym well) so
