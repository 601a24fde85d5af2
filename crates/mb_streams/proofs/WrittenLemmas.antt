-- What was written in two parts.
use Rattle.std.proofs.Common.{◌≡◌, ℕ, ◌+◌, ◌-◌, List, ◌++◌, length, take, drop, Option, Some, None, refl, ap, sym, ◌∙◌, subst}
use Rattle.std.proofs.Common.{append_assoc, arith, length-drop}
use Rattle.std.proofs.Math.Seq.{take-add}
use Rattle.std.proofs.lemmas.List.{take_all}
use Rattle.std.specs.Io.KnownBytes.{Appends, Keeps}

-- the bytes after those that were written first
more_written : (old middle new : Option (List ℕ)) (bytes : List ℕ) (sent count : ℕ) →
    Appends old middle (take sent bytes) → Appends middle new (take count (drop sent bytes)) → Appends old new (take (sent + count) bytes)
more_written None middle new bytes sent count first second = tt
more_written (Some xs) None new bytes sent count first second = absurd first
more_written (Some xs) (Some ys) None bytes sent count first second = absurd second
more_written (Some xs) (Some ys) (Some zs) bytes sent count first second =
    second ∙ ap (λ front. front ++ take count (drop sent bytes)) first
    ∙ append_assoc xs (take sent bytes) (take count (drop sent bytes))
    ∙ ap (λ l. xs ++ l) (sym (take-add sent count bytes))

-- the same, of what is left as a slice
pub rest_written : (old middle new : Option (List ℕ)) (bytes : List ℕ) (sent count : ℕ) → Appends old middle (take sent bytes) →
    Appends middle new (take count (take (length bytes - sent) (drop sent bytes))) → Appends old new (take (sent + count) bytes)
rest_written old middle new bytes sent count first second =
    let whole : take (length bytes - sent) (drop sent bytes) ≡ drop sent bytes =
    take_all (length bytes - sent) (drop sent bytes) (omega (arith, length-drop sent bytes)) in
    more_written old middle new bytes sent count first (subst (λ (rest : List ℕ). Appends middle new (take count rest)) whole second)

pub keeps_itself : (known : Option (List ℕ)) → Keeps known known
keeps_itself None = tt
keeps_itself (Some xs) = refl
