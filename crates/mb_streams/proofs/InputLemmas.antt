-- What was read of a reader, where its bytes are known.
use Rattle.std.proofs.Common.{◌≡◌, ◌+◌, ◌≤◌, ℕ, List, [], ◌++◌, length, take, Option, Some, None, IfSome, arith, sym, ◌∙◌, ap, append-nil}
use Rattle.std.proofs.Common.{append_assoc, length-append, subst}
use Rattle.std.proofs.lemmas.List.{take_all}
use Rattle.std.specs.Io.KnownBytes.{Consumes, IsAtEnd}
use Rattle.std.proofs.lemmas.Grind.{common_steps}
use Rattle.mb_streams.specs.Input.{TakesAtMost}

-- as many bytes as are wanted were read
pub read_in_full : (old new : Option (List ℕ)) (text : List ℕ) (n : ℕ) → Consumes old new text → length text ≡ n →
    IfSome old (λ input. text ≡ take n input)
read_in_full None new text n read full = tt
read_in_full (Some input) None text n read full = absurd read
read_in_full (Some input) (Some rest) text n read full = grind (arith, common_steps, read)

-- no byte is left, and no more than are wanted were read
pub read_to_the_end : (old middle new : Option (List ℕ)) (text buf : List ℕ) (n count : ℕ) → Consumes old middle text →
    Consumes middle new (take count buf) → count ≡ 0 → IsAtEnd new → length text ≤ n → IfSome old (λ input. text ≡ take n input)
read_to_the_end None middle new text buf n count read last none at_end within = tt
read_to_the_end (Some input) None new text buf n count read last none at_end within = absurd read
read_to_the_end (Some input) (Some rest) None text buf n count read last none at_end within = absurd last
read_to_the_end (Some input) (Some rest) (Some left) text buf n count read last none at_end within =
    let nothing : take count buf ≡ [] = ap (λ k. take k buf) none in
    let rest_is : rest ≡ [] = last ∙ ap (λ front. front ++ left) nothing ∙ at_end in
    let input_is : input ≡ text = read ∙ ap (λ more. text ++ more) rest_is ∙ append-nil text in
    subst (λ (xs : List ℕ). text ≡ take n xs) (sym input_is) (sym (take_all n text within))

-- where some were read, and then some more
pub takes_more : (most : ℕ) (old middle new : Option (List ℕ)) (text more : List ℕ) → Consumes old middle text → Consumes middle new more →
    length text + length more ≤ most → TakesAtMost most old new
takes_more most None middle new text more read then_read within = ([], tt, omega arith)
takes_more most (Some input) None new text more read then_read within = absurd read
takes_more most (Some input) (Some rest) None text more read then_read within = absurd then_read
takes_more most (Some input) (Some rest) (Some left) text more read then_read within = (
  text ++ more,
  read ∙ ap (λ l. text ++ l) then_read ∙ sym (append_assoc text more left),
  omega (arith, within, length-append text more),
)
