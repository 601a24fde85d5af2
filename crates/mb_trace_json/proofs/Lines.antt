-- The line of a value is its text, and reads as the value.
use Rattle.std.proofs.Common.{◌≡◌, ℕ, ◌≤◌, List, ◌++◌, codes, Some, false, sym, ap, ◌∙◌, subst, le_trans}
use Rattle.std.proofs.lemmas.List.{append_cancel_right}
use Rattle.serde_json.specs.Data.{Data, depth}
use Rattle.serde_json.specs.Read.{read, max_depth}
use Rattle.serde_json.specs.Written.{has_float}
use Rattle.mb_trace_json.specs.Lines.{ReadsAs, line_text}
use Rattle.mb_trace_json.proofs.Plain.{IsPlain}

pub reads-as : (s line : List ℕ) (d : Data) → line ≡ s ++ codes "\n" → read s ≡ Some d → ReadsAs line d
reads-as s line d whole reads = λ text is. ap read (append_cancel_right text s (codes "\n") (sym is ∙ whole)) ∙ reads

pub text-of : (n : ℕ) (v d : Data) (line : List ℕ) → v ≡ d → IsPlain n d → (has_float v ≡ false → line ≡ line_text v) → line ≡ line_text d
text-of n v d line same plain text = text (ap has_float same ∙ plain.no_float) ∙ ap line_text same

pub value-of : (n : ℕ) (v d : Data) (line : List ℕ) → v ≡ d → IsPlain n d → n ≤ max_depth → (depth v ≤ max_depth → ReadsAs line v) → ReadsAs line d
value-of n v d line same plain low value =
    subst (ReadsAs line) same (value (subst (λ (x : Data). depth x ≤ max_depth) (sym same) (le_trans plain.shallow low)))
