-- What a handle saw it still knows.
use Rattle.std.proofs.Common.{◌≡◌, List, [], ◌++◌, append_assoc, append-nil, sym, ap, ◌∙◌}
use Rattle.mb_gate.specs.Rule.{IsPart}

module _ {A : Type 0} where
  pub saw-same : (xs : List A) → IsPart xs xs
  saw-same xs = record { before = []; after = []; joined = sym (append-nil xs) }

  pub saw-more : (looks old new : List A) → new ≡ looks ++ old → IsPart old new
  saw-more looks old new is = record { before = looks; after = []; joined = is ∙ ap (λ l. looks ++ l) (sym (append-nil old)) }

  pub saw-then : (xs ys zs : List A) → IsPart xs ys → IsPart ys zs → IsPart xs zs
  saw-then xs ys zs p q = record {
    before = q.before ++ p.before;
    after = p.after ++ q.after;
    joined = q.joined ∙ ap (λ l. q.before ++ (l ++ q.after)) p.joined
        ∙ ap (λ l. q.before ++ l) (append_assoc p.before (xs ++ p.after) q.after ∙ ap (λ l. p.before ++ l) (append_assoc xs p.after q.after))
        ∙ sym (append_assoc q.before p.before (xs ++ (p.after ++ q.after)));
  }
