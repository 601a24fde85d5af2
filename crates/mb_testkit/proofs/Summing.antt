-- What an actor that adds up what it gets shows after one message more.
use Rattle.std.proofs.Common.{◌≡◌, ℤ, pos, List, [], ◌∷◌, ◌++◌, ap, sym, ◌∙◌}
use Rattle.std.proofs.lemmas.Grind.{fold-append}
use Rattle.mb_actor.specs.declared.message.Message.{Message}
use Rattle.mb_testkit.specs.Sum.{sum_of, sum_with}

pub sum_next : (old new : ℤ) (m : Message) → new ≡ sum_with old m → (l : List Message) → old ≡ sum_of l → new ≡ sum_of (l ++ m ∷ [])
sum_next old new m is l so_far = is ∙ ap (λ s. sum_with s m) so_far ∙ sym (fold-append sum_with (pos 0) l (m ∷ []))
