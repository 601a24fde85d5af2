use Rattle.std.proofs.Common.{◌==◌, ◌++◌, [], ◌∷◌, ap, subst, sym, refl}
use Rattle.mb_msg.specs.Limits.{most_actors}
use Rattle.mb_dead_letters.specs.Letters.{is_for_number, is_to}
use Rattle.mb_dead_letters.specs.Tally.{Counts}
use Rattle.mb_dead_letters.proofs.TallyLemmas.{count-fits, counts-more, few}
use Rattle.mb_dead_letters.proofs.dead_letters.DeadLetters.push.Goals as goal

pub count_at-requires : goal.count_at-requires
count_at-requires c =
    count-fits is_to most_actors c.self.inside.receivers c.self.inside.letters.items _ 18446744073709551615 c.self.invariant.0
    (few c.self.inside.letters.items c.args.letter c.push.new.self.items c.push.ensures.items c.push.ensures.within)

pub count_at-requires-2 : goal.count_at-requires-2
count_at-requires-2 c =
    count-fits is_for_number 4 c.self.inside.reasons c.self.inside.letters.items _ 18446744073709551615 c.self.invariant.1
    (few c.self.inside.letters.items c.args.letter c.push.new.self.items c.push.ensures.items c.push.ensures.within)

pub invariant_of-self : goal.invariant_of-self
invariant_of-self c =
    let letters = c.self.inside.letters.items in let letter = c.args.letter in
    let numbered = sym c.number_of.ensures.value in
    let to = counts-more is_to letters letter letter.envelope.to.0 (λ place. refl) most_actors c.self.inside.receivers c.self.invariant.0 in
    let reasons = counts-more is_for_number letters letter c.number_of.result (λ place. ap (λ n. n == place) numbered) 4 c.self.inside.reasons c.self.invariant.1 in
    let items = sym c.push.ensures.items in (
      subst (Counts is_to most_actors c.count_at.new.counts) items (subst (λ l. Counts is_to most_actors l (letters ++ letter ∷ [])) (sym c.count_at.ensures) to),
      subst (Counts is_for_number 4 c.count_at-2.new.counts) items
          (subst (λ l. Counts is_for_number 4 l (letters ++ letter ∷ [])) (sym c.count_at-2.ensures) reasons),
    )
