use Rattle.std.proofs.Common.{◌≡◌, ℕ, suc, ◌-◌, refl, ap, sym, ◌∙◌, arith}
use Rattle.std.specs.Prelude.{map}
use Rattle.mb_journal.proofs.RowLemmas.{start-after}
use Rattle.mb_journal.specs.Rows.{whole}
use Rattle.mb_journal.specs.Stored.{start_of}
use Rattle.mb_journal.proofs.kept_entries.start_of.Goals as goal

pub returns-then-index-eq0 : goal.returns-then-index-eq0
unfolding start_of
returns-then-index-eq0 c wide = rw c.if-index-eq0.true refl

one_before : (i : ℕ) → (i ≡ 0 → ⊥) → i ≡ suc (i - 1)
one_before i h = omega arith

pub returns-else-index-eq0 : goal.returns-else-index-eq0
returns-else-index-eq0 c wide =
    c.end.ensures wide
    ∙ sym (ap (λ n. start_of 0 (map (whole wide) c.args.rows.now) n) (one_before c.args.index c.if-index-eq0.false)
    ∙ start-after wide c.args.rows.now (c.args.index - 1) _ (omega arith))
