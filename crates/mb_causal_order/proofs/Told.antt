-- How many envelopes an actor has sent, with one entry more.
use Rattle.std.proofs.Common.{◌≡◌, ℕ, ◌+◌, ◌≤◌, ◌^◌, ◌∷◌, [], ◌⊎◌, inl, inr, ap, count_by, Some, sym, subst, arith}
use Rattle.mb_journal.specs.Acts.{acts}
use Rattle.mb_journal.specs.Entry.{Entry}
use Rattle.mb_cell.specs.CellView.{CellView, with_entry}
use Rattle.mb_causal_order.specs.Sent.{is_tell, sent}

pub told-more : (old new : CellView) (e : Entry) (told : ℕ) → new ≡ with_entry old e →
    told + count_by is_tell old.acts ≤ sent (Some old.who) old.journal → told + count_by is_tell new.acts ≤ sent (Some new.who) new.journal
unfolding sent
told-more old new e told adds kept =
    subst (λ (c : CellView). told + count_by is_tell c.acts ≤ sent (Some c.who) c.journal) (sym adds) (omega (arith, kept))

-- all that it sent is counted, or more than an envelope's number can be
pub all_told-more : (old new : CellView) (e : Entry) (told : ℕ) → new ≡ with_entry old e → old.acts ≡ [] →
    (sent (Some old.who) old.journal ≤ told + count_by is_tell old.acts) ⊎ (2 ^ 64 ≤ told) →
    (sent (Some new.who) new.journal ≤ told + count_by is_tell new.acts) ⊎ (2 ^ 64 ≤ told)
unfolding sent
all_told-more old new e told adds none kept =
    subst (λ (c : CellView). (sent (Some c.who) c.journal ≤ told + count_by is_tell c.acts) ⊎ (2 ^ 64 ≤ told)) (sym adds) (by_case kept)
  where
    by_case : (sent (Some old.who) old.journal ≤ told + count_by is_tell old.acts) ⊎ (2 ^ 64 ≤ told) →
        (sent (Some old.who) (e ∷ old.journal) ≤ told + count_by is_tell (acts old.who old.journal e)) ⊎ (2 ^ 64 ≤ told)
    by_case (inl all) = inl (let few = ap (count_by is_tell) none in omega (arith, all, few))
    by_case (inr many) = inr many
