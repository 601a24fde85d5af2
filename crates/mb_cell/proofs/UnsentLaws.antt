-- The tells that a cell has still to send, and the acts that are left with them.
use Rattle.std.proofs.Common.{◌≡◌, ℕ, zero, suc, ◌+◌, ◌-◌, ◌<◌, Bool, true, ◌&&◌, List, [], ◌∷◌, ◌++◌, length, drop, refl, ap, sym, ◌∙◌, arith, rules, length-drop}
use Rattle.std.specs.Prelude.{slice_get, Some}
use Rattle.std.specs.List.{list_all}
use Rattle.std.proofs.Math.Seq.{drop-length}
use Rattle.std.proofs.lemmas.Bool.{false≢true}
use Rattle.std.proofs.lemmas.List.{drop_more}
use Rattle.std.proofs.lemmas.Option.{get_or_from_slice_get}
use Rattle.mb_actor.specs.Behaviour.{Moment, Reply}
use Rattle.mb_actor.specs.OutboxView.{OutboxView, is_tell}
use Rattle.mb_actor.specs.declared.effect.Effect.{Effect}
use Rattle.mb_actor.specs.declared.effect.Effect.TheVariants as effect
use Rattle.mb_journal.specs.Acts.{Act, stop_acts}
use Rattle.mb_journal.specs.Entry.{Entry, newest_effects}
use Rattle.mb_journal.specs.Identity.{Identity}
use Rattle.mb_supervision.specs.CellStateRecord.{CellState}
use Rattle.mb_cell.specs.Agrees.{Agrees}
use Rattle.mb_cell.specs.Unsent.{IsUnsent, unsent_acts}

-- where no act is left, none is left after the tells
pub none-left : (tells others : List Act) → tells ++ others ≡ [] → others ≡ []
none-left [] others none = none
none-left (a ∷ tells) others none = cc

no-tells : (tells others : List Act) → tells ++ others ≡ [] → tells ≡ []
no-tells [] others none = refl
no-tells (a ∷ tells) others none = cc

-- there is an act for each tell
length-tells : (effects : List Effect) → list_all is_tell effects ≡ true → length (stop_acts effects) ≡ length effects
length-tells [] all = refl
length-tells (effect.Tell to kind value ∷ effects) all = ap suc (length-tells effects all)
length-tells (effect.Control to kind value ∷ effects) all = ap suc (length-tells effects all)
length-tells (effect.Watch x ∷ effects) all = absurd (false≢true all)
length-tells (effect.Unwatch x ∷ effects) all = absurd (false≢true all)
length-tells (effect.Stop x ∷ effects) all = absurd (false≢true all)
length-tells (effect.Spawn x ∷ effects) all = absurd (false≢true all)

-- the last of some tells are tells
tells-drop : (n : ℕ) (effects : List Effect) → list_all is_tell effects ≡ true → list_all is_tell (drop n effects) ≡ true
tells-drop zero effects all = all
tells-drop (suc n) [] all = all
tells-drop (suc n) (effect.Tell to kind value ∷ effects) all = tells-drop n effects all
tells-drop (suc n) (effect.Control to kind value ∷ effects) all = tells-drop n effects all
tells-drop (suc n) (effect.Watch x ∷ effects) all = absurd (false≢true all)
tells-drop (suc n) (effect.Unwatch x ∷ effects) all = absurd (false≢true all)
tells-drop (suc n) (effect.Stop x ∷ effects) all = absurd (false≢true all)
tells-drop (suc n) (effect.Spawn x ∷ effects) all = absurd (false≢true all)

-- where no act is left, nothing is to be sent
none-unsent : (n : ℕ) (journal : List Entry) → IsUnsent n journal → unsent_acts n journal ≡ [] → n ≡ 0
none-unsent zero journal unsent none = refl
none-unsent (suc n) journal unsent none =
    let effects : List Effect = newest_effects journal in
    let tells = length-tells (drop (length effects - suc n) effects) (tells-drop (length effects - suc n) effects (unsent.tells (omega arith))) in
    absurd (omega (arith, tells, ap length none, length-drop (length effects - suc n) effects, unsent.within))

pub nothing-unsent : (n : ℕ) (journal : List Entry) (acts : List Act) → IsUnsent n journal → unsent_acts n journal ++ acts ≡ [] → n ≡ 0
nothing-unsent n journal acts unsent none = none-unsent n journal unsent (no-tells _ acts none)

-- where nothing is to be sent, the other acts are all
pub no-unsent-acts : (n : ℕ) (journal : List Entry) → n ≡ 0 → unsent_acts n journal ≡ []
no-unsent-acts n journal none =
    ap (λ k. stop_acts (drop k (newest_effects journal))) (omega (arith, none)) ∙ ap stop_acts (drop-length (newest_effects journal))

pub other-acts : (n : ℕ) (journal : List Entry) (others acts : List Act) → n ≡ 0 → others ≡ acts → unsent_acts n journal ++ others ≡ acts
other-acts n journal others acts none same = ap (λ tells. tells ++ others) (no-unsent-acts n journal none) ∙ same

pub is-unsent-none : (n : ℕ) (journal : List Entry) → n ≡ 0 → IsUnsent n journal
is-unsent-none n journal none = record { within = omega (arith, none); tells = λ some. absurd (omega (arith, some, none)) }

-- the fourth of what a cell is to keep
pub with-unsent : {P Q R S : Type 0} → P × Q × R → S → P × Q × R × S
with-unsent (p, q, r) s = (p, q, r, s)

-- what holds of a cell's state holds of it with other acts and other room
pub agrees-acts : (who : Identity) (journal : List Entry) (gives : Moment → Reply → Type 0) (cell_state : CellState) (acts : List Act) (ready : Bool)
    (tray : OutboxView) → Agrees who journal gives (record cell_state { acts = acts; is_ready = ready }) tray → Agrees who journal gives cell_state tray
agrees-acts who journal gives cell_state acts ready tray kept = record {
  lawful = kept.lawful;
  booked = ap (λ (b : CellState). record b { acts = cell_state.acts; is_ready = cell_state.is_ready }) kept.booked;
  outbox = kept.outbox;
  fresh = kept.fresh;
  small_limit = kept.small_limit;
  few_prepared = kept.few_prepared;
  fanout = kept.fanout;
  counted = kept.counted;
}

-- ---- the next tell

stop-first : (e : Effect) (effects : List Effect) → stop_acts (e ∷ effects) ≡ stop_acts (e ∷ []) ++ stop_acts effects
stop-first (effect.Tell to kind value) effects = refl
stop-first (effect.Control to kind value) effects = refl
stop-first (effect.Watch x) effects = refl
stop-first (effect.Unwatch x) effects = refl
stop-first (effect.Stop x) effects = refl
stop-first (effect.Spawn x) effects = refl

first-true : (a b : Bool) → (a && b) ≡ true → a ≡ true
first-true a b both = grind rules

module _ (n : ℕ) (journal : List Entry) (unsent : IsUnsent n journal) (some : n ≡ 0 → ⊥) (e : Effect)
    (read : slice_get (newest_effects journal) (length (newest_effects journal) - n) ≡ Some e) where
  abbrev effects : List Effect
  effects = newest_effects journal

  above : 0 < n
  above = omega (arith, some)

  left : drop (length effects - n) effects ≡ e ∷ drop (length effects - (n - 1)) effects
  left =
      drop_more effects (length effects - n) e (omega (arith, above, unsent.within))
      ∙ (λ i. get_or_from_slice_get effects (length effects - n) e e read i ∷ drop (rest i) effects)
    where
      rest : length effects - n + 1 ≡ length effects - (n - 1)
      rest = omega (arith, above, unsent.within)

  -- it is a tell
  pub next-is-tell : is_tell e ≡ true
  next-is-tell =
      first-true _ _ (ap (list_all is_tell) (sym left) ∙ tells-drop (length effects - n) effects (unsent.tells above))

  -- its act is the first that is left
  pub next-acts : (act : Act) (others : List Act) → act ∷ [] ≡ stop_acts (e ∷ []) →
      unsent_acts n journal ++ others ≡ act ∷ (unsent_acts (n - 1) journal ++ others)
  next-acts act others is =
      ap (λ acts. acts ++ others)
      (ap stop_acts left ∙ stop-first e (drop (length effects - (n - 1)) effects)
      ∙ ap (λ acts. acts ++ unsent_acts (n - 1) journal) (sym is))

  pub next-unsent : IsUnsent (n - 1) journal
  next-unsent = record { within = omega (arith, unsent.within); tells = λ more. unsent.tells above }
