-- Two unused ways of a sender into queues.
use Rattle.std.proofs.Common.{◌≡◌, ℕ, zero, suc, [], ◌∷◌, subst}
use Rattle.std.proofs.lemmas.Option.{none-some, same_Some}
use Rattle.mb_queue.specs.Passes.{SendPassView}
use Rattle.mb_send.specs.Sends.{AreRoutes, IsRoute}

module _ (by : ℕ) (p q : SendPassView) (mine : (p.by ≡ by) × (p.queue.to ≡ 1) × (p.pushed ≡ []))
    (yours : (q.by ≡ by) × (q.queue.to ≡ 2) × (q.pushed ≡ [])) where
  -- they are in order, and nothing was pushed by them
  pub routes-two : AreRoutes by [] (p ∷ q ∷ [])
  routes-two zero s at = subst (IsRoute by 1 []) (same_Some p s at) (record { sender = mine.0; receiver = mine.1; pushed = mine.2 })
  routes-two (suc zero) s at = subst (IsRoute by 2 []) (same_Some q s at) (record { sender = yours.0; receiver = yours.1; pushed = yours.2 })
  routes-two (suc (suc i)) s at = absurd (none-some s at)
