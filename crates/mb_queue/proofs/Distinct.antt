-- Where senders are distinct, the taker has each account until it is lent.
use Rattle.std.proofs.Common.{◌≡◌, ◌≢◌, ◌==◌, ℕ, ◌+◌, ◌<◌, Bool, false, cond, List, [], ◌∷◌, ◌++◌, map, take, length, get_or, refl, sym, ap, ◌∙◌}
use Rattle.std.proofs.Common.{arith, Option, Some, None}
use Rattle.std.specs.List.{All, AllPairs, Contains}
use Rattle.std.proofs.lemmas.Bool.Decides.{nat_tests}
use Rattle.std.proofs.lemmas.List.{get_or-map, get_or-take, length-map, length-take-le, map-append, take_more}
use Rattle.std.proofs.lemmas.List.Elements.{All-tail}
use Rattle.mb_msg.specs.declared.id.SenderId.{SenderId}
use Rattle.mb_msg.specs.declared.envelope.Envelope.{Envelope}
use Rattle.mb_queue.specs.Ledger.{account, account_after, lent}
use Rattle.mb_queue.specs.Made.{numbers_of}

not_lent : (before : Option (List Envelope)) (others : List ℕ) (s : ℕ) → All (λ x. x ≢ s) others → account_after before (map lent others) s ≡ before
not_lent before [] s apart = refl
not_lent before (x ∷ others) s apart =
    let ne : x ≢ s = apart 0 x (omega arith) in let no : (x == s) ≡ false = grind (arith, nat_tests) in
    ap (λ (b : Bool). account_after (cond b None before) (map lent others) s) no ∙ not_lent before others s (All-tail (λ y. y ≢ s) x others apart)

module _ (senders : List SenderId) (i : ℕ) (there : i < length senders) where
  abbrev pub this : ℕ
  this = (get_or senders i (record { 0 = 0 })).0

  pub within : i < length (numbers_of senders)
  within = omega (arith, there, length-map senders (λ (s : SenderId). s.0))

  this_at : (d : ℕ) → get_or (numbers_of senders) i d ≡ this
  this_at d = get_or-map (λ (s : SenderId). s.0) senders i (record { 0 = 0 }) d there

  pub this_known : Contains (numbers_of senders) this
  this_known = (i, within, this_at this)

  pub this_home : AllPairs (λ a b. a ≢ b) (numbers_of senders) → account (map lent (take i (numbers_of senders))) this ≡ Some []
  this_home distinct = not_lent (Some []) (take i (numbers_of senders)) this
      (λ k d lt. let few : k < i = omega (arith, lt, length-take-le i (numbers_of senders) (omega (arith, within))) in
      λ same. distinct k i d few within (sym (get_or-take i (numbers_of senders) k d few) ∙ same ∙ sym (this_at d)))

  pub numbers_more : take (i + 1) (numbers_of senders) ≡ take i (numbers_of senders) ++ this ∷ []
  numbers_more = take_more (numbers_of senders) i 0 within ∙ ap (λ n. take i (numbers_of senders) ++ n ∷ []) (this_at 0)

  pub map_more : {Y : Type 0} (f : ℕ → Y) → map f (take (i + 1) (numbers_of senders)) ≡ map f (take i (numbers_of senders)) ++ f this ∷ []
  map_more f = ap (map f) numbers_more ∙ map-append f (take i (numbers_of senders)) (this ∷ [])
