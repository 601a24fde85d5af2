-- The halves of a joined value.
use Rattle.std.proofs.Common.{◌≡◌, ◌∙◌, ℕ, ℤ, pos, negsuc, ◌+◌, ◌-◌, ◌*◌, ◌<◌, ◌^◌, ap, refl, arith, nat_lt, true, if◌then◌else◌, Some, None}
use Rattle.mb_msg.specs.declared.id.ActorId.{ActorId}
use Rattle.std.proofs.lemmas.Int.{ints}
use Rattle.std.proofs.lemmas.Nat.{shr_high}
use Rattle.mb_typed.specs.Halves.{actor_of, joined, lower_of, upper_of}

joined-pos : (n lower : ℕ) → joined (pos n) lower ≡ pos (n * 4294967296 + lower)
joined-pos n lower = refl

joined-negsuc : (n lower : ℕ) → lower < 2 ^ 32 → joined (negsuc n) lower ≡ negsuc (n * 4294967296 + (4294967295 - lower))
joined-negsuc n lower fits = omega (arith, ints)

pub upper-joined : (upper : ℤ) (lower : ℕ) → lower < 2 ^ 32 → upper_of (joined upper lower) ≡ upper
upper-joined (pos n) lower fits = ap upper_of (joined-pos n lower) ∙ ap pos (shr_high n 32 lower fits)
upper-joined (negsuc n) lower fits =
    ap upper_of (joined-negsuc n lower fits) ∙ ap negsuc (shr_high n 32 (4294967295 - lower) (omega arith))

pub lower-joined : (upper : ℤ) (lower : ℕ) → lower < 2 ^ 32 → lower_of (joined upper lower) ≡ lower
lower-joined (pos n) lower fits = ap lower_of (joined-pos n lower) ∙ omega arith
lower-joined (negsuc n) lower fits = ap lower_of (joined-negsuc n lower fits) ∙ omega arith

pub actor-joined : (id : ActorId) (lower : ℕ) → id.0 < 2 ^ 16 → lower < 2 ^ 32 → actor_of (upper_of (joined (pos id.0) lower)) ≡ Some id
actor-joined id lower is fits =
    ap actor_of (upper-joined (pos id.0) lower fits)
    ∙ ap (λ b. if b then Some id else None) (let below : nat_lt id.0 65536 ≡ true = grind arith in below)
