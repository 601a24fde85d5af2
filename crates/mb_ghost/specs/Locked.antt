-- A thing that is in its slot, or with the one seat that has a ticket for it. (This project's own profile, as all of this
-- crate.)
use Rattle.std.specs.Prelude.{◌≡◌, ℕ, zero, suc, ◌==◌, if◌then◌else◌, List, [], ◌∷◌, Option, Some, None}

module _ {V T : Type 0} where
  -- the ticket that the seat with this number has, if any
  abbrev pub ticket_at : (V → Option T) → List V → ℕ → Option T
  ticket_at ticket [] q = None
  ticket_at ticket (v ∷ vs) zero = ticket v
  ticket_at ticket (v ∷ vs) (suc q) = ticket_at ticket vs q

module _ {T : Type 0} where
  -- the ticket that this holder, a seat's number with its ticket, gives the seat q
  abbrev pub held_by : Option (ℕ × T) → ℕ → Option T
  held_by None q = None
  held_by (Some h) q = if h.0 == q then Some h.1 else None

-- the holder has the one ticket that there is; with no holder there is none
abbrev pub Locked : {V T : Type 0} → (V → Option T) → Option (ℕ × T) → List V → Type 0
Locked ticket holder vs = (q : ℕ) → ticket_at ticket vs q ≡ held_by holder q
