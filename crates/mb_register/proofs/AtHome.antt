-- A claim that was just taken is all that the gates ask of a claim that is given back.
use Rattle.std.proofs.Common.{◌≡◌, ◌⊎◌, inl, inr, ℕ, true, false, List, [], ◌∷◌, sym, ◌∙◌, subst}
use Rattle.std.specs.Prelude.{Bool}
use Rattle.mb_msg.specs.declared.system.SysMsg.{SysMsg}
use Rattle.mb_journal.specs.Entry.{Entry}
use Rattle.mb_journal.specs.Identity.{Identity}
use Rattle.mb_ghost.specs.Seen.{Each}
use Rattle.mb_gate.specs.Claims.{IsKnownClosed}
use Rattle.mb_gate.specs.SentSystem.{HasSentDueSince}
use Rattle.mb_gate.specs.Rule.{Extends, IsAmong}
use Rattle.mb_gate.specs.View.{View, SentSystem}
use Rattle.mb_gate.proofs.Numbers.{among_first, among_more}
use Rattle.mb_gate.proofs.SentSystemLemmas.{nothing_since}

-- a journal goes on from itself
pub extends-same : (journal before : List Entry) → before ≡ journal → Extends journal before
extends-same journal before same = record { newer = []; joined = sym same }

each-of : {A : Type 0} (P : A → Type 0) (xs : List A) → ((x : A) → IsAmong x xs → P x) → Each P xs
each-of P [] f = tt
each-of P (x ∷ xs) f = (f x (among_first x xs), each-of P xs (λ y a. f y (among_more y x xs a)))

-- each actor that the home says is closed is known to be, by what the home said when it was taken
pub shut-same : (now shut : List ℕ) (v : View) → shut ≡ now → Each (λ other. IsKnownClosed other shut v) now
shut-same now shut v same =
    each-of (λ other. IsKnownClosed other shut v) now (λ other a. inl (subst (IsAmong other) (sym same) a))

-- and each message that the home says its list gave is one that the claim knows, by what the home said when it was taken
pub drained-same : (now drained : List (ℕ × SysMsg)) → drained ≡ now → Each (λ m. IsAmong m drained) now
drained-same now drained same = each-of (λ m. IsAmong m drained) now (λ m a. subst (IsAmong m) (sym same) a)

-- no system message was sent for it, and it has no new entries
pub told-nothing : (who : Identity) (actor : ℕ) (closed : Bool) (journal before : List Entry) (sent_system : List SentSystem) → before ≡ journal → sent_system ≡ [] →
    HasSentDueSince who actor closed journal before sent_system
told-nothing who actor closed journal before sent_system same none =
    subst (λ (x : List Entry × List SentSystem). HasSentDueSince who actor closed journal x.0 x.1) (λ i. (sym same i, sym none i))
    (nothing_since who actor closed journal)

-- unless the last drain gave something, nothing is left beside an open one's cell
pub rest-open : (closed gave : Bool) (P : Type 0) → closed ≡ false → (gave ≡ false → P) → (closed ≡ true) ⊎ (gave ≡ false) → P
rest-open closed gave P open_yet rest (inl shut) = let e : true ≡ false = sym shut ∙ open_yet in absurd (cc)
rest-open closed gave P open_yet rest (inr nothing) = rest nothing
