-- What envelopes are worth: those that an actor sent, and those that it took.
use Rattle.std.proofs.Common.{◌≡◌, ℕ, ◌+◌, ℤ, pos, negsuc, ◌+ℤ◌, List, [], ◌∷◌, refl, sym, ap, ◌∙◌, arith}
use Rattle.std.proofs.Math.IntN.{+ℤ_idl, +ℤ_idr}
use Rattle.std.proofs.lemmas.Int.{ints}
use Rattle.std.proofs.lemmas.List.Sums.{sum_by-cons}
use Rattle.std.specs.Prelude.{sum_by}
use Rattle.mb_actor.specs.Behaviour.{Moment, Reply}
use Rattle.mb_actor.specs.declared.effect.Effect.{Effect}
use Rattle.mb_actor.specs.declared.effect.Effect.TheVariants as effect
use Rattle.mb_actor.specs.declared.message.Message.{Message}
use Rattle.mb_actor.specs.declared.message.Message.TheVariants.{Terminated}
use Rattle.mb_journal.specs.Entry.{Entry}
use Rattle.mb_journal.specs.Entry.Entry.{Dropped, Handled, System}
use Rattle.mb_journal.specs.Fates.{begun}
use Rattle.mb_journal.specs.Identity.{Identity}
use Rattle.mb_journal.specs.Incarnation.{body_messages}
use Rattle.mb_journal.specs.Lawful.{AreLawful, IsUnexpected}
use Rattle.mb_journal.specs.Tells.{AddressedBody, envelopes_from}
use Rattle.mb_msg.specs.declared.envelope.Body.{Body}
use Rattle.mb_msg.specs.declared.envelope.Body.TheVariants as body
use Rattle.mb_msg.specs.declared.envelope.Envelope.{Envelope}
use Rattle.mb_msg.specs.declared.id.ActorId.{ActorId}
use Rattle.mb_quantity.proofs.Sums.{sum-append}
use Rattle.mb_quantity.specs.Quantity.{all_sent, sent_worth, sum_of}
use Rattle.heddleorange.proofs.Told.{asked}
use Rattle.heddleorange.specs.Conservation.{body_worth, worth_of}
use Rattle.heddleorange.specs.Reading.{handled_messages}

-- a number above zero, and one below
abbrev above : ℤ → ℕ
above (pos n) = n
above (negsuc n) = 0

abbrev below : ℤ → ℕ
below (pos n) = 0
below (negsuc n) = n + 1

above-below : (z : ℤ) → z +ℤ pos (below z) ≡ pos (above z)
above-below (pos n) = +ℤ_idr (pos n)
above-below (negsuc n) = omega (arith, ints)

module _ (worth : Message → ℤ) where
  -- what is given by an envelope, and what is taken
  abbrev pub given : Envelope → ℕ
  given e = above (body_worth worth e.body)

  abbrev pub taken : Envelope → ℕ
  taken e = below (body_worth worth e.body)

  -- what envelopes are worth is what they give less what they take
  pub in-two : (es : List Envelope) → worth_of worth es +ℤ pos (sum_by (λ e. taken e) es) ≡ pos (sum_by (λ e. given e) es)
  in-two [] = refl
  in-two (e ∷ es) =
      let rest = in-two es in let one = above-below (body_worth worth e.body) in
      let a = sum_by-cons (λ e. given e) e es in let b = sum_by-cons (λ e. taken e) e es in omega (arith, ints, rest, one, a, b)

  abbrev pub told_worth : List AddressedBody → ℤ
  told_worth ts = sum_of (λ (t : AddressedBody). body_worth worth t.1) ts

  pub worth-told : (by number : ℕ) (ts : List AddressedBody) → worth_of worth (envelopes_from by number ts) ≡ told_worth ts
  worth-told by number [] = refl
  worth-told by number (t ∷ ts) = ap (λ n. body_worth worth t.1 +ℤ n) (worth-told by (number + 1) ts)

  pub worth-asked : (effects : List Effect) → told_worth (asked effects) ≡ all_sent worth effects
  worth-asked [] = refl
  worth-asked (effect.Tell to kind value ∷ effects) = ap (λ n. sent_worth worth (effect.Tell to kind value) +ℤ n) (worth-asked effects)
  worth-asked (effect.Control to kind value ∷ effects) = ap (λ n. sent_worth worth (effect.Control to kind value) +ℤ n) (worth-asked effects)
  worth-asked (effect.Watch x ∷ effects) = worth-asked effects ∙ sym (+ℤ_idl (all_sent worth effects))
  worth-asked (effect.Unwatch x ∷ effects) = worth-asked effects ∙ sym (+ℤ_idl (all_sent worth effects))
  worth-asked (effect.Stop x ∷ effects) = worth-asked effects ∙ sym (+ℤ_idl (all_sent worth effects))
  worth-asked (effect.Spawn x ∷ effects) = worth-asked effects ∙ sym (+ℤ_idl (all_sent worth effects))

  worth-body : (b : Body) → sum_of worth (body_messages b) ≡ body_worth worth b
  worth-body (body.User kind value) = +ℤ_idr (body_worth worth (body.User kind value))
  worth-body (body.Control kind value) = +ℤ_idr (body_worth worth (body.Control kind value))
  worth-body (body.Terminated x) = +ℤ_idr (body_worth worth (body.Terminated x))
  worth-body body.PoisonPill = refl
  worth-body body.Kill = refl

  module _ (notice : (x : ActorId) → worth (Terminated x) ≡ pos 0) where
    pub worth-notice : (this x : ActorId) → told_worth ((this, body.Terminated x) ∷ []) ≡ pos 0
    worth-notice this x = +ℤ_idr (worth (Terminated x)) ∙ notice x

    worth-dropped : (who : Identity) (before : List Entry) (b : Body) → IsUnexpected who before b → body_worth worth b ≡ pos 0
    worth-dropped who before (body.User kind value) unexpected = absurd unexpected
    worth-dropped who before (body.Control kind value) unexpected = absurd unexpected
    worth-dropped who before (body.Terminated x) unexpected = notice x
    worth-dropped who before body.PoisonPill unexpected = absurd unexpected
    worth-dropped who before body.Kill unexpected = absurd unexpected

    -- what an actor took is what it handled: what it dropped is worth nothing
    pub worth-begun : (who : Identity) (gives : Moment → Reply → Type 0) (journal : List Entry) → AreLawful who gives journal
        → worth_of worth (begun journal) ≡ sum_of worth (handled_messages journal)
    unfolding AreLawful
    worth-begun who gives [] lawful = refl
    worth-begun who gives (Handled envelope reading outcome ∷ before) lawful =
        let rest = worth-begun who gives before lawful.1 in
        let a = sum-append (λ (e : Envelope). body_worth worth e.body) (begun before) (envelope ∷ []) in
        let b = sum-append worth (handled_messages before) (body_messages envelope.body) in
        let one = worth-body envelope.body in omega (arith, ints, rest, a, b, one)
    worth-begun who gives (System number m outcome ∷ before) lawful =
        let rest = worth-begun who gives before lawful.1 in
        let b = sum-append worth (handled_messages before) [] in omega (arith, ints, rest, b)
    worth-begun who gives (Dropped envelope ∷ before) lawful =
        let rest = worth-begun who gives before lawful.1 in
        let a = sum-append (λ (e : Envelope). body_worth worth e.body) (begun before) (envelope ∷ []) in
        let b = sum-append worth (handled_messages before) [] in
        let none = worth-dropped who before envelope.body lawful.0.unexpected in omega (arith, ints, rest, a, b, none)
