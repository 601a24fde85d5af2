-- An envelope whose handling changes nothing beside the journal but for what it tells.
use Rattle.std.proofs.Common.{◌≡◌, List, [], ◌∷◌, ◌++◌, true, false, refl, ap, sym, ◌∙◌}
use Rattle.std.proofs.lemmas.List.{append-nil}
use Rattle.std.proofs.lemmas.Bool.{false≢true}
use Rattle.std.specs.Prelude.{Option, None}
use Rattle.std.specs.List.{list_all}
use Rattle.mb_msg.specs.declared.envelope.Body.{Body}
use Rattle.mb_msg.specs.declared.envelope.Body.TheVariants as body
use Rattle.mb_msg.specs.declared.id.ActorId.{ActorId}
use Rattle.mb_actor.specs.OutboxView.{is_tell, spawns_of}
use Rattle.mb_actor.specs.declared.answer.Answer.{Answer}
use Rattle.mb_actor.specs.declared.effect.Effect.{Effect}
use Rattle.mb_actor.specs.declared.effect.Effect.TheVariants as effect
use Rattle.mb_journal.specs.Acts.{effect_acts, stop_acts}
use Rattle.mb_journal.specs.Acts.Act.{Tell}
use Rattle.mb_journal.specs.Failure.{failure_of}
use Rattle.mb_journal.specs.Identity.{Identity}
use Rattle.mb_journal.specs.Watching.{watching_after, due_after}
use Rattle.mb_supervision.specs.CellStateRecord.{CellState}
use Rattle.mb_supervision.specs.Rows.{with_effects, due_told, failing_if, handled}

-- ---- tells add their acts, and change nothing else

acts-of_tells : (this : ActorId) (list : List ActorId) (effects : List Effect) → list_all is_tell effects ≡ true → effect_acts this list effects ≡ stop_acts effects
unfolding effect_acts
acts-of_tells this list [] all = refl
acts-of_tells this list (effect.Tell to kind value ∷ effects) all = ap (λ more. Tell to (body.User kind value) ∷ more) (acts-of_tells this list effects all)
acts-of_tells this list (effect.Control to kind value ∷ effects) all = ap (λ more. Tell to (body.Control kind value) ∷ more) (acts-of_tells this list effects all)
acts-of_tells this list (effect.Watch x ∷ effects) all = absurd (false≢true all)
acts-of_tells this list (effect.Unwatch x ∷ effects) all = absurd (false≢true all)
acts-of_tells this list (effect.Stop x ∷ effects) all = absurd (false≢true all)
acts-of_tells this list (effect.Spawn x ∷ effects) all = absurd (false≢true all)

spawns-of_tells : (effects : List Effect) → list_all is_tell effects ≡ true → spawns_of effects ≡ []
spawns-of_tells [] all = refl
spawns-of_tells (effect.Tell to kind value ∷ effects) all = spawns-of_tells effects all
spawns-of_tells (effect.Control to kind value ∷ effects) all = spawns-of_tells effects all
spawns-of_tells (effect.Watch x ∷ effects) all = absurd (false≢true all)
spawns-of_tells (effect.Unwatch x ∷ effects) all = absurd (false≢true all)
spawns-of_tells (effect.Stop x ∷ effects) all = absurd (false≢true all)
spawns-of_tells (effect.Spawn x ∷ effects) all = absurd (false≢true all)

watching-after_tells : (this : ActorId) (list : List ActorId) (effects : List Effect) → list_all is_tell effects ≡ true → watching_after this list effects ≡ list
watching-after_tells this list [] all = refl
watching-after_tells this list (effect.Tell to kind value ∷ effects) all = watching-after_tells this list effects all
watching-after_tells this list (effect.Control to kind value ∷ effects) all = watching-after_tells this list effects all
watching-after_tells this list (effect.Watch x ∷ effects) all = absurd (false≢true all)
watching-after_tells this list (effect.Unwatch x ∷ effects) all = absurd (false≢true all)
watching-after_tells this list (effect.Stop x ∷ effects) all = absurd (false≢true all)
watching-after_tells this list (effect.Spawn x ∷ effects) all = absurd (false≢true all)

due-after_tells : (list : List ActorId) (effects : List Effect) → list_all is_tell effects ≡ true → due_after list effects ≡ list
due-after_tells list [] all = refl
due-after_tells list (effect.Tell to kind value ∷ effects) all = due-after_tells list effects all
due-after_tells list (effect.Control to kind value ∷ effects) all = due-after_tells list effects all
due-after_tells list (effect.Watch x ∷ effects) all = absurd (false≢true all)
due-after_tells list (effect.Unwatch x ∷ effects) all = absurd (false≢true all)
due-after_tells list (effect.Stop x ∷ effects) all = absurd (false≢true all)
due-after_tells list (effect.Spawn x ∷ effects) all = absurd (false≢true all)

-- the effects of a call, where each is a tell
with-tells : (who : Identity) (effects : List Effect) (b : CellState) → list_all is_tell effects ≡ true →
    with_effects who effects b ≡ record b { acts = b.acts ++ stop_acts effects }
with-tells who effects b all = λ i. record b {
  children = (ap (λ more. b.children ++ more) (spawns-of_tells effects all) ∙ append-nil b.children) i;
  watching = watching-after_tells who.this b.watching effects all i;
  due = due-after_tells b.due effects all i;
  acts = b.acts ++ acts-of_tells who.this b.watching effects all i;
}

pub handled-telling : (who : Identity) (carried : Body) (a : Option Answer) (effects : List Effect) (b : CellState) → list_all is_tell effects ≡ true →
    failure_of carried a ≡ None → due_told carried b.due ≡ b.due →
    record b { acts = stop_acts effects; is_ready = false } ≡ handled who carried a effects b
handled-telling who carried a effects b all no_failure same =
    sym ((λ i. failing_if who (no_failure i) (with_effects who effects (record b { due = same i; acts = []; is_ready = false })))
    ∙ with-tells who effects (record b { acts = []; is_ready = false }) all)
