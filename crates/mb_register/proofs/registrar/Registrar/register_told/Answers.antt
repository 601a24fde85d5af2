use Rattle.std.proofs.Common.{◌≡◌, ◌⊎◌, ◌<◌, ◌+◌, ◌++◌, [], ◌∷◌, ℕ, List, true, sym, ap, ◌∙◌, subst, refl, length, get_or, take}
use Rattle.std.proofs.lemmas.List.{take_all, take_more}
use Rattle.std.proofs.lemmas.List.Elements.{All-get_or}
use Rattle.std.specs.Prelude.{All}
use Rattle.mb_core.specs.Actor.{nothing}
use Rattle.mb_gate.specs.Accessors.{actors_of, pass_view}
use Rattle.mb_gate.specs.View.{obligation_to}
use Rattle.mb_msg.specs.declared.id.ActorId.{ActorId}
use Rattle.mb_register.specs.declared.hint.Hint.TheVariants as hint
use Rattle.mb_register.specs.ActorSet.{has_actor}
use Rattle.mb_register.specs.Told.{ToldView, is_among}
use Rattle.mb_register.proofs.CallerLemmas.{account-registered}
use Rattle.mb_register.proofs.ClaimCounts.{loses-none, loses-handed, loses-then}
use Rattle.mb_register.proofs.Dues.{got-none, got-then}
use Rattle.mb_register.proofs.ToldLemmas.{all-among, holds-among, order-as, order-none, order-next, registered-as, registered-none, registered-next}
use Rattle.mb_register.proofs.registrar.Registrar.register_told.Goals as goal

abbrev nobody : ActorId
nobody = record { 0 = 0 }

pub loop-index-init : goal.loop-index-init
loop-index-init g c =
    let v = pass_view c.args.self.now.pass in
    (refl, refl, loses-none _ v, got-none hint.None v v refl, registered-none c.args.self.now.told _ v, order-none _, refl)

pub register-requires : goal.register-requires
register-requires g c =
    let at = c.loop-index.invariant in
    let told = c.args.self.now.told in
    let all = c.as_slice-index-end.ensures.all in
    let same : c.as_slice.result.now ≡ told.order = c.as_slice.ensures.value ∙ ap (λ (t : ToldView). t.order) at.6 in
    let less : c.loop-index.index < length told.order
    = subst (λ (l : List ActorId). c.loop-index.index < length l) c.as_slice-index-end.ensures.value c.loop-index-test.true in
    let few = All-get_or (λ (a : ActorId). a.0 < 64) told.order c.loop-index.index nobody less all.within_limit in
    let there = All-get_or (λ (a : ActorId). is_among told.order a.0 ≡ true) told.order c.loop-index.index nobody less (all-among told.order) in
    let present = c.requires.present (get_or told.order c.loop-index.index nobody).0 few (all.same _ ∙ there) in
    record {
      same_gates = (at.0 ∙ c.requires.same_gates.0, at.1 ∙ c.requires.same_gates.1);
      present = (
        subst (λ (l : List ActorId). (get_or l c.loop-index.index nobody).0 < actors_of c.args.gates.now) (sym same) present,
        subst (λ (l : List ActorId). (get_or l c.loop-index.index nobody).0 < 64) (sym same) few,
      );
    }

pub loop-index-preserved : goal.loop-index-preserved
loop-index-preserved g c =
    let at = c.loop-index.invariant in
    let old = c.args.self.now in let mid = c.loop-index.self in let now = c.register.new.self in
    let told = old.told in
    let index = c.loop-index.index in
    let all = c.as_slice-index-end.ensures.all in
    let same : c.as_slice.result.now ≡ told.order = c.as_slice.ensures.value ∙ ap (λ (t : ToldView). t.order) at.6 in
    let less : index < length told.order
    = subst (λ (l : List ActorId). index < length l) c.as_slice-index-end.ensures.value c.loop-index-test.true in
    let id = get_or c.as_slice.result.now index nobody in
    let few = subst (λ (l : List ActorId). (get_or l index nobody).0 < 64) (sym same)
    (All-get_or (λ (a : ActorId). a.0 < 64) told.order index nobody less all.within_limit) in
    let there = subst (λ (l : List ActorId). has_actor told.set (get_or l index nobody).0 ≡ true) (sym same)
    (all.same _ ∙ All-get_or (λ (a : ActorId). is_among told.order a.0 ≡ true) told.order index nobody less (all-among told.order)) in
    let whole : take (index + 1) told.order ≡ take index told.order ++ id ∷ []
    = take_more told.order index nobody less ∙ ap (λ (l : List ActorId). take index told.order ++ get_or l index nobody ∷ []) (sym same) in
    let did = c.register.ensures in
    let account = account-registered id.0 _ _ c.register.result did.registered in (
      did.registers.same_gates.0 ∙ at.0,
      did.registers.same_gates.1 ∙ at.1,
      loses-then _ _ _ _ _ _ at.2 (loses-handed id.0 _ _ _ _ c.register.result did.handed),
      got-then hint.None (pass_view old.pass) (pass_view mid.pass) (pass_view now.pass) _ _ at.4.looks.log did.registers.looks.log at.3 did.due,
      registered-as _ _ told _ _ _ _ whole (registered-next id _ told _ _ _ _ _ _ few there at.4 did.registers.looks account did.discharged),
      order-as _ _ _ _ whole (order-next id _ _ _ _ c.register.result at.5 did.registered),
      did.registers.told ∙ at.6,
    )

pub returns-clause-discharged : goal.returns-clause-discharged
returns-clause-discharged g c id few there =
    let at = c.loop-index.invariant in
    let told = c.args.self.now.told in
    let now = c.loop-index.self in
    let all = c.as_slice-index-end.ensures.all in
    let Settled : ℕ → Type 0 = λ i. (obligation_to i (pass_view now.pass) ≡ nothing) ⊎ (has_actor now.owed i ≡ true) in
    let whole : take c.loop-index.index told.order ≡ told.order
    = subst (λ (l : List ActorId). take c.loop-index.index l ≡ l) c.as_slice-index-end.ensures.value (take_all _ _ c.loop-index-test.false) in
    holds-among Settled told.order id (subst (All (λ (a : ActorId). Settled a.0)) whole at.4.settled) (sym (all.same id) ∙ there)

pub returns-clause-registers : goal.returns-clause-registers
returns-clause-registers g c =
    let at = c.loop-index.invariant in record { same_gates = (at.0, at.1); looks = at.4.looks; handed = at.2; due = at.3 }
