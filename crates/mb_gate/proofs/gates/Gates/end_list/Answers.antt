use Rattle.std.proofs.Common.{rules, ◌∷◌, ap, sym, ◌∙◌, refl, subst, arith}
use Rattle.atomic_table.specs.Table.{rest}
use Rattle.mb_syslist.specs.MessageList.{numbered, listed, ended}
use Rattle.mb_gate.specs.declared.slot.Slot.TheVariants.{List as Listing}
use Rattle.mb_gate.specs.View.{Lent, ending}
use Rattle.mb_gate.specs.Claims.{held_in}
use Rattle.mb_gate.specs.NamedActors.{NamesBelow, EachNamesBelow}
use Rattle.mb_gate.specs.Accessors.{first_home, actors_of}
use Rattle.mb_gate.proofs.Numbers.{all_with_numbers}
use Rattle.mb_gate.proofs.Allowed.{ends_allowed}
use Rattle.mb_gate.proofs.ListCalls.{word_ended, list_taken}
use Rattle.mb_gate.proofs.gates.Gates.end_list.Goals as goal

pub store-requires : goal.store-requires
store-requires g c =
    let lent = c.requires.holds_list.lent in
    let l : Lent = record { actor = c.args.id.0; listed = lent.listed; gave = lent.gave } in
    let same = list_taken c.args.id.0 _ lent.listed c.in-List.list c.slot_mut.result.now c.args.seat.now.me lent.carried c.slot_mut.ensures.value c.in-List.is in
    let list = c.close-chain.ensures.list ∙ ap ended same in (
      search rules,
      search rules,
      ends_allowed (g.H.MailboxState.is_of (first_home c.args.self.now)) g.H.MailboxState.facts _ _ _ _ c.args.id.0 _ (let k =
          c.args.self.now.keyed in let t = c.requires.present in omega arith) (held_in c.args.seat.now.me.0) l _ c.word_index-gate.ensures
          (let k = c.args.self.now.keyed in let d = c.args.self.now.slot_count in omega arith)
          c.requires.holds_list.holder.has c.requires.holds_list.holder.of lent.has refl
          (λ i. (c.slot_index.ensures i, Listing (list i)) ∷ rest c.args.seat.now.me.1)
          (c.with_ended-new.ensures ∙ word_ended c.args.word.bits lent.listed lent.gave lent.found) c.requires.closed,
    )

pub returns-clause-drained : goal.returns-clause-drained
returns-clause-drained g c =
    let lent = c.requires.holds_list.lent in
    let l : Lent = record { actor = c.args.id.0; listed = lent.listed; gave = lent.gave } in
    let same = list_taken c.args.id.0 _ lent.listed c.in-List.list c.slot_mut.result.now c.args.seat.now.me lent.carried c.slot_mut.ensures.value c.in-List.is in
    let told = c.store.ensures.2 l (held_in c.args.seat.now.me.0) lent.has c.requires.holds_list.holder.has in
    let chain = c.close-chain.ensures.chain ∙ ap listed same in
    told.0 ∙ (λ i. (ending c.args.id.0 (sym chain i) (held_in c.args.seat.now.me.0).gave c.args.seat.now.me.0, rest c.args.seat.now.me.1))

pub returns-clause-numbers : goal.returns-clause-numbers
returns-clause-numbers g c =
    let lent = c.requires.holds_list.lent in
    let l : Lent = record { actor = c.args.id.0; listed = lent.listed; gave = lent.gave } in
    let same = list_taken c.args.id.0 _ lent.listed c.in-List.list c.slot_mut.result.now c.args.seat.now.me lent.carried c.slot_mut.ensures.value c.in-List.is in
    let told = c.store.ensures.2 l (held_in c.args.seat.now.me.0) lent.has c.requires.holds_list.holder.has in
    let chain = c.close-chain.ensures.chain ∙ ap listed same in
    record { messages = lent.listed.messages; each = chain ∙ ap (λ n. numbered n lent.listed.messages) told.1 }

pub returns-clause-named : goal.returns-clause-named
returns-clause-named g c =
    let lent = c.requires.holds_list.lent in
    let l : Lent = record { actor = c.args.id.0; listed = lent.listed; gave = lent.gave } in
    let same = list_taken c.args.id.0 _ lent.listed c.in-List.list c.slot_mut.result.now c.args.seat.now.me lent.carried c.slot_mut.ensures.value c.in-List.is in
    let told = c.store.ensures.2 l (held_in c.args.seat.now.me.0) lent.has c.requires.holds_list.holder.has in
    let chain = c.close-chain.ensures.chain ∙ ap listed same in
    let actors = actors_of c.args.self.now in
    subst (EachNamesBelow actors) (sym chain) (all_with_numbers (NamesBelow actors) lent.listed.given lent.listed.messages
    (told.2 actors c.args.self.now.slot_count))
