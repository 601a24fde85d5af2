use Rattle.std.proofs.Common.{rules, ◌∷◌, ap, sym, ◌∙◌, refl, subst, arith}
use Rattle.atomic_table.specs.Table.{rest}
use Rattle.mb_syslist.specs.MessageList.{MessageList, with_last, pushed}
use Rattle.mb_gate.specs.declared.slot.Slot.TheVariants.{List as Listing}
use Rattle.mb_gate.specs.View.{Lent, enlisting}
use Rattle.mb_gate.specs.NamedActors.{NamesBelow}
use Rattle.mb_gate.specs.Accessors.{first_home}
use Rattle.mb_gate.proofs.Allowed.{enlists_allowed}
use Rattle.mb_gate.proofs.ListCalls.{word_listed, list_taken}
use Rattle.mb_gate.proofs.gates.Gates.enlist.Goals as goal

pub push_last-number-requires : goal.push_last-number-requires
push_last-number-requires g c =
    let lent = c.requires.lent.0 in
    let same = list_taken c.args.id.0 _ lent.listed c.in-List.list c.slot_mut.result.now c.args.seat.now.me lent.carried c.slot_mut.ensures.value c.in-List.is in
    record { not_ended = ap (λ (l : MessageList). l.closed) same ∙ c.requires.lent.1 }

pub store-requires : goal.store-requires
store-requires g c =
    let lent = c.requires.lent.0 in
    let l : Lent = record { actor = c.args.id.0; listed = lent.listed; gave = lent.gave } in
    let same = list_taken c.args.id.0 _ lent.listed c.in-List.list c.slot_mut.result.now c.args.seat.now.me lent.carried c.slot_mut.ensures.value c.in-List.is in
    let list = c.push_last-number.ensures.list ∙ ap (λ (x : MessageList). with_last x c.args.node) same in
    let not_full = c.push_last-number.ensures.not_full in
    let same_pushed = ap pushed same in (
      search rules,
      search rules,
      enlists_allowed (g.H.MailboxState.is_of (first_home c.args.self.now)) g.H.MailboxState.facts _ _ _ _ c.args.id.0 _ (let k =
          c.args.self.now.keyed in let t = c.requires.present in omega arith) l c.args.node _ c.word_index-gate.ensures lent.has refl
          (λ i. (c.slot_index.ensures i, Listing (list i)) ∷ rest c.args.seat.now.me.1)
          (c.with_listed-new.ensures ∙ word_listed c.args.word.bits lent.listed lent.gave c.args.node lent.found)
          c.requires.lent.1 (subst (λ n. NamesBelow n c.args.node) (sym c.args.self.now.keyed) c.requires.named) (omega (arith, not_full, same_pushed)),
    )

pub returns-clause-listed : goal.returns-clause-listed
returns-clause-listed g c =
    let lent = c.requires.lent.0 in
    let l : Lent = record { actor = c.args.id.0; listed = lent.listed; gave = lent.gave } in
    let same = list_taken c.args.id.0 _ lent.listed c.in-List.list c.slot_mut.result.now c.args.seat.now.me lent.carried c.slot_mut.ensures.value c.in-List.is in
    let list = c.push_last-number.ensures.list ∙ ap (λ (x : MessageList). with_last x c.args.node) same in
    let number = c.push_last-number.ensures.number ∙ ap pushed same in
    (c.store.ensures.2 c.args.id.0 l c.args.node lent.has (λ i. (c.slot_index.ensures i, Listing (list i)) ∷ rest c.args.seat.now.me.1)).0 ∙
    (λ i. (enlisting c.args.id.0 (sym number i) c.args.node c.args.seat.now.me.0, rest c.args.seat.now.me.1))
