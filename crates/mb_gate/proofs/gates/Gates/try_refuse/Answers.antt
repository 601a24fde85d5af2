use Rattle.std.proofs.Common.{rules, refl, arith}
use Rattle.std.proofs.lemmas.Bool.{eqb-true}
use Rattle.mb_gate.specs.Accessors.{first_home}
use Rattle.mb_gate.proofs.Allowed.{refuses_allowed}
use Rattle.mb_gate.proofs.ListCalls.{choose}
use Rattle.mb_gate.proofs.gates.Gates.try_refuse.Goals as goal

pub compare_exchange_with-found-requires : goal.compare_exchange_with-found-requires
compare_exchange_with-found-requires g c = (
  search rules,
  search rules,
  refuses_allowed (g.H.MailboxState.is_of (first_home c.args.self.now)) g.H.MailboxState.facts _ _ _ _ c.args.id.0 _
      (let k = c.args.self.now.keyed in let t = c.requires.present in omega arith) _
      c.args.message c.word_index-gate.ensures (eqb-true _ _ c.requires.ended),
)

pub returns-clause-answer : goal.returns-clause-answer
returns-clause-answer g c = let told = c.compare_exchange_with-found.ensures.2 _ c.args.message c.word_index-gate.ensures refl in choose _ _ _ _
    _ (λ hit. (told.0 hit).0) told.1

pub returns-clause-held : goal.returns-clause-held
returns-clause-held g c = λ yes. let told = c.compare_exchange_with-found.ensures.2 _ c.args.message c.word_index-gate.ensures refl in
    (told.0 (eqb-true _ _ yes)).1
