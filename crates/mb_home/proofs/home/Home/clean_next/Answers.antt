use Rattle.std.proofs.Common.{◌≡◌, List, [], ◌∷◌, ◌++◌, sym, ap, subst, ◌∙◌, append-nil}
use Rattle.mb_msg.specs.declared.envelope.Envelope.{Envelope}
use Rattle.mb_dead_letters.specs.KeptListView.{KeptListView}
use Rattle.mb_home.specs.Contents.{Contents}
use Rattle.mb_home.specs.AgreesWithJournal.{AgreesWithJournal}
use Rattle.mb_home.proofs.AgreesLemmas.{settled-clean, settled-take}
use Rattle.mb_home.proofs.home.Home.clean_next.Goals as goal

-- ---- no place was there

pub returns-in_err-reserve-clause-settled : goal.returns-in_err-reserve-clause-settled
returns-in_err-reserve-clause-settled g c =
    let h : Contents = c.args.self.now in
    let items : c.reserve.new.self.items ≡ h.cleaned = ap (λ (l : KeptListView Envelope). l.items) c.reserve.ensures.same ∙ ap (λ (x : Contents). x.cleaned) c.self.view_is in
    subst (λ (x : Contents). AgreesWithJournal (g.K.Behaviours.gives x.cell.who.this.0) x.cell.acts x)
    (sym (ap (λ (x : Contents). record x { cleaned = c.reserve.new.self.items }) c.self.view_is))
    (subst (λ (l : List Envelope). AgreesWithJournal (g.K.Behaviours.gives h.cell.who.this.0) h.cell.acts (record h { cleaned = l })) (sym items)
    c.requires.settled)

-- ---- no envelope was there

pub returns-in_default-clause-settled : goal.returns-in_default-clause-settled
returns-in_default-clause-settled g c =
    let h : Contents = c.args.self.now in
    let items : c.reserve.new.self.items ≡ h.cleaned = ap (λ (l : KeptListView Envelope). l.items) c.reserve.ensures.same ∙ ap (λ (x : Contents). x.cleaned) c.self.view_is in
    let done =
    settled-take h (g.K.Behaviours.gives h.cell.who.this.0) h.cell.acts c.take.new.self c.requires.settled (
      c.take.ensures.same.0 ∙ ap (λ (x : Contents). x.take.queue) c.self.view_is,
      c.take.ensures.same.1 ∙ ap (λ (x : Contents). x.take.discipline) c.self.view_is,
    )
    (c.in_default.ensures.taken ∙ append-nil c.self.inside.take.taken ∙ ap (λ (x : Contents). x.take.taken) c.self.view_is) in
    subst (λ (x : Contents). AgreesWithJournal (g.K.Behaviours.gives x.cell.who.this.0) x.cell.acts x)
    (sym (ap (λ (x : Contents). record x { take = c.take.new.self; cleaned = c.reserve.new.self.items }) c.self.view_is))
    (subst (λ (l : List Envelope). AgreesWithJournal (g.K.Behaviours.gives h.cell.who.this.0) h.cell.acts (record h { take = c.take.new.self; cleaned = l }))
    (sym items) done)

-- ---- one was cleaned up

pub returns-clause-settled : goal.returns-clause-settled
returns-clause-settled g c =
    let h : Contents = c.args.self.now in
    let e : Envelope = c.in-Some.envelope in
    let items : c.push.new.self.items ≡ h.cleaned ++ e ∷ [] =
    c.push.ensures.items
    ∙ ap (λ (l : KeptListView Envelope). l.items ++ e ∷ []) c.reserve.ensures.same
    ∙ ap (λ (x : Contents). x.cleaned ++ e ∷ []) c.self.view_is in
    let done =
    settled-clean h (g.K.Behaviours.gives h.cell.who.this.0) h.cell.acts c.take.new.self e c.requires.settled c.requires.ended (
      c.take.ensures.same.0 ∙ ap (λ (x : Contents). x.take.queue) c.self.view_is,
      c.take.ensures.same.1 ∙ ap (λ (x : Contents). x.take.discipline) c.self.view_is,
    )
    (c.in-Some.ensures.taken ∙ ap (λ (x : Contents). x.take.taken ++ e ∷ []) c.self.view_is) in
    subst (λ (x : Contents). AgreesWithJournal (g.K.Behaviours.gives x.cell.who.this.0) x.cell.acts x)
    (sym (ap (λ (x : Contents). record x { take = c.take.new.self; cleaned = c.push.new.self.items }) c.self.view_is))
    (subst (λ (l : List Envelope). AgreesWithJournal (g.K.Behaviours.gives h.cell.who.this.0) h.cell.acts (record h { take = c.take.new.self; cleaned = l }))
    (sym items) done)
