-- What is left of a control-aware queue: control messages before all others.
use Rattle.std.proofs.Common.{◌≡◌, ◌⊎◌, ⊎_elim, inl, inr, ℕ, Bool, true, false, not, MatchBool, List, [], ◌∷◌, ◌++◌, length}
use Rattle.std.proofs.Common.{map, refl, sym, ap, ◌∙◌, subst, arith, append_assoc, length-append, Option, Some, None}
use Rattle.std.specs.Prelude.{All, Contains, IsSome}
use Rattle.std.proofs.lemmas.Bool.{false≢true}
use Rattle.std.proofs.lemmas.List.{append-nil}
use Rattle.std.proofs.lemmas.List.Elements.{All-contains, All-nil, All-cons, All-head, All-tail}
use Rattle.mb_msg.specs.declared.envelope.Envelope.{Envelope}
use Rattle.mb_queue.specs.declared.ledger.Account.{Account}
use Rattle.mb_queue.specs.Ledger.{account, is_control, sent_by}
use Rattle.mb_queue.proofs.Lists.{sent_by-mine}
use Rattle.mb_queue.specs.Fates.{AllJoined, pushed_by}
use Rattle.mb_queue.specs.Parts.{controls, others}
use Rattle.mb_queue.specs.Passes.{Queue, SendPassView, TakePassView, control_first}
use Rattle.mb_queue.specs.Takes.{AllBegin, AllOut, IsTake}
use Rattle.mb_queue.proofs.Taken.{filter-more, filter-same}
use Rattle.mb_shutdown.specs.Joined.{AreOfAllSenders, AreOfDifferent, joined_by}
use Rattle.mb_shutdown.specs.Parts.{IsControlsFirst}
use Rattle.mb_shutdown.proofs.ArrivedLemmas.{IsKnownBy, all-known, same-queue}
use Rattle.mb_shutdown.proofs.RestLemmas.{SameQueue}

-- Of a control-aware queue, all of whose senders' passes were taken in: control messages came before all others, and once another came, no
-- control message was there any more.
abbrev pub ControlsCame : TakePassView → List Envelope → Type 0
ControlsCame t left = t.discipline ≡ control_first → AllJoined t
    → IsControlsFirst left × ((others left ≡ []) ⊎ AllOut controls t.accounts t.taken)

pub none-came : (t : TakePassView) (left : List Envelope) → left ≡ [] → ControlsCame t left
none-came t left none = subst (ControlsCame t) (sym none) (λ kind joined. (refl, inl refl))

-- the same passes were taken in
joined-same : (old new : TakePassView) → new.queue ≡ old.queue → new.accounts ≡ old.accounts → AllJoined old → AllJoined new
joined-same old new queue accounts =
    subst (λ (x : Queue × List Account). (sender : ℕ) → Contains x.0.senders sender → IsSome (account x.1 sender))
    (λ i. (sym queue i, sym accounts i))

known-of : (o : Option (List Envelope)) → IsSome o → (pushed : List Envelope) × (o ≡ Some pushed)
known-of None is = absurd (false≢true is)
known-of (Some pushed) is = (pushed, refl)

-- of what was all given, nothing more is given
none-more : (given rest : List Envelope) (e : Envelope) → given ≡ (given ++ e ∷ []) ++ rest → ⊥
none-more given rest e is =
    let a = ap length is in let b = length-append (given ++ e ∷ []) rest in let c = length-append given (e ∷ []) in omega (arith, a, b, c)

module _ (old new : TakePassView) (left : List Envelope) (e : Envelope) (taken : new.taken ≡ old.taken ++ e ∷ []) (accounts : new.accounts ≡ old.accounts)
  where
    abbrev Now : Type 0
    Now = IsControlsFirst (left ++ e ∷ []) × ((others (left ++ e ∷ []) ≡ []) ⊎ AllOut controls new.accounts new.taken)

    -- a control message, before any other
    control-more : is_control e ≡ true → IsControlsFirst left → others left ≡ [] → Now
    control-more is first none =
        let one : controls (left ++ e ∷ []) ≡ controls left ++ e ∷ [] = filter-more is_control left e is in
        let no : others (left ++ e ∷ []) ≡ [] = filter-same (λ x. not (is_control x)) left e (ap not is) ∙ none in
        let all : left ≡ controls left = first ∙ ap (λ l. controls left ++ l) none ∙ append-nil (controls left) in
        let whole : controls (left ++ e ∷ []) ++ others (left ++ e ∷ []) ≡ left ++ e ∷ [] =
        (λ i. one i ++ no i) ∙ append-nil (controls left ++ e ∷ []) ∙ ap (λ l. l ++ e ∷ []) (sym all) in
        (sym whole, inl no)

    -- no control message comes once all were given
    control-none : is_control e ≡ true → AllBegin controls old.accounts new.taken → AllOut controls old.accounts old.taken
        → IsSome (account old.accounts e.by.0) → ⊥
    control-none is begins out some =
        let p = known-of (account old.accounts e.by.0) some in let next = begins e.by.0 p.0 p.1 in
        let more : sent_by e.by.0 (controls new.taken) ≡ sent_by e.by.0 (controls old.taken) ++ e ∷ []
        = ap (λ l. sent_by e.by.0 (controls l)) taken ∙ ap (sent_by e.by.0) (filter-more is_control old.taken e is)
        ∙ sent_by-mine e.by.0 (controls old.taken) e refl in
        none-more (sent_by e.by.0 (controls old.taken)) next.0 e
        (sym (out e.by.0 p.0 p.1) ∙ next.1 ∙ ap (λ l. l ++ next.0) more)

    -- another message
    other-more : is_control e ≡ false → IsControlsFirst left → AllOut controls old.accounts old.taken → Now
    other-more is first out =
        let same : controls (left ++ e ∷ []) ≡ controls left = filter-same is_control left e is in
        let one : others (left ++ e ∷ []) ≡ others left ++ e ∷ [] = filter-more (λ x. not (is_control x)) left e (ap not is) in
        let kept : controls new.taken ≡ controls old.taken = ap controls taken ∙ filter-same is_control old.taken e is in
        let whole : controls (left ++ e ∷ []) ++ others (left ++ e ∷ []) ≡ left ++ e ∷ [] =
        (λ i. same i ++ one i) ∙ sym (append_assoc (controls left) (others left) (e ∷ [])) ∙ ap (λ l. l ++ e ∷ []) (sym first) in (
          sym whole,
          inr (λ sender pushed at.
              out sender pushed (ap (λ l. account l sender) (sym accounts) ∙ at) ∙ ap (sent_by sender) (sym kept)),
        )

    by-part : (b : Bool) → is_control e ≡ b
        → MatchBool b (AllBegin controls old.accounts new.taken) (AllOut controls old.accounts old.taken × AllBegin others old.accounts new.taken)
        → IsControlsFirst left × ((others left ≡ []) ⊎ AllOut controls old.accounts old.taken) → IsSome (account old.accounts e.by.0) → Now
    by-part true is follows_discipline before some =
        ⊎_elim (λ none. control-more is before.0 none) (λ out. absurd (control-none is follows_discipline out some)) before.1
    by-part false is follows_discipline before some = other-more is before.0 follows_discipline.0

    -- one more came
    pub one-came : SameQueue old new → IsTake old.discipline old (Some e) new → Contains old.queue.senders e.by.0 → ControlsCame old left
        → ControlsCame new (left ++ e ∷ [])
    one-came same follows_discipline sender before kind joined =
        let kind' : old.discipline ≡ control_first = sym same.1 ∙ kind in
        let joined' : AllJoined old = joined-same new old (sym same.0) (sym accounts) joined in
        by-part (is_control e) refl (subst (λ k. IsTake k old (Some e) new) kind' follows_discipline).1 (before kind' joined') (joined' e.by.0 sender)

-- what was taken out of the receiver's queue
pub controls-left : (first t : TakePassView) (left : List Envelope) → SameQueue first t → t.accounts ≡ first.accounts → ControlsCame t left
    → first.discipline ≡ control_first → AllJoined first → IsControlsFirst left
controls-left first t left same accounts came kind joined = (came (same.1 ∙ kind) (joined-same first t same.0 accounts joined)).0

known-senders : (t : TakePassView) (passes : List SendPassView) → All (IsKnownBy t) passes
    → All (λ sender. IsSome (pushed_by t sender)) (map (λ (p : SendPassView). p.by) passes)
known-senders t [] known = All-nil (λ sender. IsSome (pushed_by t sender))
known-senders t (p ∷ passes) known =
    All-cons (λ sender. IsSome (pushed_by t sender)) p.by (map (λ (q : SendPassView). q.by) passes)
    (subst IsSome (sym (All-head (IsKnownBy t) p passes known)) refl) (known-senders t passes (All-tail (IsKnownBy t) p passes known))

-- the passes of all senders were taken in
pub all-joined : (t : TakePassView) (passes : List SendPassView) → AreOfDifferent passes → AreOfAllSenders t.queue passes → AllJoined (joined_by t passes)
all-joined t passes different all sender among =
    let now = joined_by t passes in
    let here : Contains t.queue.senders sender = subst (λ (q : Queue). Contains q.senders sender) (same-queue t passes) among in
    All-contains (λ n. IsSome (pushed_by now n)) (map (λ (p : SendPassView). p.by) passes) sender
    (known-senders now passes (all-known t passes different))
    (All-contains (λ n. Contains (map (λ (p : SendPassView). p.by) passes) n) t.queue.senders sender all here)
