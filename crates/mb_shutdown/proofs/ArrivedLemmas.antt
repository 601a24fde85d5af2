-- What the accounts of a receiver say once all passes were taken in.
use Rattle.std.proofs.Common.{◌≡◌, ◌≢◌, ℕ, List, [], ◌∷◌, ◌++◌, refl, sym, subst, ◌∙◌, Some, None}
use Rattle.std.specs.List.{All}
use Rattle.std.proofs.lemmas.List.{append-nil}
use Rattle.std.proofs.lemmas.List.Elements.{All-nil, All-cons, All-head, All-tail}
use Rattle.mb_msg.specs.declared.envelope.Envelope.{Envelope}
use Rattle.mb_queue.specs.declared.ledger.Account.{Account}
use Rattle.mb_queue.specs.Ledger.{account, home}
use Rattle.mb_queue.proofs.Lists.{account-other, account-same}
use Rattle.mb_queue.specs.Fates.{InOrder}
use Rattle.mb_queue.specs.Parts.{controls, others}
use Rattle.mb_queue.specs.Passes.{SendPassView, TakePassView, first_in_first_out, control_first}
use Rattle.mb_queue.specs.Takes.{AllOut, EachOnce, IsTake}
use Rattle.mb_shutdown.specs.AllArrived.{AllArrived}
use Rattle.mb_shutdown.specs.Joined.{AreOfDifferent, joined, joined_by}

-- the account of another sender stays
account-kept : (t : TakePassView) (passes : List SendPassView) (sender : ℕ) → All (λ (q : SendPassView). q.by ≢ sender) passes
    → account (joined_by t passes).accounts sender ≡ account t.accounts sender
account-kept t [] sender others = refl
account-kept t (p ∷ passes) sender others =
    account-kept (joined t p) passes sender (All-tail (λ (q : SendPassView). q.by ≢ sender) p passes others)
    ∙ account-other t.accounts (home p.by p.pushed) sender (All-head (λ (q : SendPassView). q.by ≢ sender) p passes others)

abbrev pub IsKnownBy : TakePassView → SendPassView → Type 0
IsKnownBy t p = account t.accounts p.by ≡ Some p.pushed

-- the account of each is what it pushed
pub all-known : (t : TakePassView) (passes : List SendPassView) → AreOfDifferent passes → All (IsKnownBy (joined_by t passes)) passes
all-known t [] different = All-nil (IsKnownBy t)
all-known t (p ∷ passes) different =
    All-cons (IsKnownBy (joined_by (joined t p) passes)) p passes
    (account-kept (joined t p) passes p.by different.0 ∙ account-same t.accounts (home p.by p.pushed) p.by refl)
    (all-known (joined t p) passes different.1)

pub same-discipline : (t : TakePassView) (passes : List SendPassView) → (joined_by t passes).discipline ≡ t.discipline
same-discipline t [] = refl
same-discipline t (p ∷ passes) = same-discipline (joined t p) passes

pub same-queue : (t : TakePassView) (passes : List SendPassView) → (joined_by t passes).queue ≡ t.queue
same-queue t [] = refl
same-queue t (p ∷ passes) = same-queue (joined t p) passes

pub same-taken : (t : TakePassView) (passes : List SendPassView) → (joined_by t passes).taken ≡ t.taken
same-taken t [] = refl
same-taken t (p ∷ passes) = same-taken (joined t p) passes

-- of each part of a control-aware queue, all that the senders pushed came, in their order
abbrev pub PartsOut : TakePassView → Type 0
PartsOut t = AllOut controls t.accounts t.taken × AllOut others t.accounts t.taken

-- so it is once a take found nothing
pub parts-out : (old new : TakePassView) → IsTake old.discipline old None new → new.taken ≡ old.taken ++ [] → new.discipline ≡ old.discipline
    → new.accounts ≡ old.accounts → new.discipline ≡ control_first → PartsOut new
parts-out old new follows_discipline taken discipline accounts kind =
    let found : IsTake control_first old None new = subst (λ k. IsTake k old None new) (sym discipline ∙ kind) follows_discipline in
    let all : new.taken ≡ old.taken = taken ∙ append-nil old.taken in
    subst (λ (x : List Account × List Envelope). AllOut controls x.0 x.1 × AllOut others x.0 x.1) (λ i. (sym accounts i, sym all i)) found.1

-- once a take found nothing, all that each pushed came
pub all-came : (t : TakePassView) (passes : List SendPassView) → EachOnce t → (t.discipline ≡ first_in_first_out → InOrder t)
    → (t.discipline ≡ control_first → PartsOut t) → All (IsKnownBy t) passes → All (AllArrived t.discipline t.taken) passes
all-came t [] once in_order parts known = All-nil (AllArrived t.discipline t.taken)
all-came t (p ∷ passes) once in_order parts known =
    let mine = All-head (IsKnownBy t) p passes known in
    All-cons (AllArrived t.discipline t.taken) p passes
    (record {
      once = once p.by p.pushed mine;
      in_order = λ discipline. in_order discipline p.by p.pushed mine;
      parts_in_order = λ discipline. let out = parts discipline in (out.0 p.by p.pushed mine, out.1 p.by p.pushed mine);
    })
    (all-came t passes once in_order parts (All-tail (IsKnownBy t) p passes known))
