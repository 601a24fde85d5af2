-- All receivers at once, with all passes taken in.
use Rattle.std.proofs.Common.{◌≡◌, ℕ, zero, suc, List, [], ◌∷◌, ◌++◌, length, take, drop, refl, sym, ap, ◌∙◌, subst, count_by, Option, Some, None}
use Rattle.std.specs.List.{All}
use Rattle.std.specs.Global.{Global}
use Rattle.std.specs.Prelude.{Vec, option_map, slice_get, Result, Ok, Err, IfErr, IfOk}
use Rattle.std.proofs.lemmas.Option.{none-some, same_Some}
use Rattle.mb_msg.specs.declared.envelope.Envelope.{Envelope}
use Rattle.mb_queue.specs.Parts.{controls, others}
use Rattle.mb_queue.specs.Passes.{IsOfQueue, Queue, SendPassView, TakePassView, Discipline, first_in_first_out, control_first}
use Rattle.mb_journal.specs.Accepted.{NumbersCountUpFrom, accepted, queued, to_actor}
use Rattle.mb_journal.specs.Pair.{FatesInSendOrder, AcceptedMatchFates, EachHasOneFate}
use Rattle.mb_journal.specs.declared.sent_envelope.SentEnvelope.{SentEnvelope}
use Rattle.mb_journal.proofs.Counting.{stands-as-often}
use Rattle.mb_journal.proofs.Naming.{kept-in-order, stands-once}
use Rattle.mb_shutdown.specs.AllArrived.{AllArrived}
use Rattle.mb_shutdown.specs.Parts.{ArePartsInOrder, IsControlsFirst}
use Rattle.mb_shutdown.specs.Joined.{AreOfAllSenders, AreOfDifferent, column, joined_by, joins_all}
use Rattle.mb_shutdown.specs.LeftInQueues.{AreRests, IsOver, IsOverfull, IsRest}
use Rattle.mb_shutdown.proofs.ArrivedLemmas.{same-queue, same-taken, same-discipline}
use Rattle.mb_shutdown.proofs.LeftLemmas.{all-joined}
use Rattle.mb_shutdown.proofs.QueuedLemmas.{queued-are}
use Rattle.mb_shutdown.proofs.JoinLemmas.{length-joins_all, place-joins_all, refilled}

-- what an answer tells tells more
pub ok-then : {T E A B : Type 0} (r : Result T E) → (A → B) → IfOk r (λ _. A) → IfOk r (λ _. B)
ok-then (Ok x) f h = f h
ok-then (Err e) f h = tt

pub err-both : {T E : Type 0} (r : Result T E) (P Q R : E → Type 0) → ((e : E) → P e → Q e → R e) → IfErr r P → IfErr r Q → IfErr r R
err-both (Ok x) P Q R f p q = p
err-both (Err e) P Q R f p q = f e p q

-- the rest of one receiver
rest-at : (takes : List TakePassView) (lefts : List (List Envelope)) (place : ℕ) (take : TakePassView) (left : List Envelope) → AreRests takes lefts
    → slice_get takes place ≡ Some take → slice_get lefts place ≡ Some left → IsRest take left
rest-at [] [] place take left rests there is = absurd (none-some take there)
rest-at [] (l ∷ lefts) place take left rests there is = absurd (none-some take there)
rest-at (t ∷ takes) [] place take left rests there is = absurd (none-some left is)
rest-at (t ∷ takes) (l ∷ lefts) zero take left rests there is =
    subst (λ (x : TakePassView × List Envelope). IsRest x.0 x.1) (λ i. (same_Some t take there i, same_Some l left is i)) rests.0
rest-at (t ∷ takes) (l ∷ lefts) (suc place) take left rests there is = rest-at takes lefts place take left rests.1 there is

-- the rests of receivers that were lent as a slice, and came back with all passes taken in
pub rests-refilled : (rows : List (List SendPassView)) (lefts : List (List Envelope)) (takes now new : List TakePassView) (count : ℕ) → now ≡ takes
    → new ≡ joins_all now rows → length takes ≡ count → AreRests (take count (new ++ drop (length new) takes)) lefts
    → AreRests (joins_all takes rows) lefts
rests-refilled rows lefts takes now new count base came many =
    let is : new ≡ joins_all takes rows = came ∙ ap (λ l. joins_all l rows) base in
    subst (λ l. AreRests l lefts) (refilled count takes new (ap length is ∙ length-joins_all takes rows ∙ many) ∙ is)

pub over-refilled : (rows : List (List SendPassView)) (rooms : List (Vec Envelope Global)) (takes now new : List TakePassView) (count place : ℕ)
    → now ≡ takes → new ≡ joins_all now rows → length takes ≡ count
    → IsOver place (take count (new ++ drop (length new) takes)) rooms → IsOver place (joins_all takes rows) rooms
over-refilled rows rooms takes now new count place base came many =
    let is : new ≡ joins_all takes rows = came ∙ ap (λ l. joins_all l rows) base in
    subst (λ l. IsOver place l rooms) (refilled count takes new (ap length is ∙ length-joins_all takes rows ∙ many) ∙ is)

-- the rest of one receiver that took in the passes to it
module _ (takes : List TakePassView) (rows : List (List SendPassView)) (lefts : List (List Envelope)) (place : ℕ) (take : TakePassView) (left : List Envelope)
    (rests : AreRests (joins_all takes rows) lefts) (there : slice_get takes place ≡ Some take) (is : slice_get lefts place ≡ Some left) where
  rest-joined : IsRest (joined_by take (column place rows)) left
  rest-joined =
      let now : slice_get (joins_all takes rows) place ≡ Some (joined_by take (column place rows))
      = place-joins_all takes rows place ∙ ap (option_map (λ t. joined_by t (column place rows))) there in
      rest-at (joins_all takes rows) lefts place (joined_by take (column place rows)) left rests now is

  pub came-at : AreOfDifferent (column place rows) → All (AllArrived take.discipline (take.taken ++ left)) (column place rows)
  came-at different = rest-joined.came take (column place rows) refl different

  pub known-at : All (IsOfQueue take.queue) (take.taken ++ left)
  known-at =
      subst (λ (x : Queue × List Envelope). All (IsOfQueue x.0) (x.1 ++ left))
      (λ i. (same-queue take (column place rows) i, same-taken take (column place rows) i)) rest-joined.known

  pub ordered-at : AreOfDifferent (column place rows) → take.discipline ≡ control_first → AreOfAllSenders take.queue (column place rows)
      → IsControlsFirst left
  ordered-at different kind all =
      rest-joined.controls_first (same-discipline take (column place rows) ∙ kind) (all-joined take (column place rows) different all)

-- of receivers that took in all passes to them, one has no room for what was left
module _ (takes : List TakePassView) (rows : List (List SendPassView)) (rooms : List (Vec Envelope Global)) (place : ℕ)
    (different : AreOfDifferent (column place rows)) (over : IsOver place (joins_all takes rows) rooms) where
  abbrev send_passes : List SendPassView
  send_passes = column place rows

  now : (o : Option TakePassView) → slice_get takes place ≡ o → Some over.take ≡ option_map (λ t. joined_by t send_passes) o
  now o is = sym over.present ∙ place-joins_all takes rows place ∙ ap (option_map (λ t. joined_by t send_passes)) is

  by_case : (o : Option TakePassView) → slice_get takes place ≡ o → IsOverfull takes rows rooms place
  by_case None is = absurd {A = IsOverfull takes rows rooms place} (let no = now None is in cc no)
  by_case (Some t) is =
      let same : over.take ≡ joined_by t send_passes = same_Some over.take (joined_by t send_passes) (now (Some t) is) in let left = over.more.left in
      record {
        take = t;
        room = over.room;
        left = left;
        present = is;
        lies = over.lies;
        was = record {
          known = subst (λ (x : Queue × List Envelope). All (IsOfQueue x.0) (x.1 ++ left))
              (λ i. ((ap (λ (y : TakePassView). y.queue) same ∙ same-queue t send_passes) i, (ap (λ (y : TakePassView). y.taken) same ∙ same-taken t send_passes) i))
              over.more.rest.known;
          came = over.more.rest.came t send_passes same different;
        };
        over = over.more.over;
      }

  pub overfull : IsOverfull takes rows rooms place
  overfull = by_case (slice_get takes place) refl

module _ (to : ℕ) (postings : List SentEnvelope) (discipline : Discipline) (fates : List Envelope) (pass : SendPassView)
    (pushed : pass.pushed ≡ to_actor to (queued postings)) (came : AllArrived discipline fates pass) where
  pub often : AcceptedMatchFates pass.by to postings fates
  often = stands-as-often pass.by to postings fates (λ test. ap (λ l. count_by test l) (sym pushed) ∙ came.once test)

  pub once : NumbersCountUpFrom pass.by 0 (accepted postings) → EachHasOneFate to postings fates
  once numbered = stands-once pass.by to postings fates numbered often

  pub in_order : NumbersCountUpFrom pass.by 0 (accepted postings) → discipline ≡ first_in_first_out → FatesInSendOrder pass.by to postings fates
  in_order numbered kind = kept-in-order pass.by to postings fates numbered (sym pushed ∙ came.in_order kind)

  pub parts_in_order : NumbersCountUpFrom pass.by 0 (accepted postings) → discipline ≡ control_first → ArePartsInOrder pass.by to postings fates
  parts_in_order numbered kind =
      let both = came.parts_in_order kind in
      let all = pushed ∙ queued-are pass.by to postings numbered in
      (sym both.0 ∙ ap controls all, sym both.1 ∙ ap others all)
