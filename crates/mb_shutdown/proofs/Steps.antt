-- One more item of each in a loop.
use Rattle.std.proofs.Common.{◌≡◌, ◌≢◌, ◌⊎◌, inl, inr, ⊎_elim, ℕ, zero, suc, ◌+◌, ◌<◌, ◌≤◌, ◌==◌, ℤ, Bool, true, false, List, [], ◌∷◌, ◌++◌, length, map, drop}
use Rattle.std.proofs.Common.{refl, sym, ap, ◌∙◌, subst, arith, append-nil, append_assoc, length-drop, Option, Some}
use Rattle.std.specs.Prelude.{All, Vec, if◌then◌else◌, slice_get}
use Rattle.std.specs.List.{AllZip}
use Rattle.std.specs.Global.{Box, Global}
use Rattle.std.proofs.lemmas.Bool.{eqb-true}
use Rattle.std.proofs.lemmas.List.{map-append}
use Rattle.std.proofs.lemmas.List.Elements.{All-nil, All-cons, All-push}
use Rattle.std.proofs.lemmas.Option.{none-some, same_Some}
use Rattle.mb_msg.specs.JournalMode.{Retention}
use Rattle.mb_msg.specs.declared.dead_letter.DeadLetter.{DeadLetter}
use Rattle.mb_msg.specs.declared.envelope.Envelope.{Envelope}
use Rattle.mb_actor.specs.declared.message.Message.{Message}
use Rattle.mb_cell.specs.CellView.{CellView}
use Rattle.mb_queue.specs.Passes.{SendPassView, TakePassView}
use Rattle.mb_gate.specs.declared.returned_actor.ReturnedActor.{ReturnedActor}
use Rattle.mb_gate.specs.Rule.{IsAmong, IsPart}
use Rattle.mb_gate.specs.View.{Observation, View, Counted, counting, obligation_to, with_obligation, seeing}
use Rattle.mb_home.specs.Contents.{Contents}
use Rattle.mb_home.specs.declared.home.HomeParts.{HomeParts}
use Rattle.mb_report.specs.declared.report.ActorReport.{ActorReport}
use Rattle.mb_report.specs.declared.report.SenderReport.{SenderReport}
use Rattle.mb_shutdown.specs.HomeParts.{AreApart, HasNoSystemLeft, IsOpened, end_of, ended_of, sent_in, sent_of}
use Rattle.mb_shutdown.specs.Rooms.{AreCounted, HasOnlyCounted, IsEmptyWithRoom}
use Rattle.mb_shutdown.specs.Idle.{WereReadIdle, WasReadIdle, one_more}
use Rattle.mb_shutdown.specs.Shown.{ShowsCell, ShowsOne}
use Rattle.mb_journal.specs.Life.{phase}
use Rattle.mb_journal.specs.Suspension.{count as count_of}
use Rattle.mb_actor.specs.declared.phase.Phase.TheVariants.{Ended as EndedPhase}
use Rattle.mb_shutdown.specs.declared.room.Ended.{Ended}
use Rattle.mb_shutdown.proofs.Lists.{length-mapped, mapped}

-- ---- the homes

many : {X Y Z : Type 0} (f : X → Z) (g : Y → Z) (xs : List X) (ys : List Y) → map f xs ≡ map g ys → length xs ≡ length ys
many f g [] [] same = refl
many f g [] (y ∷ ys) same = absurd (cc same)
many f g (x ∷ xs) [] same = absurd (cc same)
many f g (x ∷ xs) (y ∷ ys) same = let rest : map f xs ≡ map g ys = cc same in ap suc (many f g xs ys rest)

module _ {A K : Type 0} where
  pub none-apart : {ended : List (Ended A K)} {takes : List TakePassView} {rows : List (List SendPassView)} {senders : List SenderReport}
      → ended ≡ [] → takes ≡ [] → rows ≡ [] → senders ≡ [] → AreApart [] ended takes rows senders
  none-apart e t r s = record {
    lefts = [];
    are = refl;
    done = All-nil HasNoSystemLeft;
    ended_are = ap (map ended_of) e;
    takes_are = t;
    rows_are = r;
    senders_are = ap (map sent_of) s;
  }

  pub apart-more : (done : List (Option (ReturnedActor (Box Contents)))) (ended : List (Ended A K)) (takes : List TakePassView) (rows : List (List SendPassView))
      (senders : List SenderReport) (left : Option (ReturnedActor (Box Contents))) (parts : HomeParts A K) (e : Ended A K) (s : SenderReport)
      → AreApart done ended takes rows senders → IsOpened left parts
      → ◌≡◌ {A = CellView × List Envelope × ℕ × Retention} (ended_of e) (parts.cell, parts.cleaned.items, parts.dead_system, parts.cleaned.retention)
      → ◌≡◌ {A = ℕ × List DeadLetter × Retention} (sent_of s) (parts.sent, parts.dead.items, parts.dead.retention)
      → AreApart (done ++ left ∷ []) (ended ++ e ∷ []) (takes ++ parts.take ∷ []) (rows ++ parts.sends.items ∷ []) (senders ++ s ∷ [])
  apart-more done ended takes rows senders left parts e s apart opened end sent =
      let lefts = apart.lefts in let one = opened.one in
      record {
        lefts = lefts ++ one ∷ [];
        are = (λ i. apart.are i ++ opened.is i ∷ []) ∙ sym (map-append (λ (l : ReturnedActor (Box Contents)). Some l) lefts (one ∷ []));
        done = All-push HasNoSystemLeft lefts one apart.done opened.done;
        ended_are = map-append ended_of ended (e ∷ []) ∙ (λ i. apart.ended_are i ++ (end ∙ opened.end) i ∷ [])
            ∙ sym (map-append (λ (l : ReturnedActor (Box Contents)). end_of l.home.value) lefts (one ∷ []));
        takes_are = (λ i. apart.takes_are i ++ opened.take i ∷ [])
            ∙ sym (map-append (λ (l : ReturnedActor (Box Contents)). l.home.value.take) lefts (one ∷ []));
        rows_are = (λ i. apart.rows_are i ++ opened.sends i ∷ [])
            ∙ sym (map-append (λ (l : ReturnedActor (Box Contents)). l.home.value.sends) lefts (one ∷ []));
        senders_are = map-append sent_of senders (s ∷ []) ∙ (λ i. apart.senders_are i ++ (sent ∙ opened.sent) i ∷ [])
            ∙ sym (map-append (λ (l : ReturnedActor (Box Contents)). sent_in l.home.value) lefts (one ∷ []));
      }

  -- the same lists under other names
  pub apart-same : (done : List (Option (ReturnedActor (Box Contents)))) (ended ended' : List (Ended A K)) (takes takes' : List TakePassView)
      (rows rows' : List (List SendPassView)) (senders senders' : List SenderReport) → ended' ≡ ended → takes' ≡ takes → rows' ≡ rows
      → senders' ≡ senders → AreApart done ended takes rows senders → AreApart done ended' takes' rows' senders'
  apart-same done ended ended' takes takes' rows rows' senders senders' e t r s apart = record {
    lefts = apart.lefts;
    are = apart.are;
    done = apart.done;
    ended_are = ap (map ended_of) e ∙ apart.ended_are;
    takes_are = t ∙ apart.takes_are;
    rows_are = r ∙ apart.rows_are;
    senders_are = ap (map sent_of) s ∙ apart.senders_are;
  }

  -- as many of each
  pub record AreAsMany (n : ℕ) (ended : List (Ended A K)) (takes : List TakePassView) (rows : List (List SendPassView)) (senders : List SenderReport)
      : Type 0 where
    pub of_ended : length ended ≡ n
    pub of_takes : length takes ≡ n
    pub of_rows : length rows ≡ n
    pub of_senders : length senders ≡ n

  pub as-many : (done : List (Option (ReturnedActor (Box Contents)))) (ended : List (Ended A K)) (takes : List TakePassView) (rows : List (List SendPassView))
      (senders : List SenderReport) → AreApart done ended takes rows senders → AreAsMany (length done) ended takes rows senders
  as-many done ended takes rows senders apart =
      let lefts = apart.lefts in
      let n : length lefts ≡ length done = sym (ap length apart.are ∙ length-mapped (λ (l : ReturnedActor (Box Contents)). Some l) lefts) in
      record {
        of_ended = many ended_of (λ (l : ReturnedActor (Box Contents)). end_of l.home.value) ended lefts apart.ended_are ∙ n;
        of_takes = ap length apart.takes_are ∙ length-mapped (λ (l : ReturnedActor (Box Contents)). l.home.value.take) lefts ∙ n;
        of_rows = ap length apart.rows_are ∙ length-mapped (λ (l : ReturnedActor (Box Contents)). l.home.value.sends) lefts ∙ n;
        of_senders = many sent_of (λ (l : ReturnedActor (Box Contents)). sent_in l.home.value) senders lefts apart.senders_are ∙ n;
      }

-- ---- what was read

pub settled-more : (n : ℕ) (before between after : View) → WereReadIdle 0 n before between → WasReadIdle n between after
    → WereReadIdle 0 (n + 1) before after
settled-more n before between after those this =
    one_more 0 n before between after those (subst (λ k. WasReadIdle k between after) (let e : n ≡ 0 + n = omega arith in e) this)

module _ {A : Type 0} where
  pub part-same : (xs : List A) → IsPart xs xs
  part-same xs = record { before = []; after = []; joined = sym (append-nil xs) }

  pub part-more : (xs ys zs : List A) (y : A) → zs ≡ y ∷ ys → IsPart xs ys → IsPart xs zs
  part-more xs ys zs y is part = record { before = y ∷ part.before; after = part.after; joined = is ∙ ap (λ l. y ∷ l) part.joined }

pub counting-log : (id waiting : ℕ) (v : View) → (counting id waiting v).log ≡ Counted id waiting ∷ v.log
counting-log id waiting v = by_test (waiting == 0)
  where
    by_test : (b : Bool)
        → (let w : View = if b then with_obligation id (record (obligation_to id v) { message = false }) (seeing (Counted id waiting) v) else seeing (Counted id waiting) v
        in w.log) ≡ Counted id waiting ∷ v.log
    by_test true = refl
    by_test false = refl

-- what holds of each place of a list holds with one more
pub each-more : {X : Type 0} (P : ℕ → X → Type 0) (xs : List X) (x : X) → ((i : ℕ) (y : X) → slice_get xs i ≡ Some y → P i y) → P (length xs) x
    → (i : ℕ) (y : X) → slice_get (xs ++ x ∷ []) i ≡ Some y → P i y
each-more P [] x all last zero y e = subst (P zero) (same_Some x y e) last
each-more P [] x all last (suc i) y e = absurd (none-some y e)
each-more P (z ∷ xs) x all last zero y e = all zero y e
each-more P (z ∷ xs) x all last (suc i) y e = each-more (λ n. P (suc n)) xs x (λ n w q. all (suc n) w q) last i y e

-- no count was read; and one more
pub none-counted : (log : List Observation) (counts : List ℕ) → counts ≡ [] → AreCounted log counts
none-counted log counts none = λ id n is. absurd (none-some n (sym (ap (λ l. slice_get l id) none) ∙ is))

among-more : {X : Type 0} (x y : X) (log : List X) → IsAmong x log → IsAmong x (y ∷ log)
among-more x y log is = record { before = y ∷ is.before; after = is.after; joined = ap (λ l. y ∷ l) is.joined }

pub one-counted : (old new : List Observation) (counts counts' : List ℕ) (id n : ℕ) → new ≡ Counted id n ∷ old → counts' ≡ counts ++ n ∷ []
    → length counts ≡ id → AreCounted old counts → AreCounted new counts'
one-counted old new counts counts' id n grown longer many each = λ i m is.
    subst (IsAmong (Counted i m)) (sym grown)
    (each-more (λ i m. IsAmong (Counted i m) (Counted id n ∷ old)) counts n (λ i m is. among-more (Counted i m) (Counted id n) old (each i m is))
    (record { before = []; after = old; joined = ap (λ k. Counted k n ∷ old) (sym many) }) i m (sym (ap (λ l. slice_get l i) longer) ∙ is))

-- nothing was read; and one more count was
pub only-none : (v : View) → HasOnlyCounted v v
only-none v = record { counts = []; log_is = refl; same = refl; owed = λ actor. inl refl }

pub counting-same : (id waiting : ℕ) (v : View)
    → counting id waiting v ≡ record v { log = (counting id waiting v).log; obligations = (counting id waiting v).obligations }
counting-same id waiting v = by_test (waiting == 0)
  where
    by_test : (b : Bool)
        → (let w : View = if b then with_obligation id (record (obligation_to id v) { message = false }) (seeing (Counted id waiting) v) else seeing (Counted id waiting) v
        in w ≡ record v { log = w.log; obligations = w.obligations })
    by_test true = refl
    by_test false = refl

-- only who was counted to have none waiting is owed less
owed-one : (actor id waiting : ℕ) (v : View) → (obligation_to actor (counting id waiting v) ≡ obligation_to actor v)
    ⊎ ((obligation_to actor (counting id waiting v) ≡ record (obligation_to actor v) { message = false }) × (id ≡ actor) × (waiting ≡ 0))
owed-one actor id waiting v = by_count (waiting == 0) refl
  where
    by_actor : (b : Bool) → (id == actor) ≡ b → waiting ≡ 0
        → ((if b then (record (obligation_to id v) { message = false }) else obligation_to actor v) ≡ obligation_to actor v)
        ⊎ (((if b then (record (obligation_to id v) { message = false }) else obligation_to actor v) ≡ record (obligation_to actor v) { message = false })
        × (id ≡ actor) × (waiting ≡ 0))
    by_actor true is none =
        let same : id ≡ actor = eqb-true id actor is in inr (ap (λ (n : ℕ). record (obligation_to n v) { message = false }) same, same, none)
    by_actor false is none = inl refl

    by_count : (b : Bool) → (waiting == 0) ≡ b
        → (let w : View = if b then with_obligation id (record (obligation_to id v) { message = false }) (seeing (Counted id waiting) v) else seeing (Counted id waiting) v
        in (obligation_to actor w ≡ obligation_to actor v) ⊎ ((obligation_to actor w ≡ record (obligation_to actor v) { message = false }) × (id ≡ actor) × (waiting ≡ 0)))
    by_count true is = by_actor (id == actor) refl (eqb-true waiting 0 is)
    by_count false is = inl refl

pub only-more : (before between after : View) (id waiting : ℕ) → after ≡ counting id waiting between → HasOnlyCounted before between
    → HasOnlyCounted before after
only-more before between after id waiting is so =
    let now = counting id waiting between in
    subst (HasOnlyCounted before) (sym is) (record {
      counts = (id, waiting) ∷ so.counts;
      log_is = counting-log id waiting between ∙ ap (λ l. Counted id waiting ∷ l) so.log_is;
      same = counting-same id waiting between ∙ ap (λ (w : View). record w { log = now.log; obligations = now.obligations }) so.same;
      owed = λ actor. either actor (owed-one actor id waiting between) (so.owed actor);
    })
  where
    either : (actor : ℕ)
        → (obligation_to actor (counting id waiting between) ≡ obligation_to actor between)
        ⊎ ((obligation_to actor (counting id waiting between) ≡ record (obligation_to actor between) { message = false }) × (id ≡ actor) × (waiting ≡ 0))
        → (obligation_to actor between ≡ obligation_to actor before)
        ⊎ ((obligation_to actor between ≡ record (obligation_to actor before) { message = false }) × IsAmong (actor, 0) so.counts)
        → (obligation_to actor (counting id waiting between) ≡ obligation_to actor before)
        ⊎ ((obligation_to actor (counting id waiting between) ≡ record (obligation_to actor before) { message = false })
        × IsAmong (actor, 0) ((id, waiting) ∷ so.counts))
    either actor (inl kept) (inl was) = inl (kept ∙ was)
    either actor (inl kept) (inr less) = inr (kept ∙ less.0, among-more {X = ℕ × ℕ} (actor, 0) (id, waiting) so.counts less.1)
    either actor (inr none) (inl was) =
        inr (
          none.0 ∙ (λ i. record (was i) { message = false }),
          record { before = []; after = so.counts; joined = λ i. (none.1 i, none.2 i) ∷ so.counts },
        )
    either actor (inr none) (inr less) =
        inr (none.0 ∙ (λ i. record (less.0 i) { message = false }), among-more {X = ℕ × ℕ} (actor, 0) (id, waiting) so.counts less.1)

pub only-part : (before after : View) → HasOnlyCounted before after → IsPart before.log after.log
only-part before after so = record {
  before = map (λ (c : ℕ × ℕ). Counted c.0 c.1) so.counts;
  after = [];
  joined = so.log_is ∙ ap (λ l. map (λ (c : ℕ × ℕ). Counted c.0 c.1) so.counts ++ l) (sym (append-nil before.log));
}

-- ---- the room

module _ {X Y : Type 0} (R : X → Y → Type 0) where
  pub zip-push : (xs : List X) (ys : List Y) (x : X) (y : Y) → AllZip R xs ys → R x y → AllZip R (xs ++ x ∷ []) (ys ++ y ∷ [])
  zip-push [] [] x y all r = (r, tt)
  zip-push [] (b ∷ ys) x y all r = absurd all
  zip-push (a ∷ xs) [] x y all r = absurd all
  zip-push (a ∷ xs) (b ∷ ys) x y all r = (all.0, zip-push xs ys x y all.1 r)

  pub zip-more : (xs xs' : List X) (ys ys' : List Y) (x : X) (y : Y) → xs' ≡ xs ++ x ∷ [] → ys' ≡ ys ++ y ∷ [] → AllZip R xs ys → R x y
      → AllZip R xs' ys'
  zip-more xs xs' ys ys' x y xs_are ys_are all r =
      subst (λ (z : List X × List Y). AllZip R z.0 z.1) (λ i. (sym xs_are i, sym ys_are i)) (zip-push xs ys x y all r)

  pub zip-none : (xs : List X) (ys : List Y) → xs ≡ [] → ys ≡ [] → AllZip R xs ys
  zip-none xs ys xs_are ys_are = subst (λ (z : List X × List Y). AllZip R z.0 z.1) (λ i. (sym xs_are i, sym ys_are i)) tt

  pub zip-many : (xs : List X) (ys : List Y) → AllZip R xs ys → length ys ≡ length xs
  zip-many [] [] all = refl
  zip-many [] (b ∷ ys) all = absurd all
  zip-many (a ∷ xs) [] all = absurd all
  zip-many (a ∷ xs) (b ∷ ys) all = ap suc (zip-many xs ys all.1)

pub zip-empty : (ns : List ℕ) (rooms : List (Vec Envelope Global)) → AllZip IsEmptyWithRoom ns rooms → All (λ (r : Vec Envelope Global). r.items ≡ []) rooms
zip-empty [] [] all = All-nil (λ (r : Vec Envelope Global). r.items ≡ [])
zip-empty [] (b ∷ ys) all = absurd all
zip-empty (a ∷ xs) [] all = absurd all
zip-empty (a ∷ xs) (b ∷ ys) all = All-cons (λ (r : Vec Envelope Global). r.items ≡ []) b ys all.0.0 (zip-empty xs ys all.1)

-- ---- the reports

module _ {X : Type 0} where
  pub drop-first : (xs : List X) (k : ℕ) (x : X) (rest : List X) → x ∷ rest ≡ drop k xs → slice_get xs k ≡ Some x
  drop-first [] zero x rest is = absurd (cc is)
  drop-first [] (suc k) x rest is = absurd (cc is)
  drop-first (y ∷ xs) zero x rest is = let same : x ≡ y = cc is in ap (λ z. Some z) (sym same)
  drop-first (y ∷ xs) (suc k) x rest is = drop-first xs k x rest is

  pub drop-rest : (xs : List X) (k : ℕ) (x : X) (rest : List X) → x ∷ rest ≡ drop k xs → rest ≡ drop (suc k) xs
  drop-rest [] zero x rest is = absurd (cc is)
  drop-rest [] (suc k) x rest is = absurd (cc is)
  drop-rest (y ∷ xs) zero x rest is = cc is
  drop-rest (y ∷ xs) (suc k) x rest is = drop-rest xs k x rest is

-- one more was added
pub added : {R O I : Type 0} (f : R → I) (h : O → I) (old new : List R) (r : R) (done : List O) (o : O) (before : List I) → new ≡ old ++ r ∷ []
    → map f old ≡ before ++ map h done → f r ≡ h o → map f new ≡ before ++ map h (done ++ o ∷ [])
added f h old new r done o before is so_far same =
    ap (map f) is ∙ map-append f old (r ∷ []) ∙ (λ i. so_far i ++ same i ∷ []) ∙ append_assoc before (map h done) (h o ∷ [])
    ∙ ap (λ l. before ++ l) (sym (map-append h done (o ∷ [])))

-- one more is reported
module _ {A K : Type 0} (after : ℕ → List Message → ℤ) where
  pub each-shown : (ended : List (Ended A K)) (lefts : List (Vec Envelope Global)) (waiting : List ℕ) (old new : List ActorReport) (a : ActorReport)
      (one : Ended A K) (left : Vec Envelope Global) (count : ℕ) → new ≡ old ++ a ∷ []
      → ((place : ℕ) (e : Ended A K) (es : List Envelope) (n : ℕ) (b : ActorReport) → slice_get ended place ≡ Some e
      → slice_get (map (λ (r : Vec Envelope Global). r.items) lefts) place ≡ Some es → slice_get waiting place ≡ Some n
      → slice_get old place ≡ Some b → ShowsOne after e es n b)
      → slice_get ended (length old) ≡ Some one → slice_get lefts (length old) ≡ Some left → slice_get waiting (length old) ≡ Some count
      → ShowsCell after (ended_of one) left.items a → length left.items ≡ count
      → (left.items ≢ [] → (phase one.cell.who one.cell.journal ≡ EndedPhase) ⊎ (0 < count_of one.cell.who one.cell.journal))
      → (place : ℕ) (e : Ended A K) (es : List Envelope) (n : ℕ) (b : ActorReport) → slice_get ended place ≡ Some e
      → slice_get (map (λ (r : Vec Envelope Global). r.items) lefts) place ≡ Some es → slice_get waiting place ≡ Some n
      → slice_get new place ≡ Some b → ShowsOne after e es n b
  each-shown ended lefts waiting old new a one left count is each here left_here count_here shows counted kept place e es n b e_is es_is n_is b_is =
      each-more
      (λ i x. (e : Ended A K) (es : List Envelope) (n : ℕ) → slice_get ended i ≡ Some e
      → slice_get (map (λ (r : Vec Envelope Global). r.items) lefts) i ≡ Some es → slice_get waiting i ≡ Some n → ShowsOne after e es n x)
      old a (λ i x x_is e es n e_is es_is n_is. each i e es n x e_is es_is n_is x_is)
      (λ e es n e_is es_is n_is.
      let same_e = same_Some one e (sym here ∙ e_is) in
      let same_es = same_Some left.items es (sym (mapped (λ (r : Vec Envelope Global). r.items) lefts (length old) left left_here) ∙ es_is) in
      let same_n = same_Some count n (sym count_here ∙ n_is) in
      subst (λ (y : Ended A K × List Envelope × ℕ). ShowsOne after y.0 y.1 y.2 a) (λ i. (same_e i, same_es i, same_n i))
      (record {
        shows = shows;
        counted = counted;
        kept = λ some. ⊎_elim (λ p. inl (shows.phase_is ∙ p)) (λ p. inr (let c = shows.count_is in omega (arith, c, p))) (kept some);
      }))
      place b (sym (ap (λ l. slice_get l place) is) ∙ b_is) e es n e_is es_is n_is

  -- all were reported
  pub every-one : (ended : List (Ended A K)) (actors : List ActorReport) (rest : List (Ended A K)) → rest ≡ drop (length actors) ended
      → rest ≡ [] → length actors ≤ length ended → length actors ≡ length ended
  every-one ended actors rest is none le =
      let over : drop (length actors) ended ≡ [] = sym is ∙ none in
      let m = length-drop (length actors) ended in let z = ap length over in omega (arith, m, z, le)

pub nothing-left : {X : Type 0} (xs : List X) → length xs ≡ 0 → xs ≡ []
nothing-left [] none = refl
nothing-left (x ∷ xs) none = absurd (omega (arith, none))
