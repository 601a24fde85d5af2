-- What a run sends and records, step after step.
use Rattle.std.proofs.Common.{◌≡◌, ℕ, ◌+◌, ◌==◌, if◌then◌else◌, Bool, true, false, List, [], ◌∷◌, ◌++◌, reverse, refl, sym, ap, ◌∙◌, append_assoc, append-nil, arith, inl, inr, subst}
use Rattle.std.proofs.lemmas.List.{reverse-append}
use Rattle.mb_msg.specs.declared.id.ActorId.{ActorId}
use Rattle.mb_msg.specs.declared.envelope.Body.{Body}
use Rattle.mb_msg.specs.declared.system.SysMsg.{SysMsg}
use Rattle.mb_ghost.specs.Seen.{Each}
use Rattle.mb_ghost.specs.Summed.{total}
use Rattle.mb_ghost.proofs.SummedLemmas.{total_append}
use Rattle.mb_ghost.proofs.SeenLemmas.{each_weaker}
use Rattle.mb_gate.specs.View.{View, SentSystem, obligation_to, refusing}
use Rattle.mb_gate.specs.View.{Observation, Read, Saw, Counted, Looked, Sent, Unsent, Took, Pushed, Drained, Ended}
use Rattle.mb_home.specs.Contents.{Contents}
use Rattle.mb_register.specs.Caller.{Caller, CallerAdvances, OwesForRefusals}
use Rattle.mb_register.specs.declared.actor_set.ActorSet.{ActorSet}
use Rattle.mb_register.specs.ActorSet.{has_actor}
use Rattle.mb_register.specs.Views.{Does, IsLook, LooksAmong}
use Rattle.mb_register.proofs.CallerLemmas.{account-none}
use Rattle.mb_register.proofs.ClaimCounts.{loses-handed}
use Rattle.mb_register.proofs.DueLemmas.{got-no-claim}
use Rattle.mb_register.proofs.Unchanged.{unchanged-none}
use Rattle.mb_register.specs.declared.hint.Hint.{Hint}
use Rattle.mb_register.specs.declared.hint.Hint.TheVariants as hint
use Rattle.mb_mailbox.specs.Recorded.{GrowAlike}
use Rattle.mb_mailbox.specs.RunSends.{ended_in, given_by, listed_by, listed_of, refused_of}
use Rattle.mb_mailbox.specs.Sending.{HintTells}
use Rattle.mb_mailbox.proofs.RunSendsLemmas.{given-append, listed-append, listed_of-append}

module _ (r : List SentSystem) (v : View) (r' : List SentSystem) (v' : View) where
  -- nothing was sent
  pub alike-quiet : r' ≡ r → v'.sent_system ≡ v.sent_system → listed_by v'.log ≡ listed_by v.log → given_by v'.log ≡ given_by v.log →
      ((to : ℕ) → total (ended_in to) v'.log ≡ total (ended_in to) v.log) → GrowAlike r v r' v'
  alike-quiet recorded sent puts given ended = record {
    more = [];
    recorded = recorded ∙ sym (append-nil r);
    sent = sent;
    puts = puts;
    refused = λ to. (let same = ended to in omega (arith, same));
    got_nothing = given;
  }

  -- and the pass did nothing
  pub alike-still : r' ≡ r → v' ≡ v → GrowAlike r v r' v'
  alike-still recorded same =
      alike-quiet recorded (ap (λ (x : View). x.sent_system) same) (ap (λ (x : View). listed_by x.log) same) (ap (λ (x : View). given_by x.log) same)
      (λ to. ap (λ (x : View). total (ended_in to) x.log) same)

  -- one message was
  pub alike-one : (m : SentSystem) → r' ≡ r ++ m ∷ [] → v'.sent_system ≡ m ∷ v.sent_system →
      listed_by v'.log ≡ listed_of (m ∷ []) ++ listed_by v.log → given_by v'.log ≡ given_by v.log →
      ((to : ℕ) → total (ended_in to) v'.log ≡ total (refused_of to) (m ∷ []) + total (ended_in to) v.log) → GrowAlike r v r' v'
  alike-one m recorded sent puts given refused =
      record { more = m ∷ []; recorded = recorded; sent = sent; puts = puts; refused = refused; got_nothing = given }

  pub alike-then : (r'' : List SentSystem) (v'' : View) → GrowAlike r v r' v' → GrowAlike r' v' r'' v'' → GrowAlike r v r'' v''
  alike-then r'' v'' p q = record {
    more = p.more ++ q.more;
    recorded = q.recorded ∙ ap (λ l. l ++ q.more) p.recorded ∙ append_assoc r p.more q.more;
    sent =
        q.sent ∙ ap (λ l. reverse q.more ++ l) p.sent ∙ sym (append_assoc (reverse q.more) (reverse p.more) v.sent_system)
        ∙ ap (λ l. l ++ v.sent_system) (sym (reverse-append p.more q.more));
    puts =
        q.puts ∙ ap (λ l. listed_of (reverse q.more) ++ l) p.puts
        ∙ sym (append_assoc (listed_of (reverse q.more)) (listed_of (reverse p.more)) (listed_by v.log))
        ∙ ap (λ l. l ++ listed_by v.log) (sym (listed_of-append (reverse q.more) (reverse p.more)) ∙ ap listed_of (sym (reverse-append p.more q.more)));
    refused = λ to.
        (let one = p.refused to in let two = q.refused to in let all = total_append (refused_of to) p.more q.more in omega (arith, one, two, all));
    got_nothing = q.got_nothing ∙ p.got_nothing;
  }

-- what is only read gives nothing
pub looks-give-none : (id : ℕ) (looks : List Observation) → Each (IsLook id) looks → given_by looks ≡ []
looks-give-none id [] only = refl
looks-give-none id (Read a n ∷ looks) only = looks-give-none id looks only.1
looks-give-none id (Saw a n ∷ looks) only = looks-give-none id looks only.1
looks-give-none id (Counted a n ∷ looks) only = looks-give-none id looks only.1
looks-give-none id (Looked a n ∷ looks) only = looks-give-none id looks only.1
looks-give-none id (Sent a n ∷ looks) only = absurd only.0
looks-give-none id (Unsent a n ∷ looks) only = absurd only.0
looks-give-none id (Took a n ∷ looks) only = absurd only.0
looks-give-none id (Pushed a n m ∷ looks) only = absurd only.0
looks-give-none id (Drained a given ∷ looks) only = absurd only.0
looks-give-none id (Ended a given ∷ looks) only = absurd only.0

-- and puts nothing into a list
pub look-lists-none : (id : ℕ) (s : Observation) → IsLook id s → listed_by (s ∷ []) ≡ []
look-lists-none id (Read a n) is = refl
look-lists-none id (Saw a n) is = refl
look-lists-none id (Counted a n) is = refl
look-lists-none id (Looked a n) is = refl
look-lists-none id (Sent a n) is = absurd is
look-lists-none id (Unsent a n) is = absurd is
look-lists-none id (Took a n) is = absurd is
look-lists-none id (Pushed a n m) is = absurd is
look-lists-none id (Drained a given) is = absurd is
look-lists-none id (Ended a given) is = absurd is

pub all-list-none : (log : List Observation) → Each (λ s. listed_by (s ∷ []) ≡ []) log → listed_by log ≡ []
all-list-none [] none = refl
all-list-none (s ∷ log) none = listed-append (s ∷ []) log ∙ (λ i. none.0 i ++ all-list-none log none.1 i)

pub looks-list-none : (id : ℕ) (looks : List Observation) → Each (IsLook id) looks → listed_by looks ≡ []
looks-list-none id looks only = all-list-none looks (each_weaker (IsLook id) (λ s. listed_by (s ∷ []) ≡ []) looks (look-lists-none id) only)

-- what a pass did besides is all that it put into lists
pub does-list : (id : ℕ) (did : List Observation) (told : List SentSystem) (a b : View) → Does id did told a b →
    listed_by b.log ≡ listed_by did ++ listed_by a.log
does-list id did told a b d =
    ap listed_by d.log ∙ listed-append (d.looks ++ did) a.log
    ∙ ap (λ l. l ++ listed_by a.log) (listed-append d.looks did ∙ ap (λ l. l ++ listed_by did) (looks-list-none id d.looks d.only))

-- what a pass does besides gives nothing, where it is no drain
pub does-give-none : (id : ℕ) (did : List Observation) (told : List SentSystem) (a b : View) → given_by did ≡ [] → Does id did told a b →
    given_by b.log ≡ given_by a.log
does-give-none id did told a b none d =
    ap given_by d.log ∙ given-append (d.looks ++ did) a.log
    ∙ ap (λ l. given_by a.log ++ l) (given-append d.looks did ∙ (λ i. none i ++ looks-give-none id d.looks d.only i))
    ∙ append-nil (given_by a.log)

-- what is only read finds no list ended
pub look-ends-none : (to id : ℕ) (s : Observation) → IsLook id s → ended_in to s ≡ 0
look-ends-none to id (Read a n) is = refl
look-ends-none to id (Saw a n) is = refl
look-ends-none to id (Counted a n) is = refl
look-ends-none to id (Looked a n) is = refl
look-ends-none to id (Sent a n) is = absurd is
look-ends-none to id (Unsent a n) is = absurd is
look-ends-none to id (Took a n) is = absurd is
look-ends-none to id (Pushed a n m) is = absurd is
look-ends-none to id (Drained a given) is = absurd is
look-ends-none to id (Ended a given) is = absurd is

pub looks-end-none : (to id : ℕ) (looks : List Observation) → Each (IsLook id) looks → total (ended_in to) looks ≡ 0
looks-end-none to id [] only = refl
looks-end-none to id (s ∷ looks) only =
    let one = look-ends-none to id s only.0 in let rest = looks-end-none to id looks only.1 in omega (arith, one, rest)

-- a pass finds lists ended as often as what it did besides says
pub does-end : (to id : ℕ) (did : List Observation) (told : List SentSystem) (a b : View) → Does id did told a b →
    total (ended_in to) b.log ≡ total (ended_in to) did + total (ended_in to) a.log
does-end to id did told a b d =
    let all = ap (total (ended_in to)) d.log in let first = total_append (ended_in to) (d.looks ++ did) a.log in
    let rest = total_append (ended_in to) d.looks did in let none = looks-end-none to id d.looks d.only in omega (arith, all, first, rest, none)

pub does-end-none : (id : ℕ) (did : List Observation) (told : List SentSystem) (a b : View) → ((to : ℕ) → total (ended_in to) did ≡ 0) →
    Does id did told a b → (to : ℕ) → total (ended_in to) b.log ≡ total (ended_in to) a.log
does-end-none id did told a b none d to = let all = does-end to id did told a b d in let here = none to in omega (arith, all, here)

-- a message that a list took found none ended
pub unrefused : (m : SentSystem) (v v' : View) → m.was_ended ≡ false → ((to : ℕ) → total (ended_in to) v'.log ≡ total (ended_in to) v.log) →
    (to : ℕ) → total (ended_in to) v'.log ≡ total (refused_of to) (m ∷ []) + total (ended_in to) v.log
unrefused m v v' taken same to =
    let none : total (refused_of to) (m ∷ []) ≡ 0 = ap (λ (b : Bool). (if b then (if m.to == to then 1 else 0) else 0) + 0) taken in
    let one = same to in omega (arith, none, one)

-- and one that found it ended is noted
pub refused-one : (id : ℕ) (message : SysMsg) (v v' : View) → v' ≡ refusing id message v → (to : ℕ) → total (ended_in to) v'.log
    ≡ total (refused_of to) (record { to = id; message = message; was_ended = true } ∷ []) + total (ended_in to) v.log
refused-one id message v v' is to = let all = ap (λ (x : View). total (ended_in to) x.log) is in omega (arith, all)

-- and gave nothing
pub refused-gives-none : (id : ℕ) (message : SysMsg) (v v' : View) → v' ≡ refusing id message v → given_by v'.log ≡ given_by v.log
refused-gives-none id message v v' is = ap (λ (x : View). given_by x.log) is ∙ append-nil (given_by v.log)

-- the caller went on by that
pub further-refused : {H : Type 0} (id : ℕ) (message : SysMsg) (a b : Caller H) → b.view ≡ refusing id message a.view → b.account ≡ a.account →
    b.told ≡ a.told → CallerAdvances a b
further-refused id message a b same account told = record {
  more = Ended id [] ∷ [];
  took_none = (tt, tt);
  sends_open = tt;
  log = ap (λ (v : View). v.log) same;
  account = subst (OwesForRefusals a.account) (sym account) (account-none a.account);
  obligations = λ other. inr (inl (ap (obligation_to other) same));
  told = λ other still. inr (still.0, ap (λ (o : ActorSet). has_actor o other) told ∙ still.1);
  share = ap (λ (v : View). v.share) same;
  gives_back = unchanged-none _ _ (ap (λ (v : View). v.releases) same);
  claims = loses-handed id a.account b.account a.view b.view false
      (inl (account, record { got = ap (λ (v : View). v.got) same; returned = ap (λ (v : View). v.returned) same }));
  got_due = got-no-claim a.view b.view (ap (λ (v : View). v.got) same);
}

-- a tell sends no system message, puts none into a list, and gets nothing out of one
module _ (to : ActorId) (body : Body) (old new : View) (home left : Contents) where
  pub sent-tells : (given : Hint) → HintTells given to body old new home left → new.sent_system ≡ old.sent_system
  sent-tells hint.None t = t.did.sent_system
  sent-tells hint.Message t = t.did.sent_system
  sent-tells hint.System t = absurd t

  pub listed-tells : (given : Hint) → HintTells given to body old new home left → listed_by new.log ≡ listed_by old.log
  listed-tells hint.None t = does-list to.0 _ [] old new t.did
  listed-tells hint.Message t = does-list to.0 _ [] old new t.did
  listed-tells hint.System t = absurd t

  pub ended-tells : (given : Hint) → HintTells given to body old new home left → (at : ℕ) → total (ended_in at) new.log ≡ total (ended_in at) old.log
  ended-tells hint.None t = does-end-none to.0 _ [] old new (λ at. omega arith) t.did
  ended-tells hint.Message t = does-end-none to.0 _ [] old new (λ at. omega arith) t.did
  ended-tells hint.System t = absurd t

  pub given-tells : (given : Hint) → HintTells given to body old new home left → given_by new.log ≡ given_by old.log
  given-tells hint.None t = does-give-none to.0 _ [] old new refl t.did
  given-tells hint.Message t = does-give-none to.0 _ [] old new refl t.did
  given-tells hint.System t = absurd t

-- who only reads at some actors sends nothing, puts nothing into a list, gets nothing out of one, and finds none ended
module _ (among : ℕ → Bool) where
  abbrev IsLookAmong : Observation → Type 0
  IsLookAmong s = (id : ℕ) × (among id ≡ true) × IsLook id s

  among-list-none : (looks : List Observation) → Each IsLookAmong looks → listed_by looks ≡ []
  among-list-none looks only = all-list-none looks (each_weaker IsLookAmong (λ s. listed_by (s ∷ []) ≡ []) looks (λ s is. look-lists-none is.0 s is.2) only)

  among-give-none : (looks : List Observation) → Each IsLookAmong looks → given_by looks ≡ []
  among-give-none [] only = refl
  among-give-none (s ∷ looks) only =
      given-append (s ∷ []) looks ∙ (λ i. among-give-none looks only.1 i ++ looks-give-none only.0.0 (s ∷ []) (only.0.2, tt) i)

  among-end-none : (to : ℕ) (looks : List Observation) → Each IsLookAmong looks → total (ended_in to) looks ≡ 0
  among-end-none to [] only = refl
  among-end-none to (s ∷ looks) only =
      let one = look-ends-none to only.0.0 s only.0.2 in let rest = among-end-none to looks only.1 in omega (arith, one, rest)

  module _ (v v' : View) (l : LooksAmong among v v') where
    pub among-listed : listed_by v'.log ≡ listed_by v.log
    among-listed = ap listed_by l.log ∙ listed-append l.looks v.log ∙ ap (λ x. x ++ listed_by v.log) (among-list-none l.looks l.only)

    pub among-given : given_by v'.log ≡ given_by v.log
    among-given =
        ap given_by l.log ∙ given-append l.looks v.log ∙ ap (λ x. given_by v.log ++ x) (among-give-none l.looks l.only) ∙ append-nil (given_by v.log)

    pub among-ended : (to : ℕ) → total (ended_in to) v'.log ≡ total (ended_in to) v.log
    among-ended to =
        let all = ap (total (ended_in to)) l.log in let parts = total_append (ended_in to) l.looks v.log in
        let none = among-end-none to l.looks l.only in omega (arith, all, parts, none)

    pub alike-looks : (r : List SentSystem) → GrowAlike r v r v'
    alike-looks r = alike-quiet r v r v' refl l.sent_system among-listed among-given among-ended
