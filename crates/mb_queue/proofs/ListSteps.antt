-- Each step on a list below a lock keeps its rule.
use Rattle.std.proofs.Common.{◌≡◌, ℕ, zero, suc, ◌<◌, ⊎_elim, List, [], ◌∷◌, ◌++◌, map, length, drop, get_or, set, sym, refl, ap, ◌∙◌, subst, arith, Some, None, length-set, get_or-set_same}
use Rattle.std.proofs.lemmas.List.{set-get_or}
use mathlib.Core.Logic.{dite}
use mathlib.Core.Option.{Option as Opt, none, some, some-ne-none}
use native.Mathlib.Decide.{ℕ_discrete}
use lib.ListN.{get_elem?}
use Rattle.atomic_table.specs.Table.{State, Me, keeps, takes, gives, put_back, opening, step, Allows, Splits, Joins}
use Rattle.crossbeam_queue.proofs.Lists.{at_set, at_map, set_again, set_here}
use Rattle.crossbeam_queue.specs.Fifo.{Forks, Merges}
use Rattle.mb_msg.specs.declared.envelope.Envelope.{Envelope}
use Rattle.mb_queue.specs.declared.known.Known.{Known}
use Rattle.mb_queue.specs.declared.ledger.Ledger.{Ledger}
use Rattle.mb_queue.specs.declared.ledger.Ledger.TheVariants.{Taker, Spent}
use Rattle.mb_queue.specs.Batches.{pushing_all, taking_all, FoundAll}
use Rattle.mb_queue.specs.Ledger.{unsettled, IsTaker}
use Rattle.mb_queue.specs.Rule.{FifoHolds}
use Rattle.mb_queue.specs.ListRule.{Envelopes, ListHolds, having_locked, ledger_of, unlocked}
use Rattle.mb_queue.specs.ListSteps.{had, has, Learns, Locks, Looks, TakesAll, Unlocks}
use Rattle.mb_queue.proofs.Lists.{at_end}
use Rattle.mb_queue.proofs.Moves.{MayPushThese, begins, begun, empty, pushes_these, takes_all}

abbrev M : Type 0
M = Me Envelopes Known

abbrev table : List ℕ → List (Opt Envelopes) → List Known → State Envelopes Known
table words homes views = record { words = words; homes = homes; views = views }

abbrev ledgers : List Known → List Ledger
ledgers views = map ledger_of views

map_set : (views : List Known) (port : ℕ) (v : Known) → ledgers (set views port v) ≡ set (ledgers views) port v.ledger
map_set [] port v = refl
map_set (x ∷ views) zero v = refl
map_set (x ∷ views) (suc port) v = ap (λ (l : List Ledger). x.ledger ∷ l) (map_set views port v)

map_more : (views : List Known) (v : Known) → ledgers (views ++ v ∷ []) ≡ ledgers views ++ v.ledger ∷ []
map_more [] v = refl
map_more (x ∷ views) v = ap (λ (l : List Ledger). x.ledger ∷ l) (map_more views v)

-- a port whose ledger stays
map_same : (views : List Known) (port : ℕ) (v w : Known) → get_elem? views port ≡ some v → w.ledger ≡ v.ledger → ledgers (set views port w) ≡ ledgers views
map_same views port v w at is = map_set views port w ∙ ap (set (ledgers views) port) is ∙ set_again (ledgers views) port v.ledger (at_map ledger_of views port v at)

pub drop_past : (k es : List Envelope) → drop (length k) (k ++ es) ≡ es
drop_past [] es = refl
drop_past (x ∷ k) es = drop_past k es

-- a port that has the list not locked has locked nothing
not_locked : (ledger : Ledger) (v : Known) (items : List Envelope) → unlocked ledger ≡ v → v.locked ≡ Some items → ⊥
not_locked ledger v items is has = let no : None ≡ Some items = ap (λ (u : Known). u.locked) is ∙ has in absurd cc

-- ---- the list is locked

pub locks : (slots id : ℕ) (m : M) → Allows ListHolds slots id m 0 (λ _. 1) (Locks (step slots 0 1 0 none) m)
locks slots id m s h wide at _ = dite (ℕ_discrete (get_or s.words 0 0) 1)
    (λ is. let same : set s.words 0 1 ≡ s.words = ap (set s.words 0) (sym is) ∙ set-get_or s.words 0 0 in (
      m.0,
      keeps,
      tt,
      subst (λ (y : List ℕ × List Known). ListHolds (table y.0 s.homes y.1)) (λ i. (sym same i, sym (set_again s.views id m.0 at) i)) h,
      ((λ ne. absurd (ne is)), λ _. refl),
    ))
    (λ ne. let l = h.free ne in let w : Known = having_locked l.0.items m.0 in
    let one = get_or-set_same s.words 0 1 0 h.word in let long = length-set s.words 0 1 in (
      w,
      takes 0 l.0,
      l.1,
      record {
        items = h.items;
        locker = id;
        fifo = subst (FifoHolds h.items) (sym (map_same s.views id m.0 w at refl)) h.fifo;
        word = omega (arith, long, h.word);
        free = λ apart. absurd (apart one);
        empty = λ is. absurd (omega (arith, one, is));
        locked = λ port v items there has. ⊎_elim
            (λ x. let q : Some l.0.items ≡ Some items = ap (λ (u : Known). u.locked) x.1 ∙ has in let r : l.0.items ≡ items = cc in (x.0, one, sym r ∙ l.2))
            (λ x. absurd (ne (h.locked port v items x.1 has).1))
            (at_set s.views id port w v there);
      },
      ((λ _. (l.0, refl)), λ is. absurd (ne is)),
    ))

module _ (slots id : ℕ) (few : 0 < slots) (m : M) (k : List Envelope) (held : m.0.locked ≡ Some k) (y : Envelopes) (c : List (ℕ × Envelopes))
    (carries : m.1 ≡ (0, y) ∷ c) where
  -- ---- it is unlocked after a push, or one that was refused

  pub unlocks : (es : List Envelope) → y.items ≡ k ++ es → MayPushThese es m.0.ledger
      → Allows ListHolds slots id m 0 (λ _. 2) (λ _. Unlocks (step slots 0 2 0 none) m 2)
  unlocks es more may s h wide at _ =
      let mine = h.locked id m.0 k at held in
      let new : drop (length (had m.0.locked)) (has m.1) ≡ es =
      (λ i. drop (length (had (held i))) (has (carries i))) ∙ (ap (drop (length k)) more ∙ drop_past k es) in
      let w : Known = unlocked (pushing_all m.0.ledger (drop (length (had m.0.locked)) (has m.1))) in
      let two = get_or-set_same s.words 0 2 0 h.word in let long = length-set s.words 0 2 in
      let inside : 0 < length s.homes = omega (arith, wide, few) in (
        w,
        gives,
        tt,
        subst (λ (l : List (ℕ × Envelopes)). ListHolds (table (set s.words 0 2) (put_back s.homes l) (set s.views id w))) (sym carries)
            (record {
              items = h.items ++ es;
              locker = h.locker;
              fifo = subst (FifoHolds (h.items ++ es)) (sym (map_set s.views id w ∙ ap (λ (l : List Envelope). set (ledgers s.views) id (pushing_all m.0.ledger l)) new))
                  (pushes_these id m.0.ledger es may h.items (ledgers s.views) h.fifo (at_map ledger_of s.views id m.0 at));
              word = omega (arith, long, h.word);
              free = λ _. (y, set_here s.homes 0 (some y) inside, more ∙ ap (λ (l : List Envelope). l ++ es) mine.2);
              empty = λ is. absurd (omega (arith, two, is));
              locked = λ port v items there has. ⊎_elim
                  (λ x. absurd (not_locked _ v items x.1 has))
                  (λ x. absurd (x.0 ((h.locked port v items x.1 has).0 ∙ sym mine.0)))
                  (at_set s.views id port w v there);
            }),
        refl,
      )

  -- ---- it is unlocked after all was taken

  pub empties : y.items ≡ [] → IsTaker m.0.ledger → Allows ListHolds slots id m 0 (λ _. 0) (λ _. TakesAll (step slots 0 0 0 none) m 0)
  empties none_left taker s h wide at _ =
      let mine = h.locked id m.0 k at held in
      let all : had m.0.locked ≡ h.items = ap had held ∙ mine.2 in
      let w : Known = unlocked (taking_all m.0.ledger (had m.0.locked)) in
      let zero_is = get_or-set_same s.words 0 0 0 h.word in let long = length-set s.words 0 0 in
      let inside : 0 < length s.homes = omega (arith, wide, few) in
      let taken = takes_all id m.0.ledger taker h.items (ledgers s.views) h.fifo (at_map ledger_of s.views id m.0 at) in (
        w,
        gives,
        tt,
        subst (λ (l : List (ℕ × Envelopes)). ListHolds (table (set s.words 0 0) (put_back s.homes l) (set s.views id w))) (sym carries)
            (record {
              items = [];
              locker = h.locker;
              fifo = subst (FifoHolds []) (sym (map_set s.views id w ∙ ap (λ (l : List Envelope). set (ledgers s.views) id (taking_all m.0.ledger l)) all)) taken.0;
              word = omega (arith, long, h.word);
              free = λ _. (y, set_here s.homes 0 (some y) inside, none_left);
              empty = λ _. refl;
              locked = λ port v items there has. ⊎_elim
                  (λ x. absurd (not_locked _ v items x.1 has))
                  (λ x. absurd (x.0 ((h.locked port v items x.1 has).0 ∙ sym mine.0)))
                  (at_set s.views id port w v there);
            }),
        (refl, subst (FoundAll m.0.ledger) (sym all) taken.1),
      )

-- ---- a look

module _ (slots id : ℕ) (m : M) (taker : IsTaker m.0.ledger) where
  pub looks : Allows ListHolds slots id m 0 (λ n. n) (Looks (step slots 0 0 0 none) m)
  looks s h wide at _ = (
    m.0,
    keeps,
    tt,
    subst (λ (y : List ℕ × List Known). ListHolds (table y.0 s.homes y.1)) (λ i. (sym (set-get_or s.words 0 0) i, sym (set_again s.views id m.0 at) i)) h,
    (refl, λ is. empty id m.0.ledger taker h.items (ledgers s.views) h.fifo (at_map ledger_of s.views id m.0 at) (ap length (h.empty is))),
  )

  pub learns : Allows ListHolds slots id m 0 (λ n. n) (Learns (step slots 0 0 0 none) m)
  learns s h wide at _ = (
    m.0,
    keeps,
    tt,
    subst (λ (y : List ℕ × List Known). ListHolds (table y.0 s.homes y.1)) (λ i. (sym (set-get_or s.words 0 0) i, sym (set_again s.views id m.0 at) i)) h,
    (refl, begun id m.0.ledger taker h.items (ledgers s.views) h.fifo (at_map ledger_of s.views id m.0 at)),
  )

-- ---- a port is made of another, or takes in another

pub splits : (id : ℕ) (v : Known) (left right : Ledger) → Forks FifoHolds id v.ledger left right → Splits ListHolds id v (unlocked left) (unlocked right)
splits id v left right forks s h at =
    let l : Known = unlocked left in let r : Known = unlocked right in record {
      items = h.items;
      locker = h.locker;
      fifo = subst (FifoHolds h.items) (sym (map_more (set s.views id l) r ∙ ap (λ (x : List Ledger). x ++ right ∷ []) (map_set s.views id l)))
          (forks h.items (ledgers s.views) h.fifo (at_map ledger_of s.views id v at));
      word = h.word;
      free = h.free;
      empty = h.empty;
      locked = λ port u items there has. ⊎_elim
          (λ old. ⊎_elim (λ x. absurd (not_locked left u items x.1 has)) (λ x. h.locked port u items x.1 has) (at_set s.views id port l u old))
          (λ last. absurd (not_locked right u items last.1 has))
          (at_end (set s.views id l) r u port there);
    }

pub unites : (id : ℕ) (v : Known) (other : ℕ) (w : Known) (both : Ledger) → Merges FifoHolds id v.ledger other w.ledger both Spent
    → Joins ListHolds id v other w (unlocked both) (unlocked Spent)
unites id v other w both merges s h at two at' =
    let b : Known = unlocked both in let spent : Known = unlocked Spent in
    let there' : get_elem? (set (ledgers s.views) id both) other ≡ some w.ledger =
    subst (λ (l : List Ledger). get_elem? l other ≡ some w.ledger) (map_set s.views id b) (at_map ledger_of (set s.views id b) other w at') in record {
      items = h.items;
      locker = h.locker;
      fifo = subst (FifoHolds h.items) (sym (map_set (set s.views id b) other spent ∙ ap (λ (l : List Ledger). set l other Spent) (map_set s.views id b)))
          (merges h.items (ledgers s.views) h.fifo (at_map ledger_of s.views id v at) two there');
      word = h.word;
      free = h.free;
      empty = h.empty;
      locked = λ port u items there has. ⊎_elim
          (λ x. absurd (not_locked Spent u items x.1 has))
          (λ y. ⊎_elim (λ x. absurd (not_locked both u items x.1 has)) (λ x. h.locked port u items x.1 has) (at_set s.views id port b u y.1))
          (at_set (set s.views id b) other port spent u there);
    }

-- ---- a new list

pub starts : (lists : List Envelopes) (list : Envelopes) → lists ≡ list ∷ [] → list.items ≡ []
    → ListHolds (opening (0 ∷ []) lists (unlocked (Taker unsettled [] [])))
starts lists list is clear = subst (λ (l : List Envelopes). ListHolds (opening (0 ∷ []) l (unlocked (Taker unsettled [] [])))) (sym is) (record {
  items = [];
  locker = 0;
  fifo = begins;
  word = omega arith;
  free = λ _. (list, refl, clear);
  empty = λ _. refl;
  locked = λ port u items there has. ⊎_elim (λ old. absurd (some-ne-none u (sym old))) (λ last. absurd (not_locked _ u items last.1 has))
      (at_end [] (unlocked (Taker unsettled [] [])) u port there);
})
