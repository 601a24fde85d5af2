-- Each step of a port keeps the rule of its queue.
use Rattle.std.proofs.Common.{◌≡◌, ℕ, ◌+◌, ◌<◌, List, [], ◌∷◌, ◌++◌, length, set, sym, refl, ap, ◌∙◌, subst, append_assoc}
use Rattle.std.proofs.Common.{append-nil, arith, Option, None}
use Rattle.std.specs.Prelude.{IsPermutation, flat_map, All}
use Rattle.std.proofs.lemmas.List.Sorted.{IsPermutation-refl, IsPermutation-sym, IsPermutation-trans}
use Rattle.std.proofs.lemmas.List.Sums.{sum_by-cons, sum_by-append}
use Rattle.std.proofs.lemmas.List.Concat.{flat_map-append}
use Rattle.std.proofs.lemmas.List.Elements.{All-nil, All-cons, All-head, All-tail, All-push}
use mathlib.Core.Option.{some}
use lib.ListN.{get_elem?}
use Rattle.mb_pool.specs.Ledger.{IndexedClaim, indexed_claim, indexed, indexed_from, PortAccount, opened, unused, pushing, taking, lending, borrowing, joining, spent}
use Rattle.mb_pool.specs.Rule.{all_pushed, all_taken, all_shares, PortAgrees, Kept, QueueMoment, PutsLast, TakesFirst}
use Rattle.mb_pool.proofs.Lists.{same_elements, from_left, behind, before, past, to_end, nothing_more, others, set_swap, get_other, pulls}
use Rattle.mb_pool.proofs.Lists.{pulls_own, weighs, weighs_own, holds_at, holds_others, holds_set}

module _ {C : Type 0} where
  pub indexed_push : (n : ℕ) (cs : List C) (c : C) → indexed_from n (cs ++ c ∷ []) ≡ indexed_from n cs ++ indexed_claim (n + length cs) c ∷ []
  indexed_push n [] c = ap (λ k. indexed_claim k c ∷ []) (omega arith)
  indexed_push n (x ∷ cs) c = ap (λ l. indexed_claim n x ∷ l) (indexed_push (n + 1) cs c ∙ ap (λ k. indexed_from (n + 1) cs ++ indexed_claim k c ∷ []) (omega arith))

  pub indexed_handle : (cs : List C) (c : C) → indexed (cs ++ c ∷ []) ≡ indexed cs ++ indexed_claim (length cs) c ∷ []
  indexed_handle cs c = indexed_push 0 cs c ∙ ap (λ k. indexed cs ++ indexed_claim k c ∷ []) (omega arith)

  indexed_none : (n : ℕ) (cs : List C) → indexed_from n cs ≡ [] → cs ≡ []
  indexed_none n [] e = refl
  indexed_none n (c ∷ cs) e = absurd (subst IsSome e tt)
    where
      IsSome : List (IndexedClaim C) → Type 0
      IsSome [] = ⊥
      IsSome (x ∷ xs) = Unit {0}

module _ {G C : Type 0} where
  abbrev of_pushed : PortAccount G C → List (IndexedClaim C)
  of_pushed l = l.pushed

  abbrev of_taken : PortAccount G C → List (IndexedClaim C)
  of_taken l = l.taken

  abbrev of_shares : PortAccount G C → ℕ
  of_shares l = l.shares

  -- ports without a share know nothing
  pub no_shares : (g : Option G) (n : ℕ) (ls : List (PortAccount G C)) → all_shares ls ≡ 0 → All (PortAgrees g n) ls → (all_pushed ls ≡ [])
      × (all_taken ls ≡ [])
  no_shares g n [] none h = (refl, refl)
  no_shares g n (l ∷ ls) none h =
      let sums = sum_by-cons of_shares l ls in
      let mine = (All-head (PortAgrees g n) l ls h).idle (omega (arith, sums, none)) in
      let rest = no_shares g n ls (omega (arith, sums, none)) (All-tail (PortAgrees g n) l ls h) in
      (ap (λ x. x ++ all_pushed ls) mine.0 ∙ rest.0, ap (λ x. x ++ all_taken ls) mine.1 ∙ rest.1)

  -- and agree on anything
  agree_anew : (g g' : Option G) (n n' : ℕ) (ls : List (PortAccount G C)) → all_shares ls ≡ 0 → All (PortAgrees g n) ls → All (PortAgrees g' n') ls
  agree_anew g g' n n' [] none h = All-nil (PortAgrees g' n')
  agree_anew g g' n n' (l ∷ ls) none h =
      let sums = sum_by-cons of_shares l ls in
      All-cons (PortAgrees g' n') l ls (record { same = λ some. absurd (omega (arith, sums, none, some)); idle = (All-head (PortAgrees g n) l ls h).idle })
      (agree_anew g g' n n' ls (omega (arith, sums, none)) (All-tail (PortAgrees g n) l ls h))

module _ {G C : Type 0} (IsFit : Option G → C → Type 0) (items : List C) (views : List (PortAccount G C)) (port : ℕ) (v : PortAccount G C)
    (k : Kept IsFit items views) (at : get_elem? views port ≡ some v) where
  abbrev pub rest : List (PortAccount G C)
  rest = others port views

  pub mine : PortAgrees k.gates k.members v
  mine = holds_at (PortAgrees k.gates k.members) views port v at k.agree

  pub shares_are : v.shares + all_shares rest ≡ k.members
  shares_are = sym (weighs_own of_shares views port v at) ∙ k.whole

  pub came_by : IsPermutation (v.pushed ++ all_pushed rest) (indexed (k.gone ++ items))
  came_by = IsPermutation-trans (v.pushed ++ all_pushed rest) (all_pushed views) (indexed (k.gone ++ items))
      (IsPermutation-sym (all_pushed views) (v.pushed ++ all_pushed rest) (pulls_own of_pushed views port v at)) k.came

  pub pushed_through : IsPermutation (v.taken ++ all_taken rest) (indexed k.gone)
  pushed_through = IsPermutation-trans (v.taken ++ all_taken rest) (all_taken views) (indexed k.gone)
      (IsPermutation-sym (all_taken views) (v.taken ++ all_taken rest) (pulls_own of_taken views port v at)) k.went

  abbrev pub moment : 0 < v.shares → QueueMoment IsFit v items
  moment share = let same = mine.same share in record {
    gone = k.gone;
    pushed = all_pushed rest;
    taken = all_taken rest;
    fit = subst (λ g. All (IsFit g) (k.gone ++ items)) (sym same.0) k.fit;
    came = came_by;
    went = pushed_through;
    within_limit = let e = shares_are in let s = same.1 in omega (arith, e, s);
    alone = λ all. no_shares k.gates k.members rest (let e = shares_are in let s = same.1 in omega (arith, e, s, all))
        (holds_others (PortAgrees k.gates k.members) views port k.agree);
  }

  -- a push
  pub puts : (c : C) → 0 < v.shares → IsFit v.gates c → (w : PortAccount G C) × Kept IsFit (items ++ c ∷ []) (set views port w) × PutsLast IsFit v c w
  puts c share fit = let same = mine.same share in
      let t : IndexedClaim C = indexed_claim (length (k.gone ++ items)) c in
      let w : PortAccount G C = pushing v t in
      let more : k.gone ++ (items ++ c ∷ []) ≡ (k.gone ++ items) ++ c ∷ [] = sym (append_assoc k.gone items (c ∷ [])) in (
        w,
        record {
          gates = k.gates;
          members = k.members;
          gone = k.gone;
          fit = subst (All (IsFit k.gates)) (sym more) (All-push (IsFit k.gates) (k.gone ++ items) c k.fit (subst (λ g. IsFit g c) same.0 fit));
          came = subst (λ l. IsPermutation (all_pushed (set views port w)) (indexed l)) (sym more)
              (subst (IsPermutation (all_pushed (set views port w))) (sym (indexed_handle (k.gone ++ items) c))
              (IsPermutation-trans (all_pushed (set views port w)) ((v.pushed ++ t ∷ []) ++ all_pushed rest) (indexed (k.gone ++ items) ++ t ∷ [])
              (pulls of_pushed views port v w at)
              (IsPermutation-trans ((v.pushed ++ t ∷ []) ++ all_pushed rest) ((v.pushed ++ all_pushed rest) ++ t ∷ [])
              (indexed (k.gone ++ items) ++ t ∷ []) (to_end v.pushed (all_pushed rest) t)
              (before (v.pushed ++ all_pushed rest) (indexed (k.gone ++ items)) (t ∷ []) came_by))));
          went = IsPermutation-trans (all_taken (set views port w)) (v.taken ++ all_taken rest) (indexed k.gone)
              (pulls of_taken views port v w at) pushed_through;
          whole = weighs of_shares views port v w at ∙ shares_are;
          agree = holds_set (PortAgrees k.gates k.members) views port w (record { same = λ _. same; idle = λ none. absurd (omega (arith, none, share)) })
              (holds_others (PortAgrees k.gates k.members) views port k.agree);
        },
        (items, moment share, refl),
      )

  -- so the port of a queue that is not opened yet is the only one
  is_all : v ≡ unused → (all_shares rest ≡ 0) × (k.gone ++ items ≡ []) × (all_pushed rest ≡ []) × (all_taken rest ≡ [])
  is_all e =
      let one : v.shares ≡ 1 = ap (λ (l : PortAccount G C). l.shares) e in
      let same = mine.same (omega (arith, one)) in
      let members : v.members ≡ 1 = ap (λ (l : PortAccount G C). l.members) e in
      let none : all_shares rest ≡ 0 = let s = shares_are in let m = same.1 in omega (arith, one, members, s, m) in
      let no = no_shares k.gates k.members rest none (holds_others (PortAgrees k.gates k.members) views port k.agree) in (
        none,
        indexed_none 0 (k.gone ++ items) (nothing_more (indexed (k.gone ++ items))
            (subst (λ l. IsPermutation l (indexed (k.gone ++ items))) (ap (λ (l : PortAccount G C). l.pushed ++ all_pushed rest) e ∙ no.0) came_by)),
        no.0,
        no.1,
      )

  none_of : (xs ys : List C) → xs ++ ys ≡ [] → xs ≡ []
  none_of [] ys e = refl
  none_of (x ∷ xs) ys e = absurd (subst IsSome e tt)
    where
      IsSome : List C → Type 0
      IsSome [] = ⊥
      IsSome (y ∷ l) = Unit {0}

  -- a new port comes
  came_more : (f : PortAccount G C → List (IndexedClaim C)) (w n : PortAccount G C) → f n ≡ []
      → IsPermutation (flat_map f (set views port w ++ n ∷ [])) (f w ++ flat_map f rest)
  came_more f w n e = from_left (flat_map f (set views port w ++ n ∷ [])) (flat_map f (set views port w)) (f w ++ flat_map f rest)
      (flat_map-append f (set views port w) (n ∷ []) ∙ ap (λ l. flat_map f (set views port w) ++ (l ++ [])) e
      ∙ append-nil (flat_map f (set views port w)))
      (pulls f views port v w at)

  shares_more : (w n : PortAccount G C) → all_shares (set views port w ++ n ∷ []) ≡ w.shares + all_shares rest + n.shares
  shares_more w n = let a = sum_by-append of_shares (set views port w) (n ∷ []) in let b = weighs of_shares views port v w at in
      let c = sum_by-cons of_shares n [] in omega (arith, a, b, c)

  pub opens : (g : Option G) (m : ℕ) → v ≡ unused → Kept IsFit items (set views port (opened g m m) ++ spent ∷ [])
  opens g m e = let all = is_all e in let w : PortAccount G C = opened g m m in record {
    gates = g;
    members = m;
    gone = k.gone;
    fit = subst (All (IsFit g)) (sym all.1) (All-nil (IsFit g));
    came = IsPermutation-trans (all_pushed (set views port w ++ spent ∷ [])) (all_pushed rest) (indexed (k.gone ++ items))
        (came_more of_pushed w spent refl)
        (same_elements (all_pushed rest) (indexed (k.gone ++ items)) (all.2 ∙ ap indexed (sym all.1)));
    went = IsPermutation-trans (all_taken (set views port w ++ spent ∷ [])) (all_taken rest) (indexed k.gone) (came_more of_taken w spent refl)
        (same_elements (all_taken rest) (indexed k.gone) (all.3 ∙ ap indexed (sym (none_of k.gone items all.1))));
    whole = let s = shares_more w spent in let n = all.0 in omega (arith, s, n);
    agree = All-push (PortAgrees g m) (set views port w) spent
        (holds_set (PortAgrees g m) views port w (record { same = λ _. (refl, refl); idle = λ _. (refl, refl) })
        (agree_anew k.gates g k.members m rest all.0 (holds_others (PortAgrees k.gates k.members) views port k.agree)))
        (record { same = λ some. absurd (omega (arith, some)); idle = λ _. (refl, refl) });
  }

  pub lends : 1 < v.shares → Kept IsFit items (set views port (lending 1 v) ++ borrowing 1 v ∷ [])
  lends shares = let same = mine.same (omega (arith, shares)) in let w : PortAccount G C = lending 1 v in let n : PortAccount G C = borrowing 1 v in record {
    gates = k.gates;
    members = k.members;
    gone = k.gone;
    fit = k.fit;
    came = IsPermutation-trans (all_pushed (set views port w ++ n ∷ [])) (v.pushed ++ all_pushed rest) (indexed (k.gone ++ items))
        (came_more of_pushed w n refl) came_by;
    went = IsPermutation-trans (all_taken (set views port w ++ n ∷ [])) (v.taken ++ all_taken rest) (indexed k.gone)
        (came_more of_taken w n refl) pushed_through;
    whole = let s = shares_more w n in let t = shares_are in omega (arith, s, t, shares);
    agree = All-push (PortAgrees k.gates k.members) (set views port w) n
        (holds_set (PortAgrees k.gates k.members) views port w (record { same = λ _. same; idle = λ none. absurd (omega (arith, none, shares)) })
        (holds_others (PortAgrees k.gates k.members) views port k.agree))
        (record { same = λ _. same; idle = λ none. absurd (omega (arith, none)) });
  }

module _ {G C : Type 0} (IsFit : Option G → C → Type 0) (c : C) (items : List C) (views : List (PortAccount G C)) (port : ℕ) (v : PortAccount G C)
    (k : Kept IsFit (c ∷ items) views) (at : get_elem? views port ≡ some v) where
  -- a take
  pub takes : 0 < v.shares → (w : PortAccount G C) × Kept IsFit items (set views port w) × TakesFirst IsFit v c w
  takes share = let same = (mine IsFit (c ∷ items) views port v k at).same share in
      let t : IndexedClaim C = indexed_claim (length k.gone) c in
      let w : PortAccount G C = taking v t in
      let left : List (PortAccount G C) = others port views in
      let more : k.gone ++ (c ∷ items) ≡ (k.gone ++ c ∷ []) ++ items = sym (append_assoc k.gone (c ∷ []) items) in (
        w,
        record {
          gates = k.gates;
          members = k.members;
          gone = k.gone ++ c ∷ [];
          fit = subst (All (IsFit k.gates)) more k.fit;
          came = subst (λ l. IsPermutation (all_pushed (set views port w)) (indexed l)) more
              (IsPermutation-trans (all_pushed (set views port w)) (v.pushed ++ all_pushed left) (indexed (k.gone ++ (c ∷ items)))
              (pulls of_pushed views port v w at) (came_by IsFit (c ∷ items) views port v k at));
          went = subst (IsPermutation (all_taken (set views port w))) (sym (indexed_handle k.gone c))
              (IsPermutation-trans (all_taken (set views port w)) ((v.taken ++ t ∷ []) ++ all_taken left) (indexed k.gone ++ t ∷ [])
              (pulls of_taken views port v w at)
              (IsPermutation-trans ((v.taken ++ t ∷ []) ++ all_taken left) ((v.taken ++ all_taken left) ++ t ∷ []) (indexed k.gone ++ t ∷ [])
              (to_end v.taken (all_taken left) t)
              (before (v.taken ++ all_taken left) (indexed k.gone) (t ∷ []) (pushed_through IsFit (c ∷ items) views port v k at))));
          whole = weighs of_shares views port v w at ∙ shares_are IsFit (c ∷ items) views port v k at;
          agree = holds_set (PortAgrees k.gates k.members) views port w (record { same = λ _. same; idle = λ none. absurd (omega (arith, none, share)) })
              (holds_others (PortAgrees k.gates k.members) views port k.agree);
        },
        (items, moment IsFit (c ∷ items) views port v k at share, refl),
      )

module _ {G C : Type 0} (IsFit : Option G → C → Type 0) (items : List C) (views : List (PortAccount G C)) (port : ℕ) (v : PortAccount G C) (other : ℕ)
    (u : PortAccount G C) (k : Kept IsFit items views)
    (at : get_elem? views port ≡ some v) (two : ¬ (other ≡ port)) (at_other : get_elem? (set views port (joining v u)) other ≡ some u) where
  abbrev both : PortAccount G C
  both = joining v u

  -- without the other one
  abbrev without : List (PortAccount G C)
  without = set views other spent

  abbrev left : List (PortAccount G C)
  left = others port without

  was : get_elem? views other ≡ some u
  was = sym (get_other views other port both two) ∙ at_other

  still : get_elem? without port ≡ some v
  still = get_other views port other spent (λ e. two (sym e)) ∙ at

  swapped : set (set views port both) other spent ≡ set without port both
  swapped = set_swap views port other both spent (λ e. two (sym e))

  gathers : (f : PortAccount G C → List (IndexedClaim C)) → f spent ≡ [] → f both ≡ f v ++ f u
      → IsPermutation (flat_map f (set without port both)) (flat_map f views)
  gathers f none sum =
      let away : List (IndexedClaim C) = flat_map f (others other views) in
      let w = flat_map f without in
      IsPermutation-trans (flat_map f (set without port both)) (f both ++ flat_map f left) (flat_map f views) (pulls f without port v both still)
      (from_left (f both ++ flat_map f left) (f v ++ (f u ++ flat_map f left)) (flat_map f views)
      (ap (λ l. l ++ flat_map f left) sum ∙ append_assoc (f v) (f u) (flat_map f left))
      (IsPermutation-trans (f v ++ (f u ++ flat_map f left)) (f u ++ (f v ++ flat_map f left)) (flat_map f views)
      (past (f v) (f u) (flat_map f left))
      (IsPermutation-trans (f u ++ (f v ++ flat_map f left)) (f u ++ w) (flat_map f views)
      (behind (f u) (f v ++ flat_map f left) w (IsPermutation-sym w (f v ++ flat_map f left) (pulls_own f without port v still)))
      (IsPermutation-trans (f u ++ w) (f u ++ away) (flat_map f views)
      (behind (f u) w away (subst (IsPermutation w) (ap (λ l. l ++ away) none) (pulls f views other u spent was)))
      (IsPermutation-sym (flat_map f views) (f u ++ away) (pulls_own f views other u was))))))

  pub joins : 0 < v.shares → 0 < u.shares → Kept IsFit items (set (set views port both) other spent)
  joins mine_some theirs_some = subst (Kept IsFit items) (sym swapped)
      (let Agree = PortAgrees {G = G} {C = C} k.gates k.members in
      let mine' = (holds_at Agree views port v at k.agree).same mine_some in
      record {
        gates = k.gates;
        members = k.members;
        gone = k.gone;
        fit = k.fit;
        came = IsPermutation-trans (all_pushed (set without port both)) (all_pushed views) (indexed (k.gone ++ items))
            (gathers of_pushed refl refl) k.came;
        went = IsPermutation-trans (all_taken (set without port both)) (all_taken views) (indexed k.gone) (gathers of_taken refl refl) k.went;
        whole = let a = weighs of_shares without port v both still in let b = weighs_own of_shares without port v still in
            let c = weighs of_shares views other u spent was in
            let d = weighs_own of_shares views other u was in let e = k.whole in omega (arith, a, b, c, d, e);
        agree = holds_set Agree without port both (record { same = λ _. mine'; idle = λ none. absurd (omega (arith, none, mine_some)) })
            (holds_others Agree without port (holds_set Agree views other spent
            (record { same = λ some. absurd (omega (arith, some)); idle = λ _. (refl, refl) }) (holds_others Agree views other k.agree)));
      })

pub begins : {G C : Type 0} (IsFit : Option G → C → Type 0) → Kept IsFit [] (unused ∷ [])
begins {G} {C} IsFit = record {
  gates = None;
  members = 1;
  gone = [];
  fit = All-nil (IsFit None);
  came = IsPermutation-refl [];
  went = IsPermutation-refl [];
  whole = refl;
  agree = All-cons (PortAgrees None 1) unused [] (record { same = λ _. (refl, refl); idle = λ _. (refl, refl) }) (All-nil (PortAgrees None 1));
}
