-- Counting envelopes that pass a test.
use Rattle.std.proofs.Common.{◌≡◌, ◌==◌, ℕ, ◌+◌, Bool, true, false, cond, not, ◌&&◌, List, [], ◌∷◌, ◌++◌, filter, refl, sym, ap, ◌∙◌, subst}
use Rattle.std.proofs.Common.{arith, Some, None, count_by, IsPermutation}
use Rattle.std.proofs.lemmas.List.Filters.{sum_by-filter_both}
use Rattle.std.proofs.lemmas.List.Sums.{sum_by-append, sum_by-cons}
use Rattle.std.proofs.lemmas.List.{map-append}
use Rattle.std.proofs.lemmas.List.Elements.{All-append, All-head, All-tail}
use Rattle.std.proofs.lemmas.List.Sorted.{All-permutation, sum_by-IsPermutation, IsPermutation-map}
use Rattle.std.specs.List.{All}
use Rattle.mb_msg.specs.declared.envelope.Envelope.{Envelope}
use Rattle.mb_queue.specs.Ledger.{is_control, sent_by}
use Rattle.mb_msg.specs.declared.mailbox_type.RankRow.{RankRow}
use Rattle.mb_queue.specs.declared.waiting.Arrival.{Arrival}
use Rattle.mb_queue.specs.Representation.{envelopes_of}
use Rattle.mb_queue.specs.Parts.{controls, others}
use Rattle.mb_queue.specs.Takes.{IsSameBag, arrivals_from, Chooses}

filter-cond : (f : Envelope → Bool) (b : Bool) (x : Envelope) (l : List Envelope)
    → filter f (cond b (x ∷ l) l) ≡ cond b (cond (f x) (x ∷ filter f l) (filter f l)) (filter f l)
filter-cond f true x l = refl
filter-cond f false x l = refl

cond-swap : (a b : Bool) (x : Envelope) (l : List Envelope) → cond b (cond a (x ∷ l) l) l ≡ cond a (cond b (x ∷ l) l) l
cond-swap true true x l = refl
cond-swap true false x l = refl
cond-swap false true x l = refl
cond-swap false false x l = refl

count-cond : (p : Envelope → Bool) (b : Bool) (x : Envelope) (l : List Envelope) → count_by p (cond b (x ∷ l) l) ≡ cond (b && p x) 1 0 + count_by p l
count-cond p true x l = sum_by-cons (λ y. cond (p y) 1 0) x l
count-cond p false x l = omega arith

module _ (p q : Envelope → Bool) where
  pub filter-swap : (xs : List Envelope) → filter p (filter q xs) ≡ filter q (filter p xs)
  filter-swap [] = refl
  filter-swap (x ∷ xs) =
      filter-cond p (q x) x (filter q xs) ∙ cond-swap (p x) (q x) x (filter p (filter q xs))
      ∙ ap (λ l. cond (p x) (cond (q x) (x ∷ l) l) l) (filter-swap xs) ∙ sym (filter-cond q (p x) x (filter p xs))

  pub count-filter : (xs : List Envelope) → count_by p (filter q xs) ≡ count_by (λ x. q x && p x) xs
  count-filter [] = refl
  count-filter (x ∷ xs) =
      count-cond p (q x) x (filter q xs) ∙ ap (λ n. cond (q x && p x) 1 0 + n) (count-filter xs)
      ∙ sym (sum_by-cons (λ y. cond (q y && p y) 1 0) x xs)

module _ (sender : ℕ) (pushed : List Envelope) where
  -- all that was pushed was taken in order, of each part
  pub once_of_whole : (taken : List Envelope) → pushed ≡ sent_by sender taken → IsSameBag pushed (sent_by sender taken)
  once_of_whole taken is test = ap (count_by test) is

  pub once_of_parts : (taken : List Envelope) → controls pushed ≡ sent_by sender (controls taken) → others pushed ≡ sent_by sender (others taken)
      → IsSameBag pushed (sent_by sender taken)
  once_of_parts taken c o test =
      let f : Envelope → ℕ = λ e. cond (test e) 1 0 in
      let no : Envelope → Bool = λ e. not (is_control e) in
      let mine : Envelope → Bool = λ e. e.by.0 == sender in
      sym (sum_by-filter_both is_control no (λ e. refl) f pushed)
      ∙ (λ i. count_by test (c i) + count_by test (o i))
      ∙ (λ i. count_by test (filter-swap mine is_control taken i) + count_by test (filter-swap mine no taken i))
      ∙ sum_by-filter_both is_control no (λ e. refl) f (sent_by sender taken)

  pub once_by_rank : (arrived taken : List Envelope) → IsSameBag arrived taken → pushed ≡ sent_by sender arrived
      → IsSameBag pushed (sent_by sender taken)
  once_by_rank arrived taken bag is test =
      let mine : Envelope → Bool = λ e. e.by.0 == sender in
      ap (count_by test) is ∙ count-filter test mine arrived ∙ bag (λ e. mine e && test e) ∙ sym (count-filter test mine taken)

-- the envelopes of what came in
envelopes-arrivals : (rows : List RankRow) (other number : ℕ) (es : List Envelope) → envelopes_of (arrivals_from rows other number es) ≡ es
envelopes-arrivals rows other number [] = refl
envelopes-arrivals rows other number (e ∷ es) = ap (λ l. e ∷ l) (envelopes-arrivals rows other (number + 1) es)

-- what holds of those that were held and of those that came in holds of all that are held then
pub all_held : (P : Envelope → Type 0) (rows : List RankRow) (other number : ℕ) (waiting : List Arrival) (fresh : List Envelope)
    (held : List Arrival)
    → IsPermutation (waiting ++ arrivals_from rows other number fresh) held → All P (envelopes_of waiting) → All P fresh → All P (envelopes_of held)
all_held P rows other number waiting fresh held same old new =
    let in' = arrivals_from rows other number fresh in
    let all : envelopes_of (waiting ++ in') ≡ envelopes_of waiting ++ fresh =
    map-append (λ (x : Arrival). x.envelope) waiting in' ∙ ap (λ l. envelopes_of waiting ++ l) (envelopes-arrivals rows other number fresh) in
    All-permutation P (envelopes_of (waiting ++ in')) (envelopes_of held)
    (IsPermutation-map (λ (x : Arrival). x.envelope) (waiting ++ in') held same)
    (subst (All P) (sym all) (All-append P (envelopes_of waiting) fresh old new))

-- and of the one that is chosen, and those that stay
pub all_chosen : (P : Envelope → Type 0) (held : List Arrival) (e : Envelope) (rest : List Arrival) → Chooses held (Some e) rest
    → All P (envelopes_of held)
    → P e × All P (envelopes_of rest)
all_chosen P held e rest choice all =
    let first = choice.0 in
    let now : All P (first.envelope ∷ envelopes_of rest) =
    All-permutation P (envelopes_of held) (envelopes_of (first ∷ rest))
    (IsPermutation-map (λ (x : Arrival). x.envelope) held (first ∷ rest) choice.2) all in
    (subst P choice.1 (All-head P (first.envelope) (envelopes_of rest) now), All-tail P first.envelope (envelopes_of rest) now)

count-held : (test : Envelope → Bool) (xs ys : List Arrival) → IsPermutation xs ys
    → count_by test (envelopes_of ys) ≡ count_by test (envelopes_of xs)
count-held test xs ys same = sum_by-IsPermutation (λ e. cond (test e) 1 0) (envelopes_of xs) (envelopes_of ys)
    (IsPermutation-map (λ (a : Arrival). a.envelope) xs ys same)

module _ (rows : List RankRow) (other number : ℕ) (gone fresh taken : List Envelope) (waiting held rest : List Arrival) where
  bag_in : IsSameBag gone (taken ++ envelopes_of waiting) → IsPermutation (waiting ++ arrivals_from rows other number fresh) held
      → (test : Envelope → Bool)
      → count_by test (gone ++ fresh) ≡ count_by test taken + count_by test (envelopes_of held)
  bag_in bag came test =
      let f : Envelope → ℕ = λ e. cond (test e) 1 0 in
      let in' = arrivals_from rows other number fresh in
      let a = sum_by-append f gone fresh in let b = bag test in let c = sum_by-append f taken (envelopes_of waiting) in
      let d = count-held test (waiting ++ in') held came in
      let e : count_by test (envelopes_of (waiting ++ in')) ≡ count_by test (envelopes_of waiting) + count_by test fresh =
      ap (count_by test) (map-append (λ (x : Arrival). x.envelope) waiting in') ∙ sum_by-append f (envelopes_of waiting) (envelopes_of in')
      ∙ ap (λ l. count_by test (envelopes_of waiting) + count_by test l) (envelopes-arrivals rows other number fresh) in
      omega (arith, a, b, c, d, e)

  -- what came in is what was given and what is held, after one more is given
  pub bag_given : (e : Envelope) → IsSameBag gone (taken ++ envelopes_of waiting)
      → IsPermutation (waiting ++ arrivals_from rows other number fresh) held → Chooses held (Some e) rest
      → IsSameBag (gone ++ fresh) ((taken ++ e ∷ []) ++ envelopes_of rest)
  bag_given e bag came choice test =
      let f : Envelope → ℕ = λ x. cond (test x) 1 0 in
      let a = bag_in bag came test in let b = count-held test held (choice.0 ∷ rest) choice.2 in
      let c = sum_by-cons f choice.0.envelope (envelopes_of rest) in
      let d : f choice.0.envelope ≡ f e = ap f choice.1 in
      let g = sum_by-append f (taken ++ e ∷ []) (envelopes_of rest) in let h = sum_by-append f taken (e ∷ []) in let k = sum_by-cons f e [] in
      omega (arith, a, b, c, d, g, h, k)

  -- or none, as none is held
  pub bag_none : IsSameBag gone (taken ++ envelopes_of waiting) → IsPermutation (waiting ++ arrivals_from rows other number fresh) held
      → Chooses held None rest
      → IsSameBag (gone ++ fresh) (taken ++ envelopes_of rest)
  bag_none bag came choice test =
      let f : Envelope → ℕ = λ x. cond (test x) 1 0 in
      let a = bag_in bag came test in
      let b : count_by test (envelopes_of held) ≡ 0 = ap (λ l. count_by test (envelopes_of l)) choice.0 in
      let c : count_by test (envelopes_of rest) ≡ 0 = ap (λ l. count_by test (envelopes_of l)) choice.1 in
      let g = sum_by-append f taken (envelopes_of rest) in
      omega (arith, a, b, c, g)
