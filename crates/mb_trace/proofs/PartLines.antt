-- The lines of a part while its entries are gone through.
use Rattle.std.proofs.Common.{◌≡◌, ℕ, ◌+◌, ◌-◌, ◌<◌, ◌≤◌, Bool, true, false, List, [], ◌∷◌, ◌++◌, length, take, drop, get_or, slice_get, Some, None, refl, ap, sym, ◌∙◌, inl, inr, ◌⊎◌, eq-eqb, arith}
use Rattle.std.specs.Prelude.{◌==◌, filter, if◌then◌else◌, option_map, Option}
use Rattle.std.proofs.lemmas.Bool.{cases_lt, eqb-true}
use Rattle.std.proofs.lemmas.List.{drop-drop, drop_all, take_all}
use Rattle.std.proofs.lemmas.Option.{none-some, slice_get-get_or}
use Rattle.std.specs.Io.KnownBytes.{Appends}
use Rattle.mb_trace.specs.Output.{AppendsBeginning}
use Rattle.mb_trace.specs.Steps.{Step, step_data}
use Rattle.mb_trace.specs.Text.{titled}
use Rattle.mb_trace.specs.declared.step.TraceStep.{TraceStep}
use Rattle.mb_trace.proofs.Left.{slice_get-drop}
use Rattle.mb_trace.proofs.Shown.{below, count-full, count-more, has_any, seen, seen-begins, seen-full, seen-left_out, seen-more, take-begins, take-next, titled-begins, titled-more}
use Rattle.mb_trace.proofs.Written.{begins-whole, begins-within}

own : (a i : ℕ) (xs left : List Step) → left ≡ drop (if a == a then i else 0) xs → left ≡ drop i xs
own a i xs left is = is ∙ ap (λ b. drop (if b then i else 0) xs) (eq-eqb a a refl)

-- the step that was found stands at this place
pub there : (a i : ℕ) (xs left : List Step) (o : Option TraceStep) (s : TraceStep) → left ≡ drop (if a == a then i else 0) xs → o ≡ Some s →
    option_map step_data o ≡ slice_get left 0 → slice_get xs i ≡ Some (step_data s)
there a i xs left o s is_left is_found found =
    sym (slice_get-drop xs i)
    ∙ (ap (λ (l : List Step). slice_get l 0) (sym (own a i xs left is_left)) ∙ (sym found ∙ ap (λ (x : Option TraceStep). option_map step_data x) is_found))

-- none stands there: they are at their end
pub at_end : (a i : ℕ) (xs left : List Step) (o : Option TraceStep) → left ≡ drop (if a == a then i else 0) xs → o ≡ None →
    option_map step_data o ≡ slice_get left 0 → length xs ≤ i
at_end a i xs left o is_left is_none found = by_place xs (cases_lt i (length xs))
    (sym (slice_get-drop xs i)
    ∙ (ap (λ (l : List Step). slice_get l 0) (sym (own a i xs left is_left)) ∙ (sym found ∙ ap (λ (x : Option TraceStep). option_map step_data x) is_none)))
  where
    by_place : (l : List Step) → (i < length l) ⊎ (length l ≤ i) → slice_get l i ≡ None → length l ≤ i
    by_place [] place none = omega arith
    by_place (x ∷ l) (inr past) none = past
    by_place (x ∷ l) (inl inside) none =
        absurd (none-some (get_or (x ∷ l) i x) (sym none ∙ slice_get-get_or (x ∷ l) i x inside))

-- a step more is gone past
pub left-more : (b : Bool) (i : ℕ) (first mid last : List Step) → mid ≡ drop (if b then i else 0) first →
    last ≡ drop (if b then 1 else 0) mid → last ≡ drop (if b then i + 1 else 0) first
left-more true i first mid last is_mid is_last = is_last ∙ (ap (λ (l : List Step). drop 1 l) is_mid ∙ drop-drop 1 i first)
left-more false i first mid last is_mid is_last = is_last ∙ is_mid

-- at the end of the actor's steps as many are gone past as one will
pub kept-end : (a n i k : ℕ) (first mid last all : List Step) → (a ≡ n → first ≡ all) → length all ≤ i → i ≤ k →
    mid ≡ drop (if a == n then i else 0) first → last ≡ drop (if a == n then 1 else 0) mid → last ≡ drop (if a == n then k else 0) first
kept-end a n i k first mid last all own past le is_mid is_last = by_number (a == n) refl is_mid is_last
  where
    by_number : (b : Bool) → (a == n) ≡ b → mid ≡ drop (if b then i else 0) first → last ≡ drop (if b then 1 else 0) mid →
        last ≡ drop (if b then k else 0) first
    by_number false other is_mid is_last = is_last ∙ is_mid
    by_number true same is_mid is_last =
        let here : first ≡ all = own (eqb-true a n same) in
        let none : length first ≤ i = (let len = ap length here in omega (arith, len, past)) in
        let gone : mid ≡ [] = is_mid ∙ drop_all i first none in
        let rest : drop 1 mid ≡ [] = ap (λ (l : List Step). drop 1 l) gone in
        is_last ∙ (rest ∙ sym (drop_all k first (omega (arith, none, le))))

module _ (p : Step → Bool) (limit : ℕ) (xs : List Step) (i : ℕ) (s : Step) (found : slice_get xs i ≡ Some s) where
  abbrev ys : List Step
  ys = take i xs

  -- an entry that is not shown, since no more are
  pub full : (n : ℕ) → n ≡ limit - length (filter p ys) → n ≡ 0 →
      (seen p limit (take (i + 1) xs) ≡ seen p limit ys) × (n ≡ limit - length (filter p (take (i + 1) xs)))
  full n count none =
      let past : limit ≤ length (filter p ys) = omega (arith, count, none) in
      let next = take-next xs i s found in (
        ap (seen p limit) next ∙ seen-full p limit ys s past,
        count ∙ (sym (count-full p limit ys s past) ∙ ap (λ l. limit - length (filter p l)) (sym next)),
      )

  -- one that the filter leaves out
  pub left_out : (n : ℕ) → n ≡ limit - length (filter p ys) → p s ≡ false →
      (seen p limit (take (i + 1) xs) ≡ seen p limit ys) × (n ≡ limit - length (filter p (take (i + 1) xs)))
  left_out n count out =
      let next = take-next xs i s found in
      let same = seen-left_out p limit ys s out in (
        ap (seen p limit) next ∙ ap (take limit) same,
        count ∙ (ap (λ l. limit - length l) (sym same) ∙ ap (λ l. limit - length (filter p l)) (sym next)),
      )

  -- one that is shown
  pub passed : (n : ℕ) → n ≡ limit - length (filter p ys) → 0 < n → p s ≡ true →
      (seen p limit (take (i + 1) xs) ≡ seen p limit ys ++ s ∷ []) × (n - 1 ≡ limit - length (filter p (take (i + 1) xs)))
  passed n count some passes =
      let room : length (filter p ys) < limit = omega (arith, count, some) in
      let next = take-next xs i s found in (
        ap (seen p limit) next ∙ seen-more p limit ys s passes room,
        ap (λ m. m - 1) count ∙ (sym (count-more p limit ys s passes) ∙ ap (λ l. limit - length (filter p l)) (sym next)),
      )

  -- the lines with those of an entry that is shown
  pub lines-more : (names : List (List ℕ)) (word : List ℕ) (actor : ℕ) (title : Bool) →
      seen p limit (take (i + 1) xs) ≡ seen p limit ys ++ s ∷ [] → title ≡ has_any (seen p limit ys) →
      titled names word actor (seen p limit ys) ++ below names word actor title s ≡ titled names word actor (seen p limit (take (i + 1) xs))
  lines-more names word actor title more is =
      ap (λ b. titled names word actor (seen p limit ys) ++ below names word actor b s) is
      ∙ (sym (titled-more names word actor (seen p limit ys) s) ∙ ap (titled names word actor) (sym more))

  -- a beginning of those lines is one of all lines
  pub lines-cut : (names : List (List ℕ)) (word : List ℕ) (actor : ℕ) (title : Bool) (k : ℕ) (a b c : Option (List ℕ)) → i < k →
      seen p limit (take (i + 1) xs) ≡ seen p limit ys ++ s ∷ [] → title ≡ has_any (seen p limit ys) →
      Appends a b (titled names word actor (seen p limit ys)) → AppendsBeginning b c (below names word actor title s) →
      AppendsBeginning a c (titled names word actor (seen p limit (take k xs)))
  lines-cut names word actor title k a b c within more is so_far cut =
      let all = titled-begins names word actor _ _ (seen-begins p limit _ _ (take-begins xs (i + 1) k (omega (arith, within)))) in
      begins-within a b c (titled names word actor (seen p limit ys)) (below names word actor title s) all.rest
      (titled names word actor (seen p limit (take k xs))) so_far cut
      (all.is ∙ ap (λ l. l ++ all.rest) (sym (lines-more names word actor title more is)))

-- the lines so far are a beginning of all lines
pub lines-begin : (p : Step → Bool) (limit : ℕ) (xs : List Step) (i k : ℕ) (names : List (List ℕ)) (word : List ℕ) (actor : ℕ)
    (a b : Option (List ℕ)) → i ≤ k → Appends a b (titled names word actor (seen p limit (take i xs))) →
    AppendsBeginning a b (titled names word actor (seen p limit (take k xs)))
lines-begin p limit xs i k names word actor a b le so_far =
    let all = titled-begins names word actor _ _ (seen-begins p limit _ _ (take-begins xs i k le)) in
    begins-whole a b (titled names word actor (seen p limit (take i xs))) all.rest (titled names word actor (seen p limit (take k xs))) so_far all.is

-- past the end of the steps no more come
pub past-end : (xs : List Step) (i k : ℕ) → length xs ≤ i → i ≤ k → take i xs ≡ take k xs
past-end xs i k past le = take_all i xs past ∙ sym (take_all k xs (omega (arith, past, le)))
