-- The lines of the entries of a part that are shown, with one entry more.
use Rattle.std.proofs.Common.{◌≡◌, ℕ, zero, suc, ◌+◌, ◌-◌, ◌<◌, ◌≤◌, Bool, true, false, List, [], ◌∷◌, ◌++◌, length, take, drop, slice_get, Some, refl, ap, sym, ◌∙◌, append_assoc, arith}
use Rattle.std.specs.Prelude.{filter, if◌then◌else◌}
use Rattle.std.specs.List.{flat_map}
use Rattle.std.proofs.lemmas.Grind.{flat_map-append}
use Rattle.std.proofs.lemmas.List.{append-nil, length-append, take-append-drop, take-append-le, take-take, take_all, take_more}
use Rattle.std.proofs.lemmas.List.Elements.{filter-append}
use Rattle.std.proofs.lemmas.Option.{get_or_from_slice_get, slice_get_within}
use Rattle.mb_trace.specs.Steps.{Step}
use Rattle.mb_trace.specs.Text.{step_text, title_text, titled}

-- one list begins another
pub record Begins {X : Type 0} (xs ys : List X) : Type 0 where
  pub rest : List X
  pub is : ys ≡ xs ++ rest

pub begins-self : {X : Type 0} (xs : List X) → Begins xs xs
begins-self xs = record { rest = []; is = sym (append-nil xs) }

-- there is an entry
abbrev pub has_any : List Step → Bool
has_any [] = false
has_any (s ∷ steps) = true

pub take-next : (xs : List Step) (i : ℕ) (s : Step) → slice_get xs i ≡ Some s → take (i + 1) xs ≡ take i xs ++ s ∷ []
take-next xs i s found =
    take_more xs i s (slice_get_within xs i s found) ∙ ap (λ (x : Step). take i xs ++ x ∷ []) (get_or_from_slice_get xs i s s found)

-- fewer entries begin more
pub take-begins : {X : Type 0} (xs : List X) (i n : ℕ) → i ≤ n → Begins (take i xs) (take n xs)
take-begins xs i n le = record {
  rest = drop i (take n xs);
  is = sym (take-append-drop i (take n xs)) ∙ ap (λ l. l ++ drop i (take n xs)) (take-take i n xs le);
}

take-limit : {X : Type 0} (limit : ℕ) (xs ys : List X) → Begins (take limit xs) (take limit (xs ++ ys))
take-limit zero xs ys = record { rest = []; is = refl }
take-limit (suc n) [] ys = record { rest = take (suc n) ys; is = refl }
take-limit (suc n) (x ∷ xs) ys =
    let more = take-limit n xs ys in record { rest = more.rest; is = ap (λ l. x ∷ l) more.is }

module _ (p : Step → Bool) (limit : ℕ) where
  -- what is shown of these
  abbrev pub seen : List Step → List Step
  seen steps = take limit (filter p steps)

  pub seen-begins : (ys zs : List Step) → Begins ys zs → Begins (seen ys) (seen zs)
  seen-begins ys zs b =
      let more = take-limit limit (filter p ys) (filter p b.rest) in
      record { rest = more.rest; is = ap (λ l. take limit (filter p l)) b.is ∙ (ap (λ l. take limit l) (filter-append p ys b.rest) ∙ more.is) }

  -- an entry that the filter leaves out
  pub seen-left_out : (ys : List Step) (s : Step) → p s ≡ false → filter p (ys ++ s ∷ []) ≡ filter p ys
  seen-left_out ys s out =
      filter-append p ys (s ∷ [])
      ∙ (ap (λ b. filter p ys ++ (if b then s ∷ [] else [])) out ∙ append-nil (filter p ys))

  filtered-more : (ys : List Step) (s : Step) → p s ≡ true → filter p (ys ++ s ∷ []) ≡ filter p ys ++ s ∷ []
  filtered-more ys s passes = filter-append p ys (s ∷ []) ∙ ap (λ b. filter p ys ++ (if b then s ∷ [] else [])) passes

  -- an entry that comes when no more are shown
  pub seen-full : (ys : List Step) (s : Step) → limit ≤ length (filter p ys) → seen (ys ++ s ∷ []) ≡ seen ys
  seen-full ys s full =
      ap (λ l. take limit l) (filter-append p ys (s ∷ [])) ∙ take-append-le limit (filter p ys) (filter p (s ∷ [])) full

  -- an entry that is shown
  pub seen-more : (ys : List Step) (s : Step) → p s ≡ true → length (filter p ys) < limit → seen (ys ++ s ∷ []) ≡ seen ys ++ s ∷ []
  seen-more ys s passes room =
      let more = filtered-more ys s passes in
      let len = length-append (filter p ys) (s ∷ []) in
      take_all limit (filter p (ys ++ s ∷ [])) (let same = ap length more in omega (arith, same, len, room))
      ∙ (more ∙ ap (λ l. l ++ s ∷ []) (sym (take_all limit (filter p ys) (omega (arith, room)))))

  -- how many more may be shown
  pub count-more : (ys : List Step) (s : Step) → p s ≡ true → limit - length (filter p (ys ++ s ∷ [])) ≡ limit - length (filter p ys) - 1
  count-more ys s passes =
      let same = ap length (filtered-more ys s passes) in
      let len = length-append (filter p ys) (s ∷ []) in omega (arith, same, len)

  pub count-full : (ys : List Step) (s : Step) → limit ≤ length (filter p ys) → limit - length (filter p (ys ++ s ∷ [])) ≡ limit - length (filter p ys)
  count-full ys s full =
      let same = ap length (filter-append p ys (s ∷ [])) in
      let len = length-append (filter p ys) (filter p (s ∷ [])) in omega (arith, same, len, full)

module _ (names : List (List ℕ)) (word : List ℕ) (actor : ℕ) where
  -- the lines of an entry, with the title where none is there yet
  abbrev pub below : Bool → Step → List ℕ
  below has_title s = (if has_title then [] else title_text names word actor) ++ step_text names s

  pub titled-more : (ss : List Step) (s : Step) →
      titled names word actor (ss ++ s ∷ []) ≡ titled names word actor ss ++ below (has_any ss) s
  titled-more [] s = ap (λ l. title_text names word actor ++ l) (append-nil (step_text names s))
  titled-more (x ∷ ss) s =
      ap (λ l. title_text names word actor ++ l) (flat_map-append (step_text names) (x ∷ ss) (s ∷ []))
      ∙ (ap (λ l. title_text names word actor ++ (flat_map (step_text names) (x ∷ ss) ++ l)) (append-nil (step_text names s))
      ∙ sym (append_assoc (title_text names word actor) (flat_map (step_text names) (x ∷ ss)) (step_text names s)))

  pub titled-begins : (ss tt : List Step) → Begins ss tt → Begins (titled names word actor ss) (titled names word actor tt)
  titled-begins [] tt b = record { rest = titled names word actor tt; is = refl }
  titled-begins (x ∷ ss) tt b = record {
    rest = flat_map (step_text names) b.rest;
    is =
        ap (titled names word actor) b.is
        ∙ (ap (λ l. title_text names word actor ++ l) (flat_map-append (step_text names) (x ∷ ss) b.rest)
        ∙ sym (append_assoc (title_text names word actor) (flat_map (step_text names) (x ∷ ss)) (flat_map (step_text names) b.rest)));
  }

pub any-more : (ss : List Step) (s : Step) → has_any (ss ++ s ∷ []) ≡ true
any-more [] s = refl
any-more (x ∷ ss) s = refl
