-- Bytes that one call after another wrote.
use Rattle.std.proofs.Common.{◌≡◌, ℕ, ◌+◌, ◌<◌, ◌≤◌, min, drop, get_or, List, [], ◌∷◌, ◌++◌, length, take, Some, None, ap, sym, subst, ◌∙◌, append_assoc, arith}
use Rattle.std.specs.Prelude.{Option, Result, Ok, Err, IfSome, IsErrAnd}
use Rattle.std.proofs.lemmas.Result.{err_from_is_err_and}
use Rattle.std.proofs.Math.Seq.{take-append-add}
use Rattle.std.specs.List.{flat_map}
use Rattle.std.proofs.lemmas.Grind.{flat_map-append}
use Rattle.std.proofs.lemmas.List.{append-nil, drop-take, take-append-drop, take-append-le, take-take, take_more, take_min, take_all}
use Rattle.std.specs.Io.KnownBytes.{Appends, Keeps}
use Rattle.mb_trace.specs.Output.{AppendsBeginning, IsWritten}

-- nothing more
pub appends-none : (a : Option (List ℕ)) → Appends a a []
appends-none None = tt
appends-none (Some xs) = sym (append-nil xs)

-- these and then those
pub appends-both : (a b c : Option (List ℕ)) (s t : List ℕ) → Appends a b s → Appends b c t → Appends a c (s ++ t)
appends-both None b c s t first second = tt
appends-both (Some xs) None c s t first second = absurd first
appends-both (Some xs) (Some ys) None s t first second = absurd second
appends-both (Some xs) (Some ys) (Some zs) s t first second = second ∙ (ap (λ (l : List ℕ). l ++ t) first ∙ append_assoc xs s t)

-- the same bytes under another name
pub appends-same : (a b : Option (List ℕ)) (s t : List ℕ) → s ≡ t → Appends a b s → Appends a b t
appends-same a b s t same is = subst (λ (l : List ℕ). Appends a b l) same is

-- nothing of these is a beginning of them
pub begins-none : (a : Option (List ℕ)) (t : List ℕ) → AppendsBeginning a a t
begins-none a t = (0, appends-none a)

-- a beginning of the first is one of both
pub begins-first : (a b : Option (List ℕ)) (s t : List ℕ) → AppendsBeginning a b s → AppendsBeginning a b (s ++ t)
begins-first a b s t (n, is) =
    let m : ℕ = min n (length s) in
    let within : m ≤ length s = omega arith in
    (m, appends-same a b (take n s) (take m (s ++ t)) (sym (take-append-le m s t within ∙ take_min n s)) is)

-- the first, and then a beginning of the second
pub begins-second : (a b c : Option (List ℕ)) (s t : List ℕ) → Appends a b s → AppendsBeginning b c t → AppendsBeginning a c (s ++ t)
begins-second a b c s t first (n, second) =
    (length s + n, appends-same a c (s ++ take n t) (take (length s + n) (s ++ t)) (sym (take-append-add s t n)) (appends-both a b c s (take n t) first second))

-- a beginning of the same bytes under another name
pub begins-same : (a b : Option (List ℕ)) (s t : List ℕ) → s ≡ t → AppendsBeginning a b s → AppendsBeginning a b t
begins-same a b s t same is = subst (λ (l : List ℕ). AppendsBeginning a b l) same is

-- what was written so far, and then a beginning of a piece: a beginning of the whole, where the whole goes on behind the piece
pub begins-within : (a b c : Option (List ℕ)) (s t u whole : List ℕ) → Appends a b s → AppendsBeginning b c t → whole ≡ (s ++ t) ++ u
    → AppendsBeginning a c whole
begins-within a b c s t u whole first second is =
    begins-same a c ((s ++ t) ++ u) whole (sym is) (begins-first a c (s ++ t) u (begins-second a b c s t first second))

-- what was written so far is a beginning of the whole, where the whole goes on behind it
pub begins-whole : (a b : Option (List ℕ)) (s u whole : List ℕ) → Appends a b s → whole ≡ s ++ u → AppendsBeginning a b whole
begins-whole a b s u whole first is =
    begins-same a b (s ++ u) whole (sym is)
    (length s, appends-same a b s (take (length s) (s ++ u)) (sym (take-append-le (length s) s u (omega arith) ∙ take_all (length s) s (omega arith))) first)

-- a call after these bytes were written
pub written-second : {T E : Type 0} (a b c : Option (List ℕ)) (r : Result T E) (s t : List ℕ) → Appends a b s → IsWritten b c r t
    → IsWritten a c r (s ++ t)
written-second a b c (Ok x) s t first second = appends-both a b c s t first second
written-second a b c (Err e) s t first second = begins-second a b c s t first second

-- the same bytes under another name
pub written-same : {T E : Type 0} (a b : Option (List ℕ)) (r : Result T E) (s t : List ℕ) → s ≡ t → IsWritten a b r s → IsWritten a b r t
written-same a b r s t same is = subst (λ (l : List ℕ). IsWritten a b r l) same is

-- bytes that stay as they were
pub appends-kept : (a b c : Option (List ℕ)) (s : List ℕ) → Appends a b s → Keeps b c → Appends a c s
appends-kept None b c s first same = tt
appends-kept (Some xs) None c s first same = absurd first
appends-kept (Some xs) (Some ys) None s first same = absurd same
appends-kept (Some xs) (Some ys) (Some zs) s first same = same ∙ first

-- known bytes that stay grow by none
pub appends-nothing : (a b : Option (List ℕ)) → Keeps a b → Appends a b []
appends-nothing None b same = tt
appends-nothing (Some xs) None same = absurd same
appends-nothing (Some xs) (Some ys) same = same ∙ sym (append-nil xs)

-- known bytes that grow by none stay
pub keeps-none : (a b : Option (List ℕ)) → Appends a b [] → Keeps a b
keeps-none None b same = tt
keeps-none (Some xs) None same = absurd same
keeps-none (Some xs) (Some ys) same = same ∙ append-nil xs

-- some more of the bytes are written
pub appends-some : (a b c : Option (List ℕ)) (bytes : List ℕ) (m n : ℕ) → Appends a b (take m bytes) → Appends b c (take n (drop m bytes))
    → Appends a c (take (m + n) bytes)
appends-some a b c bytes m n so_far more =
    appends-same a c (take m bytes ++ take n (drop m bytes)) (take (m + n) bytes) (taken m n bytes) (appends-both a b c (take m bytes) (take n (drop m bytes)) so_far more)
  where
    taken : (m n : ℕ) (xs : List ℕ) → take m xs ++ take n (drop m xs) ≡ take (m + n) xs
    taken m n xs =
        ap (λ (l : List ℕ). take m xs ++ l) (sym (drop-take m n xs))
        ∙ (ap (λ (l : List ℕ). l ++ drop m (take (m + n) xs)) (sym (take-take m (m + n) xs (omega arith)))
        ∙ take-append-drop m (take (m + n) xs))

-- a call that failed
pub err-written : {T E : Type 0} (Q : E → Type 0) (a b : Option (List ℕ)) (r : Result T E) (t : List ℕ) → IsErrAnd r Q → AppendsBeginning a b t
    → IsWritten a b r t
err-written Q a b r t failed cut =
    let p = err_from_is_err_and {Q = Q} r failed in rw p.1 cut

-- a value's text is written
pub shown-all : (o a b : Option (List ℕ)) (s t : List ℕ) → s ≡ t → IfSome o (λ (text : List ℕ). t ≡ text) → Appends a b s
    → IfSome o (λ (text : List ℕ). Appends a b text)
shown-all None a b s t same shown is = tt
shown-all (Some text) a b s t same shown is = appends-same a b s text (same ∙ shown) is

-- a beginning of it is, where a call failed
pub shown-begun : {T E : Type 0} (Q : E → Type 0) (o a b : Option (List ℕ)) (r : Result T E) → IsErrAnd r Q → (s t : List ℕ) → s ≡ t
    → IfSome o (λ (text : List ℕ). t ≡ text) → AppendsBeginning a b s → IfSome o (λ (text : List ℕ). IsWritten a b r text)
shown-begun Q None a b r failed s t same shown cut = tt
shown-begun Q (Some text) a b r failed s t same shown cut = err-written Q a b r text failed (begins-same a b s text (same ∙ shown) cut)

-- nothing of it is, where an earlier call failed
pub shown-none : {T E : Type 0} (Q : E → Type 0) (o a : Option (List ℕ)) (r : Result T E) → IsErrAnd r Q
    → IfSome o (λ (text : List ℕ). IsWritten a a r text)
shown-none Q None a r failed = tt
shown-none Q (Some text) a r failed = err-written Q a a r text failed (begins-none a text)

-- ---- the lines of a list, one piece after another

-- the lines of a list so far, and those of its next element
pub lines-more : {X : Type 0} (f : X → List ℕ) (xs : List X) (i : ℕ) (x : X) → i < length xs → x ≡ get_or xs i x →
    flat_map f (take i xs) ++ f x ≡ flat_map f (take (i + 1) xs)
lines-more f xs i x within is =
    (ap (λ (l : List ℕ). flat_map f (take i xs) ++ l) (ap f is ∙ sym (append-nil (f (get_or xs i x))))
    ∙ sym (flat_map-append f (take i xs) (get_or xs i x ∷ [])))
    ∙ ap (flat_map f) (sym (take_more xs i x within))

-- all lines are those so far and the others
pub lines-rest : {X : Type 0} (f : X → List ℕ) (xs : List X) (i : ℕ) →
    flat_map f xs ≡ flat_map f (take i xs) ++ flat_map f (drop i xs)
lines-rest f xs i = ap (flat_map f) (sym (take-append-drop i xs)) ∙ flat_map-append f (take i xs) (drop i xs)

-- the next element's lines are written
pub each-more : {X : Type 0} (f : X → List ℕ) (xs : List X) (i : ℕ) (x : X) (a b c : Option (List ℕ)) → i < length xs → x ≡ get_or xs i x →
    Appends a b (flat_map f (take i xs)) → Appends b c (f x) → Appends a c (flat_map f (take (i + 1) xs))
each-more f xs i x a b c within is so_far more =
    appends-same a c (flat_map f (take i xs) ++ f x) (flat_map f (take (i + 1) xs)) (lines-more f xs i x within is)
    (appends-both a b c (flat_map f (take i xs)) (f x) so_far more)

-- a beginning of them is a beginning of all lines
pub each-cut : {X : Type 0} (f : X → List ℕ) (xs : List X) (i : ℕ) (x : X) (a b c : Option (List ℕ)) → i < length xs → x ≡ get_or xs i x →
    Appends a b (flat_map f (take i xs)) → AppendsBeginning b c (f x) → AppendsBeginning a c (flat_map f xs)
each-cut f xs i x a b c within is so_far cut =
    begins-within a b c (flat_map f (take i xs)) (f x) (flat_map f (drop (i + 1) xs)) (flat_map f xs) so_far cut
    (lines-rest f xs (i + 1) ∙ ap (λ (l : List ℕ). l ++ flat_map f (drop (i + 1) xs)) (sym (lines-more f xs i x within is)))

-- all lines are written
pub each-all : {X : Type 0} (f : X → List ℕ) (xs : List X) (i : ℕ) (a b : Option (List ℕ)) → length xs ≤ i →
    Appends a b (flat_map f (take i xs)) → Appends a b (flat_map f xs)
each-all f xs i a b past so_far =
    appends-same a b (flat_map f (take i xs)) (flat_map f xs) (ap (flat_map f) (take_all i xs past)) so_far
