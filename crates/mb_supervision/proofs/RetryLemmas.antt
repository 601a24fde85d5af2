-- Which requests are made, and whether all are permitted, child by child.
use Rattle.std.proofs.Common.{◌≡◌, ℕ, ℤ, pos, ◌+◌, ◌*◌, ◌<◌, ◌≤◌, List, [], ◌∷◌, ◌++◌, length, get_or, take, drop, drop-cons, add-one, append_assoc}
use Rattle.std.proofs.Common.{Bool, true, false, refl, ap, sym, ◌∙◌, ◌==◌, not, filter, cond, arith}
use Rattle.std.specs.Prelude.{negsuc, ◌&&◌, if◌then◌else◌}
use Rattle.std.proofs.lemmas.List.{take_more}
use Rattle.std.proofs.lemmas.List.Sums.{sum_by-append}
use Rattle.std.specs.List.{list_all}
use Rattle.mb_msg.specs.declared.id.ActorId.{ActorId}
use Rattle.mb_actor.specs.ActorList.{is_same}
use Rattle.mb_journal.specs.Identity.{Identity}
use Rattle.mb_journal.specs.Supervision.{directive_of}
use Rattle.mb_journal.specs.Retries.{is_restart_directive, permits, through_refusal, times_in}
use Rattle.mb_msg.specs.declared.supervision.Cause.{Cause}
use Rattle.mb_msg.specs.declared.supervision.Directive.TheVariants as directive
use Rattle.mb_supervision.specs.CellStateRecord.{CellState}
use Rattle.mb_supervision.specs.Rows.{counted_now, meant_now}
use Rattle.mb_supervision.specs.RetryCounts.{counted_more, retry_count_of}

module _ (given : ActorId → Bool) (list : List ActorId) (i : ℕ) (d : ActorId) (within : i < length list) where
  abbrev x : ActorId
  x = get_or list i d

  next : drop i list ≡ x ∷ drop (i + 1) list
  next = drop-cons list i d within ∙ ap (λ n. x ∷ drop n list) (sym (add-one i))

  pub all-refused : given x ≡ false → list_all given list ≡ list_all given (drop i list) → false ≡ list_all given list
  all-refused refused before = sym (before ∙ ap (list_all given) next ∙ ap (λ b. b && list_all given (drop (i + 1) list)) refused)

  pub all-next : given x ≡ true → list_all given list ≡ list_all given (drop i list) → list_all given list ≡ list_all given (drop (i + 1) list)
  all-next permitted before = before ∙ ap (list_all given) next ∙ ap (λ b. b && list_all given (drop (i + 1) list)) permitted

  one_more : take i list ++ x ∷ [] ≡ take (i + 1) list
  one_more = sym (take_more list i d within)

  pub asked-refused : (n : ℕ) → n ≡ i → given x ≡ false →
      through_refusal given list ≡ take i list ++ through_refusal given (drop i list) → take (n + 1) list ≡ through_refusal given list
  asked-refused n same refused before =
      ap (λ m. take (m + 1) list) same
      ∙ sym (before ∙ (ap (λ l. take i list ++ through_refusal given l) next
      ∙ (ap (λ b. take i list ++ x ∷ (if b then through_refusal given (drop (i + 1) list) else [])) refused ∙ one_more)))

  pub asked-next : given x ≡ true → through_refusal given list ≡ take i list ++ through_refusal given (drop i list) →
      through_refusal given list ≡ take (i + 1) list ++ through_refusal given (drop (i + 1) list)
  asked-next permitted before =
      before ∙ (ap (λ l. take i list ++ through_refusal given l) next
      ∙ (ap (λ b. take i list ++ x ∷ (if b then through_refusal given (drop (i + 1) list) else [])) permitted
      ∙ (sym (append_assoc (take i list) (x ∷ []) (through_refusal given (drop (i + 1) list)))
      ∙ ap (λ l. l ++ through_refusal given (drop (i + 1) list)) one_more)))

-- without a limit all are permitted
all-given : (given : ActorId → Bool) (list : List ActorId) → ((y : ActorId) → given y ≡ true) → true ≡ list_all given list
all-given given [] each = refl
all-given given (y ∷ list) each = all-given given list each ∙ ap (λ b. b && list_all given list) (sym (each y))

pub all-unlimited : (limit : ℤ) (times : ActorId → ℕ) (list : List ActorId) → ((n : ℕ) → limit ≡ pos n → ⊥) →
    true ≡ list_all (λ y. permits limit (times y)) list
all-unlimited (pos n) times list negative = absurd (negative n refl)
all-unlimited (negsuc n) times list negative = all-given (λ y. permits (negsuc n) (times y)) list (λ y. refl)

-- ---- one request more for a child

same-mine : (y child other : ℕ) → (child == other) ≡ true → (y == other) ≡ (y == child)
same-mine y child other same = grind arith

same-not : (y child other : ℕ) → (child == other) ≡ false → (y == other) ≡ true → (y == child) ≡ false
same-not y child other apart same = grind arith

same-number : (y child : ℕ) → (y == child) ≡ true → y ≡ child
same-number y child same = grind arith

in_both : (c b : Bool) (n m rest : ℕ) → b ≡ c → (if c then n else rest) ≡ (if c then n else (if b then m else rest))
in_both true b n m rest same = refl
in_both false b n m rest same = ap (λ d. if d then m else rest) (sym same)

other_first : (b c : Bool) (n m rest : ℕ) → (b ≡ true → c ≡ false) →
    (if b then m else (if c then n else rest)) ≡ (if c then n else (if b then m else rest))
other_first true c n m rest apart = ap (λ d. if d then n else m) (sym (apart refl))
other_first false c n m rest apart = refl

plus_none : (m : ℕ) → m ≡ m + 0
plus_none m = omega arith

module _ (child : ActorId) (n : ℕ) (y : ActorId) where
  abbrev others : List (ActorId × ℕ) → List (ActorId × ℕ)
  others counts = filter (λ r. not (is_same child r.0)) counts

  abbrev counted : List (ActorId × ℕ) → List (ActorId × ℕ)
  counted counts = counts ++ (child, n) ∷ []

  counted-as : (counts : List (ActorId × ℕ)) →
      retry_count_of (counted (others counts)) y ≡ (if is_same y child then n else retry_count_of counts y)
  counted-as [] = refl
  counted-as (r ∷ counts) = by (counted-as counts) (is_same child r.0) refl
    where
      whole : Type 0
      whole =
          retry_count_of (counted (others (r ∷ counts))) y
          ≡ (if is_same y child then n else (if is_same y r.0 then r.1 else retry_count_of counts y))

      by : retry_count_of (counted (others counts)) y ≡ (if is_same y child then n else retry_count_of counts y) →
          (b : Bool) → is_same child r.0 ≡ b → whole
      by rest true is =
          ap (λ b. retry_count_of (counted (cond (not b) (r ∷ others counts) (others counts))) y) is
          ∙ (rest
          ∙ in_both (is_same y child) (is_same y r.0) n r.1 (retry_count_of counts y) (same-mine y.0 child.0 r.0.0 is))
      by rest false is =
          ap (λ b. retry_count_of (counted (cond (not b) (r ∷ others counts) (others counts))) y) is
          ∙ (ap (λ m. if is_same y r.0 then r.1 else m) rest
          ∙ other_first (is_same y r.0) (is_same y child) n r.1 (retry_count_of counts y) (same-not y.0 child.0 r.0.0 is))

  pub one-request : (counts : List (ActorId × ℕ)) → n ≡ retry_count_of counts child + 1 →
      retry_count_of (counted (others counts)) y ≡ retry_count_of counts y + (0 + cond (is_same y child) 1 0)
  one-request counts one_more = counted-as counts ∙ by (is_same y child) refl
    where
      by : (b : Bool) → is_same y child ≡ b →
          (if is_same y child then n else retry_count_of counts y) ≡ retry_count_of counts y + (0 + cond (is_same y child) 1 0)
      by true is =
          ap (λ b. if b then n else retry_count_of counts y) is
          ∙ (one_more
          ∙ (ap (λ m. retry_count_of counts (record { 0 = m }) + 1) (sym (same-number y.0 child.0 is))
          ∙ ap (λ b. retry_count_of counts y + (0 + cond b 1 0)) (sym is)))
      by false is =
          ap (λ b. if b then n else retry_count_of counts y) is
          ∙ (plus_none (retry_count_of counts y)
          ∙ ap (λ b. retry_count_of counts y + (0 + cond b 1 0)) (sym is))

-- one request more of a list was counted
pub requests-next : (list : List ActorId) (i : ℕ) (d : ActorId) → i < length list → (y : ActorId) (first before after : ℕ) →
    after ≡ before + times_in (get_or list i d ∷ []) y → before ≡ first + times_in (take i list) y →
    after ≡ first + times_in (take (i + 1) list) y
requests-next list i d within y first before after one so_far =
    let more : times_in (take (i + 1) list) y ≡ times_in (take i list) y + times_in (get_or list i d ∷ []) y =
    ap (λ l. times_in l y) (take_more list i d within)
    ∙ sum_by-append (λ z. cond (is_same y z) 1 0) (take i list) (get_or list i d ∷ []) in
    omega (arith, more)

-- without a limit nothing is counted
pub counted-unlimited : (limit : ℤ) (asked : List ActorId) (counts : ActorId → ℕ) → ((n : ℕ) → limit ≡ pos n → ⊥) →
    (λ x. counts x) ≡ counted_more limit asked counts
counted-unlimited (pos n) asked counts negative = absurd (negative n refl)
counted-unlimited (negsuc n) asked counts negative = λ i x. plus_none (counts x) i

-- a decision to restart counts the requests that it makes
pub counted-restart : (who : Identity) (b : CellState) (x : ActorId) (c : Cause) (limit : ℤ) (meant : List ActorId) (later : List (ActorId × ℕ)) →
    limit ≡ who.retries → directive_of who c ≡ directive.Restart → meant ≡ meant_now who b x →
    (λ (y : ActorId). retry_count_of later y)
    ≡ counted_more limit (through_refusal (λ y. permits limit (retry_count_of b.retries y + 1)) meant) (λ y. retry_count_of b.retries y) →
    (λ (y : ActorId). retry_count_of later y) ≡ counted_now who b x c
counted-restart who b x c limit meant later own restarts same counted =
    counted
    ∙ (λ i. if is_restart_directive (sym restarts i)
    then counted_more (own i) (through_refusal (λ y. permits (own i) (retry_count_of b.retries y + 1)) (same i)) (λ y. retry_count_of b.retries y)
    else (λ y. retry_count_of b.retries y))

-- ---- room for a decision

pub meant-few : (all : Bool) (meant children : List ActorId) (x : ActorId) → meant ≡ (if all then children else x ∷ []) →
    length meant ≤ length children + 1
meant-few true meant children x same = let as_many : length meant ≡ length children = ap length same in omega (arith, as_many)
meant-few false meant children x same = let one : length meant ≡ 1 = ap length same in omega (arith, one)

pub requests-fit : (meant children retries capacity : ℕ) → meant ≤ children + 1 → retries + (children + 1) ≤ capacity → retries + meant ≤ capacity
requests-fit meant children retries capacity few room = omega arith

pub restarts-fit : (meant children watchers watching fanout room : ℕ) → meant ≤ children + 1 →
    2 * children + watchers + watching + fanout + 40 ≤ room → 2 * meant ≤ room
restarts-fit meant children watchers watching fanout room few enough = omega arith
