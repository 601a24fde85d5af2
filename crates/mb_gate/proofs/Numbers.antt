-- The numbers of messages, and what stands in a list.
use Rattle.std.proofs.Common.{
  ◌≡◌,
  ℕ,
  suc,
  ◌+◌,
  ◌%◌,
  ◌^◌,
  ◌<◌,
  List,
  [],
  ◌∷◌,
  ◌++◌,
  length,
  sym,
  refl,
  ap,
  ◌∙◌,
  subst,
  append_assoc,
  append-nil,
  length-append,
  arith,
  All,
}
use Rattle.std.proofs.lemmas.List.Elements.{All-nil, All-cons, All-head, All-tail}
use Rattle.mb_msg.specs.declared.system.SysMsg.{SysMsg}
use Rattle.mb_syslist.specs.MessageList.{MessageList, numbered, listed, pushed}
use Rattle.mb_ghost.specs.Seen.{Each}
use Rattle.mb_gate.specs.Rule.{Ghost, IsAmong, IsPart, IsListing}

module _ {A : Type 0} where
  pub among_first : (x : A) (l : List A) → IsAmong x (x ∷ l)
  among_first x l = record { before = []; after = l; joined = refl }

  pub among_more : (x y : A) (l : List A) → IsAmong x l → IsAmong x (y ∷ l)
  among_more x y l a = record { before = y ∷ a.before; after = a.after; joined = ap (λ z. y ∷ z) a.joined }

  pub among_left : (x : A) (l more : List A) → IsAmong x l → IsAmong x (l ++ more)
  among_left x l more a = record {
    before = a.before;
    after = a.after ++ more;
    joined = ap (λ z. z ++ more) a.joined ∙ append_assoc a.before (x ∷ a.after) more;
  }

  pub among_right : (x : A) (more l : List A) → IsAmong x l → IsAmong x (more ++ l)
  among_right x more l a = record {
    before = more ++ a.before;
    after = a.after;
    joined = ap (λ z. more ++ z) a.joined ∙ sym (append_assoc more a.before (x ∷ a.after));
  }

  pub part_left : (p l more : List A) → IsPart p l → IsPart p (l ++ more)
  part_left p l more a = record {
    before = a.before;
    after = a.after ++ more;
    joined = ap (λ z. z ++ more) a.joined ∙ (append_assoc a.before (p ++ a.after) more ∙ ap (λ z. a.before ++ z) (append_assoc p a.after more));
  }

  each_after : (P : A → Type 0) (x : A) (before after : List A) → Each P (before ++ x ∷ after) → P x
  each_after P x [] after h = h.0
  each_after P x (b ∷ bs) after h = each_after P x bs after h.1

  -- what holds of each holds of one of them
  pub each_among : (P : A → Type 0) (x : A) (l : List A) → Each P l → IsAmong x l → P x
  each_among P x l h a = each_after P x a.before a.after (subst (Each P) a.joined h)

  -- what holds of each of two lists holds of each of the first
  pub each_left : (P : A → Type 0) (l more : List A) → Each P (l ++ more) → Each P l
  each_left P [] more h = tt
  each_left P (x ∷ l) more h = (h.0, each_left P l more h.1)

-- each item of a part stands in the list
each_in : {A : Type 0} (p before after : List A) → Each (λ x. IsAmong x (before ++ (p ++ after))) p
each_in [] before after = tt
each_in (x ∷ p) before after = (
  record { before = before; after = p ++ after; joined = refl },
  subst (λ l. Each (λ y. IsAmong y l) p) (append_assoc before (x ∷ []) (p ++ after)) (each_in p (before ++ x ∷ []) after),
)

pub each_part : {A : Type 0} (p l : List A) → IsPart p l → Each (λ x. IsAmong x l) p
each_part p l a = subst (λ z. Each (λ x. IsAmong x z) p) (sym a.joined) (each_in p a.before a.after)

-- the numbers go on over two lists
pub numbered_append : (n : ℕ) (a b : List SysMsg) → n < 2 ^ 64 → numbered n (a ++ b) ≡ numbered n a ++ numbered ((n + length a) % 2 ^ 64) b
numbered_append n [] b small = ap (λ k. numbered k b) (omega arith)
numbered_append n (m ∷ ms) b small =
    ap (λ z. (n, m) ∷ z) (numbered_append ((n + 1) % 2 ^ 64) ms b (omega arith) ∙ ap (λ k. numbered ((n + 1) % 2 ^ 64) ms ++ numbered k b)
    (omega arith))

pub length_numbered : (n : ℕ) (ms : List SysMsg) → length (numbered n ms) ≡ length ms
length_numbered n [] = refl
length_numbered n (m ∷ ms) = ap suc (length_numbered ((n + 1) % 2 ^ 64) ms)

-- what holds of each message holds of each with its number
pub all_with_numbers : (P : SysMsg → Type 0) (n : ℕ) (ms : List SysMsg) → All P ms → All (λ (m : ℕ × SysMsg). P m.1) (numbered n ms)
all_with_numbers P n [] h = All-nil (λ (m : ℕ × SysMsg). P m.1)
all_with_numbers P n (m ∷ ms) h = All-cons (λ (k : ℕ × SysMsg). P k.1) (n, m) (numbered ((n + 1) % 2 ^ 64) ms) (All-head P m ms h)
    (all_with_numbers P ((n + 1) % 2 ^ 64) ms (All-tail P m ms h))

-- what is put last into the list has the list's next number
pub pushed_so : (g : Ghost) (l : MessageList) (m : SysMsg) → l ≡ g.listed → IsListing g.pushed g.listed
    → IsAmong (pushed l, m) (numbered 0 (g.pushed ++ m ∷ []))
pushed_so g l m same li = subst (λ z. IsAmong (pushed z, m) (numbered 0 (g.pushed ++ m ∷ []))) (sym same)
    (subst (λ z. IsAmong (pushed g.listed, m) (numbered 0 (z ++ m ∷ []))) (sym li.joined)
    (last li.given g.listed.messages g.listed.given li.counted))
  where
    last : (given ms : List SysMsg) (n : ℕ) → n ≡ length given % 2 ^ 64 → IsAmong ((n + length ms) % 2 ^ 64, m) (numbered 0
        ((given ++ ms) ++ m ∷ []))
    last given ms n e = record {
      before = numbered 0 (given ++ ms);
      after = [];
      joined = numbered_append 0 (given ++ ms) (m ∷ []) (omega arith) ∙ ap (λ k. numbered 0 (given ++ ms) ++ (k, m) ∷ []) (let t = length-append
          given ms in omega arith);
    }

-- and the others keep theirs
pub pushed_last : (g : Ghost) (l : MessageList) (m : SysMsg) → l ≡ g.listed → IsListing g.pushed g.listed
    → numbered 0 (g.pushed ++ m ∷ []) ≡ numbered 0 g.pushed ++ (pushed l, m) ∷ []
pushed_last g l m same li = subst (λ z. numbered 0 (g.pushed ++ m ∷ []) ≡ numbered 0 g.pushed ++ (pushed z, m) ∷ []) (sym same)
    (subst (λ z. numbered 0 (z ++ m ∷ []) ≡ numbered 0 z ++ (pushed g.listed, m) ∷ []) (sym li.joined)
    (last li.given g.listed.messages g.listed.given li.counted))
  where
    last : (given ms : List SysMsg) (n : ℕ) → n ≡ length given % 2 ^ 64
        → numbered 0 ((given ++ ms) ++ m ∷ []) ≡ numbered 0 (given ++ ms) ++ ((n + length ms) % 2 ^ 64, m) ∷ []
    last given ms n e = numbered_append 0 (given ++ ms) (m ∷ []) (omega arith) ∙ ap (λ k. numbered 0 (given ++ ms) ++ (k, m) ∷ []) (let t =
        length-append given ms in omega arith)

-- what is listed has the numbers of the list
pub part_so : (g : Ghost) (l : MessageList) → l ≡ g.listed → IsListing g.pushed g.listed → IsPart (listed l) (numbered 0 g.pushed)
part_so g l same li = subst (λ z. IsPart (listed z) (numbered 0 g.pushed)) (sym same)
    (subst (λ z. IsPart (listed g.listed) (numbered 0 z)) (sym li.joined) (last li.given g.listed.messages g.listed.given li.counted))
  where
    last : (given ms : List SysMsg) (n : ℕ) → n ≡ length given % 2 ^ 64 → IsPart (numbered n ms) (numbered 0 (given ++ ms))
    last given ms n e = record {
      before = numbered 0 given;
      after = [];
      joined = numbered_append 0 given ms (omega arith) ∙ ap (λ z. numbered 0 given ++ z) (ap (λ k. numbered k ms) (omega arith)
          ∙ sym (append-nil (numbered n ms)));
    }
