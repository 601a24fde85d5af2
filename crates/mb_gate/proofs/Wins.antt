-- What a won exchange of a status word gives.
use Rattle.std.proofs.Common.{
  ◌≡◌,
  ℕ,
  ◌+◌,
  ◌*◌,
  ◌%◌,
  ◌==◌,
  if◌then◌else◌,
  ◌⊎◌,
  inl,
  inr,
  Bool,
  true,
  false,
  not,
  ◌&&◌,
  ◌||◌,
  nat_le,
  IsTrue,
  List,
  [],
  ◌∷◌,
  sym,
  refl,
  ap,
  ◌∙◌,
  subst,
  Some,
  None,
  arith,
}
use Rattle.std.proofs.lemmas.Bool.Decides.{nat_tests}
use Rattle.std.proofs.lemmas.Bool.{eqb-true}
use Rattle.atomic_table.specs.Table.{Me}
use Rattle.mb_status.specs.Mailbox.{Mailbox, word_of, is_valid, is_possible, most_suspensions, suspend, resume, idle}
use Rattle.mb_ghost.specs.Layout.{slot_at}
use Rattle.mb_gate.specs.HomeFacts.{HomeFacts}
use Rattle.mb_gate.specs.declared.slot.Slot.{Slot}
use Rattle.mb_gate.specs.declared.slot.Slot.TheVariants.{Home}
use Rattle.mb_gate.specs.declared.claim.Claim.{Claim}
use Rattle.mb_gate.specs.View.{View, winning, claim_alone, without_claim}
use Rattle.mb_gate.specs.Rule.{is_some_item}
use Rattle.mb_gate.specs.Claims.{held_in, claimed, is_busy}
use Rattle.mb_gate.specs.TableSteps.{ExtendsSeen, Won}
use Rattle.mb_gate.specs.Accessors.{claim_view, held_actor, status_of, gave_last, recorded_by}
use Rattle.mb_gate.specs.Tries.{IsFree, WonClaim, IsGot}

head_same : {A : Type 0} (a b : A) (xs ys : List A) → a ∷ xs ≡ b ∷ ys → a ≡ b
head_same a b xs ys e = cc

home_same : {H : Type 0} (a b : H) → Home a ≡ Home b → a ≡ b
home_same a b e = cc

-- words of mailboxes, by their parts
pub open_word : (m : Mailbox) → m.closed ≡ false → word_of m ≡ 4 * m.count + (if m.scheduled then 2 else 0)
open_word m e = ap (λ b. if b then 1 else 4 * m.count + (if m.scheduled then 2 else 0)) e

pub closed_word : (m : Mailbox) → m.closed ≡ true → word_of m ≡ 1
closed_word m e = ap (λ b. if b then 1 else 4 * m.count + (if m.scheduled then 2 else 0)) e

pub free_word : (m : Mailbox) → IsFree m → word_of m ≡ 4 * m.count
free_word m f = open_word m f.open_yet ∙ (ap (λ b. 4 * m.count + (if b then 2 else 0)) f.free ∙ omega arith)

pub free_mod : (m : Mailbox) → IsFree m → word_of m % 4 ≡ 0
free_mod m f = let w = free_word m f in omega arith

pub scheduled_word : (m s : Mailbox) → IsFree m → s ≡ record m { scheduled = true } → word_of s ≡ word_of m + 2
scheduled_word m s f e = ap word_of e ∙ (open_word (record m { scheduled = true }) f.open_yet ∙ ap (λ n. n + 2) (sym (free_word m f)))

module _ {H : Type 0} (is_of : ℕ → H → Type 0) (facts : H → HomeFacts) (actor found : ℕ) (m m' :
    Me (Slot H) View) (w : Won is_of facts actor found m m') where
  -- the seat has the claim and the cell
  pub taken : (status : Mailbox) → word_of status ≡ found + 2 → m.1 ≡ [] → m.0.list ≡ None → is_some_item m.0.share ≡ true
      → WonClaim facts actor status m'
  taken status word bare no_list share = record {
    home = w.home;
    carried = ap (λ (z : Me (Slot H) View). z.1) w.now ∙ ap (λ c. (slot_at actor 0, Home w.home) ∷ c) bare;
    gave = w.gave;
    claim = ap (λ (z : Me (Slot H) View). z.0.claim) w.now ∙ (λ i. Some (record {
      actor = actor;
      journal = (facts w.home).journal;
      closed_to = (facts w.home).closed_to;
      word = sym word i;
      gave = w.gave;
      given = (facts w.home).given;
      drained = (facts w.home).drained;
    }));
    no_list = ap (λ (z : Me (Slot H) View). z.0.list) w.now ∙ no_list;
    share = ap (λ (z : Me (Slot H) View). is_some_item z.0.share) w.now ∙ share;
  }

  pub got : (seen : Mailbox) (claim : Claim H) (after : View) → IsFree seen → found ≡ word_of seen → m.0.claim ≡ None → status_of claim ≡ record
      seen { scheduled = true } → held_actor claim ≡ actor
      → recorded_by claim ≡ [] → claim_view claim ≡ claim_alone m'.0 → m'.1 ≡ (slot_at actor 0, Home claim.home) ∷ [] → after ≡ without_claim m'.0
      → IsGot is_of facts actor m.0 after seen claim
  got seen claim after free is_seen bare status of none known carried rest =
      let same : w.home ≡ claim.home = home_same w.home claim.home (ap (λ (z : ℕ × Slot H). z.1) (head_same _ _ _ _ (sym (ap (λ (z : Me (Slot H)
      View). z.1) w.now) ∙ carried))) in
      let all : claim_view claim ≡ claimed actor (facts w.home).journal (facts w.home).closed_to (found + 2) w.gave (facts w.home).given (facts w.home).drained = known
      ∙ ap (λ (z : Me (Slot H) View). claim_alone z.0) w.now in
      let gave : gave_last claim ≡ w.gave = ap (λ v. (held_in v).gave) all in
      let word : found + 2 ≡ word_of (status_of claim) = ap (λ n. n + 2) is_seen
      ∙ sym (scheduled_word seen (status_of claim) free status) in record {
        found = free;
        of = of;
        status = status;
        of_actor = subst (is_of actor) same w.of_actor;
        word = ap (λ h. word_of (facts h).mailbox) (sym same) ∙ (sym w.word ∙ is_seen);
        continues = subst (λ h. ExtendsSeen actor (facts h).journal m.0) same w.seen;
        rest = λ no. subst (λ (h : H). (facts h).no_backlog) same (w.rest (sym gave ∙ no));
        known = all ∙ (λ i. claimed actor (facts (same i)).journal (facts (same i)).closed_to (word i) (sym gave i) (facts (same i)).given (facts (same i)).drained);
        recorded = none;
        pass = rest ∙ (ap (λ (z : Me (Slot H) View). without_claim z.0) w.now ∙ (λ i. record (winning actor m.0) { claim = sym bare i }));
      }

-- the word of a possible mailbox is valid
pub valid_word : (m : Mailbox) → IsTrue (is_possible m) → IsTrue (is_valid (word_of m))
valid_word m p = cases m.closed m.scheduled p
  where
    cases : (c s : Bool) → IsTrue (if c then not s && m.count == 0 else nat_le m.count most_suspensions) → IsTrue (is_valid (if c then 1 else 4 *
        m.count + (if s then 2 else 0)))
    cases true s q = refl
    cases false true q = grind (arith, nat_tests)
    cases false false q = grind (arith, nat_tests)

busy_parts : (n : ℕ) (s : Bool) → is_busy (4 * n + (if s then 2 else 0)) ≡ true → s ≡ true
busy_parts n true b = refl
busy_parts n false b = absurd (grind (arith, nat_tests))

-- a busy mailbox is closed or scheduled
busy_open : (m : Mailbox) → m.closed ≡ false → is_busy (word_of m) ≡ true → m.scheduled ≡ true
busy_open m e b = busy_parts m.count m.scheduled (ap is_busy (sym (open_word m e)) ∙ b)

scheduled_busy : (n : ℕ) → is_busy (4 * n + 2) ≡ true
scheduled_busy n = grind (arith, nat_tests)

open_busy : (m : Mailbox) → m.closed ≡ false → m.scheduled ≡ true → is_busy (word_of m) ≡ true
open_busy m e s = ap is_busy (open_word m e ∙ ap (λ b. 4 * m.count + (if b then 2 else 0)) s) ∙ scheduled_busy m.count

-- which stays so once suspended, and once resumed
pub suspend_busy : (m n : Mailbox) → n ≡ suspend m → is_busy (word_of m) ≡ true → is_busy (word_of n) ≡ true
suspend_busy m n e b = ap (λ k. is_busy (word_of k)) e ∙ cases m.closed refl
  where
    cases : (c : Bool) → m.closed ≡ c → is_busy (word_of (if c then m else record m { count = m.count + 1 })) ≡ true
    cases true is = b
    cases false is = open_busy (record m { count = m.count + 1 }) is (busy_open m is b)

pub resume_busy : (m n : Mailbox) → n ≡ resume m → is_busy (word_of m) ≡ true → is_busy (word_of n) ≡ true
resume_busy m n e b = ap (λ k. is_busy (word_of k)) e ∙ cases m.closed refl
  where
    cases : (c : Bool) → m.closed ≡ c → is_busy (word_of (resume m)) ≡ true
    cases true is = ap is_busy (closed_word (resume m) is)
    cases false is = open_busy (resume m) is (busy_open m is b)

pub suspend_closed : (m n : Mailbox) → n ≡ suspend m → m.closed ≡ true → word_of n ≡ 1
suspend_closed m n e c = ap word_of e ∙ (ap (λ b. word_of (if b then m else record m { count = m.count + 1 })) c ∙ closed_word m c)

pub resume_closed : (m n : Mailbox) → n ≡ resume m → m.closed ≡ true → word_of n ≡ 1
resume_closed m n e c = ap word_of e ∙ closed_word (resume m) c

one_parts : (n : ℕ) (c s : Bool) → (if c then 1 else 4 * n + (if s then 2 else 0)) ≡ 1 → c ≡ true
one_parts n true s e = refl
one_parts n false true e = absurd (omega arith)
one_parts n false false e = absurd (omega arith)

-- only a closed mailbox has the word 1
pub one_closed : (m : Mailbox) → word_of m ≡ 1 → m.closed ≡ true
one_closed m e = one_parts m.count m.closed m.scheduled e

mod_parts : (n : ℕ) → is_busy n ≡ true → (n % 4 ≡ 2) ⊎ (n ≡ 1)
mod_parts n b = cases (n % 4 == 2) refl
  where
    cases : (c : Bool) → (n % 4 == 2) ≡ c → (n % 4 ≡ 2) ⊎ (n ≡ 1)
    cases true is = inl (eqb-true (n % 4) 2 is)
    cases false is = inr (eqb-true n 1 (ap (λ d. d || n == 1) (sym is) ∙ b))

pub busy_word : (n : ℕ) → is_busy n ≡ true → (n % 4 ≡ 2) ⊎ (n ≡ 1)
busy_word = mod_parts

-- the word of an open mailbox that is idle again
pub idle_free : (m : Mailbox) → m.closed ≡ false → word_of (idle m) % 4 ≡ 0
idle_free m e = free_mod (idle m) (record { open_yet = e; free = refl })
