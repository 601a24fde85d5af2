-- The rule holds of new gates.
use Rattle.std.proofs.Common.{
  ◌≡◌,
  ℕ,
  zero,
  suc,
  ◌+◌,
  ◌*◌,
  ◌%◌,
  ◌^◌,
  ◌<◌,
  if◌then◌else◌,
  inl,
  false,
  IsTrue,
  List,
  [],
  ◌∷◌,
  ◌++◌,
  map,
  length,
  get_or,
  sym,
  refl,
  ap,
  ◌∙◌,
  subst,
  Option,
  Some,
  None,
  ne_eqb,
  arith,
  slice_get,
}
use Rattle.std.proofs.lemmas.List.Elements.{All-nil}
use mathlib.Core.Option as maybe
use mathlib.Core.Option.{none, some, some-ne-none, some-injective}
use lib.ListN.{get_elem?, length-map}
use Rattle.atomic_table.specs.Table.{opening}
use Rattle.mb_status.specs.Mailbox.{word_of, is_valid}
use Rattle.mb_journal.specs.Entry.{Entry}
use Rattle.mb_ghost.specs.Layout.{word_at, slot_at}
use Rattle.mb_ghost.specs.Ruled.{Ruled}
use Rattle.mb_ghost.specs.Locked.{ticket_at}
use Rattle.mb_gate.specs.HomeFacts.{HomeFacts}
use Rattle.mb_gate.specs.declared.slot.Slot.{Slot}
use Rattle.mb_gate.specs.declared.slot.Slot.TheVariants.{Home, List as Listing}
use Rattle.mb_ghost.specs.Summed.{total}
use Rattle.mb_ghost.proofs.SharesLemmas.{first_shares}
use Rattle.mb_gate.proofs.Facts.{no_share}
use Rattle.mb_gate.specs.View.{View, alone}
use Rattle.mb_gate.specs.Waiting.{off_by}
use Rattle.mb_gate.specs.Rule.{word_offset, slot_offset, Ghost, IsAmong, Knows, IsBare, claim_for, list_for, Fact}
use Rattle.mb_gate.specs.NamedActors.{NamesBelow}
use Rattle.mb_gate.specs.Starts.{no_messages, rows_of, row_of, slots_of, IsFresh}
use Rattle.mb_gate.proofs.Rows.{length-rows_of, length-slots_of}
use Rattle.mb_gate.proofs.Wins.{free_word, free_mod, valid_word}

module _ {H : Type 0} (facts : H → HomeFacts) where
  abbrev journal_at : List H → ℕ → List Entry
  journal_at [] a = []
  journal_at (h ∷ hs) zero = (facts h).journal
  journal_at (h ∷ hs) (suc a) = journal_at hs a

  -- the words and slots of the actor a, whose home is h
  record Begun (hs : List H) (a : ℕ) (h : H) : Type 0 where
    present : slice_get hs a ≡ Some h
    tale : journal_at hs a ≡ (facts h).journal
    status : get_or (rows_of facts hs) (word_at a 16) 0 ≡ word_of (facts h).mailbox
    flag : get_or (rows_of facts hs) (word_at a 7) 0 ≡ 0
    gate : get_or (rows_of facts hs) (word_at a 17) 0 ≡ 0
    waiting : get_or (rows_of facts hs) (word_at a 0) 0 ≡ 0
    cell : get_elem? (map some (slots_of hs)) (slot_at a 0) ≡ some (some (Home h))
    list : get_elem? (map some (slots_of hs)) (slot_at a 1) ≡ some (some (Listing no_messages))

  next_row : (w : ℕ) (rest : List ℕ) (i j : ℕ) → i ≡ j + 32 → get_or (row_of w ++ rest) i 0 ≡ get_or rest j 0
  next_row w rest i j e = ap (λ k. get_or (row_of w ++ rest) k 0) (let n : i ≡ suc (suc (suc (suc (suc (suc (suc (suc (suc (suc (suc (suc (suc (suc (suc (suc (suc (suc (suc (suc (suc (suc (suc (suc (suc (suc (suc (suc (suc (suc (suc (suc j))))))))))))))))))))))))))))))) = omega arith in n)

  next_shelves : (h : H) (rest : List (maybe.Option (Slot H))) (i j : ℕ) → i ≡ j + 2 → get_elem? (some (Home h) ∷ some (Listing no_messages) ∷
      rest) i ≡ get_elem? rest j
  next_shelves h rest i j e = ap (λ k. get_elem? (some (Home h) ∷ some (Listing no_messages) ∷ rest) k) (let n : i ≡ suc (suc j) = omega arith in n)

  begun : (hs : List H) (a : ℕ) → a < length hs → (h : H) × Begun hs a h
  begun [] a l = absurd (omega arith)
  begun (h ∷ hs) zero l = (
    h,
    record {
      present = refl;
      tale = refl;
      status = refl;
      flag = refl;
      gate = refl;
      waiting = refl;
      cell =
          refl;
      list = refl;
    },
  )
  begun (h ∷ hs) (suc a) l = let b = begun hs a (omega arith) in let w = word_of (facts h).mailbox in (
    b.0,
    record {
      present = b.1.present;
      tale = b.1.tale;
      status = next_row w (rows_of facts hs) (word_at (suc a) 16) (word_at a 16) (omega arith) ∙ b.1.status;
      flag = next_row w (rows_of facts hs) (word_at (suc a) 7) (word_at a 7) (omega arith) ∙ b.1.flag;
      gate = next_row w (rows_of facts hs) (word_at (suc a) 17) (word_at a 17) (omega arith) ∙ b.1.gate;
      waiting = next_row w (rows_of facts hs) (word_at (suc a) 0) (word_at a 0) (omega arith) ∙ b.1.waiting;
      cell = next_shelves h (map some (slots_of hs)) (slot_at (suc a) 0) (slot_at a 0) (omega arith) ∙ b.1.cell;
      list = next_shelves h (map some (slots_of hs)) (slot_at (suc a) 1) (slot_at a 1) (omega arith) ∙ b.1.list;
    },
  )

nobody_has : {T : Type 0} (ticket : View → Option T) → ticket alone ≡ None → (q : ℕ) → ticket_at ticket (alone ∷ []) q ≡ None
nobody_has ticket bare zero = bare
nobody_has ticket bare (suc q) = refl

only_alone : (P : View → Type 0) → P alone → (q : ℕ) (v : View) → get_elem? (alone ∷ []) q ≡ some v → P v
only_alone P p zero v at = subst P (some-injective alone v at) p
only_alone P p (suc q) v at = absurd (some-ne-none v (sym at))

none_among : (a : ℕ) → IsAmong a [] → ⊥
none_among a is = cases is.before is.joined
  where
    cases : (before : List ℕ) → [] ≡ before ++ a ∷ is.after → ⊥
    cases [] e = cc
    cases (b ∷ bs) e = cc

module _ {H : Type 0} (is_of : ℕ → H → Type 0) (facts : H → HomeFacts) where
  abbrev begins : (hs : List H) → ℕ → Ghost
  begins hs a = record {
    holder = None;
    journal = journal_at facts hs a;
    closed_to = [];
    drained = [];
    lent_to = None;
    listed = no_messages;
    gave =
        false;
    pushed = [];
  }

  pub starts : (n : ℕ) (hs : List H) (words : List ℕ) (slots : List (Slot H)) → n ≡ length hs → words ≡ rows_of facts hs → slots ≡ slots_of hs
      → ((a : ℕ) (h : H) → slice_get hs a ≡ Some h → IsFresh is_of facts a h)
      → Ruled word_offset slot_offset n (Fact is_of facts n) (opening words slots alone)
  starts n hs words slots many rows shelves fresh =
      subst (λ (z : List ℕ × List (Slot H)). Ruled word_offset slot_offset n (Fact is_of facts n)
      (opening z.0 z.1 alone)) (λ i.
      (sym rows i, sym shelves i)) record {
        ghosts = begins hs;
        word_count = length-rows_of facts hs ∙ ap (λ k. 32 * k) (sym many);
        slot_count = length-map (slots_of hs) (λ (x : Slot H). some x) ∙ (length-slots_of hs ∙ ap (λ k. 2 * k) (sym many));
        each = λ a l. let b = begun facts hs a (omega arith) in let f = fresh a b.0 b.1.present in let m = (facts b.0).mailbox in record {
          valid = subst (λ k. IsTrue (is_valid k)) (sym b.1.status) (valid_word m f.possible);
          claims = nobody_has (claim_for a) refl;
          cell = record {
            home = b.0;
            present = b.1.cell;
            of_actor = f.of_actor;
            fold = sym b.1.tale;
            count = f.none_given;
            known_closed = f.none_closed;
            drained = f.none_drained;
            word = b.1.status;
            idle = inl (ap (λ k. k % 4) b.1.status ∙ free_mod m f.free);
            flag = b.1.flag ∙ sym (ap (λ b. if b then 1 else 0) (ne_eqb _ 1 (λ e. let z = free_word m f.free in let s = b.1.status in omega arith)));
            rest = λ _. f.rest;
          };
          lists = nobody_has (list_for a) refl;
          list_place = record { present = b.1.list; word = b.1.gate };
          ended = λ e. absurd (cc);
          listing = record { given = []; joined = refl; counted = refl; few = omega arith };
          named = All-nil (NamesBelow n);
          put = λ q. refl;
          releases = λ q. ap (λ j. 0 + q j) (sym (b.1.tale ∙ f.not_run));
          was_pushed = tt;
          balance = ap (λ k. (k + total (off_by a) (alone ∷ [])) % 2 ^ 64) b.1.waiting;
          claims_balance = refl;
          held = λ one. absurd (let z = free_word m f.free in let s = b.1.status in omega arith);
          shares = first_shares (λ (u : View). u.share) alone refl;
          bare = only_alone (λ (u : View). u.share ≡ [] → IsBare a u) (λ empty. absurd (no_share (0 ∷ []) refl empty));
          was_seen_closed = λ other is. absurd (none_among other is);
          message = λ due. absurd (let w = b.1.waiting in let d = due.1 in omega arith);
          system = λ due. absurd (let d = due.1 in cc);
          seen = only_alone (Knows a _) (record { seen = tt; sent_system = tt });
        };
      }
