-- What is so of a document that passes all checks: each actor's parent is an earlier one and its bound one that there can be, each number is
-- within its bounds, and what is sent is from senders and to actors that there are.
use Rattle.std.proofs.Common.{◌≡◌, ℕ, suc, ◌+◌, ◌<◌, ◌≤◌, ◌^◌, Bool, true, false, not, cond, ◌&&◌, ◌||◌, List, [], ◌∷◌, ◌++◌}
use Rattle.std.proofs.Common.{drop, length, map, take, ℤ, pos, refl, sym, ap, ◌∙◌, subst, arith, codes, Option, Some, None, rules}
use Rattle.std.specs.Prelude.{All, fold, max, option_and_then}
use Rattle.std.specs.Str.{bytes_eq}
use Rattle.std.proofs.lemmas.Bool.Decides.{nat_tests}
use Rattle.std.proofs.lemmas.List.Elements.{All-cons, All-head, All-nil, All-tail, All-weaker}
use Rattle.std.proofs.lemmas.Option.{none-some}
use Rattle.std.proofs.lemmas.Slice.Eq.{bytes_eq-Decides}
use Rattle.toml.specs.Data.{Data, Items, no_items, item, Members, get_member, as_table}
use Rattle.mb_schema.specs.Check.{actor_check, actor_key_check, actor_table_check, actor_entries_of, context_of_actor, context_of_send, document_check}
use Rattle.mb_schema.specs.Check.{each, items_in, key_check, actor_entry_of, name_check, rows_check, send_check, table_check, unknown_check}
use Rattle.mb_schema.specs.Context.{ContextData, ActorEntryData, knows}
use Rattle.mb_schema.specs.Format.{KeyData, actor_keys, any_number, name_key, optional, other_actor_keys, required, send_keys, top_keys}
use Rattle.mb_msg.specs.declared.payload.Payload.TheVariants.{User, Control, PoisonPill, Kill}
use Rattle.mb_msg.specs.declared.id.ActorId.{ActorId}
use Rattle.mb_schema.specs.Name.{is_guardian, is_name}
use Rattle.mb_schema.specs.Location.{FindingData, entry_text, first, when}
use Rattle.mb_schema.specs.Value.{is_known, item_count, items_of, key_reason, mailbox_word, text_of, text_or, what_word}
use Rattle.mb_schema.specs.declared.finding.Reason.TheVariants.{Missing}
use Rattle.mb_schema.specs.declared.form.Form.TheVariants.{Whole, AnyInteger, Word, Name, Parent, Receiver, Tables}
use Rattle.mb_schema.specs.declared.form.Only.TheVariants.{Always, Bounded, Message}
use Rattle.mb_schema.specs.declared.form.Words.TheVariants.{Pool, Mailbox, What as WhatWord}
use Rattle.mb_msg.specs.declared.payload.Payload.{Payload}
use Rattle.mb_msg.specs.declared.mailbox_type.RankRow.{RankRow}
use Rattle.mb_msg.specs.declared.order.OrderKind.{OrderKind}
use Rattle.mb_msg.specs.declared.order.OrderKind.TheVariants.{Tell, Stop}
use Rattle.mb_msg.specs.declared.order.SenderOrder.{SenderOrder}
use Rattle.mb_scenario.specs.Fields.{field, id_of, map_items, number_from, number_or, integer_or, small}
use Rattle.mb_scenario.specs.Plans.{ActorData, KindData, unbounded, bounded, priority, control, planned_actor, planned_mailbox, sends_in, workers_in}
use Rattle.mb_scenario.specs.Sends.{send_of, senders_of, what_sent}
use Rattle.mb_scenario.proofs.Checks.{Checked, at-most, bound-within, each-none, entry-none, first-none, fit, key-none, number-within, small-is}
use Rattle.mb_scenario.proofs.NameLemmas.{Named, no-guardian, same-bytes, number-below, number-guardian, number-known, number-of-parent}

pub length-items : {A : Type 0} (f : Data → A) (items : Items) → length (map_items f items) ≡ item_count items
length-items f no_items = refl
length-items f (item d ds) = let e = length-items f ds in omega (arith, e)

length-actor_entries : (items : Items) → length (actor_entries_of items) ≡ item_count items
length-actor_entries no_items = refl
length-actor_entries (item d ds) = let e = length-actor_entries ds in omega (arith, e)

-- ---- names

module _ (actor_entries : List ActorEntryData) where
  named-by : (earlier : ℕ) (d : Data) (ms : Members) (prefix : List ℕ) (o : Option Data) → key_reason (context_of_actor actor_entries earlier d) ms name_key o ≡ None
      → is_name (text_or [] o) ≡ true
  named-by earlier d ms prefix None none = absurd (none-some Missing (sym none))
  named-by earlier d ms prefix (Some x) none = (fit (context_of_actor actor_entries earlier d) ms name_key x none).in_range

  pub named : (earlier : ℕ) (items : Items) → Checked (name_check actor_entries) earlier items → Named (actor_entries_of items)
  named earlier no_items checked = tt
  named earlier (item d ds) checked =
      let a = context_of_actor actor_entries earlier d in
      let entry = entry-none (λ prefix ms. key_check prefix a ms name_key) (codes "actor") earlier (as_table d) checked.0 in
      let prefix = entry_text (codes "actor") (earlier + 1) ++ codes " " in
      let name = named-by earlier d entry.0 prefix (get_member (codes "name") entry.0) (key-none prefix a entry.0 name_key entry.2) in
      (subst (λ o. is_name (actor_entry_of o).name ≡ true) (sym entry.1) name, named (earlier + 1) ds checked.1)

-- ---- actors

-- a bound is from 1 to 65,536
abbrev pub IsBoundData : KindData → Type 0
IsBoundData unbounded = Unit {0}
IsBoundData (bounded capacity) = (1 ≤ capacity) × (capacity ≤ 65536)
IsBoundData (priority rows other) = Unit {0}
IsBoundData control = Unit {0}

-- the actor of this number has an earlier one as its parent, and a bound that there can be
abbrev pub IsActorData : ℕ → ActorData → Type 0
IsActorData id a = (a.parent.0 < id) × IsBoundData a.mailbox

abbrev pub AreActorData : ℕ → List ActorData → Type 0
AreActorData id [] = Unit {0}
AreActorData id (a ∷ actors) = IsActorData id a × AreActorData (id + 1) actors

bound-of : (bound second third : Bool) (capacity : ℕ) (rows : List RankRow) (other : ℕ)
    → (bound ≡ true → (1 ≤ capacity) × (capacity ≤ 65536))
    → IsBoundData (cond bound (bounded capacity) (cond second (priority rows other) (cond third control unbounded)))
bound-of true second third capacity rows other within = within refl
bound-of false true third capacity rows other within = tt
bound-of false false true capacity rows other within = tt
bound-of false false false capacity rows other within = tt

module _ (actor_entries : List ActorEntryData) (names : Named actor_entries) where
  parent-below : (earlier : ℕ) (own_name : List ℕ) (ms : Members) (o : Option Data)
      → key_reason (record { actor_entries = actor_entries; earlier = earlier; own_name = own_name }) ms (optional (codes "parent") Always Parent) o ≡ None
      → (id_of actor_entries (text_or (codes "guardian") o)).0 < 1 + earlier
  parent-below earlier own_name ms None none =
      let zero_is = number-guardian 1 actor_entries (codes "guardian") names refl in omega (arith, zero_is)
  parent-below earlier own_name ms (Some d) none =
      number-of-parent earlier actor_entries (text_of d) names
      (fit (record { actor_entries = actor_entries; earlier = earlier; own_name = own_name }) ms (optional (codes "parent") Always Parent) d none).known

  -- the checks of an actor find nothing
  actor-data : (earlier : ℕ) (d : Data) → actor_check actor_entries earlier d ≡ None → IsActorData (1 + earlier) (planned_actor actor_entries d)
  actor-data earlier d none =
      let a = context_of_actor actor_entries earlier d in
      let entry = entry-none (actor_table_check a) (codes "actor") earlier (as_table d) none in
      let prefix = entry_text (codes "actor") (earlier + 1) ++ codes " " in
      let ms = entry.0 in
      let check = actor_key_check prefix a ms in
      let k1 = optional (codes "parent") Always Parent in
      let k2 = optional (codes "mailbox") Always (Word Mailbox) in
      let k3 = required (codes "capacity") Bounded (Whole 1 65536) in
      let p0 = first-none (unknown_check prefix actor_keys ms) (map check other_actor_keys) entry.2 in
      let p1 = first-none (check k1) (map check (drop 1 other_actor_keys)) p0.1 in
      let p2 = first-none (check k2) (map check (drop 2 other_actor_keys)) p1.1 in
      let p3 = first-none (check k3) (map check (drop 3 other_actor_keys)) p2.1 in
      let parent = key-none prefix a ms k1 (first-none (key_check prefix a ms k1) (rows_check a (prefix ++ k1.name) k1.form (get_member k1.name ms)
      ∷ []) p1.0).0 in
      let bound = key-none prefix a ms k3 (first-none (key_check prefix a ms k3) (rows_check a (prefix ++ k3.name) k3.form (get_member k3.name ms)
      ∷ []) p3.0).0 in
      let at : (key : List ℕ) → field key d ≡ get_member key ms = λ key. ap (option_and_then (get_member key)) entry.1 in (
        subst (λ o. (id_of actor_entries (text_or (codes "guardian") o)).0 < 1 + earlier) (sym (at (codes "parent")))
            (parent-below earlier a.own_name ms (get_member (codes "parent") ms) parent),
        bound-of _ _ _ (number_or 0 (field (codes "capacity") d)) _ _ (λ is.
            subst (λ o. (1 ≤ number_or 0 o) × (number_or 0 o ≤ 65536)) (sym (at (codes "capacity")))
            (bound-within a ms (get_member (codes "capacity") ms) bound
            (ap (λ o. bytes_eq (text_or (codes "unbounded") o) (codes "bounded")) (sym (at (codes "mailbox"))) ∙ is))),
      )

  pub actors-data : (earlier : ℕ) (items : Items) → Checked (actor_check actor_entries) earlier items
      → AreActorData (1 + earlier) (map_items (planned_actor actor_entries) items)
  actors-data earlier no_items checked = tt
  actors-data earlier (item d ds) checked = (
    actor-data earlier d checked.0,
    subst (λ id. AreActorData id (map_items (planned_actor actor_entries) ds)) (let e : 1 + (earlier + 1) ≡ 1 + earlier + 1 = omega arith in e)
        (actors-data (earlier + 1) ds checked.1),
  )

-- ---- sends

-- an envelope is none of the word that stops
no-stop : (word : List ℕ) (kind : ℕ) (value : ℤ) (payload : Payload) → what_sent word kind value ≡ Tell payload → bytes_eq word (codes "stop") ≡ false
no-stop word kind value payload is = by_tests (bytes_eq word (codes "poison")) (bytes_eq word (codes "kill")) (bytes_eq word (codes "stop")) refl refl refl
  where
    by_tests : (poison kill stop : Bool) → bytes_eq word (codes "poison") ≡ poison → bytes_eq word (codes "kill") ≡ kill
        → bytes_eq word (codes "stop") ≡ stop → stop ≡ false
    by_tests poison kill false is_poison is_kill is_stop = refl
    by_tests true kill true is_poison is_kill is_stop =
        let e : bytes_eq (codes "poison") (codes "stop") ≡ true =
        ap (λ w. bytes_eq w (codes "stop")) (sym (same-bytes word (codes "poison") is_poison)) ∙ is_stop in absurd (cc)
    by_tests false true true is_poison is_kill is_stop =
        let e : bytes_eq (codes "kill") (codes "stop") ≡ true =
        ap (λ w. bytes_eq w (codes "stop")) (sym (same-bytes word (codes "kill") is_kill)) ∙ is_stop in absurd (cc)
    by_tests false false true is_poison is_kill is_stop =
        let e : what_sent word kind value ≡ Stop = (λ i. cond (is_poison i) (Tell PoisonPill) (cond (is_kill i) (Tell Kill)
        (cond (is_stop i) Stop (cond (bytes_eq word (codes "control")) (Tell (Control kind value)) (Tell (User kind value)))))) in
        let f : Tell payload ≡ Stop = sym is ∙ e in absurd (cc)

-- the receiver is an actor that there is; of an envelope it is not the guardian
abbrev pub IsReceived : ℕ → ActorId → OrderKind → Type 0
IsReceived actors to (Tell payload) = (0 < to.0) × (to.0 < actors)
IsReceived actors to Stop = to.0 < actors

abbrev pub IsSendData : ℕ → SenderOrder → Type 0
IsSendData actors s = (s.from ≤ 15) × IsReceived actors s.order.to s.order.what

or-false : (a b : Bool) → (a || b) ≡ true → a ≡ false → b ≡ true
or-false true b is not_a = absurd (cc)
or-false false b is not_a = is

module _ (actor_entries : List ActorEntryData) (few : 1 + length actor_entries < 2 ^ 16) where
  received : (ms : Members) (o : Option Data) (kind : ℕ) (value : ℤ) (what : OrderKind)
      → key_reason (context_of_send actor_entries) ms (required (codes "to") Always Receiver) o ≡ None → what_sent (what_word ms) kind value ≡ what
      → IsReceived (1 + length actor_entries) (id_of actor_entries (text_or (codes "") o)) what
  received ms None kind value what none is = absurd (none-some Missing (sym none))
  received ms (Some d) kind value Stop none is = number-below 1 actor_entries (text_of d) (omega arith)
  received ms (Some d) kind value (Tell payload) none is =
      let fits = fit (context_of_send actor_entries) ms (required (codes "to") Always Receiver) d none in
      let other : bytes_eq (what_word ms) (codes "stop") ≡ false = no-stop (what_word ms) kind value payload is in
      let name : is_name (text_of d) ≡ true = a-name (is_name (text_of d)) (is_guardian (text_of d)) (bytes_eq (what_word ms) (codes "stop"))
      fits.in_range other in
      let known = or-false (is_guardian (text_of d)) (knows actor_entries (text_of d)) fits.known (no-guardian (text_of d) name) in
      (number-known 1 actor_entries (text_of d) (omega arith) few known, number-below 1 actor_entries (text_of d) (omega arith))
    where
      a-name : (a b c : Bool) → (a || (b && c)) ≡ true → c ≡ false → a ≡ true
      a-name true b c is not_c = refl
      a-name false true c is not_c = absurd (cc)
      a-name false false c is not_c = is

  send-data : (earlier : ℕ) (d : Data) → send_check actor_entries earlier d ≡ None → IsSendData (1 + length actor_entries) (send_of actor_entries d)
  send-data earlier d none =
      let a = context_of_send actor_entries in
      let entry = entry-none (λ prefix ms. table_check send_keys send_keys prefix a ms) (codes "send") earlier (as_table d) none in
      let prefix = entry_text (codes "send") (earlier + 1) ++ codes " " in
      let ms = entry.0 in
      let check = key_check prefix a ms in
      let k1 = optional (codes "from") Always (Whole 0 15) in
      let k2 = required (codes "to") Always Receiver in
      let p0 = first-none (unknown_check prefix send_keys ms) (map check send_keys) entry.2 in
      let p1 = first-none (check k1) (map check (drop 1 send_keys)) p0.1 in
      let p2 = first-none (check k2) (map check (drop 2 send_keys)) p1.1 in
      let from = number-within a ms (codes "from") 0 15 0 (omega arith) (omega arith) (omega arith) (get_member (codes "from") ms)
      (key-none prefix a ms k1 p1.0) in
      let to = key-none prefix a ms k2 p2.0 in
      let at : (key : List ℕ) → field key d ≡ get_member key ms = λ key. ap (option_and_then (get_member key)) entry.1 in (
        subst (λ o. number_or 0 o ≤ 15) (sym (at (codes "from"))) from.1,
        subst (λ o. IsReceived (1 + length actor_entries) (id_of actor_entries (text_or (codes "") o)) (send_of actor_entries d).order.what) (sym (at (codes "to")))
            (received ms (get_member (codes "to") ms) (number_or 0 (field (codes "kind") d)) (integer_or (pos 0) (field (codes "value") d))
            (send_of actor_entries d).order.what to
            (ap (λ o. what_sent (text_or (codes "user") o) (number_or 0 (field (codes "kind") d)) (integer_or (pos 0) (field (codes "value") d)))
            (sym (at (codes "what"))))),
      )

  pub sends-data : (earlier : ℕ) (items : Items) → Checked (send_check actor_entries) earlier items
      → All (IsSendData (1 + length actor_entries)) (map_items (send_of actor_entries) items)
  sends-data earlier no_items checked = All-nil (IsSendData (1 + length actor_entries))
  sends-data earlier (item d ds) checked =
      All-cons (IsSendData (1 + length actor_entries)) (send_of actor_entries d) (map_items (send_of actor_entries) ds) (send-data earlier d checked.0)
      (sends-data (earlier + 1) ds checked.1)

-- ---- the document

senders-most : (most : ℕ) (first : ℕ) (sends : List SenderOrder) → first ≤ most → All (λ (s : SenderOrder). s.from + 1 ≤ most) sends
    → fold (λ n (s : SenderOrder). max n (s.from + 1)) first sends ≤ most
senders-most most first [] le all = le
senders-most most first (s ∷ sends) le all =
    let this = All-head (λ (s : SenderOrder). s.from + 1 ≤ most) s sends all in
    senders-most most (max first (s.from + 1)) sends (omega (arith, le, this)) (All-tail (λ (s : SenderOrder). s.from + 1 ≤ most) s sends all)

senders-least : (first : ℕ) (sends : List SenderOrder) → first ≤ fold (λ n (s : SenderOrder). max n (s.from + 1)) first sends
senders-least first [] = omega arith
senders-least first (s ∷ sends) = let le = senders-least (max first (s.from + 1)) sends in omega (arith, le)

senders-all : (first : ℕ) (sends : List SenderOrder) → All (λ (s : SenderOrder). s.from < fold (λ n (s : SenderOrder). max n (s.from + 1)) first sends) sends
senders-all first [] = All-nil _
senders-all first (s ∷ sends) =
    let le = senders-least (max first (s.from + 1)) sends in
    All-cons (λ (x : SenderOrder). x.from < fold (λ n (s : SenderOrder). max n (s.from + 1)) first (s ∷ sends)) s sends (omega (arith, le))
    (senders-all (max first (s.from + 1)) sends)

-- a document that passes all checks
pub record IsPassed (top : Members) : Type 0 where
  pub within_limit : item_count (items_in (get_member (codes "actor") top)) ≤ 63
  pub actors : AreActorData 1 (map_items (planned_actor (actor_entries_of (items_in (get_member (codes "actor") top)))) (items_in (get_member (codes
      "actor") top)))
  pub sends : All (IsSendData (1 + item_count (items_in (get_member (codes "actor") top)))) (sends_in top)
  pub workers : workers_in top ≤ 16
  pub limit : (1 ≤ number_or 4294967295 (get_member (codes "journal_limit") top))
      × (number_or 4294967295 (get_member (codes "journal_limit") top) ≤ 4294967295)

few-tables : (a : ContextData) (ms : Members) (o : Option Data) → key_reason a ms (optional (codes "actor") Always (Tables 63)) o ≡ None
    → item_count (items_in o) ≤ 63
few-tables a ms None none = omega arith
few-tables a ms (Some d) none =
    at-most (item_count (items_of d)) 63 (fit a ms (optional (codes "actor") Always (Tables 63)) d none).within_limit

pub passed : (top : Members) → document_check top ≡ None → IsPassed top
passed top none =
    let actors = items_in (get_member (codes "actor") top) in
    let sends = items_in (get_member (codes "send") top) in
    let actor_entries = actor_entries_of actors in
    let a = context_of_send [] in
    let c1 = table_check top_keys top_keys [] a top in
    let c2 = first (each (name_check actor_entries) actors) in
    let c3 = first (each (actor_check actor_entries) actors) in
    let c4 = first (each (send_check actor_entries) sends) in
    let p1 = first-none c1 (c2 ∷ c3 ∷ c4 ∷ []) none in
    let p2 = first-none c2 (c3 ∷ c4 ∷ []) p1.1 in
    let p3 = first-none c3 (c4 ∷ []) p2.1 in
    let p4 = first-none c4 [] p3.1 in
    let check = key_check [] a top in
    let k1 = optional (codes "workers") Always (Whole 0 16) in
    let k2 = optional (codes "pool") Always (Word Pool) in
    let k3 = optional (codes "throughput") Always any_number in
    let k4 = optional (codes "journal_limit") Always (Whole 1 4294967295) in
    let k5 = optional (codes "actor") Always (Tables 63) in
    let q0 = first-none (unknown_check [] top_keys top) (map check top_keys) p1.0 in
    let q1 = first-none (check k1) (map check (drop 1 top_keys)) q0.1 in
    let q2 = first-none (check k2) (map check (drop 2 top_keys)) q1.1 in
    let q3 = first-none (check k3) (map check (drop 3 top_keys)) q2.1 in
    let q4 = first-none (check k4) (map check (drop 4 top_keys)) q3.1 in
    let q5 = first-none (check k5) (map check (drop 5 top_keys)) q4.1 in
    let few : item_count actors ≤ 63 = few-tables a top (get_member (codes "actor") top) (key-none [] a top k5 q5.0) in
    let many : length actor_entries ≡ item_count actors = length-actor_entries actors in
    let names = named actor_entries 0 actors (each-none (name_check actor_entries) 0 actors p2.0) in
    record {
      within_limit = few;
      actors = actors-data actor_entries names 0 actors (each-none (actor_check actor_entries) 0 actors p3.0);
      sends = subst (λ n. All (IsSendData (1 + n)) (sends_in top)) many
          (sends-data actor_entries (omega (arith, few, many)) 0 sends (each-none (send_check actor_entries) 0 sends p4.0));
      workers = (number-within a top (codes "workers") 0 16 1 (omega arith) (omega arith) (omega arith) (get_member (codes "workers") top)
          (key-none [] a top k1 q1.0)).1;
      limit = number-within a top (codes "journal_limit") 1 4294967295 4294967295 (omega arith) (omega arith) (omega arith)
          (get_member (codes "journal_limit") top) (key-none [] a top k4 q4.0);
    }

-- all that is sent is from one of its senders, of whom there are 16 at most
pub senders-right : (actors : ℕ) (sends : List SenderOrder) → All (IsSendData actors) sends
    → (small (senders_of sends) ≤ 16) × All (λ (s : SenderOrder). s.from < small (senders_of sends)) sends
senders-right actors sends all =
    let each : All (λ (s : SenderOrder). s.from + 1 ≤ 16) sends =
    All-weaker (IsSendData actors) (λ (s : SenderOrder). s.from + 1 ≤ 16) (λ s is. let le = is.0 in omega (arith, le)) sends all in
    let most = senders-most 16 0 sends (omega arith) each in
    let same : small (senders_of sends) ≡ senders_of sends = small-is (senders_of sends) (omega (arith, most)) in (
      omega (arith, most, same),
      subst (λ n. All (λ (s : SenderOrder). s.from < n) sends) (sym same) (senders-all 0 sends),
    )
