-- What is kept beside a cell agrees with its journal after each step.
use Rattle.std.proofs.Common.{◌≡◌, ◌≢◌, ◌⊎◌, inl, inr, ℕ, zero, suc, ◌+◌, ◌-◌, ◌%◌, ◌^◌, ◌<◌, ◌≤◌, ◌==◌, Bool, true, false, List, [], ◌∷◌, ◌++◌}
use Rattle.std.proofs.Common.{length, map, drop, refl, sym, ap, ◌∙◌, subst, arith, append-nil, append_assoc, length-append}
use Rattle.std.proofs.lemmas.List.{length-map}
use Rattle.std.specs.Prelude.{All, slice_get, slice_set, Option, Some, None, IsSome, option_map}
use Rattle.std.proofs.Math.Nat.{mod-add-mod}
use Rattle.std.proofs.lemmas.List.Elements.{All-push, All-set, All-weaker, All-tail}
use Rattle.std.proofs.lemmas.Option.{slice_get_within, get_or_from_slice_get, slice_get-map}
use Rattle.std.proofs.lemmas.Bool.Decides.{nat_tests}
use Rattle.std.proofs.Math.ListN.{length-set}
use Rattle.mb_msg.specs.declared.dead_letter.DeadLetter.{DeadLetter}
use Rattle.mb_msg.specs.declared.dead_letter.DeadLetterReason.{DeadLetterReason}
use Rattle.mb_msg.specs.declared.envelope.Body.{Body}
use Rattle.mb_msg.specs.declared.envelope.Envelope.{Envelope}
use Rattle.mb_msg.specs.declared.id.ActorId.{ActorId}
use Rattle.mb_msg.specs.declared.system.SysMsg.{SysMsg}
use Rattle.mb_syslist.specs.MessageList.{numbered}
use Rattle.mb_actor.specs.ActorList.{has}
use Rattle.mb_actor.specs.Behaviour.{Moment, Reply}
use Rattle.mb_journal.specs.Acts.{Act, acts}
use Rattle.mb_journal.specs.Acts.Act.{Tell}
use Rattle.mb_journal.specs.Aside.{next_number}
use Rattle.mb_journal.specs.Entry.{Entry}
use Rattle.mb_journal.specs.Identity.{Identity, is_guardian}
use Rattle.mb_journal.specs.Lawful.{IsLawful, AreLawful, IsLawfulEntry}
use Rattle.mb_journal.specs.Life.{closed}
use Rattle.mb_journal.specs.Watching.{watching}
use Rattle.mb_cell.specs.CellView.{with_entry}
use Rattle.mb_queue.specs.Passes.{Queue, SendPassView, TakePassView}
use Rattle.mb_journal.specs.Accepted.{queued, to_actor}
use Rattle.mb_journal.specs.Fates.{begun}
use Rattle.mb_journal.specs.Tells.{AddressedBody, tells, told}
use Rattle.mb_home.specs.Contents.{Contents}
use Rattle.mb_home.specs.Directory.{DirectoryEntry, queues_of, IsBounded}
use Rattle.mb_home.specs.AgreesWithJournal.{IsOwn, IsFit, CountsSystemMessages, IsReason, AgreesWithJournal, messages_in}
use Rattle.mb_home.specs.Steps.{most_tells, next_envelope, with_pushed}
use Rattle.mb_home.proofs.CountLemmas.{rest-first}
use Rattle.mb_home.proofs.GuardianLemmas.{watches-none}
use Rattle.mb_home.proofs.PostLemmas.{posting, told-more, told-one, queued-more, queued-same, dead-same, dead-more, to-more, to-same}
use Rattle.mb_home.proofs.TellLaw.{few-acts}
use Rattle.mb_home.proofs.TellLemmas.{IsThere}

-- ---- the acts of an entry are fit

below-all : (h : Contents) → IsOwn h → h.cell.who.this.0 < h.cell.who.actors
below-all h own = omega (arith, slice_get_within h.directory h.cell.who.this.0 _ own.enrolled, own.all_there)

one-less : {X : Type 0} (list : List X) → length (drop 1 list) ≡ length list - 1
one-less [] = refl
one-less (x ∷ list) = omega arith

pub many-sends : (h : Contents) → IsOwn h → length h.sends ≡ length h.directory - 1
many-sends h own =
    sym (length-map h.sends (λ (p : SendPassView). p.queue))
    ∙ ap length own.queues
    ∙ one-less (queues_of h.directory)
    ∙ ap (λ n. n - 1) (length-map h.directory (λ (n : DirectoryEntry). n.queue))

not-watched : (x : ActorId) (list : List ActorId) → list ≡ [] → has list x ≡ true → ⊥
not-watched x list none t = let no : has [] x ≡ true = subst (λ l. has l x ≡ true) none t in absurd (cc no)

above-zero : (h : Contents) (gives : Moment → Reply → Type 0) → IsOwn h → AreLawful h.cell.who gives h.cell.journal →
    (x : ActorId) → has (watching h.cell.who h.cell.journal) x ≡ true → 0 < h.cell.who.this.0
above-zero h gives own lawful x t = by_test (is_guardian h.cell.who) refl
  where
    by_test : (b : Bool) → is_guardian h.cell.who ≡ b → 0 < h.cell.who.this.0
    by_test true guardian =
        absurd (not-watched x (watching h.cell.who h.cell.journal) (watches-none h.cell.who gives guardian h.cell.journal lawful) t)
    by_test false an_actor = own.not_zero an_actor

split-lawful : (who : Identity) (gives : Moment → Reply → Type 0) (before : List Entry) (e : Entry) → AreLawful who gives (e ∷ before) →
    IsLawfulEntry who gives before e × AreLawful who gives before
unfolding AreLawful
split-lawful who gives before e lawful = lawful

fit-acts : (h : Contents) (gives : Moment → Reply → Type 0) (e : Entry) → IsOwn h → IsLawful h.cell.who gives (e ∷ h.cell.journal) →
    most_tells ≤ h.room →
    IsFit (acts h.cell.who h.cell.journal e) h
fit-acts h gives e own lawful room =
    let both = split-lawful h.cell.who gives h.cell.journal e lawful.entries in
    let few = few-acts h.cell.who gives h.cell.journal e both.0 (above-zero h gives own both.1) (below-all h own) in
    record {
      present =
          All-weaker (IsThere h.cell.who.actors) (λ (t : AddressedBody). (0 < t.0.0) × (t.0.0 ≤ length h.sends))
          (λ t there. (there.0, omega (arith, there.1, own.all_there, many-sends h own))) (tells (acts h.cell.who h.cell.journal e)) few.present;
      room = omega (arith, few.within_limit, room);
    }

-- ---- an entry more

abbrev pub with_more : Contents → Entry → TakePassView → List (ℕ × SysMsg) → ℕ → Contents
with_more h e take rest aside_dead = record h { cell = with_entry h.cell e; take = take; rest = rest; aside_dead = aside_dead }

-- two take passes of one queue, which take in one order
abbrev pub SameQueue : TakePassView → TakePassView → Type 0
SameQueue new old = (new.queue ≡ old.queue) × (new.discipline ≡ old.discipline)

enrolled-same : (h : Contents) (take : TakePassView) → SameQueue take h.take → IsOwn h →
    slice_get h.directory h.cell.who.this.0 ≡ Some (record { who = h.cell.who; queue = take.queue; discipline = take.discipline })
enrolled-same h take same own = own.enrolled ∙ (λ i. Some (record { who = h.cell.who; queue = sym same.0 i; discipline = sym same.1 i }))

own-more : (h : Contents) (e : Entry) (take : TakePassView) (rest : List (ℕ × SysMsg)) (aside_dead : ℕ) → SameQueue take h.take → IsOwn h →
    IsOwn (with_more h e take rest aside_dead)
own-more h e take rest aside_dead same own = record {
  enrolled = enrolled-same h take same own;
  all_there = own.all_there;
  within_limit = own.within_limit;
  not_zero = own.not_zero;
  queues = own.queues;
  by = own.by;
  receivers = own.receivers;
  receiver = ap (λ (q : Queue). q.to) same.0 ∙ own.receiver;
  nobody = λ guardian. ap (λ (q : Queue). q.senders) same.0 ∙ own.nobody guardian;
}

-- the home with one entry more, whose acts are to be carried out
pub settled-more : (h : Contents) (gives : Moment → Reply → Type 0) (e : Entry) (take : TakePassView) (rest : List (ℕ × SysMsg)) (aside_dead : ℕ) →
    AgreesWithJournal gives [] h → closed h.cell.who h.cell.journal ≡ false → IsLawful h.cell.who gives (e ∷ h.cell.journal) → most_tells ≤ h.room →
    SameQueue take h.take → take.taken ≡ begun (e ∷ h.cell.journal) → CountsSystemMessages (with_more h e take rest aside_dead) →
    AgreesWithJournal gives (acts h.cell.who h.cell.journal e) (with_more h e take rest aside_dead)
settled-more h gives e take rest aside_dead s not_ended lawful room same taken counted =
    let none : h.cleaned ≡ [] = s.open_keeps not_ended in
    let fit = fit-acts h gives e s.is_own lawful room in
    record {
      is_own = own-more h e take rest aside_dead same s.is_own;
      lawful = lawful;
      taken = taken ∙ sym (append-nil (begun (e ∷ h.cell.journal))) ∙ ap (λ l. begun (e ∷ h.cell.journal) ++ l) (sym none);
      open_keeps = λ _. none;
      fit = record { present = fit.present; room = fit.room };
      posted = record {
        postings = s.posted.postings;
        told = told-more h.cell.who h.cell.journal e s.posted.postings s.posted.told;
        sent = s.posted.sent;
        pushed = s.posted.pushed;
        dead = s.posted.dead;
      };
      counted = counted;
      reasons = s.reasons;
    }

-- ---- the acts are carried out

-- an act was taken out of the cell to be carried out
pub settled-acts : (h : Contents) (gives : Moment → Reply → Type 0) (pending left : List Act) → AgreesWithJournal gives pending h →
    AgreesWithJournal gives pending (record h { cell = record h.cell { acts = left } })
settled-acts h gives pending left s = record {
  is_own = record {
    enrolled = s.is_own.enrolled;
    all_there = s.is_own.all_there;
    within_limit = s.is_own.within_limit;
    not_zero = s.is_own.not_zero;
    queues = s.is_own.queues;
    by = s.is_own.by;
    receivers = s.is_own.receivers;
    receiver = s.is_own.receiver;
    nobody = s.is_own.nobody;
  };
  lawful = s.lawful;
  taken = s.taken;
  open_keeps = s.open_keeps;
  fit = record { present = s.fit.present; room = s.fit.room };
  posted = record {
    postings = s.posted.postings;
    told = s.posted.told;
    sent = s.posted.sent;
    pushed = s.posted.pushed;
    dead = s.posted.dead;
  };
  counted = record { rest = s.counted.rest; aside = s.counted.aside; none = s.counted.none };
  reasons = s.reasons;
}

count-one : (n : ℕ) (sent : ℕ) → sent ≡ n % 2 ^ 64 → (sent + 1) % 2 ^ 64 ≡ (n + 1) % 2 ^ 64
count-one n sent is = ap (λ k. (k + 1) % 2 ^ 64) is ∙ mod-add-mod n (2 ^ 64) 1

-- the next envelope is a dead letter, for a reason that holds
pub settled-dead : (h : Contents) (gives : Moment → Reply → Type 0) (to : ActorId) (body : Body) (left : List Act) (why : DeadLetterReason) (room : ℕ) →
    AgreesWithJournal gives (Tell to body ∷ left) h → h.room ≡ room + 1 → IsReason h.directory why to.0 →
    AgreesWithJournal gives left (record h {
      cell = record h.cell { is_ready = false };
      dead = h.dead ++ record { envelope = next_envelope h to body; why = why } ∷ [];
      sent = (h.sent + 1) % 2 ^ 64;
      room = room;
    })
settled-dead h gives to body left why room s one_less reason =
    let ps = s.posted.postings in
    let e = next_envelope h to body in
    record {
      is_own = record {
        enrolled = s.is_own.enrolled;
        all_there = s.is_own.all_there;
        within_limit = s.is_own.within_limit;
        not_zero = s.is_own.not_zero;
        queues = s.is_own.queues;
        by = s.is_own.by;
        receivers = s.is_own.receivers;
        receiver = s.is_own.receiver;
        nobody = s.is_own.nobody;
      };
      lawful = s.lawful;
      taken = s.taken;
      open_keeps = s.open_keeps;
      fit = record {
        present = All-tail (λ (t : AddressedBody). (0 < t.0.0) × (t.0.0 ≤ length h.sends)) (to, body) (tells left) s.fit.present;
        room = omega (arith, s.fit.room, one_less);
      };
      posted = record {
        postings = ps ++ posting e (Some why) ∷ [];
        told =
            told-one (told h.cell.who h.cell.journal) ps e (Some why) h.cell.who.this.0 (to, body) (tells left)
            (ap (λ n. record { by = record { 0 = h.cell.who.this.0 }; to = to; number = n; body = body }) s.posted.sent) s.posted.told;
        sent = count-one (length ps) h.sent s.posted.sent ∙ ap (λ n. n % 2 ^ 64) (sym (length-append ps (posting e (Some why) ∷ [])));
        pushed = λ place p there. s.posted.pushed place p there ∙ ap (to_actor (place + 1)) (sym (queued-same ps e why));
        dead =
            ap (λ l. l ++ record { envelope = e; why = why } ∷ []) s.posted.dead ∙ sym (dead-more ps e why);
      };
      counted = record { rest = s.counted.rest; aside = s.counted.aside; none = s.counted.none };
      reasons =
          All-push (λ (d : DeadLetter). IsReason h.directory d.why d.envelope.to.0) h.dead (record { envelope = e; why = why }) s.reasons reason;
    }

-- ---- a push

set-map : {X Y : Type 0} (f : X → Y) (xs : List X) (i : ℕ) (old new : X) → slice_get xs i ≡ Some old → f new ≡ f old → map f (slice_set xs i new)
    ≡ map f xs
set-map f [] i old new was same = absurd (cc was)
set-map f (x ∷ xs) zero old new was same = let is : old ≡ x = cc was in ap (λ y. y ∷ map f xs) (same ∙ ap f is)
set-map f (x ∷ xs) (suc i) old new was same = ap (λ l. f x ∷ l) (set-map f xs i old new was same)

get-set : {X : Type 0} (xs : List X) (i k : ℕ) (old new got : X) → slice_get xs i ≡ Some old → slice_get (slice_set xs i new) k ≡ Some got →
    ((k ≡ i) × (got ≡ new)) ⊎ ((k ≢ i) × (slice_get xs k ≡ Some got))
get-set [] i k old new got was now = absurd (cc was)
get-set (x ∷ xs) zero zero old new got was now = inl (refl, cc now)
get-set (x ∷ xs) zero (suc k) old new got was now = inr (λ e. omega (arith, e), now)
get-set (x ∷ xs) (suc i) zero old new got was now = inr (λ e. omega (arith, e), now)
get-set (x ∷ xs) (suc i) (suc k) old new got was now = next (get-set xs i k old new got was now)
  where
    next : ((k ≡ i) × (got ≡ new)) ⊎ ((k ≢ i) × (slice_get xs k ≡ Some got)) →
        ((suc k ≡ suc i) × (got ≡ new)) ⊎ ((suc k ≢ suc i) × (slice_get xs k ≡ Some got))
    next (inl here) = inl (ap suc here.0, here.1)
    next (inr other) = inr (λ e. other.0 (omega (arith, e)), other.1)

all-at : {X : Type 0} (P : X → Type 0) (xs : List X) (i : ℕ) (x : X) → All P xs → slice_get xs i ≡ Some x → P x
all-at P xs i x all there = subst P (get_or_from_slice_get xs i x x there) (all i x (slice_get_within xs i x there))

is-one : (n m : ℕ) → n ≡ m → (n == m) ≡ true
is-one n m e = grind (arith, nat_tests, e)

is-other : (n m : ℕ) → (n ≡ m → ⊥) → (n == m) ≡ false
is-other n m e = grind (arith, nat_tests, e)

-- the next envelope was pushed into its receiver's queue
pub settled-pushed : (h : Contents) (gives : Moment → Reply → Type 0) (to : ActorId) (body : Body) (left : List Act) (place : ℕ) (pass : SendPassView) →
    AgreesWithJournal gives (Tell to body ∷ left) h → to.0 ≡ place + 1 → slice_get h.sends place ≡ Some pass →
    AgreesWithJournal gives left (record h {
      sends = slice_set h.sends place (with_pushed (next_envelope h to body) pass);
      sent = (h.sent + 1) % 2 ^ 64;
    })
settled-pushed h gives to body left place pass s place_is was =
    let ps = s.posted.postings in
    let e = next_envelope h to body in
    record {
      is_own = record {
        enrolled = s.is_own.enrolled;
        all_there = s.is_own.all_there;
        within_limit = s.is_own.within_limit;
        not_zero = s.is_own.not_zero;
        queues = set-map (λ (p : SendPassView). p.queue) h.sends place pass (with_pushed e pass) was refl ∙ s.is_own.queues;
        by =
            All-set (λ (p : SendPassView). p.by ≡ h.cell.who.this.0) h.sends place (with_pushed e pass)
            (all-at (λ (p : SendPassView). p.by ≡ h.cell.who.this.0) h.sends place pass s.is_own.by was) s.is_own.by;
        receivers = receivers;
        receiver = s.is_own.receiver;
        nobody = s.is_own.nobody;
      };
      lawful = s.lawful;
      taken = s.taken;
      open_keeps = s.open_keeps;
      fit = record {
        present =
            All-weaker (λ (t : AddressedBody). (0 < t.0.0) × (t.0.0 ≤ length h.sends))
            (λ (t : AddressedBody). (0 < t.0.0) × (t.0.0 ≤ length (slice_set h.sends place (with_pushed e pass))))
            (λ t there. (there.0, omega (arith, there.1, length-set h.sends place (with_pushed e pass)))) (tells left)
            (All-tail (λ (t : AddressedBody). (0 < t.0.0) × (t.0.0 ≤ length h.sends)) (to, body) (tells left) s.fit.present);
        room = omega (arith, s.fit.room);
      };
      posted = record {
        postings = ps ++ posting e None ∷ [];
        told =
            told-one (told h.cell.who h.cell.journal) ps e None h.cell.who.this.0 (to, body) (tells left)
            (ap (λ n. record { by = record { 0 = h.cell.who.this.0 }; to = to; number = n; body = body }) s.posted.sent) s.posted.told;
        sent = count-one (length ps) h.sent s.posted.sent ∙ ap (λ n. n % 2 ^ 64) (sym (length-append ps (posting e None ∷ [])));
        pushed = pushed;
        dead = s.posted.dead ∙ sym (dead-same ps e);
      };
      counted = record { rest = s.counted.rest; aside = s.counted.aside; none = s.counted.none };
      reasons = s.reasons;
    }
  where
    by_place : (k : ℕ) (p : SendPassView) → slice_get (slice_set h.sends place (with_pushed (next_envelope h to body) pass)) k ≡ Some p →
        ((k ≡ place) × (p ≡ with_pushed (next_envelope h to body) pass)) ⊎ ((k ≢ place) × (slice_get h.sends k ≡ Some p))
    by_place k p there = get-set h.sends place k pass (with_pushed (next_envelope h to body) pass) p was there

    receivers : (k : ℕ) (p : SendPassView) → slice_get (slice_set h.sends place (with_pushed (next_envelope h to body) pass)) k ≡ Some p → p.queue.to
        ≡ k + 1
    receivers k p there =
        elim (by_place k p there) [
          | inl here ↦ ap (λ (q : SendPassView). q.queue.to) here.1 ∙ s.is_own.receivers place pass was ∙ ap (λ n. n + 1) (sym here.0)
          | inr other ↦ s.is_own.receivers k p other.1
        ]

    pushed : (k : ℕ) (p : SendPassView) → slice_get (slice_set h.sends place (with_pushed (next_envelope h to body) pass)) k ≡ Some p →
        p.pushed ≡ to_actor (k + 1) (queued (s.posted.postings ++ posting (next_envelope h to body) None ∷ []))
    pushed k p there =
        elim (by_place k p there) [
          | inl here ↦
              ap (λ (q : SendPassView). q.pushed) here.1
              ∙ ap (λ l. l ++ next_envelope h to body ∷ []) (s.posted.pushed place pass was)
              ∙ sym (to-more (place + 1) (queued s.posted.postings) (next_envelope h to body) (is-one to.0 (place + 1) place_is))
              ∙ ap (to_actor (place + 1)) (sym (queued-more s.posted.postings (next_envelope h to body)))
              ∙ ap (λ n. to_actor (n + 1) (queued (s.posted.postings ++ posting (next_envelope h to body) None ∷ []))) (sym here.0)
          | inr other ↦
              s.posted.pushed k p other.1
              ∙ sym (to-same (k + 1) (queued s.posted.postings) (next_envelope h to body) (is-other to.0 (k + 1) (λ e. other.0 (omega
              (arith, e, place_is)))))
              ∙ ap (to_actor (k + 1)) (sym (queued-more s.posted.postings (next_envelope h to body)))
        ]

get-drop : {X : Type 0} (xs : List X) (i : ℕ) → slice_get (drop 1 xs) i ≡ slice_get xs (suc i)
get-drop [] i = refl
get-drop (x ∷ xs) i = refl

-- a queue that has a bound is a bounded actor's
pub bounded-to : (h : Contents) (to place most : ℕ) (pass : SendPassView) → IsOwn h → to ≡ place + 1 → slice_get h.sends place ≡ Some pass →
    pass.queue.main.capacity ≡ Some most → IsBounded h.directory to
bounded-to h to place most pass own place_is was capacity = record {
  queue = pass.queue;
  present =
      ap (slice_get (queues_of h.directory)) (place_is ∙ omega arith)
      ∙ sym (get-drop (queues_of h.directory) place)
      ∙ ap (λ l. slice_get l place) (sym own.queues)
      ∙ slice_get-map (λ (p : SendPassView). p.queue) h.sends place
      ∙ ap (option_map (λ (p : SendPassView). p.queue)) was;
  bounded = subst (λ (o : Option ℕ). IsSome o) (sym capacity) refl;
}

-- ---- what was taken

-- a take that gave nothing, or gave what is told elsewhere
pub settled-take : (h : Contents) (gives : Moment → Reply → Type 0) (pending : List Act) (take : TakePassView) → AgreesWithJournal gives pending h →
    SameQueue take h.take → take.taken ≡ h.take.taken → AgreesWithJournal gives pending (record h { take = take })
settled-take h gives pending take s same taken = record {
  is_own = record {
    enrolled = enrolled-same h take same s.is_own;
    all_there = s.is_own.all_there;
    within_limit = s.is_own.within_limit;
    not_zero = s.is_own.not_zero;
    queues = s.is_own.queues;
    by = s.is_own.by;
    receivers = s.is_own.receivers;
    receiver = ap (λ (q : Queue). q.to) same.0 ∙ s.is_own.receiver;
    nobody = λ guardian. ap (λ (q : Queue). q.senders) same.0 ∙ s.is_own.nobody guardian;
  };
  lawful = s.lawful;
  taken = taken ∙ s.taken;
  open_keeps = s.open_keeps;
  fit = record { present = s.fit.present; room = s.fit.room };
  posted = record { postings = s.posted.postings; told = s.posted.told; sent = s.posted.sent; pushed = s.posted.pushed; dead = s.posted.dead };
  counted = record { rest = s.counted.rest; aside = s.counted.aside; none = s.counted.none };
  reasons = s.reasons;
}

-- a take of an actor that ended, whose envelope is cleaned up
pub settled-clean : (h : Contents) (gives : Moment → Reply → Type 0) (pending : List Act) (take : TakePassView) (e : Envelope) →
    AgreesWithJournal gives pending h →
    closed h.cell.who h.cell.journal ≡ true → SameQueue take h.take → take.taken ≡ h.take.taken ++ e ∷ [] →
    AgreesWithJournal gives pending (record h { take = take; cleaned = h.cleaned ++ e ∷ [] })
settled-clean h gives pending take e s ended same taken = record {
  is_own = record {
    enrolled = enrolled-same h take same s.is_own;
    all_there = s.is_own.all_there;
    within_limit = s.is_own.within_limit;
    not_zero = s.is_own.not_zero;
    queues = s.is_own.queues;
    by = s.is_own.by;
    receivers = s.is_own.receivers;
    receiver = ap (λ (q : Queue). q.to) same.0 ∙ s.is_own.receiver;
    nobody = λ guardian. ap (λ (q : Queue). q.senders) same.0 ∙ s.is_own.nobody guardian;
  };
  lawful = s.lawful;
  taken = taken ∙ ap (λ l. l ++ e ∷ []) s.taken ∙ append_assoc (begun h.cell.journal) h.cleaned (e ∷ []);
  open_keeps = λ not_ended. absurd (cc (ended, not_ended));
  fit = record { present = s.fit.present; room = s.fit.room };
  posted = record { postings = s.posted.postings; told = s.posted.told; sent = s.posted.sent; pushed = s.posted.pushed; dead = s.posted.dead };
  counted = record { rest = s.counted.rest; aside = s.counted.aside; none = s.counted.none };
  reasons = s.reasons;
}

-- ---- system messages beside the cell

same-own : (h : Contents) (rest : List (ℕ × SysMsg)) (dropped : ℕ) → IsOwn h → IsOwn (record h { rest = rest; dropped = dropped })
same-own h rest dropped own = record {
  enrolled = own.enrolled;
  all_there = own.all_there;
  within_limit = own.within_limit;
  not_zero = own.not_zero;
  queues = own.queues;
  by = own.by;
  receivers = own.receivers;
  receiver = own.receiver;
  nobody = own.nobody;
}

rest-changed : (h : Contents) (gives : Moment → Reply → Type 0) (pending : List Act) (rest : List (ℕ × SysMsg)) (dropped : ℕ) →
    AgreesWithJournal gives pending h →
    CountsSystemMessages (record h { rest = rest; dropped = dropped }) → AgreesWithJournal gives pending (record h { rest = rest; dropped = dropped })
rest-changed h gives pending rest dropped s counted = record {
  is_own = same-own h rest dropped s.is_own;
  lawful = s.lawful;
  taken = s.taken;
  open_keeps = s.open_keeps;
  fit = record { present = s.fit.present; room = s.fit.room };
  posted = record { postings = s.posted.postings; told = s.posted.told; sent = s.posted.sent; pushed = s.posted.pushed; dead = s.posted.dead };
  counted = counted;
  reasons = s.reasons;
}

-- what was drained is kept
pub settled-kept : (h : Contents) (gives : Moment → Reply → Type 0) (pending : List Act) (drained : List (ℕ × SysMsg)) → AgreesWithJournal gives pending h →
    drained ≡ numbered ((next_number h.cell.journal + h.dropped) % 2 ^ 64) (messages_in drained) →
    AgreesWithJournal gives pending (record h { rest = drained })
settled-kept h gives pending drained s goes_on =
    rest-changed h gives pending drained h.dropped s (record { rest = goes_on; aside = s.counted.aside; none = s.counted.none })

one-dropped : (a d : ℕ) → ((a + d) % 2 ^ 64 + 1) % 2 ^ 64 ≡ (a + (d + 1) % 2 ^ 64) % 2 ^ 64
one-dropped a d =
    mod-add-mod (a + d) (2 ^ 64) 1
    ∙ ap (λ n. n % 2 ^ 64) (let sum : a + d + 1 ≡ (d + 1) + a = omega arith in sum)
    ∙ sym (mod-add-mod (d + 1) (2 ^ 64) a)
    ∙ ap (λ n. n % 2 ^ 64) (let sum : (d + 1) % 2 ^ 64 + a ≡ a + (d + 1) % 2 ^ 64 = omega arith in sum)

-- a message was dropped, since the actor ended
pub settled-dropped : (h : Contents) (gives : Moment → Reply → Type 0) (pending : List Act) (number : ℕ) (m : SysMsg) (left : List (ℕ × SysMsg)) →
    AgreesWithJournal gives pending h → closed h.cell.who h.cell.journal ≡ true → h.rest ≡ (number, m) ∷ left →
    AgreesWithJournal gives pending (record h { rest = left; dropped = (h.dropped + 1) % 2 ^ 64 })
settled-dropped h gives pending number m left s ended is =
    let first = rest-first ((next_number h.cell.journal + h.dropped) % 2 ^ 64) h.rest left number m s.counted.rest is in
    rest-changed h gives pending left ((h.dropped + 1) % 2 ^ 64) s (record {
      rest = first.1 ∙ ap (λ n. numbered n (messages_in left)) (one-dropped (next_number h.cell.journal) h.dropped);
      aside = s.counted.aside;
      none = λ not_ended. absurd (cc (ended, not_ended));
    })

-- ---- more room changes nothing else of the home

pub settled-ready : (h : Contents) (gives : Moment → Reply → Type 0) (pending : List Act) (ready : Bool) (room : ℕ) → AgreesWithJournal gives pending h →
    h.room ≤ room → AgreesWithJournal gives pending (record h { cell = record h.cell { is_ready = ready }; room = room })
settled-ready h gives pending ready room s more = record {
  is_own = record {
    enrolled = s.is_own.enrolled;
    all_there = s.is_own.all_there;
    within_limit = s.is_own.within_limit;
    not_zero = s.is_own.not_zero;
    queues = s.is_own.queues;
    by = s.is_own.by;
    receivers = s.is_own.receivers;
    receiver = s.is_own.receiver;
    nobody = s.is_own.nobody;
  };
  lawful = s.lawful;
  taken = s.taken;
  open_keeps = s.open_keeps;
  fit = record { present = s.fit.present; room = omega (arith, s.fit.room, more) };
  posted = record {
    postings = s.posted.postings;
    told = s.posted.told;
    sent = s.posted.sent;
    pushed = s.posted.pushed;
    dead = s.posted.dead;
  };
  counted = record { rest = s.counted.rest; aside = s.counted.aside; none = s.counted.none };
  reasons = s.reasons;
}
