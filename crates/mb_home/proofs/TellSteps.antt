-- A home that agrees with its journal still does after a tell and after an envelope, in the forms of the calls.
use Rattle.std.proofs.Common.{◌≡◌, ℕ, zero, suc, ◌+◌, ◌-◌, ◌%◌, ◌^◌, ◌<◌, ◌≤◌, false, List, [], ◌∷◌, ◌++◌, length, refl, sym, ap, ◌∙◌, subst, arith}
use Rattle.std.specs.Prelude.{Contains, IsTrue, slice_get, slice_set, Some}
use Rattle.std.proofs.lemmas.List.Elements.{All-head}
use Rattle.std.proofs.lemmas.Option.{slice_get_read, slice_get_within, get_or_from_slice_get}
use lib.ListN.{get_or}
use Rattle.mb_msg.specs.declared.dead_letter.DeadLetterReason.{DeadLetterReason}
use Rattle.mb_msg.specs.declared.envelope.Body.{Body}
use Rattle.mb_msg.specs.declared.envelope.Envelope.{Envelope}
use Rattle.mb_msg.specs.declared.id.ActorId.{ActorId}
use Rattle.mb_actor.specs.Behaviour.{Moment, Reply}
use Rattle.mb_journal.specs.Acts.{Act}
use Rattle.mb_journal.specs.Acts.Act.{Tell}
use Rattle.mb_journal.specs.Identity.{Identity}
use Rattle.mb_journal.specs.Lawful.{IsLawful}
use Rattle.mb_journal.specs.Reading.{IsOpen}
use Rattle.mb_queue.specs.declared.refused.PushError.{PushError}
use Rattle.mb_queue.specs.declared.refused.PushError.TheVariants.{Full, NoMemory}
use Rattle.mb_cell.specs.MayHandle.{MayHandle}
use Rattle.mb_cell.specs.CellView.{CellView, TakesEnvelope}
use Rattle.mb_queue.specs.Passes.{SendPassView, TakePassView}
use Rattle.mb_queue.specs.Pushes.{IsRefusal}
use Rattle.mb_journal.specs.Tells.{AddressedBody, tells}
use Rattle.mb_home.specs.Contents.{Contents}
use Rattle.mb_home.specs.AgreesWithJournal.{IsReason, AgreesWithJournal}
use Rattle.mb_home.specs.Steps.{most_tells, next_envelope, reason_of, with_pushed, Fits, Delivers, Pushes, RefusesPush}
use Rattle.mb_home.proofs.AgreesLemmas.{SameQueue, settled-dead, settled-pushed, bounded-to}
use Rattle.mb_home.proofs.StepLemmas.{an-actor, open-phase, settled-begun}

module _ (h : Contents) (gives : Moment → Reply → Type 0) (to : ActorId) (told : Body) (left : List Act) (s : AgreesWithJournal gives
    (Tell to told ∷ left) h) where
  -- the receiver has a queue
  pub told-there : (0 < to.0) × (to.0 ≤ length h.sends)
  told-there = All-head (λ (t : AddressedBody). (0 < t.0.0) × (t.0.0 ≤ length h.sends)) (to, told) (tells left) s.fit.present

  pub has-room : 0 < h.room
  has-room = omega (arith, s.fit.room)

  by-it : (place : ℕ) (p : SendPassView) → slice_get h.sends place ≡ Some p → p.by ≡ h.cell.who.this.0
  by-it place p there =
      ap (λ (q : SendPassView). q.by) (sym (get_or_from_slice_get h.sends place p p there)) ∙ s.is_own.by place p (slice_get_within h.sends place p there)

  -- the pass of its place may push the next envelope
  pub fits-next : (p : SendPassView) → slice_get h.sends (to.0 - 1) ≡ Some p → Fits (next_envelope h to told) p
  fits-next p there = (
    sym (by-it (to.0 - 1) p there),
    let place : p.queue.to ≡ to.0 - 1 + 1 = s.is_own.receivers (to.0 - 1) p there in omega (arith, place, told-there.0),
  )

  -- which pass that is, as it is read at its place
  pub pass-next : (at : Contents) (p : SendPassView) → at ≡ h → p ≡ get_or at.sends (to.0 - 1) p → slice_get h.sends (to.0 - 1) ≡ Some p
  pass-next at p same is =
      slice_get_read h.sends (length h.sends) (to.0 - 1) p refl (omega (arith, told-there.0, told-there.1))
      (is ∙ ap (λ (x : Contents). get_or x.sends (to.0 - 1) p) same)

  place-is : to.0 ≡ to.0 - 1 + 1
  place-is = omega (arith, told-there.0)

  -- it was delivered
  pub pushes-next : (new : Contents) → Delivers h new (to.0 - 1) (next_envelope h to told) → Pushes h new to told
  pushes-next new d = record { place = to.0 - 1; place_is = place-is; pass = d.pass; was = d.was; same = d.same }

  pub settled-delivered : (new : Contents) → Delivers h new (to.0 - 1) (next_envelope h to told) → AgreesWithJournal gives left new
  settled-delivered new d =
      subst (λ (x : Contents). AgreesWithJournal gives left x) (sym d.same) (settled-pushed h gives to told left (to.0 - 1) d.pass s place-is d.was)

  reason-by : (p : SendPassView) (refused : PushError) → slice_get h.sends (to.0 - 1) ≡ Some p → IsRefusal p refused →
      IsReason h.directory (reason_of refused) to.0
  reason-by p (Full e) was refusal = bounded-to h to.0 (to.0 - 1) refusal.0 p s.is_own place-is was refusal.1
  reason-by p (NoMemory e) was refusal = tt

  -- why it was refused is a reason that holds
  pub reason-next : (refused : PushError) → RefusesPush h (to.0 - 1) refused → IsReason h.directory (reason_of refused) to.0
  reason-next refused r = reason-by r.pass refused r.was r.refusal

-- ---- an envelope at an open reading

-- the cell may be given it
pub may-handle : (h : Contents) (gives : Moment → Reply → Type 0) (e : Envelope) (reading : ℕ) → AgreesWithJournal gives [] h →
    IsOpen h.cell.who h.cell.journal reading → IsTrue h.cell.is_ready → h.cell.acts ≡ [] → Contains h.take.queue.senders e.by.0 →
    e.to.0 ≡ h.take.queue.to → MayHandle h.cell e reading
may-handle h gives e reading s is_open ready none known addressed = record {
  ready = ready;
  carried_out = none;
  an_actor = an-actor h gives e.by.0 s known;
  addressed = ap (λ n. let id : ActorId = record { 0 = n } in id) (addressed ∙ s.is_own.receiver);
  live = (open-phase h gives reading s is_open).1;
  open_reading = is_open;
}

-- and the home agrees with its journal but for its acts
pub settled-taken : (h : Contents) (gives : ℕ → Moment → Reply → Type 0) (new : CellView) (take : TakePassView) (e : Envelope) (reading : ℕ) →
    AgreesWithJournal (gives h.cell.who.this.0) [] h → IsOpen h.cell.who h.cell.journal reading → most_tells ≤ h.room → TakesEnvelope h.cell new e reading →
    IsLawful new.who (gives new.who.this.0) new.journal → SameQueue take h.take → take.taken ≡ h.take.taken ++ e ∷ [] →
    AgreesWithJournal (gives new.who.this.0) new.acts (record h { cell = new; take = take })
settled-taken h gives new take e reading s is_open room took lawful same taken =
    let who : new.who ≡ h.cell.who = ap (λ (x : CellView). x.who) took.adds in
    let lawful' : IsLawful new.who (gives h.cell.who.this.0) new.journal = subst (λ (w : Identity). IsLawful new.who
    (gives w.this.0) new.journal) who lawful in
    subst (λ (w : Identity). AgreesWithJournal (gives w.this.0) new.acts (record h { cell = new; take = take })) (sym who)
    (settled-begun h (gives h.cell.who.this.0) new take e reading s (open-phase h
    (gives h.cell.who.this.0) reading s is_open).0 room took lawful' same taken)

-- ---- a push into one of the queues

set-same : {X : Type 0} (xs : List X) (i : ℕ) (x : X) → slice_get xs i ≡ Some x → slice_set xs i x ≡ xs
set-same [] i x there = refl
set-same (y ∷ xs) zero x there = let is : y ≡ x = cc there in ap (λ z. z ∷ xs) (sym is)
set-same (y ∷ xs) (suc i) x there = ap (λ l. y ∷ l) (set-same xs i x there)

-- by the pass of its place, which pushed the envelope
pub delivered : (h at : Contents) (place : ℕ) (old new : SendPassView) (e : Envelope) → at ≡ h → slice_get h.sends place ≡ Some old →
    new ≡ with_pushed e old → Delivers h (record at { sends = slice_set at.sends place new; sent = (at.sent + 1) % 2 ^ 64 }) place e
delivered h at place old new e same was pushed = record {
  pass = old;
  was = was;
  same = ap (λ (x : Contents × SendPassView). record x.0 { sends = slice_set x.0.sends place x.1; sent = (x.0.sent + 1) % 2 ^ 64 })
      (λ k. (same k, pushed k));
}

-- by a pass that refused it
pub undelivered : (h at : Contents) (place : ℕ) (old new : SendPassView) → at ≡ h → slice_get h.sends place ≡ Some old → new ≡ old →
    record at { sends = slice_set at.sends place new } ≡ h
undelivered h at place old new same was refused =
    ap (λ (x : Contents × SendPassView). record x.0 { sends = slice_set x.0.sends place x.1 }) (λ k. (same k, refused k))
    ∙ ap (λ l. record h { sends = l }) (set-same h.sends place old was)

pub settled-pushes : (h new : Contents) (gives : ℕ → Moment → Reply → Type 0) (to : ActorId) (told : Body) →
    AgreesWithJournal (gives h.cell.who.this.0) (Tell to told ∷ h.cell.acts) h → Delivers h new (to.0 - 1) (next_envelope h to told) →
    AgreesWithJournal (gives new.cell.who.this.0) new.cell.acts new
settled-pushes h new gives to told s d =
    subst (λ (x : Contents). AgreesWithJournal (gives x.cell.who.this.0) x.cell.acts x) (sym d.same)
    (settled-pushed h (gives h.cell.who.this.0) to told h.cell.acts (to.0 - 1) d.pass s (place-is h
    (gives h.cell.who.this.0) to told h.cell.acts s) d.was)

pub settled-dead_letter : (h mid new : Contents) (gives : ℕ → Moment → Reply → Type 0) (to : ActorId) (told : Body) (refused : PushError) (e : Envelope)
    (why : DeadLetterReason) →
    AgreesWithJournal (gives h.cell.who.this.0) (Tell to told ∷ h.cell.acts) h → mid ≡ h → RefusesPush h (to.0 - 1) refused → e ≡ next_envelope h to told →
    why ≡ reason_of refused →
    new ≡ record mid { cell = record mid.cell { is_ready = false }; dead = mid.dead ++ record { envelope = e; why = why } ∷ []; sent = (mid.sent + 1) % 2 ^ 64; room = new.room } →
    mid.room ≡ new.room + 1 → AgreesWithJournal (gives new.cell.who.this.0) new.cell.acts new
settled-dead_letter h mid new gives to told refused e why s same r e_is why_is is_dead_letter room =
    let at_h : new ≡ record h {
      cell = record h.cell { is_ready = false };
      dead = h.dead ++ record { envelope = next_envelope h to told; why = reason_of refused } ∷ [];
      sent =
          (h.sent + 1) % 2 ^ 64;
      room = new.room;
    } =
    is_dead_letter
    ∙ ap (λ (x : Contents). record x {
      cell = record x.cell { is_ready = false };
      dead = x.dead ++ record { envelope = e; why = why } ∷ [];
      sent =
          (x.sent + 1) % 2 ^ 64;
      room = new.room;
    }) same
    ∙ ap (λ (x : Envelope). record h {
      cell = record h.cell { is_ready = false };
      dead = h.dead ++ record { envelope = x; why = why } ∷ [];
      sent =
          (h.sent + 1) % 2 ^ 64;
      room = new.room;
    }) e_is
    ∙ ap (λ (x : DeadLetterReason). record h {
      cell = record h.cell { is_ready = false };
      dead = h.dead ++ record { envelope = next_envelope h to told; why = x } ∷ [];
      sent =
          (h.sent + 1) % 2 ^ 64;
      room = new.room;
    }) why_is in
    let left : h.room ≡ new.room + 1 = sym (ap (λ (x : Contents). x.room) same) ∙ room in
    subst (λ (x : Contents). AgreesWithJournal (gives x.cell.who.this.0) x.cell.acts x) (sym at_h)
    (settled-dead h (gives h.cell.who.this.0) to told h.cell.acts (reason_of refused) new.room s left
    (reason-next h (gives h.cell.who.this.0) to told h.cell.acts s refused r))
