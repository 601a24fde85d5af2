-- What a caller's pass knows before and after it did something at one actor.
use Rattle.std.specs.Prelude.{◌≡◌, ◌≢◌, ℕ, Bool, true, false, List, [], ◌++◌}
use Rattle.mb_ghost.specs.Seen.{Each}
use Rattle.mb_gate.specs.View.{View, Release, SentSystem, obligation_to}
use Rattle.mb_gate.specs.View.{Observation, Read, Saw, Counted, Looked, Sent, Unsent, Took, Pushed, Drained, Ended}

-- Something was only read, at this actor.
abbrev pub IsLook : ℕ → Observation → Type 0
IsLook id (Read a word) = a ≡ id
IsLook id (Saw a journal) = a ≡ id
IsLook id (Counted a waiting) = a ≡ id
IsLook id (Looked a has_work) = a ≡ id
IsLook id (Sent a n) = ⊥
IsLook id (Unsent a n) = ⊥
IsLook id (Took a n) = ⊥
IsLook id (Pushed a number message) = ⊥
IsLook id (Drained a given) = ⊥
IsLook id (Ended a given) = ⊥

-- The cell came back with the journal with which it was taken.
abbrev pub IsUnchanged : Release → Type 0
IsUnchanged r = r.back ≡ r.taken

-- Each cell that it gave back came back with the journal with which it was taken.
pub record GivesBackUnchanged (old new : View) : Type 0 where
  pub more : List Release
  pub unchanged : Each IsUnchanged more
  pub releases : new.releases ≡ more ++ old.releases

-- It did this at the actor and sent these system messages, the newest first. Then it read there, as often as it liked. What it owes other actors,
-- its share, and the journal of each cell that it gave back did not change.
pub record Does (id : ℕ) (did : List Observation) (told : List SentSystem) (old new : View) : Type 0 where
  pub looks : List Observation
  pub only : Each (IsLook id) looks
  pub log : new.log ≡ looks ++ did ++ old.log
  pub sent_system : new.sent_system ≡ told ++ old.sent_system
  pub others : (other : ℕ) → other ≢ id → obligation_to other new ≡ obligation_to other old
  pub share : new.share ≡ old.share
  pub gives_back : GivesBackUnchanged old new

-- It read, took no envelope, and sent nothing. Whether it scheduled the actor and gave its claim to a pool, the log does not say.
abbrev pub LooksAfter : ℕ → View → View → Type 0
LooksAfter id = Does id [] []

-- It read at actors of a set, as often as it liked, took no envelope, and sent nothing. What it owes actors outside of the set, its share, and
-- the journal of each cell that it gave back did not change.
pub record LooksAmong (among : ℕ → Bool) (old new : View) : Type 0 where
  pub looks : List Observation
  pub only : Each (λ (s : Observation). (id : ℕ) × (among id ≡ true) × IsLook id s) looks
  pub log : new.log ≡ looks ++ old.log
  pub sent_system : new.sent_system ≡ old.sent_system
  pub others : (other : ℕ) → among other ≡ false → obligation_to other new ≡ obligation_to other old
  pub share : new.share ≡ old.share
  pub gives_back : GivesBackUnchanged old new

-- It got claims of exactly these actors, and gave back claims of exactly those, the newest first.
pub record GotAndGaveBack (of_these of_those : List ℕ) (old new : View) : Type 0 where
  pub got : new.got ≡ of_these ++ old.got
  pub returned : new.returned ≡ of_those ++ old.returned
