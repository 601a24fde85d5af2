-- The homes of a new system's actors, and the passes of its senders outside (this project's own profile).
use Rattle.std.specs.Prelude.{◌≡◌, ℕ, ◌+◌, List, [], ◌∷◌, length, map, slice_get, Some}
use Rattle.std.specs.Global.{Box}
use Rattle.mb_msg.specs.Limits.{most_actors}
use Rattle.mb_actor.specs.Behaviour.{Moment, Reply}
use Rattle.mb_journal.specs.Identity.{Identity}
use Rattle.mb_msg.specs.declared.mailbox_type.MailboxType.{MailboxType}
use Rattle.mb_queue.specs.Passes.{SendPassView, TakePassView}
use Rattle.mb_gate.specs.Starts.{IsFresh}
use Rattle.mb_home.specs.AtHome.{IsHomeOf, facts_of}
use Rattle.mb_home.specs.Contents.{Contents}
use Rattle.mb_home.specs.Directory.{DirectoryEntry}
use Rattle.mb_home.specs.Steps.{at_first}
use Rattle.mb_build.specs.Handed.{passes_of}
use Rattle.mb_build.specs.Made.{AreMade}
use Rattle.mb_build.specs.Numbers.{numbers, sender_numbers}
use Rattle.mb_build.specs.Unstarted.{unstarted}

-- The directory of these actors, in order: who each is, its queue, and the discipline of that.
abbrev pub directory_of : List Identity → List TakePassView → List DirectoryEntry
directory_of (who ∷ all) (t ∷ takes) = record { who = who; queue = t.queue; discipline = t.discipline } ∷ directory_of all takes
directory_of _ _ = []

-- the homes of these actors, which are numbered on from this one, as they begin: each has its cell, takes from its queue, and pushes into
-- those that the others take from
module _ (directory : List DirectoryEntry) (others : List TakePassView) where
  -- The homes of these actors as they begin; they are numbered on from this one. Each has its cell, takes from its queue, and pushes into the queues
  -- of the others.
  abbrev pub AreAtFirst : ℕ → List Identity → List TakePassView → List (Box Contents) → Type 0
  AreAtFirst number [] [] [] = Unit {0}
  AreAtFirst number (who ∷ all) (t ∷ takes) (h ∷ homes) =
      (h.value ≡ at_first (unstarted who) t (passes_of others number) h.value.room directory) × AreAtFirst (number + 1) all takes homes
  AreAtFirst number _ _ _ = ⊥

-- the gates may begin with these homes
abbrev pub AreFresh : (ℕ → Moment → Reply → Type 0) → List (Box Contents) → Type 0
AreFresh gives homes = (first : Box Contents) → slice_get homes 0 ≡ Some first → (actor : ℕ) (home : Box Contents)
    → slice_get homes actor ≡ Some home → IsFresh
    (λ (id : ℕ) (h : Box Contents). IsHomeOf (gives id) first.value id h.value)
    (λ (h : Box Contents). facts_of h.value) actor home

-- These are the homes of these actors, the guardian first, with empty queues of these kinds. Each of so many senders outside has unused passes into
-- the queues of all but the guardian.
pub record AreNewHomes (gives : ℕ → Moment → Reply → Type 0) (who : List Identity) (kinds : List MailboxType) (senders : ℕ) (homes : List (Box
    Contents)) (outside : List (List SendPassView)) : Type 0 where
  pub guardian : TakePassView
  pub takes : List TakePassView
  pub rows : List (List SendPassView)
  pub made : AreMade kinds (sender_numbers (length who) senders) guardian takes rows
  pub first : AreAtFirst (directory_of who (guardian ∷ takes)) takes 0 who (guardian ∷ takes) homes
  pub fresh : AreFresh gives homes
  pub passes : outside ≡ map (passes_of takes) (numbers most_actors senders)
