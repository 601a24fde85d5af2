-- What became of journals while claims had the cells (this project's own profile: Akka's mailboxes keep no such account). Journals are told by
-- measures: for each measure of a journal, its sums over what was taken and over what came back.
use Rattle.std.specs.Prelude.{◌≡◌, ℕ, ◌+◌, ◌==◌, if◌then◌else◌, List, []}
use Rattle.mb_ghost.specs.Summed.{total}
use Rattle.mb_journal.specs.Entry.{Entry}
use Rattle.mb_gate.specs.View.{View, Release}

-- The measure of the journal with which the actor's cell was taken for this release; 0 for a release of another actor.
abbrev pub taken_in_release : ℕ → (List Entry → ℕ) → Release → ℕ
taken_in_release actor measure r = if r.actor == actor then measure r.taken else 0

-- The measure of the journal with which the actor's cell came back by this release; 0 for a release of another actor.
abbrev pub back_in_release : ℕ → (List Entry → ℕ) → Release → ℕ
back_in_release actor measure r = if r.actor == actor then measure r.back else 0

-- The measure of all journals with which the actor's cell was taken, before the seat gave it back.
abbrev pub taken_by : ℕ → (List Entry → ℕ) → View → ℕ
taken_by actor measure v = total (taken_in_release actor measure) v.releases

-- The measure of all journals with which the seat gave the actor's cell back.
abbrev pub back_by : ℕ → (List Entry → ℕ) → View → ℕ
back_by actor measure v = total (back_in_release actor measure) v.releases

-- The actor's journal is what came of an empty one in these seats' releases, each of which began where another ended: what they gave back, with the
-- empty journal, is what they took, with this one.
abbrev pub ReleasesAddUp : ℕ → List Entry → List View → Type 0
ReleasesAddUp actor journal vs =
    (measure : List Entry → ℕ) → total (back_by actor measure) vs + measure [] ≡ total (taken_by actor measure) vs + measure journal
