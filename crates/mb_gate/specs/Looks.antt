-- What a look by two passes together asks of the call that looks, and what it came to (this project's own profile).
use Rattle.std.specs.Prelude.{◌≡◌, Bool}
use Rattle.std.specs.Borrow.{MutBor}
use Rattle.std.specs.Fn.{Called, Mut}
use Rattle.atomic_table.specs.Seated.{TableId}
use Rattle.mb_gate.specs.declared.pass.Pass.{Pass}
use Rattle.mb_gate.specs.View.{View}
use Rattle.mb_gate.specs.Accessors.{pass_id, pass_view}

module _ {F H : Type 0} (calls : Mut F (MutBor (Pass H) × Unit {0}) (Bool × (MutBor (Pass H) × Unit {0}))) where
  -- The call may be made with any pass of these gates that has this view.
  abbrev pub MayLook : F → TableId → View → Type 0
  MayLook look id v = (all : MutBor (Pass H)) → pass_id all.now ≡ id → pass_view all.now ≡ v → calls.pre look (all, tt)

  -- The call leaves the pass with which it is made as it was.
  abbrev pub LeavesPass : F → Type 0
  LeavesPass look = (all left : MutBor (Pass H)) (answer : Bool) (after : F) → Called calls look (all, tt) (answer, (left, tt)) after
      → left.now ≡ all.now

  -- The call was made with a pass of these gates that had this view, and gave this answer.
  pub record HasLooked (look : F) (id : TableId) (v : View) (answer : Bool) (after : F) : Type 0 where
    pub all : MutBor (Pass H)
    pub left : MutBor (Pass H)
    pub same_gates : pass_id all.now ≡ id
    pub known : pass_view all.now ≡ v
    pub called : Called calls look (all, tt) (answer, (left, tt)) after
