-- What a handle knows before and after it only looked at actors.
use Rattle.std.specs.Prelude.{true}
use Rattle.mb_gate.specs.View.{View}
use Rattle.mb_register.specs.Due.{GotOnlyDue}
use Rattle.mb_register.specs.Views.{LooksAmong}
use Rattle.mb_register.specs.declared.hint.Hint.TheVariants as hint

-- It looked at actors, as often as it liked, and may have put their claims into the pool: it took no envelope, sent nothing, and ran nobody.
abbrev pub OnlyLooks : View → View → Type 0
OnlyLooks old new = LooksAmong (λ id. true) old new

-- It only looked at actors, and took the claim only of an actor that it saw to be due.
pub record LooksForWork (old new : View) : Type 0 where
  pub looks : OnlyLooks old new
  pub due : GotOnlyDue hint.None old new
