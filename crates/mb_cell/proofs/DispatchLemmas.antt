-- What the tests of the phase say about which rule a message follows.
use Rattle.std.proofs.Common.{◌≡◌, Bool, true, false, refl}
use Rattle.std.specs.Prelude.{not}
use Rattle.mb_actor.specs.declared.phase.Phase.{Phase}
use Rattle.mb_actor.specs.declared.phase.Phase.TheVariants.{Fresh, Live, Broken, Ending, Ended}
use Rattle.mb_journal.specs.Phase.{phase_is}

pub is_fresh : (p : Phase) → phase_is p Fresh ≡ true → p ≡ Fresh
is_fresh Fresh here = refl
is_fresh Live here = cc
is_fresh Broken here = cc
is_fresh Ending here = cc
is_fresh Ended here = cc

pub ends : (p : Phase) → phase_is p Ending ≡ true → p ≡ Ending
ends Fresh here = cc
ends Live here = cc
ends Broken here = cc
ends Ending here = refl
ends Ended here = cc

pub not-true : (b : Bool) → not b ≡ true → b ≡ false
not-true true here = cc
not-true false here = refl
