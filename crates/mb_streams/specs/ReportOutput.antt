-- What becomes of a report that is to be written (this project's own profile).
use Rattle.std.specs.Prelude.{◌≡◌, ℕ, false, IsTrue, List, Option}
use Rattle.std.specs.Io.KnownBytes.{Appends}
use Rattle.mb_streams.specs.ErrorLine.{IsRefusal}
use Rattle.mb_streams.specs.Tracking.{Watching}
use Rattle.mb_streams.specs.Written.{AppendsBeginning}
use Rattle.mb_streams.specs.declared.program_error.ProgramError.TheVariants.{Os}

-- the whole report was written, with the status 0, and the stream for errors was not called; or writing it failed, with a
-- prefix of it written, and that was printed
pub data IsHandedOut {W E : Type 0} (contents : W → Option (List ℕ)) (said : E → Option (List ℕ)) (report : List ℕ) (status : ℕ)
    (old new : Watching W) (errors_old errors_new : Watching E) : Type 0 where
  whole : status ≡ 0 → new.failed ≡ false → Appends (contents old.stream) (contents new.stream) report → errors_new ≡ errors_old →
      IsHandedOut contents said report status old new errors_old errors_new
  a_beginning : IsTrue new.failed → AppendsBeginning (contents old.stream) (contents new.stream) report →
      IsRefusal Os status (said errors_old.stream) (said errors_new.stream) errors_new.failed →
      IsHandedOut contents said report status old new errors_old errors_new
