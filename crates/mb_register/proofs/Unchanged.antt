-- Cells that were given back came back as they were taken.
use Rattle.std.proofs.Common.{◌≡◌, [], ◌++◌, sym, ap, ◌∙◌, append_assoc}
use Rattle.mb_ghost.proofs.SeenLemmas.{each_append}
use Rattle.mb_gate.specs.View.{View}
use Rattle.mb_register.specs.Views.{GivesBackUnchanged, IsUnchanged}

-- none was given back
pub unchanged-none : (u v : View) → v.releases ≡ u.releases → GivesBackUnchanged u v
unchanged-none u v same = record { more = []; unchanged = tt; releases = same }

-- some were, and then others
pub unchanged-then : (u v w : View) → GivesBackUnchanged u v → GivesBackUnchanged v w → GivesBackUnchanged u w
unchanged-then u v w a b = record {
  more = b.more ++ a.more;
  unchanged = each_append IsUnchanged b.more a.more b.unchanged a.unchanged;
  releases = b.releases ∙ ap (λ l. b.more ++ l) a.releases ∙ sym (append_assoc b.more a.more u.releases);
}
