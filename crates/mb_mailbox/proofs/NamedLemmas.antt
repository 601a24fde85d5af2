-- A home that names only actors of the gates still does where neither its cell nor what was drained changes.
use Rattle.std.proofs.Common.{◌≡◌, ℕ, ◌<◌, List, ◌∷◌, Option, sym, subst}
use Rattle.std.specs.Prelude.{IfSome}
use Rattle.std.proofs.lemmas.List.Elements.{All-head, All-tail}
use Rattle.mb_msg.specs.declared.id.ActorId.{ActorId}
use Rattle.mb_msg.specs.declared.system.SysMsg.{SysMsg}
use Rattle.mb_msg.specs.declared.system.SysMsg.TheVariants as system
use Rattle.mb_journal.specs.Entry.{Entry}
use Rattle.mb_journal.specs.Identity.{Identity}
use Rattle.mb_ghost.specs.Seen.{Each}
use Rattle.mb_gate.specs.NamedActors.{NamesBelow, EachNamesBelow}
use Rattle.mb_home.specs.Contents.{Contents}
use Rattle.mb_home.specs.NamedActors.{JournalNamesBelow, NamesActors}
use Rattle.mb_mailbox.specs.Notice.{asker}

pub named-as : (old new : Contents) → new.cell.who ≡ old.cell.who → new.cell.journal ≡ old.cell.journal →
    EachNamesBelow old.cell.who.actors new.rest → NamesActors old → NamesActors new
named-as old new who journal rest n = record {
  parent = subst (λ (w : Identity). IfSome w.parent (λ p. p.0 < w.actors)) (sym who) n.parent;
  prepared = subst (λ (w : Identity). Each (λ (x : ActorId). x.0 < w.actors) w.prepared) (sym who) n.prepared;
  journal = subst (λ (x : Identity × List Entry). JournalNamesBelow x.0.actors x.1) (λ i. (sym who i, sym journal i)) n.journal;
  rest = subst (λ (w : Identity). EachNamesBelow w.actors new.rest) (sym who) rest;
}

-- the first of those that were drained, and the others
pub named-first : (actors number : ℕ) (m : SysMsg) (rest : List (ℕ × SysMsg)) → EachNamesBelow actors ((number, m) ∷ rest) → NamesBelow actors m
named-first actors number m rest all = All-head (λ (x : ℕ × SysMsg). NamesBelow actors x.1) (number, m) rest all

pub named-others : (actors number : ℕ) (m : SysMsg) (rest : List (ℕ × SysMsg)) → EachNamesBelow actors ((number, m) ∷ rest) →
    EachNamesBelow actors rest
named-others actors number m rest all = All-tail (λ (x : ℕ × SysMsg). NamesBelow actors x.1) (number, m) rest all

-- who waits for an answer is one of them
pub asker-there : (actors : ℕ) (parent : Option ActorId) (m : SysMsg) → IfSome parent (λ p. p.0 < actors) → NamesBelow actors m →
    IfSome (asker parent m) (λ whom. whom.0 < actors)
asker-there actors parent system.Create there names = there
asker-there actors parent (system.Watch w) there names = names
asker-there actors parent (system.Recreate c) there names = tt
asker-there actors parent system.Suspend there names = tt
asker-there actors parent (system.Resume f) there names = tt
asker-there actors parent system.Terminate there names = tt
asker-there actors parent (system.Unwatch w) there names = tt
asker-there actors parent (system.Failed x c) there names = tt
asker-there actors parent (system.Died x) there names = tt
