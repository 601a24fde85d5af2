-- Who may send to whom in a new system, and the passes of its senders outside, by the homes of its plan.
use Rattle.std.proofs.Common.{◌≡◌, ◌≤◌, ◌<◌, ℕ, zero, suc, ◌+◌, List, [], ◌∷◌, length, map, drop, refl, sym, ap, ◌∙◌, subst, arith}
use Rattle.std.specs.Prelude.{All, slice_get, Some}
use Rattle.std.specs.Global.{Box}
use Rattle.std.proofs.lemmas.List.Elements.{All-append, All-cons, All-head, All-nil, All-tail}
use Rattle.std.proofs.lemmas.Option.{none-some}
use Rattle.mb_journal.specs.Identity.{Identity}
use Rattle.mb_msg.specs.declared.mailbox_type.MailboxType.{MailboxType}
use Rattle.mb_queue.specs.Passes.{SendPassView, TakePassView}
use Rattle.mb_home.specs.Contents.{Contents}
use Rattle.mb_home.specs.Directory.{DirectoryEntry, queues_of}
use Rattle.mb_send.specs.Sends.{receiving_queues}
use Rattle.mb_build.specs.Handed.{passes_of}
use Rattle.mb_build.specs.NewHomes.{AreAtFirst, directory_of}
use Rattle.mb_build.specs.Made.{AreEmpty, AreMade}
use Rattle.mb_build.specs.Numbers.{numbers, sender_numbers}
use Rattle.mb_build.proofs.DirectoryLemmas.{length-enrolled, queues-enrolled}
use Rattle.mb_startup.specs.Begun.{AreUnused}
use Rattle.mb_system.specs.KnownSenders.{AreKnown, IsKnown}

-- the actors' numbers, and those of the senders outside
inside : (actors outside first count : ℕ) → first + count ≤ actors → actors ≤ 64 → All (IsKnown actors outside) (numbers first count)
inside actors outside first zero le few = All-nil (IsKnown actors outside)
inside actors outside first (suc count) le few =
    let lt : first < actors = omega (arith, le) in let low : first < 64 + outside = omega (arith, le, few) in
    All-cons (IsKnown actors outside) first (numbers (first + 1) count) ((λ _. lt), low)
    (inside actors outside (first + 1) count (omega (arith, le)) few)

beyond : (actors outside first count : ℕ) → 64 ≤ first → first + count ≤ 64 + outside → All (IsKnown actors outside) (numbers first count)
beyond actors outside first zero least le = All-nil (IsKnown actors outside)
beyond actors outside first (suc count) least le =
    let low : first < 64 + outside = omega (arith, le) in
    All-cons (IsKnown actors outside) first (numbers (first + 1) count) ((λ lt. absurd (omega (arith, lt, least))), low)
    (beyond actors outside (first + 1) count (omega (arith, least)) (omega (arith, le)))

all-known : (actors outside : ℕ) → actors ≤ 64 → All (IsKnown actors outside) (sender_numbers actors outside)
all-known actors outside few =
    All-append (IsKnown actors outside) (numbers 0 actors) (numbers 64 outside) (inside actors outside 0 actors (omega arith) few)
    (beyond actors outside 64 outside (omega arith) (omega arith))

-- the queues that are made are for these senders
all-for : (kinds : List MailboxType) (to : ℕ) (senders : List ℕ) (takes : List TakePassView) → AreEmpty kinds to senders takes
    → All (λ (t : TakePassView). t.queue.senders ≡ senders) takes
all-for [] to senders [] are = All-nil (λ (t : TakePassView). t.queue.senders ≡ senders)
all-for [] to senders (t ∷ takes) are = absurd are
all-for (k ∷ kinds) to senders [] are = absurd are
all-for (k ∷ kinds) to senders (t ∷ takes) are =
    All-cons (λ (x : TakePassView). x.queue.senders ≡ senders) t takes are.0.0.senders_are (all-for kinds (to + 1) senders takes are.1)

-- what holds of each sender holds of the senders of each queue in the directory
known-queues : (actors outside : ℕ) (senders : List ℕ) (whos : List Identity) (takes : List TakePassView) → All (IsKnown actors outside) senders
    → All (λ (t : TakePassView). t.queue.senders ≡ senders) takes
    → All (λ (e : DirectoryEntry). All (IsKnown actors outside) e.queue.senders) (directory_of whos takes)
known-queues actors outside senders [] takes known all = All-nil (λ (e : DirectoryEntry). All (IsKnown actors outside) e.queue.senders)
known-queues actors outside senders (who ∷ whos) [] known all = All-nil (λ (e : DirectoryEntry). All (IsKnown actors outside) e.queue.senders)
known-queues actors outside senders (who ∷ whos) (t ∷ takes) known all =
    All-cons (λ (e : DirectoryEntry). All (IsKnown actors outside) e.queue.senders) _ (directory_of whos takes)
    (subst (All (IsKnown actors outside)) (sym (All-head (λ (x : TakePassView). x.queue.senders ≡ senders) t takes all)) known)
    (known-queues actors outside senders whos takes known (All-tail (λ (x : TakePassView). x.queue.senders ≡ senders) t takes all))

-- who may send to the actors of a system that begins
pub known-first : (kinds : List MailboxType) (outside : ℕ) (guardian : TakePassView) (takes : List TakePassView) (rows : List (List SendPassView)) (who : Identity)
    (whos : List Identity) → AreMade kinds (sender_numbers (length (who ∷ whos)) outside) guardian takes rows → length takes ≡ length whos
    → length (who ∷ whos) ≤ 64 → AreKnown (directory_of (who ∷ whos) (guardian ∷ takes)) outside
known-first kinds outside guardian takes rows who whos made many few =
    let actors = length (who ∷ whos) in
    let both : length (guardian ∷ takes) ≡ length (who ∷ whos) = ap suc many in
    subst (λ n. All (λ (e : DirectoryEntry). All (IsKnown n outside) e.queue.senders) (directory_of (who ∷ whos) (guardian ∷ takes)))
    (sym (length-enrolled (who ∷ whos) (guardian ∷ takes) both))
    (All-cons (λ (e : DirectoryEntry). All (IsKnown actors outside) e.queue.senders) _ (directory_of whos takes)
    (subst (All (IsKnown actors outside)) (sym made.nobody.senders_are) (All-nil (IsKnown actors outside)))
    (known-queues actors outside (sender_numbers actors outside) whos takes (all-known actors outside few)
    (all-for kinds 1 (sender_numbers actors outside) takes made.empty)))

queues-of-passes : (takes : List TakePassView) (sender : ℕ) → receiving_queues (passes_of takes sender) ≡ map (λ (t : TakePassView). t.queue) takes
queues-of-passes [] sender = refl
queues-of-passes (t ∷ takes) sender = ap (λ l. t.queue ∷ l) (queues-of-passes takes sender)

length-passes : (takes : List TakePassView) (sender : ℕ) → length (passes_of takes sender) ≡ length takes
length-passes [] sender = refl
length-passes (t ∷ takes) sender = ap suc (length-passes takes sender)

routes : (kinds : List MailboxType) (to : ℕ) (senders : List ℕ) (takes : List TakePassView) (sender place : ℕ) (s : SendPassView) → AreEmpty kinds to senders takes
    → slice_get (passes_of takes sender) place ≡ Some s → (s.by ≡ sender) × (s.queue.to ≡ to + place) × (s.pushed ≡ [])
routes kinds to senders [] sender place s are there = absurd (none-some s there)
routes [] to senders (t ∷ takes) sender place s are there = absurd are
routes (k ∷ kinds) to senders (t ∷ takes) sender zero s are there =
    let is : record { queue = t.queue; by = sender; pushed = [] } ≡ s = cc in let sum : to ≡ to + 0 = omega arith in (
      ap (λ (x : SendPassView). x.by) (sym is),
      ap (λ (x : SendPassView). x.queue.to) (sym is) ∙ are.0.0.actor ∙ sum,
      ap (λ (x : SendPassView). x.pushed) (sym is),
    )
routes (k ∷ kinds) to senders (t ∷ takes) sender (suc place) s are there =
    let sum : (to + 1) + place ≡ to + suc place = omega arith in
    let rest = routes kinds (to + 1) senders takes sender place s are.1 there in
    (rest.0, rest.1 ∙ sum, rest.2)

-- the passes of the senders outside are unused
pub unused-outside : (kinds : List MailboxType) (senders : List ℕ) (guardian : TakePassView) (takes : List TakePassView) (rows : List (List SendPassView))
    (whos : List Identity) (first count : ℕ) → AreMade kinds senders guardian takes rows → length (guardian ∷ takes) ≡ length whos
    → AreUnused (drop 1 (queues_of (directory_of whos (guardian ∷ takes)))) (length whos) first (map (passes_of takes) (numbers first count))
unused-outside kinds senders guardian takes rows whos first zero made many = tt
unused-outside kinds senders guardian takes rows whos first (suc count) made many = (
  record {
    same_count = let length_is = length-passes takes first in omega (arith, length_is, many);
    queues_are = queues-of-passes takes first ∙ ap (drop 1) (sym (queues-enrolled whos (guardian ∷ takes) many));
    routes = λ i s there.
        let route = routes kinds 1 senders takes first i s made.empty there in let sum : 1 + i ≡ i + 1 = omega arith in
        record { sender = route.0; receiver = route.1 ∙ sum; pushed = route.2 };
  },
  unused-outside kinds senders guardian takes rows whos (first + 1) count made many,
)

-- the directory of the first home, and how many homes there are
pub first-directory : (directory : List DirectoryEntry) (others : List TakePassView) (number : ℕ) (whos : List Identity) (takes : List TakePassView) (homes : List (Box Contents))
    (first : Box Contents) → AreAtFirst directory others number whos takes homes → slice_get homes 0 ≡ Some first → first.value.directory ≡ directory
first-directory directory others number whos takes [] first are there = absurd (none-some first there)
first-directory directory others number [] [] (h ∷ homes) first are there = absurd are
first-directory directory others number [] (t ∷ takes) (h ∷ homes) first are there = absurd are
first-directory directory others number (who ∷ whos) [] (h ∷ homes) first are there = absurd are
first-directory directory others number (who ∷ whos) (t ∷ takes) (h ∷ homes) first are there =
    let is : h ≡ first = cc in
    ap (λ (x : Box Contents). x.value.directory) (sym is) ∙ ap (λ (c : Contents). c.directory) are.0

pub as-many-homes : (directory : List DirectoryEntry) (others : List TakePassView) (number : ℕ) (whos : List Identity) (takes : List TakePassView)
    (homes : List (Box Contents)) → AreAtFirst directory others number whos takes homes → length homes ≡ length whos
as-many-homes directory others number [] [] [] are = refl
as-many-homes directory others number [] [] (h ∷ homes) are = absurd are
as-many-homes directory others number [] (t ∷ takes) homes are = absurd are
as-many-homes directory others number (who ∷ whos) [] homes are = absurd are
as-many-homes directory others number (who ∷ whos) (t ∷ takes) [] are = absurd are
as-many-homes directory others number (who ∷ whos) (t ∷ takes) (h ∷ homes) are = ap suc (as-many-homes directory others (number + 1) whos takes homes are.1)
