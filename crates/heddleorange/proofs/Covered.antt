-- What entries a journal has, turn after turn.
use Rattle.std.proofs.Common.{◌≡◌, ◌+◌, ◌≤◌, List, [], ◌∷◌, ◌++◌, ap, append_assoc, arith, drop, length, refl, reverse, subst, sym, take, ◌∙◌}
use Rattle.std.proofs.Math.Seq.{drop-append_seam, take-append_seam}
use Rattle.std.proofs.lemmas.List.{append-nil, length-append, length-reverse, nil_from_length, reverse-append}
use Rattle.mb_gate.specs.Rule.{Extends}
use Rattle.mb_ghost.specs.Summed.{total}
use Rattle.mb_journal.specs.Entry.{Entry}
use Rattle.mb_journal.specs.Entry.Entry.{Dropped, Handled, System}
use Rattle.mb_mailbox.specs.Ran.{systems_in}
use Rattle.mb_mailbox.specs.declared.turn.Turn.{Turn}
use Rattle.heddleorange.specs.Turns.{AreOfTurn, AreOfTurns, entry_count}

-- ---- how many entries are of system messages

pub systems-append : (xs ys : List Entry) → systems_in (xs ++ ys) ≡ systems_in xs + systems_in ys
systems-append [] ys = omega arith
systems-append (System number m outcome ∷ xs) ys = let rest = systems-append xs ys in omega (arith, rest)
systems-append (Handled envelope reading outcome ∷ xs) ys = systems-append xs ys
systems-append (Dropped envelope ∷ xs) ys = systems-append xs ys

-- as many from either end
systems-reverse : (xs : List Entry) → systems_in (reverse xs) ≡ systems_in xs
systems-reverse [] = refl
systems-reverse (x ∷ xs) =
    let split = ap systems_in (reverse-append (x ∷ []) xs) ∙ systems-append (reverse xs) (x ∷ []) in
    let both : systems_in (x ∷ xs) ≡ systems_in (x ∷ []) + systems_in xs = systems-append (x ∷ []) xs in
    let rest = systems-reverse xs in omega (arith, split, both, rest)

-- ---- the turns of one actor

-- Each of these turns added its entries to a journal, from one that goes on from the first to one from which the last goes on.
abbrev pub WereAdded : List Entry → List Turn → List Entry → Type 0
WereAdded from [] to = Extends to from
WereAdded from (turn ∷ turns) to = (before : List Entry) × (entries : List Entry) × Extends before from × AreOfTurn turn entries
    × WereAdded (entries ++ before) turns to

-- the last has at least the entries of the turns beside those of the first
at-least : (from : List Entry) (turns : List Turn) (to : List Entry) → WereAdded from turns to → length from + total entry_count turns ≤ length to
at-least from [] to added = let long = ap length added.joined ∙ length-append added.newer from in omega (arith, long)
at-least from (turn ∷ turns) to added =
    let rest = at-least (added.1 ++ added.0) turns to added.4 in let more = length-append added.1 added.0 in
    let gap = ap length added.2.joined ∙ length-append added.2.newer from in let own = added.3.0 in omega (arith, rest, more, gap, own)

-- one turn more
of-turns : (turn : Turn) (turns : List Turn) (entries newer : List Entry) → AreOfTurn turn entries → AreOfTurns turns (reverse newer)
    → AreOfTurns (turn ∷ turns) (reverse (newer ++ entries))
of-turns turn turns entries newer own others =
    let turned : reverse (newer ++ entries) ≡ reverse entries ++ reverse newer = reverse-append newer entries in
    let long : length (reverse entries) ≡ entry_count turn = length-reverse entries ∙ own.0 in
    let first : take (entry_count turn) (reverse (newer ++ entries)) ≡ reverse entries =
    (λ i. take (sym long i) (turned i)) ∙ take-append_seam (reverse entries) (reverse newer) in
    let last : drop (entry_count turn) (reverse (newer ++ entries)) ≡ reverse newer =
    (λ i. drop (sym long i) (turned i)) ∙ drop-append_seam (reverse entries) (reverse newer) in (
      subst (AreOfTurn turn) (sym first) (long, systems-reverse entries ∙ own.1),
      subst (AreOfTurns turns) (sym last) others,
    )

-- if it has no more than these, it has the entries of the turns and no others
of-added : (from : List Entry) (turns : List Turn) (to : List Entry) → WereAdded from turns to → length from + total entry_count turns ≡ length to
    → (newer : List Entry) × (to ≡ newer ++ from) × AreOfTurns turns (reverse newer)
of-added from [] to added all =
    let long = ap length added.joined ∙ length-append added.newer from in
    let none : added.newer ≡ [] = nil_from_length added.newer (omega (arith, long, all)) in (added.newer, added.joined, ap reverse none)
of-added from (turn ∷ turns) to added all =
    let before = added.0 in let entries = added.1 in let extends = added.2 in
    let rest = at-least (entries ++ before) turns to added.4 in let more = length-append entries before in
    let gap = ap length extends.joined ∙ length-append extends.newer from in let own = added.3.0 in
    let none : extends.newer ≡ [] = nil_from_length extends.newer (omega (arith, rest, more, gap, own, all)) in
    let same : before ≡ from = extends.joined ∙ ap (λ l. l ++ from) none in
    let short = ap length none in
    let after = of-added (entries ++ before) turns to added.4 (omega (arith, more, gap, own, all, short)) in (
      after.0 ++ entries,
      after.1 ∙ ap (λ l. after.0 ++ (entries ++ l)) same ∙ sym (append_assoc after.0 entries from),
      of-turns turn turns entries after.0 added.3 after.2,
    )

pub of-all-added : (turns : List Turn) (to : List Entry) → WereAdded [] turns to → total entry_count turns ≡ length to → AreOfTurns turns (reverse to)
of-all-added turns to added all =
    let are = of-added [] turns to added (omega (arith, all)) in
    subst (λ l. AreOfTurns turns (reverse l)) (sym (are.1 ∙ append-nil are.0)) are.2
