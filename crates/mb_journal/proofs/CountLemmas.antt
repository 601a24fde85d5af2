-- The count that a mailbox's marks leave: each mark changes it by one, and it never falls below 0.
use Rattle.std.proofs.Common.{◌≡◌, ℕ, ◌+◌, ◌-◌, ◌≤◌, max, List, [], ◌∷◌, ◌++◌, refl, sym, ◌∙◌, arith}
use Rattle.mb_journal.specs.Suspension.{Mark, pluses, minuses, net, greatest_net, count_after}
use Rattle.mb_journal.specs.Suspension.Mark.{Plus, Minus}

pub pluses-plus : (marks : List Mark) → pluses (marks ++ Plus ∷ []) ≡ pluses marks + 1
unfolding pluses
pluses-plus [] = refl
pluses-plus (Plus ∷ marks) = omega (arith, pluses-plus marks)
pluses-plus (Minus ∷ marks) = pluses-plus marks

pub pluses-minus : (marks : List Mark) → pluses (marks ++ Minus ∷ []) ≡ pluses marks
unfolding pluses
pluses-minus [] = refl
pluses-minus (Plus ∷ marks) = omega (arith, pluses-minus marks)
pluses-minus (Minus ∷ marks) = pluses-minus marks

pub minuses-plus : (marks : List Mark) → minuses (marks ++ Plus ∷ []) ≡ minuses marks
unfolding minuses
minuses-plus [] = refl
minuses-plus (Plus ∷ marks) = minuses-plus marks
minuses-plus (Minus ∷ marks) = omega (arith, minuses-plus marks)

pub minuses-minus : (marks : List Mark) → minuses (marks ++ Minus ∷ []) ≡ minuses marks + 1
unfolding minuses
minuses-minus [] = refl
minuses-minus (Plus ∷ marks) = minuses-minus marks
minuses-minus (Minus ∷ marks) = omega (arith, minuses-minus marks)

-- a suspension more raises the most that the marks add from some mark on
pub greatest_net-plus : (marks : List Mark) → greatest_net (marks ++ Plus ∷ []) ≡ greatest_net marks + 1
unfolding greatest_net pluses minuses
greatest_net-plus [] = refl
greatest_net-plus (mark ∷ marks) =
    omega (arith, greatest_net-plus marks, pluses-plus (mark ∷ marks), minuses-plus (mark ∷ marks))

pub greatest_net-minus : (marks : List Mark) → greatest_net (marks ++ Minus ∷ []) ≡ greatest_net marks - 1
unfolding greatest_net pluses minuses
greatest_net-minus [] = refl
greatest_net-minus (mark ∷ marks) =
    omega (arith, greatest_net-minus marks, pluses-minus (mark ∷ marks), minuses-minus (mark ∷ marks))

-- a mark that adds one adds one to the count
pub count_after-plus : (marks : List Mark) → count_after (marks ++ Plus ∷ []) ≡ count_after marks + 1
count_after-plus marks = omega (arith, greatest_net-plus marks, pluses-plus marks, minuses-plus marks)

-- a mark that takes one away takes it away, if it is there
pub count_after-minus : (marks : List Mark) → count_after (marks ++ Minus ∷ []) ≡ count_after marks - 1
count_after-minus marks = omega (arith, greatest_net-minus marks, pluses-minus marks, minuses-minus marks)

-- what the marks add from the first on is no more than the most that they add from some mark on
pub net-le-greatest_net : (marks : List Mark) → net marks ≤ greatest_net marks
unfolding greatest_net pluses minuses
net-le-greatest_net [] = omega arith
net-le-greatest_net (mark ∷ marks) = omega arith

-- the count by adding and subtracting in place
abbrev pub running : ℕ → List Mark → ℕ
running n [] = n
running n (Plus ∷ marks) = running (n + 1) marks
running n (Minus ∷ marks) = running (n - 1) marks

pub running-by_nets : (n : ℕ) (marks : List Mark) → running n marks ≡ max (greatest_net marks) (n + pluses marks - minuses marks)
unfolding greatest_net pluses minuses
running-by_nets n [] = omega arith
running-by_nets n (Plus ∷ marks) = running-by_nets (n + 1) marks ∙ omega arith
running-by_nets n (Minus ∷ marks) = running-by_nets (n - 1) marks ∙ omega (arith, net-le-greatest_net marks)

-- the count that the nets define is that of adding and subtracting in place, from 1 on
pub count_after-running : (marks : List Mark) → count_after marks ≡ running 1 marks
count_after-running marks = sym (running-by_nets 1 marks)
