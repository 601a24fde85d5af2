-- What the homes of a plan consist of.
use Rattle.std.proofs.Common.{◌≡◌, ◌≤◌, ℕ, ◌+◌, List, [], ◌∷◌, length, map, drop, refl, sym, ap, ◌∙◌, subst, arith}
use Rattle.std.proofs.lemmas.List.{drop-map, length-map}
use Rattle.mb_journal.specs.Identity.{Identity}
use Rattle.mb_cell.specs.CellView.{CellView}
use Rattle.mb_msg.specs.Limits.{most_entries}
use Rattle.mb_msg.specs.declared.journal_mode.JournalMode.{JournalMode}
use Rattle.mb_msg.specs.declared.actor_plan.ActorPlan.{ActorPlan}
use Rattle.mb_msg.specs.declared.mailbox_type.MailboxType.{MailboxType}
use Rattle.mb_queue.specs.Passes.{SendPassView, TakePassView}
use Rattle.mb_build.specs.Handed.{passes_of}
use Rattle.mb_build.specs.Identities.{ArePlanned, identities}
use Rattle.mb_build.specs.Made.{AreMade}
use Rattle.mb_build.specs.Numbers.{numbers, sender_numbers}
use Rattle.mb_build.specs.Reasons.{bad_parents}
use Rattle.mb_build.specs.Unstarted.{unstarted}
use Rattle.mb_build.proofs.CellLemmas.{length-planned}
use Rattle.mb_build.proofs.HomeLemmas.{whose}
use Rattle.mb_build.proofs.NumberLemmas.{after-run}
use Rattle.mb_build.proofs.PlannedLemmas.{all-planned}

-- who the actors of these plans are
abbrev pub who_of : JournalMode → ℕ → List ActorPlan → List Identity
who_of mode limit plans = identities (length plans + 1) mode limit (map (λ a. a.parent) plans) (map (λ a. a.strategy) plans)

pub length-who : (mode : JournalMode) (limit : ℕ) (plans : List ActorPlan) → length (who_of mode limit plans) ≡ length plans + 1
length-who mode limit plans =
    let parents = length-map plans (λ (a : ActorPlan). a.parent) in let strategies = length-map plans (λ (a : ActorPlan). a.strategy) in
    let others = length-planned (length plans + 1) mode limit (map (λ a. a.parent) plans) 1 (map (λ a. a.parent) plans) (map (λ a. a.strategy) plans)
    (strategies ∙ sym parents) in
    omega (arith, others, parents)

whose-unstarted : (whos : List Identity) → whose (map unstarted whos) ≡ whos
whose-unstarted [] = refl
whose-unstarted (who ∷ whos) = ap (λ l. who ∷ l) (whose-unstarted whos)

-- the cells of these plans
pub record AreOfPlans (mode : JournalMode) (limit : ℕ) (plans : List ActorPlan) (cells : List CellView) : Type 0 where
  pub who : whose cells ≡ who_of mode limit plans
  pub unused : cells ≡ map unstarted (whose cells)
  pub count : length cells ≡ length plans + 1

pub cells-of : (mode : JournalMode) (limit : ℕ) (plans : List ActorPlan) (cells : List CellView) → cells ≡ map unstarted (who_of mode limit plans) → AreOfPlans mode limit plans cells
cells-of mode limit plans cells are =
    let who : whose cells ≡ who_of mode limit plans = ap whose are ∙ whose-unstarted (who_of mode limit plans) in record {
      who = who;
      unused = are ∙ ap (map unstarted) (sym who);
      count = ap length are ∙ length-map (who_of mode limit plans) unstarted ∙ length-who mode limit plans;
    }

pub planned-cells : (mode : JournalMode) (limit : ℕ) (plans : List ActorPlan) (cells : List CellView) → AreOfPlans mode limit plans cells → bad_parents 1 plans ≡ []
    → limit ≤ most_entries → ArePlanned (length cells) 0 (whose cells)
planned-cells mode limit plans cells are none bound =
    subst (λ n. ArePlanned n 0 (whose cells)) (sym are.count)
    (subst (ArePlanned (length plans + 1) 0) (sym are.who) (all-planned mode limit plans none bound))

-- the rows of the senders outside
pub rows-outside : (kinds : List MailboxType) (count actors outside : ℕ) (guardian : TakePassView) (takes : List TakePassView) (rows left : List (List SendPassView))
    → AreMade kinds (sender_numbers actors outside) guardian takes rows → count ≡ actors → left ≡ drop count rows
    → left ≡ map (passes_of takes) (numbers 64 outside)
rows-outside kinds count actors outside guardian takes rows left made same are =
    are ∙ ap (λ n. drop n rows) same ∙ ap (drop actors) made.passes ∙ drop-map (passes_of takes) actors (sender_numbers actors outside)
    ∙ ap (map (passes_of takes)) (after-run 0 actors (numbers 64 outside))
