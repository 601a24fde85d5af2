-- What is taken over as a run that was broken off ends, and what is shown of its actors.
use Rattle.std.proofs.Common.{◌≡◌, ℕ, List, [], ◌∷◌, ◌++◌, append-nil, refl, sym, ap, ◌∙◌, subst}
use Rattle.std.specs.List.{AllZip}
use Rattle.std.specs.Global.{Box}
use Rattle.std.proofs.lemmas.List.Elements.{All-cons, All-nil, All-push}
use Rattle.mb_actor.specs.Behaviour.{Moment, Reply}
use Rattle.mb_gate.specs.Accessors.{gates_id, pass_view, pass_id}
use Rattle.mb_gate.specs.Rule.{IsPart}
use Rattle.mb_gate.specs.View.{View, Saw, idling, taking_in, taking_over}
use Rattle.mb_journal.specs.Entry.{Entry}
use Rattle.mb_gate.specs.declared.gates.Gates.{Gates}
use Rattle.mb_gate.specs.declared.pass.Pass.{Pass}
use Rattle.mb_home.specs.Contents.{Contents}
use Rattle.mb_system.specs.declared.handle.WorkerHandle.{WorkerHandle}
use Rattle.mb_shutdown.specs.Unfinished.{GivesBack, HaveGivenBack, by_first, by_one_more}
use Rattle.mb_shutdown.proofs.Gathered.{HasHandles, next-came, seen_by_handle}
use Rattle.mb_shutdown.proofs.Parts.{part-back, part-front, part-trans, seen-by}

module _ {A K : Type 0} where
  -- the pass of the first handle, which saw all that the handle had seen
  pub back-first : (gates : Gates (Box Contents)) (handles rest : List (WorkerHandle A K)) (e : WorkerHandle A K) (pass : Pass (Box Contents))
      → e ∷ rest ≡ handles → pass_id pass ≡ gates_id gates → IsPart (seen_by_handle e) (pass_view pass).log → HasHandles gates handles [] rest pass
  back-first gates handles rest e pass are ours part = record {
    same_gates = ours;
    first = e;
    are = are;
    seen = All-cons (λ (w : WorkerHandle A K). IsPart (seen_by_handle w) (pass_view pass).log) e [] part
        (All-nil (λ (w : WorkerHandle A K). IsPart (seen_by_handle w) (pass_view pass).log));
  }

  -- it takes over the pass of one more, which saw all that this handle had seen
  pub back-more : (gates : Gates (Box Contents)) (handles came left rest : List (WorkerHandle A K)) (e : WorkerHandle A K)
      (old new other : Pass (Box Contents)) → HasHandles gates handles came left old → left ≡ e ∷ rest → IsPart (seen_by_handle e) (pass_view other).log
      → pass_id new ≡ pass_id old → pass_view new ≡ taking_over (pass_view old) (pass_view other) → HasHandles gates handles (came ++ e ∷ []) rest new
  back-more gates handles came left rest e old new other has next part same knows =
      let log : (pass_view new).log ≡ (pass_view other).log ++ (pass_view old).log = ap (λ (v : View). v.log) knows in
      record {
        same_gates = same ∙ has.same_gates;
        first = has.first;
        are = next-came (has.first ∷ came) e rest handles (ap (λ l. (has.first ∷ came) ++ l) (sym next) ∙ has.are);
        seen = All-push (λ (w : WorkerHandle A K). IsPart (seen_by_handle w) (pass_view new).log) (has.first ∷ came) e
            (seen-by seen_by_handle (has.first ∷ came) (pass_view old).log (pass_view new).log
            (subst (IsPart (pass_view old).log) (sym log) (part-back (pass_view other).log (pass_view old).log)) has.seen)
            (part-trans (seen_by_handle e) (pass_view other).log (pass_view new).log part
            (subst (IsPart (pass_view other).log) (sym log) (part-front (pass_view other).log (pass_view old).log)));
      }

module _ {A K : Type 0} (gives : ℕ → Moment → Reply → Type 0) (handles : List (WorkerHandle A K)) where
  -- the first of these handles and those that came gave back all that they found in the pool, which the pass knows
  pub record SomeHaveGivenBack (came rest : List (WorkerHandle A K)) (pass : Pass (Box Contents)) : Type 0 where
    pub first : WorkerHandle A K
    pub are : (first ∷ came) ++ rest ≡ handles
    pub back : HaveGivenBack gives (first ∷ came) (pass_view pass)

  pub given-first : (rest : List (WorkerHandle A K)) (e : WorkerHandle A K) (pass : Pass (Box Contents)) → e ∷ rest ≡ handles
      → GivesBack gives e.registrar.run_queue (pass_view e.registrar.pass) (pass_view pass) → SomeHaveGivenBack [] rest pass
  given-first rest e pass are back = record { first = e; are = are; back = by_first e (pass_view pass) back }

  pub given-more : (came left rest : List (WorkerHandle A K)) (e : WorkerHandle A K) (old new other : Pass (Box Contents)) → SomeHaveGivenBack came left old
      → left ≡ e ∷ rest → GivesBack gives e.registrar.run_queue (pass_view e.registrar.pass) (pass_view other)
      → pass_view new ≡ taking_over (pass_view old) (pass_view other) → SomeHaveGivenBack (came ++ e ∷ []) rest new
  given-more came left rest e old new other some next back knows = record {
    first = some.first;
    are = next-came (some.first ∷ came) e rest handles (ap (λ l. (some.first ∷ came) ++ l) (sym next) ∙ some.are);
    back = subst (HaveGivenBack gives ((some.first ∷ came) ++ e ∷ [])) (sym knows)
        (by_one_more (some.first ∷ came) e (pass_view old) (pass_view other) some.back back);
  }

  pub given-all : (came rest : List (WorkerHandle A K)) (pass : Pass (Box Contents)) → SomeHaveGivenBack came rest pass → rest ≡ []
      → HaveGivenBack gives handles (pass_view pass)
  given-all came rest pass some none =
      let all = some.first ∷ came in
      subst (λ l. HaveGivenBack gives l (pass_view pass)) (sym (append-nil all) ∙ ap (λ l. all ++ l) (sym none) ∙ some.are) some.back

-- one more of each of two lists
pub zip-push : {X Y : Type 0} (R : X → Y → Type 0) (xs : List X) (ys : List Y) (x : X) (y : Y) → AllZip R xs ys → R x y
    → AllZip R (xs ++ x ∷ []) (ys ++ y ∷ [])
zip-push R [] [] x y all one = (one, tt)
zip-push R [] (z ∷ ys) x y all one = absurd all
zip-push R (w ∷ xs) [] x y all one = absurd all
zip-push R (w ∷ xs) (z ∷ ys) x y all one = (all.0, zip-push R xs ys x y all.1 one)

-- what was seen before a claim went back is seen then
pub released-part : (actor : ℕ) (journal : List Entry) (claim old new : View) → new ≡ idling actor journal (taking_in claim old) → IsPart old.log new.log
released-part actor journal claim old new is =
    subst (IsPart old.log) (sym (ap (λ (v : View). v.log) is))
    (record { before = Saw actor journal ∷ []; after = claim.log; joined = refl })
