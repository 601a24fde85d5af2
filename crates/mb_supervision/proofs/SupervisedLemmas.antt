-- What a cell becomes by a decision about a child that failed, directive by directive.
use Rattle.std.proofs.Common.{◌≡◌, ℕ, ◌+◌, ℤ, true, false, Bool, List, [], ◌∷◌, ◌++◌, refl, ap, sym, ◌∙◌}
use Rattle.std.specs.Prelude.{not, ◌&&◌, if◌then◌else◌}
use Rattle.std.specs.List.{flat_map, list_all}
use Rattle.mb_msg.specs.declared.id.ActorId.{ActorId}
use Rattle.mb_msg.specs.declared.supervision.Cause.{Cause}
use Rattle.mb_msg.specs.declared.supervision.Directive.{Directive}
use Rattle.mb_msg.specs.declared.supervision.Directive.TheVariants as directive
use Rattle.mb_msg.specs.declared.system.SysMsg.{SysMsg}
use Rattle.mb_msg.specs.declared.system.SysMsg.TheVariants as system
use Rattle.mb_journal.specs.Acts.{Act, fail_acts, restart_for, to_each}
use Rattle.mb_journal.specs.Acts.Act.{Sys}
use Rattle.mb_journal.specs.Aside.{without_number}
use Rattle.mb_journal.specs.Failure.{is_nobody}
use Rattle.mb_journal.specs.declared.failed_by.FailedBy.{FailedBy}
use Rattle.mb_journal.specs.declared.failed_by.FailedBy.TheVariants.{Child}
use Rattle.mb_journal.specs.Identity.{Identity}
use Rattle.mb_journal.specs.Retries.{is_restart_directive, permits, through_refusal}
use Rattle.mb_journal.specs.Supervision.{directive_of}
use Rattle.mb_supervision.specs.CellStateRecord.{CellState}
use Rattle.mb_supervision.specs.RetryCounts.{counted_more, retry_count_of}
use Rattle.mb_supervision.specs.Rows.{counted_now, given_now, meant_now, supervised, supervised_by, taken}

module _ (who : Identity) (x : ActorId) (c : Cause) (b : CellState) where
  -- a decision that is not to restart counts no request
  pub counted-none : (d : Directive) → d ≡ directive_of who c → is_restart_directive d ≡ false →
      (λ (y : ActorId). retry_count_of b.retries y) ≡ counted_now who b x c
  counted-none d is other =
      ap (λ restarts. if restarts
      then counted_more who.retries (through_refusal (given_now who b) (meant_now who b x)) (λ y. retry_count_of b.retries y)
      else (λ y. retry_count_of b.retries y)) (sym other ∙ ap is_restart_directive is)

  module _ (number : ℕ) (counts : List (ActorId × ℕ)) (aside : List (ℕ × SysMsg)) (acts none : List Act) (gone : aside ≡ without_number b.aside number)
      (nothing : none ≡ []) where
    abbrev begun : CellState
    begun = record b { aside = aside; is_ready = false; retries = counts; acts = acts }

    -- another directive than the one to restart
    by : (d : Directive) → d ≡ directive_of who c → is_restart_directive d ≡ false →
        supervised_by who x c d (record (taken number b) { retries = counts }) ≡ supervised who x c number counts b
    by d is other =
        ap (λ (restarts : Bool). supervised_by who x c (if restarts && not (list_all (given_now who b) (meant_now who b x)) then directive.Stop else d)
        (record (taken number b) { retries = counts })) (sym other)
        ∙ ap (λ (e : Directive). supervised_by who x c
        (if is_restart_directive e && not (list_all (given_now who b) (meant_now who b x)) then directive.Stop else e)
        (record (taken number b) { retries = counts })) is

    pub by-resume : directive.Resume ≡ directive_of who c → acts ≡ none ++ Sys x (system.Resume true) ∷ [] →
        begun ≡ supervised who x c number counts b
    by-resume is did =
        (λ i. record b {
          aside = gone i;
          is_ready = false;
          retries = counts;
          acts = (did ∙ ap (λ l. l ++ Sys x (system.Resume true) ∷ []) nothing) i;
        })
        ∙ by directive.Resume is refl

    pub by-stop : (meant : List ActorId) → meant ≡ meant_now who b x → directive.Stop ≡ directive_of who c →
        acts ≡ none ++ to_each system.Terminate meant → begun ≡ supervised who x c number counts b
    by-stop meant same is did =
        (λ i. record b {
          aside = gone i;
          is_ready = false;
          retries = counts;
          acts = (did ∙ ap (λ l. l ++ to_each system.Terminate meant) nothing ∙ ap (to_each system.Terminate) same) i;
        })
        ∙ by directive.Stop is refl

    pub by-escalation : (count : ℕ) (failed : FailedBy) (children : List ActorId) → children ≡ b.children → directive.Escalate ≡ directive_of who c →
        count ≡ (if is_nobody b.failed then b.count + 1 else b.count) → failed ≡ (if is_nobody b.failed then Child x else b.failed) →
        acts ≡ none ++ fail_acts who b.failed children c (x ∷ []) →
        record begun { count = count; failed = failed } ≡ supervised who x c number counts b
    by-escalation count failed children same is by_count by_failed did =
        (λ i. record b {
          aside = gone i;
          is_ready = false;
          retries = counts;
          count = by_count i;
          failed = by_failed i;
          acts = (did ∙ ap (λ l. l ++ fail_acts who b.failed children c (x ∷ [])) nothing
              ∙ ap (λ l. fail_acts who b.failed l c (x ∷ [])) same) i;
        })
        ∙ by directive.Escalate is refl

    -- a restart, with what was answered about whether it is permitted
    module _ (limit : ℤ) (meant : List ActorId) (own : limit ≡ who.retries) (same : meant ≡ meant_now who b x)
        (is : directive.Restart ≡ directive_of who c) (all : Bool)
        (asked : all ≡ list_all (λ (y : ActorId). permits limit (retry_count_of b.retries y + 1)) meant) where
      answered : (answer : Bool) → all ≡ answer →
          supervised_by who x c (if not answer then directive.Stop else directive.Restart) (record (taken number b) { retries = counts })
          ≡ supervised who x c number counts b
      answered answer answers =
          ap (λ (t : Bool). supervised_by who x c (if not t then directive.Stop else directive.Restart) (record (taken number b) { retries = counts }))
          (sym answers ∙ (asked ∙ (λ i. list_all (λ (y : ActorId). permits (own i) (retry_count_of b.retries y + 1)) (same i))))
          ∙ ap (λ (e : Directive). supervised_by who x c
          (if is_restart_directive e && not (list_all (given_now who b) (meant_now who b x)) then directive.Stop else e)
          (record (taken number b) { retries = counts })) is

      pub by-restart : all ≡ true → acts ≡ none ++ flat_map (restart_for x c) meant → begun ≡ supervised who x c number counts b
      by-restart answers did =
          (λ i. record b {
            aside = gone i;
            is_ready = false;
            retries = counts;
            acts = (did ∙ ap (λ l. l ++ flat_map (restart_for x c) meant) nothing ∙ ap (flat_map (restart_for x c)) same) i;
          })
          ∙ answered true answers

      pub by-refusal : all ≡ false → acts ≡ none ++ to_each system.Terminate meant → begun ≡ supervised who x c number counts b
      by-refusal answers did =
          (λ i. record b {
            aside = gone i;
            is_ready = false;
            retries = counts;
            acts = (did ∙ ap (λ l. l ++ to_each system.Terminate meant) nothing ∙ ap (to_each system.Terminate) same) i;
          })
          ∙ answered false answers
