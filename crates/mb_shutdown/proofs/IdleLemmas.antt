-- What was read before the end is known at the end.
use Rattle.std.proofs.Common.{◌≡◌, ℕ, ◌+◌, List, [], ◌∷◌, ◌++◌, map, refl, sym, ap, ◌∙◌, subst, inl, inr, arith}
use Rattle.std.specs.Prelude.{Bool, true, false}
use Rattle.mb_gate.specs.PutIn.{put_by, put_in}
use Rattle.mb_gate.specs.Rule.{IsPart}
use Rattle.mb_gate.specs.View.{Counted, Looked, Observation, View, counting, looking, reading}
use Rattle.mb_ghost.specs.Summed.{total}
use Rattle.mb_msg.specs.declared.system.SysMsg.{SysMsg}
use Rattle.mb_status.specs.Mailbox.{word_of}
use Rattle.mb_shutdown.specs.Idle.{WereReadIdle, WasReadIdle, none_read, one_more}
use Rattle.mb_shutdown.specs.Refused.{FindsIdle}
use Rattle.mb_shutdown.specs.Rooms.{HasOnlyCounted}
use Rattle.mb_shutdown.proofs.Steps.{counting-log, counting-same, part-more, part-same}
use Rattle.mb_shutdown.proofs.Parts.{part-trans}

looking-part : (xs : List Observation) (id : ℕ) (has_work : Bool) (v : View) → IsPart xs v.log → IsPart xs (looking id has_work v).log
looking-part xs id true v part = part-more xs v.log (Looked id true ∷ v.log) (Looked id true) refl part
looking-part xs id false v part = part-more xs v.log (Looked id false ∷ v.log) (Looked id false) refl part

reading-part : (id word : ℕ) (v : View) → IsPart v.log (reading id word v).log
reading-part id word v = part-more v.log v.log (reading id word v).log _ refl (part-same v.log)

one-part : (id : ℕ) (before after : View) → WasReadIdle id before after → IsPart before.log after.log
one-part id before after (status, inl closed) =
    subst (λ (v : View). IsPart before.log v.log) (sym closed.1) (reading-part id (word_of status) before)
one-part id before after (status, inr (inl suspended)) =
    subst (λ (v : View). IsPart before.log v.log) (sym suspended.3)
    (looking-part before.log id false (reading id (word_of status) before) (reading-part id (word_of status) before))
one-part id before after (status, inr (inr idle)) =
    let looked = looking id false (reading id (word_of status) before) in
    subst (λ (v : View). IsPart before.log v.log) (sym idle.2)
    (part-more before.log looked.log _ _ (counting-log id 0 looked)
    (looking-part before.log id false (reading id (word_of status) before) (reading-part id (word_of status) before)))

pub settled-part : (id count : ℕ) (before after : View) → WereReadIdle id count before after → IsPart before.log after.log
settled-part _ _ _ _ (none_read id view) = part-same view.log
settled-part _ _ _ _ (one_more id count before between after those this) =
    part-trans before.log between.log after.log (settled-part id count before between those) (one-part (id + count) between after this)

-- ---- what readings leave as it was

-- a view has the share that it had, gave no cell back, and put nothing into lists
pub record OnlyReads (before after : View) : Type 0 where
  pub share : after.share ≡ before.share
  pub releases : after.releases ≡ before.releases
  pub put : (actor : ℕ) (measure : ℕ × SysMsg → ℕ) → put_by actor measure after ≡ put_by actor measure before

reads-then : (before between after : View) → OnlyReads before between → OnlyReads between after → OnlyReads before after
reads-then before between after one two = record {
  share = two.share ∙ one.share;
  releases = two.releases ∙ one.releases;
  put = λ actor measure. two.put actor measure ∙ one.put actor measure;
}

none : (n : ℕ) → 0 + n ≡ n
none n = omega arith

reading-reads : (id word : ℕ) (v : View) → OnlyReads v (reading id word v)
reading-reads id word v = record { share = refl; releases = refl; put = λ actor measure. none (put_by actor measure v) }

looking-reads : (id : ℕ) (v : View) → OnlyReads v (looking id false v)
looking-reads id v = record { share = refl; releases = refl; put = λ actor measure. none (put_by actor measure v) }

counting-reads : (id waiting : ℕ) (v : View) → OnlyReads v (counting id waiting v)
counting-reads id waiting v = record {
  share = ap (λ (w : View). w.share) (counting-same id waiting v);
  releases = ap (λ (w : View). w.releases) (counting-same id waiting v);
  put = λ actor measure. ap (total (put_in actor measure)) (counting-log id waiting v) ∙ none (put_by actor measure v);
}

one-reads : (id : ℕ) (before after : View) → WasReadIdle id before after → OnlyReads before after
one-reads id before after (status, inl closed) = subst (OnlyReads before) (sym closed.1) (reading-reads id (word_of status) before)
one-reads id before after (status, inr (inl suspended)) =
    let read = reading id (word_of status) before in
    subst (OnlyReads before) (sym suspended.3)
    (reads-then before read (looking id false read) (reading-reads id (word_of status) before) (looking-reads id read))
one-reads id before after (status, inr (inr idle)) =
    let read = reading id (word_of status) before in let looked = looking id false read in
    subst (OnlyReads before) (sym idle.2)
    (reads-then before looked (counting id 0 looked)
    (reads-then before read looked (reading-reads id (word_of status) before) (looking-reads id read)) (counting-reads id 0 looked))

idle-reads : (id count : ℕ) (before after : View) → WereReadIdle id count before after → OnlyReads before after
idle-reads _ _ _ _ (none_read id view) = record { share = refl; releases = refl; put = λ actor measure. refl }
idle-reads _ _ _ _ (one_more id count before between after those this) =
    reads-then before between after (idle-reads id count before between those) (one-reads (id + count) between after this)

none-put : (actor : ℕ) (measure : ℕ × SysMsg → ℕ) (counts : List (ℕ × ℕ)) (log : List Observation)
    → total (put_in actor measure) (map (λ (c : ℕ × ℕ). Counted c.0 c.1) counts ++ log) ≡ total (put_in actor measure) log
none-put actor measure [] log = refl
none-put actor measure (c ∷ counts) log =
    none (total (put_in actor measure) (map (λ (c : ℕ × ℕ). Counted c.0 c.1) counts ++ log)) ∙ none-put actor measure counts log

counted-reads : (before after : View) → HasOnlyCounted before after → OnlyReads before after
counted-reads before after so = record {
  share = ap (λ (w : View). w.share) so.same;
  releases = ap (λ (w : View). w.releases) so.same;
  put = λ actor measure. ap (total (put_in actor measure)) so.log_is ∙ none-put actor measure so.counts before.log;
}

pub found-reads : (many : ℕ) (before after : View) → FindsIdle many before after → OnlyReads before after
found-reads many before after found =
    reads-then before found.0 after (idle-reads 0 many before found.0 found.1) (counted-reads found.0 after found.2)
