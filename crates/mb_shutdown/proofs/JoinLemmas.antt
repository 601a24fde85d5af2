-- Passes that are taken in, one after another.
use Rattle.std.proofs.Common.{◌≡◌, ℕ, zero, suc, List, [], ◌∷◌, ◌++◌, length}
use Rattle.std.proofs.Common.{take, drop, refl, sym, ap, ◌∙◌, subst, Option, Some, None}
use Rattle.std.proofs.lemmas.Option.{none-some}
use Rattle.std.specs.List.{All}
use Rattle.std.proofs.lemmas.List.Elements.{All-tail}
use Rattle.std.specs.Prelude.{option_map, option_to_list, slice_get, slice_set}
use Rattle.mb_queue.specs.Passes.{Queue, SendPassView, TakePassView}
use Rattle.mb_shutdown.specs.Joined.{column, joined, joined_by, joins, joins_all, queues_of, queues_pushed_into}

pub joins-none : (takes : List TakePassView) → joins takes [] ≡ takes
joins-none [] = refl
joins-none (t ∷ takes) = refl

-- the last of the passes first
pub joins-last : (takes : List TakePassView) (passes : List SendPassView) (t : TakePassView) (p : SendPassView) → slice_get takes (length passes) ≡ Some t
    → joins takes (passes ++ p ∷ []) ≡ joins (slice_set takes (length passes) (joined t p)) passes
joins-last [] passes t p was = absurd (none-some t was)
joins-last (x ∷ takes) [] t p was =
    let is : x ≡ t = cc was in
    ap (λ l. joined x p ∷ l) (joins-none takes) ∙ ap (λ (y : TakePassView). joined y p ∷ takes) is
joins-last (x ∷ takes) (q ∷ passes) t p was = ap (λ l. joined x q ∷ l) (joins-last takes passes t p was)

-- a receiver that took a pass in is of the same queue
pub queues-set : (takes : List TakePassView) (place : ℕ) (t : TakePassView) (p : SendPassView) → slice_get takes place ≡ Some t
    → queues_of (slice_set takes place (joined t p)) ≡ queues_of takes
queues-set [] place t p was = refl
queues-set (x ∷ takes) zero t p was = let is : x ≡ t = cc was in ap (λ (y : TakePassView). y.queue ∷ queues_of takes) (sym is)
queues-set (x ∷ takes) (suc place) t p was = ap (λ l. x.queue ∷ l) (queues-set takes place t p was)

pub queues-joins : (takes : List TakePassView) (passes : List SendPassView) → queues_of (joins takes passes) ≡ queues_of takes
queues-joins [] passes = refl
queues-joins (t ∷ takes) [] = refl
queues-joins (t ∷ takes) (p ∷ passes) = ap (λ l. t.queue ∷ l) (queues-joins takes passes)

-- the queue of the last pass is the one of the receiver in its place
pub queue-last : (takes : List TakePassView) (passes : List SendPassView) (p : SendPassView) (more : List Queue) (t : TakePassView)
    → queues_of takes ≡ queues_pushed_into (passes ++ p ∷ []) ++ more → slice_get takes (length passes) ≡ Some t → p.queue ≡ t.queue
queue-last [] passes p more t are was = absurd (none-some t was)
queue-last (x ∷ takes) [] p more t are was =
    let is : x ≡ t = cc was in
    let first : x.queue ≡ p.queue = cc are in
    sym first ∙ ap (λ (y : TakePassView). y.queue) is
queue-last (x ∷ takes) (q ∷ passes) p more t are was =
    let rest : queues_of takes ≡ queues_pushed_into (passes ++ p ∷ []) ++ more = cc are in
    queue-last takes passes p more t rest was

-- one pass less
pub passes-last : (passes : List SendPassView) (p : SendPassView) (more : List Queue)
    → queues_pushed_into (passes ++ p ∷ []) ++ more ≡ queues_pushed_into passes ++ p.queue ∷ more
passes-last [] p more = refl
passes-last (q ∷ passes) p more = ap (λ l. q.queue ∷ l) (passes-last passes p more)

-- the rows of the other senders are of the receivers' queues still
pub all-rest : {R : Type 0} (items : R → List SendPassView) (queues queues' : List Queue) (row : R) (rest all : List R) → all ≡ row ∷ rest
    → queues' ≡ queues → All (λ r. queues_pushed_into (items r) ≡ queues) all → All (λ r. queues_pushed_into (items r) ≡ queues') rest
all-rest items queues queues' row rest all steps same are =
    subst (λ qs. All (λ r. queues_pushed_into (items r) ≡ qs) rest) (sym same)
    (All-tail (λ r. queues_pushed_into (items r) ≡ queues) row rest (subst (λ l. All (λ r. queues_pushed_into (items r) ≡ queues) l) steps are))

-- what became of the receiver of one place
pub place-joins : (takes : List TakePassView) (passes : List SendPassView) (place : ℕ)
    → slice_get (joins takes passes) place ≡ option_map (λ t. joined_by t (option_to_list (slice_get passes place))) (slice_get takes place)
place-joins [] passes place = refl
place-joins (t ∷ takes) [] zero = refl
place-joins (t ∷ takes) [] (suc place) = same (slice_get takes place)
  where
    same : (o : Option TakePassView) → o ≡ option_map (λ (t : TakePassView). t) o
    same None = refl
    same (Some x) = refl
place-joins (t ∷ takes) (p ∷ passes) zero = refl
place-joins (t ∷ takes) (p ∷ passes) (suc place) = place-joins takes passes place

joined_by-append : (t : TakePassView) (xs ys : List SendPassView) → joined_by t (xs ++ ys) ≡ joined_by (joined_by t xs) ys
joined_by-append t [] ys = refl
joined_by-append t (x ∷ xs) ys = joined_by-append (joined t x) xs ys

twice : (xs ys : List SendPassView) (o : Option TakePassView)
    → option_map (λ t. joined_by t ys) (option_map (λ t. joined_by t xs) o) ≡ option_map (λ t. joined_by t (xs ++ ys)) o
twice xs ys None = refl
twice xs ys (Some t) = ap Some (sym (joined_by-append t xs ys))

pub place-joins_all : (takes : List TakePassView) (rows : List (List SendPassView)) (place : ℕ)
    → slice_get (joins_all takes rows) place ≡ option_map (λ t. joined_by t (column place rows)) (slice_get takes place)
place-joins_all takes [] place = same (slice_get takes place)
  where
    same : (o : Option TakePassView) → o ≡ option_map (λ (t : TakePassView). t) o
    same None = refl
    same (Some x) = refl
place-joins_all takes (row ∷ rows) place =
    place-joins_all (joins takes row) rows place
    ∙ ap (option_map (λ t. joined_by t (column place rows))) (place-joins takes row place)
    ∙ twice (option_to_list (slice_get row place)) (column place rows) (slice_get takes place)

-- there are as many receivers
length-joins : (takes : List TakePassView) (passes : List SendPassView) → length (joins takes passes) ≡ length takes
length-joins [] passes = refl
length-joins (t ∷ takes) [] = refl
length-joins (t ∷ takes) (p ∷ passes) = ap suc (length-joins takes passes)

pub length-joins_all : (takes : List TakePassView) (rows : List (List SendPassView)) → length (joins_all takes rows) ≡ length takes
length-joins_all takes [] = refl
length-joins_all takes (row ∷ rows) = length-joins_all (joins takes row) rows ∙ length-joins takes row

-- what stands in a list that was lent as a slice, when the slice comes back as long as it was
take_front : {X : Type 0} (ys zs : List X) → take (length ys) (ys ++ zs) ≡ ys
take_front [] zs = refl
take_front (y ∷ ys) zs = ap (λ l. y ∷ l) (take_front ys zs)

pub refilled : {X : Type 0} (count : ℕ) (old new : List X) → length new ≡ count → take count (new ++ drop (length new) old) ≡ new
refilled count old new e = ap (λ (n : ℕ). take n (new ++ drop (length new) old)) (sym e) ∙ take_front new (drop (length new) old)
