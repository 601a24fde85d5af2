-- The directory of actors, and what stands at one place of it.
use Rattle.std.proofs.Common.{◌≡◌, ℕ, zero, suc, ◌+◌, List, [], ◌∷◌, ◌++◌, length, map, take, drop, refl, sym, ap, ◌∙◌}
use Rattle.std.proofs.Common.{subst, append-nil, append_assoc, arith}
use Rattle.std.specs.Prelude.{slice_get, Some}
use Rattle.std.proofs.lemmas.List.{map_push}
use Rattle.mb_journal.specs.Identity.{Identity}
use Rattle.mb_queue.specs.Passes.{TakePassView}
use Rattle.mb_home.specs.Directory.{DirectoryEntry, queues_of}
use Rattle.mb_build.specs.NewHomes.{directory_of}
use Rattle.mb_build.specs.Identities.{ArePlanned, IsPlanned}

-- what comes after this place, and up to it
pub drop-next : {X : Type 0} (place : ℕ) (xs : List X) (x : X) (rest : List X) → drop place xs ≡ x ∷ rest → drop (suc place) xs ≡ rest
drop-next zero [] x rest here = absurd (cc)
drop-next zero (y ∷ xs) x rest here = cc
drop-next (suc place) [] x rest here = absurd (cc)
drop-next (suc place) (y ∷ xs) x rest here = drop-next place xs x rest here

pub take-next : {X : Type 0} (place : ℕ) (xs : List X) (x : X) (rest : List X) → drop place xs ≡ x ∷ rest
    → take (suc place) xs ≡ take place xs ++ x ∷ []
take-next zero [] x rest here = absurd (cc)
take-next zero (y ∷ xs) x rest here = let is : y ≡ x = cc in ap (λ z. z ∷ []) is
take-next (suc place) [] x rest here = absurd (cc)
take-next (suc place) (y ∷ xs) x rest here = ap (λ l. y ∷ l) (take-next place xs x rest here)

-- one more actor in the directory
pub directory-push : {X : Type 0} (view : X → DirectoryEntry) (old new : List X) (x : X) (e : DirectoryEntry) → new ≡ old ++ x ∷ [] → view x ≡ e
    → map view new ≡ map view old ++ e ∷ []
directory-push view old new x e pushed is = ap (map view) pushed ∙ map_push view old x ∙ ap (λ y. map view old ++ y ∷ []) is

abbrev pub the_enrolled : Identity → TakePassView → DirectoryEntry
the_enrolled who t = record { who = who; queue = t.queue; discipline = t.discipline }

-- one actor more is enrolled
pub enrolled-more : (here there : List Identity) (this that : List TakePassView) (who : Identity) (t : TakePassView) (old new whole : List DirectoryEntry)
    → here ≡ who ∷ there → this ≡ t ∷ that → new ≡ old ++ the_enrolled who t ∷ [] → old ++ directory_of here this ≡ whole
    → new ++ directory_of there that ≡ whole
enrolled-more here there this that who t old new whole front own pushed before =
    ap (λ l. l ++ directory_of there that) pushed ∙ append_assoc old (the_enrolled who t ∷ []) (directory_of there that)
    ∙ ap (λ l. old ++ directory_of (who ∷ there) l) (sym own) ∙ ap (λ l. old ++ directory_of l this) (sym front) ∙ before

-- nobody is, to begin with
pub enrolled-none : {X : Type 0} (view : X → DirectoryEntry) (old : List X) (whole : List DirectoryEntry) → old ≡ [] → map view old ++ whole ≡ whole
enrolled-none view old whole none = ap (λ l. map view l ++ whole) none

-- where nobody is left, all are
pub enrolled-done : (old whole : List DirectoryEntry) (here : List Identity) (this : List TakePassView) → here ≡ []
    → old ++ directory_of here this ≡ whole → old ≡ whole
enrolled-done old whole here this none before =
    sym (append-nil old) ∙ ap (λ l. old ++ directory_of l this) (sym none) ∙ before

pub length-enrolled : (whos : List Identity) (takes : List TakePassView) → length takes ≡ length whos → length (directory_of whos takes) ≡ length whos
length-enrolled [] takes many = refl
length-enrolled (who ∷ whos) [] many = absurd (omega (arith, many))
length-enrolled (who ∷ whos) (t ∷ takes) many = ap suc (length-enrolled whos takes (omega (arith, many)))

pub queues-enrolled : (whos : List Identity) (takes : List TakePassView) → length takes ≡ length whos
    → queues_of (directory_of whos takes) ≡ map (λ (t : TakePassView). t.queue) takes
queues-enrolled [] [] many = refl
queues-enrolled [] (t ∷ takes) many = absurd (omega (arith, many))
queues-enrolled (who ∷ whos) [] many = absurd (omega (arith, many))
queues-enrolled (who ∷ whos) (t ∷ takes) many = ap (λ l. t.queue ∷ l) (queues-enrolled whos takes (omega (arith, many)))

-- who stands in this place
pub enrolled-there : (whos : List Identity) (takes : List TakePassView) (place : ℕ) (who : Identity) (t : TakePassView) (whos' : List Identity)
    (takes' : List TakePassView) → drop place whos ≡ who ∷ whos' → drop place takes ≡ t ∷ takes'
    → slice_get (directory_of whos takes) place ≡ Some (the_enrolled who t)
enrolled-there [] takes zero who t whos' takes' here this = absurd (cc)
enrolled-there [] takes (suc place) who t whos' takes' here this = absurd (cc)
enrolled-there (x ∷ whos) [] zero who t whos' takes' here this = absurd (cc)
enrolled-there (x ∷ whos) [] (suc place) who t whos' takes' here this = absurd (cc)
enrolled-there (x ∷ whos) (y ∷ takes) zero who t whos' takes' here this =
    let one : x ≡ who = cc in let other : y ≡ t = cc in
    ap (λ (w : Identity). Some (the_enrolled w y)) one ∙ ap (λ (z : TakePassView). Some (the_enrolled who z)) other
enrolled-there (x ∷ whos) (y ∷ takes) (suc place) who t whos' takes' here this =
    enrolled-there whos takes place who t whos' takes' here this

-- and as what it is planned
pub planned-there : (actors number : ℕ) (whos : List Identity) (place : ℕ) (who : Identity) (rest : List Identity) → ArePlanned actors number whos
    → drop place whos ≡ who ∷ rest → IsPlanned actors (number + place) who
planned-there actors number [] zero who rest are here = absurd (cc)
planned-there actors number [] (suc place) who rest are here = absurd (cc)
planned-there actors number (x ∷ whos) zero who rest are here =
    let is : x ≡ who = cc in let sum : number ≡ number + 0 = omega arith in
    subst (λ n. IsPlanned actors n who) sum (subst (IsPlanned actors number) is are.0)
planned-there actors number (x ∷ whos) (suc place) who rest are here =
    let sum : (number + 1) + place ≡ number + suc place = omega arith in
    subst (λ n. IsPlanned actors n who) sum (planned-there actors (number + 1) whos place who rest are.1 here)
