-- A walk that tells the first item at fault by its place.
use Rattle.std.proofs.Common.{◌≡◌, ℕ, ◌+◌, Bool, true, false, cond, not, List, [], ◌∷◌, map, Some, None, Ok, Err, Option, Result, sym, refl, ap, ◌∙◌, add-zero, add_assoc, arith}
use Rattle.std.specs.List.{position_from, zip}
use Rattle.semantics.specs.declared.entry.Entry.{Entry}
use Rattle.semantics.specs.declared.misfit.Misfit.{Misfit}
use Rattle.semantics.specs.declared.misfit.Misfit.TheVariants.{Argument}
use Rattle.semantics.specs.declared.refusal.Refusal.{Refusal}
use Rattle.semantics.specs.declared.refusal.Refusal.TheVariants.{SignatureDiffers}
use Rattle.semantics.specs.Entries.{EntryDef, entry_of}
use Rattle.semantics.specs.Form.{Formed, must}
use Rattle.semantics.specs.NewRows.{clashes, agrees}
use Rattle.semantics.specs.Reading.{so}
use Rattle.semantics.specs.Tests.{Tested, then, demand, arguments_fit}
use Rattle.semantics.specs.Tree.{fits}

-- the answer for the item at fault, if there is one
abbrev pub told : {E : Type 0} → (ℕ → E) → Option ℕ → Result (Unit {0}) E
told err None = Ok tt
told err (Some i) = Err (err i)

told_either : {E : Type 0} (err : ℕ → E) (b : Bool) (i : ℕ) (r : Option ℕ) → told err (cond b (Some i) r) ≡ cond b (Err (err i)) (told err r)
told_either err true i r = refl
told_either err false i r = refl

told_from_zero : {E : Type 0} (err : ℕ → E) (r : Option ℕ) → told err r ≡ told (λ j. err (0 + j)) r
told_from_zero err None = refl
told_from_zero err (Some i) = let z : i ≡ 0 + i = omega arith in ap (λ n. Err (err n)) z

-- F walks from the place k on
told_on : {X E : Type 0} (F : ℕ → List X → Result (Unit {0}) E) (faulty : X → Bool) (err : ℕ → E) → ((k : ℕ) → Ok tt ≡ F k []) → ((k : ℕ) (x : X) (xs : List X) → cond (faulty x) (Err (err k)) (F (k + 1) xs) ≡ F k (x ∷ xs))
    → (k i : ℕ) (xs : List X) → told (λ j. err (k + j)) (position_from faulty i xs) ≡ F (k + i) xs
told_on F faulty err done more k i [] = done (k + i)
told_on F faulty err done more k i (x ∷ xs) =
    told_either (λ j. err (k + j)) (faulty x) i (position_from faulty (i + 1) xs)
    ∙ ap (cond (faulty x) (Err (err (k + i)))) (told_on F faulty err done more k (i + 1) xs ∙ ap (λ n. F n xs) (sym (add_assoc k i 1)))
    ∙ more (k + i) x xs

told_first : {X E : Type 0} (F : ℕ → List X → Result (Unit {0}) E) (faulty : X → Bool) (err : ℕ → E) → ((k : ℕ) → Ok tt ≡ F k []) → ((k : ℕ) (x : X) (xs : List X) → cond (faulty x) (Err (err k)) (F (k + 1) xs) ≡ F k (x ∷ xs))
    → (k : ℕ) (xs : List X) → told (λ j. err (k + j)) (position_from faulty 0 xs) ≡ F k xs
told_first F faulty err done more k xs = told_on F faulty err done more k 0 xs ∙ ap (λ n. F n xs) (add-zero k)

demand_first : (b : Bool) (e : Misfit) (rest : Tested (Unit {0})) → cond (not b) (Err e) rest ≡ then (demand b e) (λ _. rest)
demand_first true e rest = refl
demand_first false e rest = refl

must_first : (b : Bool) (e : Refusal) (rest : Formed) → cond b (Err e) rest ≡ so (must (not b) e) (λ _. rest)
must_first true e rest = refl
must_first false e rest = refl

-- arguments beside the classes that are declared for them
abbrev pairs_fit : List ℕ → ℕ → List (ℕ × ℕ) → Tested (Unit {0})
pairs_fit ps k zs = arguments_fit ps k (map (λ (z : ℕ × ℕ). z.0) zs) (map (λ (z : ℕ × ℕ). z.1) zs)

paired : (ps : List ℕ) (k : ℕ) (cs as' : List ℕ) → pairs_fit ps k (zip cs as') ≡ arguments_fit ps k cs as'
paired ps k [] as' = refl
paired ps k (c ∷ cs) [] = refl
paired ps k (c ∷ cs) (a ∷ as') = ap (λ r. then (demand (fits ps c a) (Argument k)) (λ _. r)) (paired ps (k + 1) cs as')

pub first_argument : (ps cs as' : List ℕ) (r : Option ℕ) → r ≡ position_from (λ (z : ℕ × ℕ). not (fits ps z.0 z.1)) 0 (zip cs as') → told (λ j. Argument (3 + j)) r ≡ arguments_fit ps 3 cs as'
first_argument ps cs as' r e =
    ap (told (λ j. Argument (3 + j))) e
    ∙ told_first (pairs_fit ps) (λ (z : ℕ × ℕ). not (fits ps z.0 z.1)) Argument (λ _. refl) (λ k z zs. demand_first (fits ps z.0 z.1) (Argument k) (pairs_fit ps (k + 1) zs)) 3 (zip cs as')
    ∙ paired ps 3 cs as'

pub first_clash : (ps : List ℕ) (e : EntryDef) (xs : List Entry) (r : Option ℕ) → r ≡ position_from (λ x. clashes ps e (entry_of x)) 0 xs → told SignatureDiffers r ≡ agrees ps e 0 (map entry_of xs)
first_clash ps e xs r at =
    ap (told SignatureDiffers) at
    ∙ told_from_zero SignatureDiffers (position_from (λ x. clashes ps e (entry_of x)) 0 xs)
    ∙ told_first (λ k l. agrees ps e k (map entry_of l)) (λ x. clashes ps e (entry_of x)) SignatureDiffers (λ _. refl) (λ k x l. must_first (clashes ps e (entry_of x)) (SignatureDiffers k) (agrees ps e (k + 1) (map entry_of l))) 0 xs
