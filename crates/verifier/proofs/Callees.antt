-- The row that is called, and what follows from its number.
use Rattle.std.proofs.Common.{◌≡◌, ℕ, eqb, List, map, length, get_or, Some, None, Ok, Err, Option, sym, refl, ap, ◌∙◌, arith}
use Rattle.semantics.specs.declared.entry.Entry.{Entry}
use Rattle.semantics.specs.declared.misfit.Misfit.TheVariants.{NoRow, Argument}
use Rattle.semantics.specs.Entries.{EntryDef, entry_of, Found, found, lookup}
use Rattle.semantics.specs.Items.{items_of}
use Rattle.semantics.specs.Tests.{Tested, then, demand, needed, arguments_fit, taking, callee}
use Rattle.verifier.specs.Answers.{number_of, answered}
use Rattle.verifier.proofs.Lookups.{RowFound, row_found}

-- the tests of a row that was found
abbrev row_tests : List ℕ → List ℕ → List ℕ → {X : Type 0} → X → Tested X
row_tests ps cs as' x =
    then (demand (eqb (length cs) (length as')) (Argument 2)) (λ _.
    then (arguments_fit ps 3 cs as') (λ _. Ok x))

tests_as : {X Y : Type 0} (f : X → Y) (t u : Tested (Unit {0})) (x : X) → then t (λ _. then u (λ _. Ok (f x))) ≡ answered f (then t (λ _. then u (λ _. Ok x)))
tests_as f (Ok v) (Ok w) x = refl
tests_as f (Ok v) (Err e) x = refl
tests_as f (Err e) u x = refl

-- the tests are the same for whatever they let pass
any_row : {X Y : Type 0} (t u : Tested (Unit {0})) (x : X) (y : Y) → then (answered (λ _. tt {0}) (then t (λ _. then u (λ _. Ok x)))) (λ _. Ok y) ≡ then t (λ _. then u (λ _. Ok y))
any_row (Ok v) (Ok w) x y = refl
any_row (Ok v) (Err e) x y = refl
any_row (Err e) u x y = refl

-- what the tests of the row that a lookup answered say
abbrev calling : List ℕ → List ℕ → Option Found → Tested Found
calling ps cs f = then (needed f NoRow) (λ g. row_tests ps cs g.entry.arguments g)

-- the number k of a row that was found, after its tests
callee_by : (ps : List ℕ) (xs : List Entry) (c m : ℕ) (cs : List ℕ) (k : ℕ) (d : Entry) → Some k ≡ number_of (lookup ps (map entry_of xs) c m) → row_tests ps cs (items_of (get_or xs k d).arguments) k ≡ answered (λ f. f.number) (callee ps (map entry_of xs) c m cs)
callee_by ps xs c m cs k d e =
    let r = row_found ps xs c m k e in
    let f = r.row in
    ap (λ y. row_tests ps cs y.arguments k) (sym (r.at d)) ∙ ap (row_tests ps cs f.entry.arguments) (sym r.number)
    ∙ tests_as (λ g. g.number) (demand (eqb (length cs) (length f.entry.arguments)) (Argument 2)) (arguments_fit ps 3 cs f.entry.arguments) f
    ∙ ap (λ o. answered (λ g. g.number) (calling ps cs o)) (sym r.is)

-- the same by the answer t of that row's tests
pub callee_tests : (ps : List ℕ) (xs : List Entry) (c m : ℕ) (cs : List ℕ) (k : ℕ) (d : Entry) (t : Tested (Unit {0})) → Some k ≡ number_of (lookup ps (map entry_of xs) c m) → t ≡ answered (λ _. tt) (taking ps cs (found 0 (entry_of (get_or xs k d)))) → then t (λ _. Ok k) ≡ answered (λ f. f.number) (callee ps (map entry_of xs) c m cs)
callee_tests ps xs c m cs k d t e a =
    let as' = items_of (get_or xs k d).arguments in
    ap (λ u. then u (λ _. Ok k)) a
    ∙ any_row (demand (eqb (length cs) (length as')) (Argument 2)) (arguments_fit ps 3 cs as') (found 0 (entry_of (get_or xs k d))) k
    ∙ callee_by ps xs c m cs k d e

-- a row that is called was found
called_found : (ps cs : List ℕ) (f : Option Found) (k : ℕ) → Ok k ≡ answered (λ g. g.number) (calling ps cs f) → (Some k ≡ number_of f) × ((g : Found) → f ≡ Some g → calling ps cs f ≡ Ok g)
called_found ps cs None k e = let z : ◌≡◌ {A = ℕ} 0 1 = cc in absurd (omega arith)
called_found ps cs (Some f) k e = passed (demand (eqb (length cs) (length f.entry.arguments)) (Argument 2)) (arguments_fit ps 3 cs f.entry.arguments) e
  where
    passed : (t u : Tested (Unit {0})) → Ok k ≡ answered (λ g. g.number) (then t (λ _. then u (λ _. Ok f))) → (Some k ≡ Some f.number) × ((g : Found) → Some f ≡ Some g → then t (λ _. then u (λ _. Ok f)) ≡ Ok g)
    passed (Ok v) (Ok w) e = (cc, λ g s. cc)
    passed (Ok v) (Err d) e = let z : ◌≡◌ {A = ℕ} 0 1 = cc in absurd (omega arith)
    passed (Err d) u e = let z : ◌≡◌ {A = ℕ} 0 1 = cc in absurd (omega arith)

-- the row of the number k that is called
pub callee_row : (ps : List ℕ) (xs : List Entry) (c m : ℕ) (cs : List ℕ) (k : ℕ) → Ok k ≡ answered (λ f. f.number) (callee ps (map entry_of xs) c m cs) → (r : RowFound ps xs c m k) × (callee ps (map entry_of xs) c m cs ≡ Ok r.row)
callee_row ps xs c m cs k e =
    let p = called_found ps cs (lookup ps (map entry_of xs) c m) k e in
    let r = row_found ps xs c m k p.0 in
    (r, p.1 r.row r.is)

-- what is done with it
pub callee_then : {Y : Type 0} (ps : List ℕ) (xs : List Entry) (c m : ℕ) (cs : List ℕ) (k : ℕ) (d : Entry) (F : EntryDef → Tested Y) → Ok k ≡ answered (λ f. f.number) (callee ps (map entry_of xs) c m cs) → F (entry_of (get_or xs k d)) ≡ then (callee ps (map entry_of xs) c m cs) (λ f. F f.entry)
callee_then ps xs c m cs k d F e =
    let p = callee_row ps xs c m cs k e in
    ap F (sym (p.0.at d)) ∙ ap (λ t. then t (λ f. F f.entry)) (sym p.1)
