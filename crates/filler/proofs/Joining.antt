-- Rows that are joined, compared and found in a table.
use Rattle.std.proofs.Common.{◌≡◌, ℕ, zero, suc, ◌+◌, ◌<◌, ◌≤◌, min, Bool, IsTrue, not, eqb, ◌||◌, List, [], ◌∷◌, ◌++◌, map, length, get_or, drop, set, Some, None, Option, sym, refl, ap, ◌∙◌, ⊎_elim, append-nil, arith}
use Rattle.std.specs.Option.{MatchOption, unwrap_or}
use Rattle.std.specs.Cmp.Lexicographic.{pointwise}
use Rattle.std.proofs.lemmas.Slice.Eq.{slice_eq-Decides}
use Rattle.std.proofs.lemmas.List.{drop_all, length_push, map-set}
use Rattle.std.proofs.lemmas.Bool.{lt-ltb, cond-true, cases_lt}
use Rattle.semantics.specs.Fill.{row_in, row_or, join_rows, joined_into, alters, comes, comes_to, row_there}
use Rattle.semantics.specs.Fill as fill
use Rattle.semantics.specs.Items.{items_of, pushed}
use Rattle.verifier.specs.Answers.{row_of}
use Rattle.verifier.proofs.NewEntries.{same_list_lem}
use Rattle.filler.specs.Sweeps.{Row, differs}
use Rattle.std.proofs.lemmas.Bool.Decides.{Decides-eqb}

-- an item pushed where there is room
pub pushed_on : {T : Type 0} (n i : ℕ) (xs ys : List T) (x : T) → ys ≡ pushed n xs x → length xs ≡ i → i < n → (ys ≡ xs ++ x ∷ []) × (length ys ≡ i + 1)
pushed_on n i xs ys x e l h =
    let p : ys ≡ xs ++ x ∷ [] = e ∙ cond-true _ _ _ (lt-ltb (length xs) n (omega arith)) in
    (p, omega (arith, ap length p ∙ length_push xs x))

join_none : (ps xs : List ℕ) → join_rows ps xs [] ≡ []
join_none ps [] = refl
join_none ps (x ∷ xs) = refl

join_past : (ps xs ys : List ℕ) (i : ℕ) → min (length xs) (length ys) ≤ i → join_rows ps (drop i xs) (drop i ys) ≡ []
join_past ps xs ys i h =
    ⊎_elim
    (λ k. ap (join_rows ps (drop i xs)) (drop_all i ys (omega arith)) ∙ join_none ps (drop i xs))
    (λ k. ap (λ x. join_rows ps x (drop i ys)) (drop_all i xs k))
    (cases_lt i (length xs))

pub join_end : (ps xs ys acc all : List ℕ) (i : ℕ) → min (length xs) (length ys) ≤ i → acc ++ join_rows ps (drop i xs) (drop i ys) ≡ all → acc ≡ all
join_end ps xs ys acc all i h inv = sym (append-nil acc) ∙ ap (λ x. acc ++ x) (sym (join_past ps xs ys i h)) ∙ inv

-- rows compared
pub differ_by : (old : Option Row) (ts : List ℕ) (r : Bool) (P : Row → Type 0) → ((v : Row) → P v → r ≡ not (pointwise eqb (items_of v) ts)) → MatchOption old (IsTrue r) P → r ≡ differs (row_of old) ts
differ_by None ts r P f h = h
differ_by (Some v) ts r P f h = f v h ∙ ap not (same_list_lem (items_of v) ts (pointwise eqb (items_of v) ts) (slice_eq-Decides Decides-eqb (items_of v) ts (pointwise eqb (items_of v) ts) refl))

-- a row, or the empty one
pub or_empty : (o : Option Row) (e : Row) → items_of e ≡ [] → items_of (unwrap_or o e) ≡ row_or (row_of o)
or_empty None e h = h
or_empty (Some v) e h = refl

pub alters_by : (ps : List ℕ) (o : Option (List ℕ)) (ts : List ℕ) → alters ps o ts ≡ differs o (joined_into ps o ts)
alters_by ps None ts = refl
alters_by ps (Some r) ts = refl

-- a row found in a table
pub row_in_lem : (t : List (Option Row)) (n : ℕ) → row_of (get_or t n None) ≡ row_in (map row_of t) n
row_in_lem [] n = refl
row_in_lem (r ∷ t) zero = refl
row_in_lem (r ∷ t) (suc n) = row_in_lem t n

-- a row that comes to the label n
pub comes_by : (ps ts : List ℕ) (n : ℕ) (t t' : List (Option Row)) (b d b' : Bool) (q : Option ℕ) (old : Option Row) (new : Row)
    → old ≡ get_or t n None → items_of new ≡ joined_into ps (row_of old) ts → d ≡ differs (row_of old) (items_of new) → t' ≡ set t n (Some new) → b' ≡ (b || d)
    → fill.sweeping (map row_of t') b' q ≡ comes ps ts n (fill.sweeping (map row_of t) b q)
comes_by ps ts n t t' b d b' q old new o e f g h =
    let r : row_of old ≡ row_in (map row_of t) n = ap row_of o ∙ row_in_lem t n in
    let j : items_of new ≡ joined_into ps (row_in (map row_of t) n) ts = e ∙ ap (λ x. joined_into ps x ts) r in
    let k : d ≡ alters ps (row_in (map row_of t) n) ts = f ∙ (λ i. differs (r i) (j i)) ∙ sym (alters_by ps (row_in (map row_of t) n) ts) in
    λ i. fill.sweeping ((ap (map row_of) g ∙ map-set row_of t n (Some new) ∙ ap (λ x. set (map row_of t) n (Some x)) j) i) ((h ∙ ap (λ x. b || x) k) i) q
