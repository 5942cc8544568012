-- Values and their classes: operands, rows, places that a value is put in, and the first temporaries.
use Rattle.std.proofs.Common.{◌≡◌, ℕ, zero, suc, ◌+◌, ◌<◌, true, ◌&&◌, List, [], ◌∷◌, map, length, get_or, set, replicate, Some, Ok, sym, refl, ap, ◌∙◌, subst, arith}
use lib.ListN.{get_or-map}
use Rattle.std.specs.List.{slice_get}
use Rattle.std.proofs.lemmas.List.{map-set, set-get_or}
use Rattle.std.proofs.lemmas.Bool.{and_from}
use Rattle.semantics.specs.declared.misfit.Misfit.TheVariants as misfit
use Rattle.semantics.specs.declared.operation.Operand.{Operand}
use Rattle.semantics.specs.declared.operation.Operand.TheVariants as operand
use Rattle.semantics.specs.declared.value.Value.{Value}
use Rattle.semantics.specs.Check.{zeros}
use Rattle.semantics.specs.Hosts.{zero_value}
use Rattle.semantics.specs.Lists.{At, here, there}
use Rattle.semantics.specs.Methods.{LabelDef}
use Rattle.semantics.specs.Rows.{row_fits}
use Rattle.semantics.specs.Runs.{FrameDef, kind_of, operand_value}
use Rattle.semantics.specs.Tests.{operand_class, classes_fit, label_row, arguments_fit, cells_fit, labels_fit, then, demand}
use Rattle.semantics.specs.Tree.{Tree, fits}
use Rattle.semantics.proofs.Arrivals.{from_none, same_some}
use Rattle.semantics.proofs.Lowering.{classes_set}
use Rattle.semantics.proofs.Testing.{demanded}
use Rattle.semantics.proofs.TreeOrder.{fits_same}

-- the classes of values
abbrev pub kinds : List Value → List ℕ
kinds vs = map kind_of vs

-- items by number
pub get_d_at : {X : Type 0} (xs : List X) (k : ℕ) (d : X) → k < length xs → At xs k (get_or xs k d)
get_d_at [] k d h = absurd (omega arith)
get_d_at (x ∷ xs) zero d h = here
get_d_at (x ∷ xs) (suc k) d h = there (get_d_at xs k d (omega arith))

pub at_get_d : {X : Type 0} {xs : List X} {k : ℕ} {x : X} (d : X) → At xs k x → get_or xs k d ≡ x
at_get_d d here = refl
at_get_d d (there a) = at_get_d d a

pub at_nth : {X : Type 0} {xs : List X} {k : ℕ} {x : X} → At xs k x → slice_get xs k ≡ Some x
at_nth here = refl
at_nth (there a) = at_nth a

pub nth_at : {X : Type 0} (xs : List X) (k : ℕ) {x : X} → slice_get xs k ≡ Some x → At xs k x
nth_at [] k e = from_none e
nth_at (y ∷ ys) zero e = subst (At (y ∷ ys) 0) (same_some e) here
nth_at (y ∷ ys) (suc k) e = there (nth_at ys k e)

pub at_map : {X Y : Type 0} (f : X → Y) {xs : List X} {k : ℕ} {x : X} → At xs k x → At (map f xs) k (f x)
at_map f here = here
at_map f (there a) = there (at_map f a)

pub at_row_lem : {ls : List LabelDef} {n : ℕ} {l : LabelDef} → At ls n l → label_row ls n ≡ l.row
at_row_lem here = refl
at_row_lem (there a) = at_row_lem a

-- operands
pub value_class : (f : FrameDef) (a : Operand) → kind_of (operand_value f a) ≡ operand_class (kinds f.locals) (kinds f.temporaries) a
value_class f (operand.Local n) = sym (get_or-map kind_of f.locals n zero_value)
value_class f (operand.Temporary n) = sym (get_or-map kind_of f.temporaries n zero_value)
value_class f (operand.Constant z) = refl

pub value_classes : (f : FrameDef) (bs : List Operand) → kinds (map (operand_value f) bs) ≡ map (operand_class (kinds f.locals) (kinds f.temporaries)) bs
value_classes f [] = refl
value_classes f (b ∷ bs) = λ i. value_class f b i ∷ value_classes f bs i

-- rows of values
pub row_kinds : (ps : List ℕ) (vs : List Value) (us : List ℕ) → row_fits ps kind_of (λ c. c) vs us ≡ classes_fit ps (kinds vs) us
row_kinds ps [] [] = refl
row_kinds ps [] (u ∷ us) = refl
row_kinds ps (v ∷ vs) [] = refl
row_kinds ps (v ∷ vs) (u ∷ us) = ap (λ b. fits ps (kind_of v) u && b) (row_kinds ps vs us)

pub cells_kinds : (ps : List ℕ) (ls : List LabelDef) (vs : List Value) (k : ℕ) (ns : List ℕ) → cells_fit ps kind_of ls vs k ns ≡ labels_fit ps ls (kinds vs) k ns
cells_kinds ps ls vs k [] = refl
cells_kinds ps ls vs k (n ∷ ns) = λ i. then (demand (row_kinds ps vs (label_row ls n) i) (misfit.Row k)) (λ _. cells_kinds ps ls vs (k + 1) ns i)

-- a row that fits all labels that are named fits each
pub label_fits : (ps : List ℕ) (ls : List LabelDef) (ts : List ℕ) (k : ℕ) {ns : List ℕ} {i n : ℕ} → labels_fit ps ls ts k ns ≡ Ok tt → At ns i n → classes_fit ps ts (label_row ls n) ≡ true
label_fits ps ls ts k e (here {x = n}) = (demanded (classes_fit ps ts (label_row ls n)) (misfit.Row k) _ e).0
label_fits ps ls ts k e (there {y = n} a) = label_fits ps ls ts (k + 1) (demanded (classes_fit ps ts (label_row ls n)) (misfit.Row k) _ e).1 a

-- arguments that are taken fit
pub arguments_fit_lem : (ps : List ℕ) (k : ℕ) (cs as' : List ℕ) → length cs ≡ length as' → arguments_fit ps k cs as' ≡ Ok tt → classes_fit ps cs as' ≡ true
arguments_fit_lem ps k [] [] n e = refl
arguments_fit_lem ps k [] (a ∷ as') n e = absurd (omega arith)
arguments_fit_lem ps k (c ∷ cs) [] n e = absurd (omega arith)
arguments_fit_lem ps k (c ∷ cs) (a ∷ as') n e =
    let p = demanded (fits ps c a) (misfit.Argument k) _ e in
    and_from (fits ps c a) (classes_fit ps cs as') p.0 (arguments_fit_lem ps (k + 1) cs as' (omega arith) p.1)

-- a value that is put into a place
module _ (ps : List ℕ) (t : Tree ps) where
  pub put_fits : (vs : List Value) (us : List ℕ) (n : ℕ) (v : Value) (c : ℕ) → fits ps (kind_of v) c ≡ true → classes_fit ps (kinds vs) us ≡ true → classes_fit ps (kinds (set vs n v)) (set us n c) ≡ true
  put_fits vs us n v c e h = ap (λ xs. classes_fit ps xs (set us n c)) (map-set kind_of vs n v) ∙ classes_set ps t (kinds vs) us n (kind_of v) c e h

  pub put_kept : (vs : List Value) (us : List ℕ) (n : ℕ) (v : Value) → fits ps (kind_of v) (get_or us n 0) ≡ true → classes_fit ps (kinds vs) us ≡ true → classes_fit ps (kinds (set vs n v)) us ≡ true
  put_kept vs us n v e h = ap (classes_fit ps (kinds (set vs n v))) (sym (set-get_or us n 0)) ∙ put_fits vs us n v (get_or us n 0) e h

  -- temporaries at first
  pub zeros_fit : (n : ℕ) → classes_fit ps (kinds (replicate n zero_value)) (zeros n) ≡ true
  zeros_fit zero = refl
  zeros_fit (suc n) = and_from (fits ps 0 0) _ (fits_same ps t 0 t.some) (zeros_fit n)
