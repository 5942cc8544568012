-- The points of the check, one after the other.
use Rattle.std.proofs.Common.{◌≡◌, ℕ, ◌+◌, ◌≤◌, min, List, ◌∷◌, map, drop, replicate, Some, None, Ok, Option, Result, refl, ap, ◌∙◌, arith}
use Rattle.semantics.specs.declared.operation.Operation.{Operation}
use Rattle.semantics.specs.declared.refusal.Refusal.{Refusal}
use Rattle.semantics.specs.Check.{arrived, at_row, carried, label_at_point, point_tests, tested_at, check_from, check_of}
use Rattle.semantics.specs.Entries.{EntryDef}
use Rattle.semantics.specs.Form.{Formed}
use Rattle.semantics.specs.Methods.{Op, MethodDef, op_of}
use Rattle.semantics.specs.Reading.{so}
use Rattle.semantics.specs.Tests.{Tested, then, own_tests, named_labels, first_label, labels_fit, cells_fit}
use Rattle.verifier.proofs.LabelRows.{classes_are_cells}
use Rattle.verifier.specs.Points.{tested_row, checked}
use Rattle.semantics.proofs.Walks.{walk_step, so_so}

-- an operation's own tests, then its labels'
pub tests_by : (ps : List ℕ) (es : List EntryDef) (m : MethodDef) (ts : List ℕ) (o : Op) (us : List ℕ) (t : Tested (Unit {0})) → Ok us ≡ own_tests ps es m ts o → t ≡ cells_fit ps (λ c. c) m.labels ts (first_label o) (named_labels o) → then t (λ _. Ok us) ≡ point_tests ps es m ts o
tests_by ps es m ts o us t e f =
    ap (λ r. then r (λ _. Ok us)) (f ∙ classes_are_cells ps m.labels ts (first_label o) (named_labels o))
    ∙ ap (λ r. then r (λ vs. then (labels_fit ps m.labels ts (first_label o) (named_labels o)) (λ _. Ok vs))) e

row_on : {Y : Type 0} (c : Option (List ℕ)) (f : List ℕ → Result (Option (List ℕ)) Refusal) (h : Option (List ℕ) → Result Y Refusal) → at_row c (h None) (λ ts. so (f ts) h) ≡ so (at_row c (Ok None) f) h
row_on None f h = refl
row_on (Some ts) f h = refl

-- a point, and then those behind it
pub check_more : (ps : List ℕ) (es : List EntryDef) (m : MethodDef) (p : ℕ) (current : Option (List ℕ)) (o : Op) (os : List Op) → check_from ps es m p current (o ∷ os) ≡ so (checked ps es m p current o) (λ c. check_from ps es m (p + 1) c os)
check_more ps es m p current o os =
    let after = λ (c : Option (List ℕ)). check_from ps es m (p + 1) c os in
    let here : (c : Option (List ℕ)) → at_row c (after None) (λ ts. so (tested_at p (point_tests ps es m ts o)) (λ us. after (carried o us))) ≡ so (at_row c (Ok None) (tested_row ps es m p o)) after =
    λ c. ap (at_row c (after None)) (λ i ts. so_so (tested_at p (point_tests ps es m ts o)) (λ us. Ok (carried o us)) after i) ∙ row_on c (tested_row ps es m p o) after in
    (λ i. so (arrived ps p current (label_at_point m.labels p)) (λ c. here c i))
    ∙ so_so (arrived ps p current (label_at_point m.labels p)) (λ c. at_row c (Ok None) (tested_row ps es m p o)) after

pub check_step : (ps : List ℕ) (es : List EntryDef) (m : MethodDef) (p : ℕ) (current : Option (List ℕ)) (xs : List Operation) (x : Operation) (t : Result (Option (List ℕ)) Refusal) (all : Formed) → drop p xs ≡ x ∷ drop (p + 1) xs → t ≡ checked ps es m p current (op_of x) → check_from ps es m p current (map op_of (drop p xs)) ≡ all → so t (λ c. check_from ps es m (p + 1) c (map op_of (drop (p + 1) xs))) ≡ all
check_step ps es m p current xs x t all at e inv =
    walk_step (λ l. check_from ps es m p current (map op_of l)) (λ r. so r (λ c. check_from ps es m (p + 1) c (map op_of (drop (p + 1) xs)))) xs p x t _ all at e (check_more ps es m p current (op_of x) (map op_of (drop (p + 1) xs))) inv

-- the start of the walk
pub check_starts : (ps : List ℕ) (es : List EntryDef) (m : MethodDef) (code : List Operation) (row : List ℕ) → m.temporaries ≤ 8 → row ≡ replicate (min m.temporaries 8) 0 → map op_of code ≡ m.code → check_from ps es m 0 (Some row) (map op_of code) ≡ check_of ps es m
unfolding check_of
check_starts ps es m code row h e l =
    let k : min m.temporaries 8 ≡ m.temporaries = omega arith in
    λ i. check_from ps es m 0 (Some ((e ∙ ap (λ n. replicate n 0) k) i)) (l i)
