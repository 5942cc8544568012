-- The sweeps of a filling, one after the other.
use Rattle.std.proofs.Common.{◌≡◌, ℕ, zero, suc, ◌+◌, ◌-◌, ◌<◌, ◌≤◌, min, true, false, cond, List, ◌∷◌, map, length, replicate, None, Ok, Err, Option, Result, sym, refl, ap, ◌∙◌, arith}
use Rattle.std.proofs.lemmas.List.{length-map}
use Rattle.std.proofs.lemmas.Bool.{cond-true, cond-false}
use Rattle.semantics.specs.declared.method.Label.{Label}
use Rattle.semantics.specs.declared.refusal.Refusal.{Refusal}
use Rattle.semantics.specs.declared.refusal.Refusal.TheVariants.{Unreached}
use Rattle.semantics.specs.Entries.{EntryDef}
use Rattle.semantics.specs.Fill.{Table, Sweep, Filled, finished, sweep_of, fill_on}
use Rattle.semantics.specs.Methods.{MethodDef, label_of}
use Rattle.semantics.specs.Reading.{so}
use Rattle.verifier.specs.Answers.{row_of}
use Rattle.filler.specs.Sweeps.{Row}

map_none : (n : ℕ) → map (row_of {N = 8}) (replicate n None) ≡ replicate n None
map_none zero = refl
map_none (suc n) = ap (λ x. None ∷ x) (map_none n)

fill_sweep : (ps : List ℕ) (es : List EntryDef) (m : MethodDef) (n k : ℕ) (t : Table) → fill_on ps es m (suc n) k t ≡ so (sweep_of ps es m t) (λ s. cond s.altered (fill_on ps es m n (k + 1) s.table) (finished (k + 1) s))
unfolding fill_on
fill_sweep ps es m n k t = refl

fill_out : (ps : List ℕ) (es : List EntryDef) (m : MethodDef) (k : ℕ) (t : Table) → fill_on ps es m zero k t ≡ Err (Unreached 0)
unfolding fill_on
fill_out ps es m k t = refl

-- of n sweeps k are made, and the next gives r
fill_next : (ps : List ℕ) (es : List EntryDef) (m : MethodDef) (n k : ℕ) (t : Table) (r : Result Sweep Refusal) → k < n → r ≡ sweep_of ps es m t → so r (λ s. cond s.altered (fill_on ps es m (n - (k + 1)) (k + 1) s.table) (finished (k + 1) s)) ≡ fill_on ps es m (n - k) k t
fill_next ps es m n k t r h e =
    let f : suc (n - (k + 1)) ≡ n - k = omega arith in
    ap (λ y. so y (λ s. cond s.altered (fill_on ps es m (n - (k + 1)) (k + 1) s.table) (finished (k + 1) s))) e
    ∙ sym (fill_sweep ps es m (n - (k + 1)) k t) ∙ ap (λ y. fill_on ps es m y k t) f

pub fill_more : (ps : List ℕ) (es : List EntryDef) (m : MethodDef) (n k : ℕ) (t : Table) (s : Sweep) (all : Result Filled Refusal) → k < n → Ok s ≡ sweep_of ps es m t → s.altered ≡ true → fill_on ps es m (n - k) k t ≡ all → fill_on ps es m (n - (k + 1)) (k + 1) s.table ≡ all
fill_more ps es m n k t s all h e a inv = sym (cond-true _ _ _ a) ∙ fill_next ps es m n k t (Ok s) h e ∙ inv

pub fill_done : (ps : List ℕ) (es : List EntryDef) (m : MethodDef) (n k : ℕ) (t : Table) (s : Sweep) (all : Result Filled Refusal) → k < n → Ok s ≡ sweep_of ps es m t → s.altered ≡ false → fill_on ps es m (n - k) k t ≡ all → finished (k + 1) s ≡ all
fill_done ps es m n k t s all h e a inv = sym (cond-false _ _ _ a) ∙ fill_next ps es m n k t (Ok s) h e ∙ inv

pub fill_breaks : (ps : List ℕ) (es : List EntryDef) (m : MethodDef) (n k : ℕ) (t : Table) (d : Refusal) (all : Result Filled Refusal) → k < n → Err d ≡ sweep_of ps es m t → fill_on ps es m (n - k) k t ≡ all → Err d ≡ all
fill_breaks ps es m n k t d all h e inv = fill_next ps es m n k t (Err d) h e ∙ inv

pub fill_ends : (ps : List ℕ) (es : List EntryDef) (m : MethodDef) (n k : ℕ) (t : Table) (all : Result Filled Refusal) → n ≤ k → fill_on ps es m (n - k) k t ≡ all → Err (Unreached 0) ≡ all
fill_ends ps es m n k t all h inv =
    let z : n - k ≡ zero = omega arith in
    sym (fill_out ps es m k t) ∙ ap (λ y. fill_on ps es m y k t) (sym z) ∙ inv

-- no label has a row at first
pub no_rows : (n k : ℕ) (rows : List (Option Row)) (ls : List Label) → k ≡ length ls → k ≤ n → rows ≡ replicate (min k n) None → map row_of rows ≡ replicate (length (map label_of ls)) None
no_rows n k rows ls e h r =
    let z : min k n ≡ length (map label_of ls) = omega (arith, length-map ls label_of) in
    ap (map row_of) r ∙ map_none (min k n) ∙ ap (λ x. replicate x None) z
