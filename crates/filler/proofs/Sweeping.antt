-- A sweep, one point after the other.
use Rattle.std.proofs.Common.{◌≡◌, ℕ, ◌≤◌, min, false, List, replicate, Some, None, ap, ◌∙◌, arith}
use Rattle.semantics.specs.Check.{zeros}
use Rattle.semantics.specs.Entries.{EntryDef}
use Rattle.semantics.specs.Fill.{Table, sweeping, sweep_from, sweep_of}
use Rattle.semantics.specs.Methods.{Op, MethodDef}

pub sweep_start : (ps : List ℕ) (es : List EntryDef) (m : MethodDef) (t : Table) (row : List ℕ) (os : List Op) (n : ℕ) → n ≡ m.temporaries → n ≤ 8 → row ≡ replicate (min n 8) 0 → os ≡ m.code → sweep_from ps es m 0 (Some row) (sweeping t false None) os ≡ sweep_of ps es m t
unfolding sweep_of
sweep_start ps es m t row os n e h r c =
    let z : row ≡ zeros m.temporaries = r ∙ ap (λ k. replicate k 0) (omega arith) in
    λ j. sweep_from ps es m 0 (Some (z j)) (sweeping t false None) (c j)
