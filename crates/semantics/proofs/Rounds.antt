-- Filling, sweep by sweep: how it ends, and that more sweeps than the table weighs are never made.
use Rattle.std.proofs.Common.{◌≡◌, ℕ, zero, suc, ◌+◌, ◌<◌, ◌≤◌, Bool, true, false, cond, List, Some, None, Ok, Err, Option, Result, refl, arith}
use Rattle.semantics.specs.declared.refusal.Refusal.{Refusal}
use Rattle.semantics.specs.declared.refusal.Refusal.TheVariants.{Unreached}
use Rattle.semantics.specs.Check.{at_row}
use Rattle.semantics.specs.Entries.{EntryDef}
use Rattle.semantics.specs.Fill.{Table, Sweep, sweep_of, Filled, finished, fill_on}
use Rattle.semantics.specs.Methods.{MethodDef}
use Rattle.semantics.specs.Reading.{so}
use Rattle.semantics.proofs.Weights.{weight}

-- how filling ends, where Inv holds of each table on the way and at most n sweeps are made beside the first k
pub data Outcome (ps : List ℕ) (es : List EntryDef) (m : MethodDef) (Inv : Table → Type 0) (n k : ℕ) : Result Filled Refusal → Type 0 where
  filled : {t : Table} {z : Sweep} {j : ℕ} → Inv t → sweep_of ps es m t ≡ Ok z → z.altered ≡ false → z.missed ≡ None → k < j → j ≤ k + n
      → Outcome ps es m Inv n k (Ok (record { table = z.table; sweeps = j }))
  missed : {t : Table} {z : Sweep} {p : ℕ} → Inv t → sweep_of ps es m t ≡ Ok z → z.altered ≡ false → z.missed ≡ Some p → Outcome ps es m Inv n k (Err (Unreached p))
  fails : {t : Table} {e : Refusal} → Inv t → sweep_of ps es m t ≡ Err e → Outcome ps es m Inv n k (Err e)

module _ (ps : List ℕ) (es : List EntryDef) (m : MethodDef) where
  later : {Inv : Table → Type 0} {n k : ℕ} {r : Result Filled Refusal} → Outcome ps es m Inv n (k + 1) r → Outcome ps es m Inv (suc n) k r
  later (filled i e a q g h) = filled i e a q (omega arith) (omega arith)
  later (missed i e a q) = missed i e a q
  later (fails i e) = fails i e

  module _ (Inv : Table → Type 0) (next : (t : Table) (z : Sweep) → Inv t → sweep_of ps es m t ≡ Ok z → Inv z.table × (z.altered ≡ true → weight ps z.table < weight ps t)) where
    pub fill_ends : (n k : ℕ) (t : Table) → weight ps t < n → Inv t → Outcome ps es m Inv n k (fill_on ps es m n k t)
    unfolding fill_on
    fill_ends zero k t light i = absurd (omega arith)
    fill_ends (suc n) k t light i = go (sweep_of ps es m t) refl (λ z h j. fill_ends n (k + 1) z.table h j)
      where
        done : (z : Sweep) → sweep_of ps es m t ≡ Ok z → z.altered ≡ false → (q : Option ℕ) → z.missed ≡ q
            → Outcome ps es m Inv (suc n) k (at_row q (Ok (record { table = z.table; sweeps = k + 1 })) (λ p. Err (Unreached p)))
        done z e a None is = filled i e a is (omega arith) (omega arith)
        done z e a (Some p) is = missed i e a is

        turn : (z : Sweep) → sweep_of ps es m t ≡ Ok z → (b : Bool) → z.altered ≡ b
            → ((z : Sweep) → weight ps z.table < n → Inv z.table → Outcome ps es m Inv n (k + 1) (fill_on ps es m n (k + 1) z.table))
            → Outcome ps es m Inv (suc n) k (cond b (fill_on ps es m n (k + 1) z.table) (finished (k + 1) z))
        turn z e true is more = let x = next t z i e in let l = x.1 is in later (more z (omega arith) x.0)
        turn z e false is more = done z e is z.missed refl

        go : (r : Result Sweep Refusal) → sweep_of ps es m t ≡ r
            → ((z : Sweep) → weight ps z.table < n → Inv z.table → Outcome ps es m Inv n (k + 1) (fill_on ps es m n (k + 1) z.table))
            → Outcome ps es m Inv (suc n) k (so r (λ s. cond s.altered (fill_on ps es m n (k + 1) s.table) (finished (k + 1) s)))
        go (Ok z) is more = turn z is z.altered refl more
        go (Err e) is more = fails i is

    -- with more sweeps allowed than the table weighs, it does not matter how many
    pub fill_enough : (n j k : ℕ) (t : Table) → weight ps t < n → weight ps t < j → Inv t → fill_on ps es m n k t ≡ fill_on ps es m j k t
    unfolding fill_on
    fill_enough zero j k t light least i = absurd (omega arith)
    fill_enough (suc n) zero k t light least i = absurd (omega arith)
    fill_enough (suc n) (suc j) k t light least i = go (sweep_of ps es m t) refl (λ z h g x. fill_enough n j (k + 1) z.table h g x)
      where
        turn : (z : Sweep) → sweep_of ps es m t ≡ Ok z → (b : Bool) → z.altered ≡ b
            → ((z : Sweep) → weight ps z.table < n → weight ps z.table < j → Inv z.table → fill_on ps es m n (k + 1) z.table ≡ fill_on ps es m j (k + 1) z.table)
            → cond b (fill_on ps es m n (k + 1) z.table) (finished (k + 1) z) ≡ cond b (fill_on ps es m j (k + 1) z.table) (finished (k + 1) z)
        turn z e true is more = let x = next t z i e in let l = x.1 is in more z (omega arith) (omega arith) x.0
        turn z e false is more = refl

        go : (r : Result Sweep Refusal) → sweep_of ps es m t ≡ r
            → ((z : Sweep) → weight ps z.table < n → weight ps z.table < j → Inv z.table → fill_on ps es m n (k + 1) z.table ≡ fill_on ps es m j (k + 1) z.table)
            → so r (λ s. cond s.altered (fill_on ps es m n (k + 1) s.table) (finished (k + 1) s)) ≡ so r (λ s. cond s.altered (fill_on ps es m j (k + 1) s.table) (finished (k + 1) s))
        go (Ok z) is more = turn z is z.altered refl more
        go (Err e) is more = refl
