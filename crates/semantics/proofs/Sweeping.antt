-- What a sweep does, point by point; one that alters nothing is told by its table alone.
use Rattle.std.proofs.Common.{◌≡◌, ℕ, suc, ◌+◌, ◌<◌, false, eqb, List, [], ◌∷◌, map, length, Some, None, Ok, Option, Result, sym, refl, ap, ◌∙◌, subst, add-zero, zero-add, arith}
use Rattle.semantics.specs.declared.refusal.Refusal.{Refusal}
use Rattle.std.proofs.lemmas.Bool.{eqb-true}
use Rattle.semantics.specs.Check.{carried, at_row, tested_at}
use Rattle.semantics.specs.Entries.{EntryDef}
use Rattle.semantics.specs.Fill.{Table, row_in, Sweep, comes_to, label_number, falls_into, row_there, lowest, passed_over, sweep_from}
use Rattle.semantics.specs.Form.{leaves, target}
use Rattle.semantics.specs.FormLaws.{WellFormed}
use Rattle.semantics.specs.Lists.{At, here, there}
use Rattle.semantics.specs.Methods.{Each, Op, return, jump, jump_if, jump_list, invoke, LabelDef, MethodDef}
use Rattle.semantics.specs.Passes.{Path, here, on, to}
use Rattle.semantics.specs.Reading.{so}
use Rattle.semantics.specs.Tests.{own_tests, named_labels}
use Rattle.semantics.proofs.Arrivals.{from_none, same_some}
use Rattle.semantics.proofs.LineTexts.{from_so, so_ok}
use Rattle.semantics.proofs.OnlyTexts.{from_cond, same_ok}
use Rattle.semantics.proofs.Testing.{tested_ok, tested_pass}
use Rattle.semantics.proofs.Weights.{FitsIn, Arrives}

at_map : {X Y : Type 0} (f : X → Y) {xs : List X} {k : ℕ} {x : X} → At xs k x → At (map f xs) k (f x)
at_map f here = here
at_map f (there a) = there (at_map f a)

-- the operations os stand in the method from the point p on
abbrev pub Within : MethodDef → ℕ → List Op → Type 0
Within m p os = (k : ℕ) (o : Op) → At os k o → At m.code (p + k) o

pub within_head : (m : MethodDef) (p : ℕ) (o : Op) (os : List Op) → Within m p (o ∷ os) → At m.code p o
within_head m p o os all = rw add-zero at (all 0 o here)

pub within_tail : (m : MethodDef) (p : ℕ) (o : Op) (os : List Op) → Within m p (o ∷ os) → Within m (p + 1) os
within_tail m p o os all k x a = let e : p + suc k ≡ p + 1 + k = omega arith in rw e at (all (suc k) x (there a))

pub within_all : (m : MethodDef) → Within m 0 m.code
within_all m k o a = rw zero-add a

-- labels by their points
pub label_at : (ls : List LabelDef) (i p n : ℕ) → label_number ls i p ≡ Some n → (k : ℕ) × (l : LabelDef) × (n ≡ i + k) × At ls k l × (l.point ≡ p)
label_at [] i p n e = from_none e
label_at (l ∷ ls) i p n e = from_cond (eqb l.point p) (Some i) (label_number ls (i + 1) p) (Some n) e
    (λ t s. (0, l, sym (add-zero i ∙ same_some s), here, eqb-true l.point p t))
    (λ f s. let r = label_at ls (i + 1) p n s in (suc r.0, r.1, (let q = r.2 in omega arith), there r.3, r.4))

abbrev pub label_here : MethodDef → ℕ → Option ℕ
label_here m p = label_number m.labels 0 p

pub label_here_lem : (m : MethodDef) (p n : ℕ) → label_here m p ≡ Some n → (l : LabelDef) × At m.labels n l × (l.point ≡ p)
label_here_lem m p n e = let r = label_at m.labels 0 p n e in let same : r.0 ≡ n = (let q = r.2 in omega arith) in (r.1, rw same at r.3, r.4)

pub named_below : (m : MethodDef) → WellFormed m → (p : ℕ) (o : Op) → At m.code p o → (k n : ℕ) → At (named_labels o) k n → n < length m.labels
named_below m w p (return a) at k n b = elim b [ ]
named_below m w p (jump i) at k n here = w.named p (jump i) at 0 (target i) here
named_below m w p (jump i) at k n (there b) = elim b [ ]
named_below m w p (jump_if a i) at k n here = w.named p (jump_if a i) at 1 (target i) (there here)
named_below m w p (jump_if a i) at k n (there b) = elim b [ ]
named_below m w p (jump_list a ns) at k n b = w.named p (jump_list a ns) at (suc k) (target n) (there (at_map target b))
named_below m w p (invoke d a i bs) at k n b = elim b [ ]

pub path_further : (m : MethodDef) {p q r : ℕ} → Path m p q → Path m q r → Path m p r
path_further m here b = b
path_further m (on at l a) b = on at l (path_further m a b)
path_further m (to at n l a) b = to at n l (path_further m a b)

pub carried_some : (o : Op) (us vs : List ℕ) → carried o us ≡ Some vs → (leaves o ≡ false) × (us ≡ vs)
carried_some o us vs e = from_cond (leaves o) None (Some us) (Some vs) e (λ t s. from_none s) (λ f s. (f, same_some s))

-- a sweep from the point p on
pub data Run (ps : List ℕ) (es : List EntryDef) (m : MethodDef) : ℕ → Option (List ℕ) → Sweep → List Op → Sweep → Type 0 where
  end : {p : ℕ} {current : Option (List ℕ)} {s : Sweep} → Run ps es m p current s [] s
  over : {p : ℕ} {current : Option (List ℕ)} {s z : Sweep} {o : Op} {os : List Op}
      → row_there (label_here m p) current (falls_into ps (label_here m p) current s) ≡ None
      → Run ps es m (p + 1) None (passed_over p (falls_into ps (label_here m p) current s)) os z
      → Run ps es m p current s (o ∷ os) z
  at : {p : ℕ} {current : Option (List ℕ)} {s z : Sweep} {o : Op} {os : List Op} {ts us : List ℕ}
      → row_there (label_here m p) current (falls_into ps (label_here m p) current s) ≡ Some ts
      → own_tests ps es m ts o ≡ Ok us
      → Run ps es m (p + 1) (carried o us) (comes_to ps ts (named_labels o) (falls_into ps (label_here m p) current s)) os z
      → Run ps es m p current s (o ∷ os) z

pub sweep_runs : (ps : List ℕ) (es : List EntryDef) (m : MethodDef) (p : ℕ) (current : Option (List ℕ)) (s : Sweep) (os : List Op) (z : Sweep) → sweep_from ps es m p current s os ≡ Ok z → Run ps es m p current s os z
sweep_runs ps es m p current s [] z e = subst (Run ps es m p current s []) (same_ok e) end
sweep_runs ps es m p current s (o ∷ os) z e = go (row_there (label_here m p) current (falls_into ps (label_here m p) current s)) refl e (λ c a. sweep_runs ps es m (p + 1) c a os z)
  where
    go : (r : Option (List ℕ)) → row_there (label_here m p) current (falls_into ps (label_here m p) current s) ≡ r
        → at_row r (sweep_from ps es m (p + 1) None (passed_over p (falls_into ps (label_here m p) current s)) os)
        (λ ts. so (tested_at p (own_tests ps es m ts o)) (λ us. sweep_from ps es m (p + 1) (carried o us) (comes_to ps ts (named_labels o) (falls_into ps (label_here m p) current s)) os))
        ≡ Ok z
        → ((c : Option (List ℕ)) (a : Sweep) → sweep_from ps es m (p + 1) c a os ≡ Ok z → Run ps es m (p + 1) c a os z)
        → Run ps es m p current s (o ∷ os) z
    go None is d more = over is (more None _ d)
    go (Some ts) is d more =
        let k = from_so (tested_at p (own_tests ps es m ts o)) _ z d in
        at is (tested_ok p (own_tests ps es m ts o) k.1) (more (carried o k.0) _ k.2)

-- the same read the other way: one point of a sweep
module _ (ps : List ℕ) (es : List EntryDef) (m : MethodDef) (p : ℕ) (current : Option (List ℕ)) (s : Sweep) (o : Op) (os : List Op) where
  abbrev Behind : Option (List ℕ) → Result Sweep Refusal
  Behind r = at_row r (sweep_from ps es m (p + 1) None (passed_over p (falls_into ps (label_here m p) current s)) os)
      (λ ts. so (tested_at p (own_tests ps es m ts o)) (λ us. sweep_from ps es m (p + 1) (carried o us) (comes_to ps ts (named_labels o) (falls_into ps (label_here m p) current s)) os))

  pub sweep_over : row_there (label_here m p) current (falls_into ps (label_here m p) current s) ≡ None
      → sweep_from ps es m p current s (o ∷ os) ≡ sweep_from ps es m (p + 1) None (passed_over p (falls_into ps (label_here m p) current s)) os
  sweep_over is = ap Behind is

  pub sweep_at : (ts us : List ℕ) → row_there (label_here m p) current (falls_into ps (label_here m p) current s) ≡ Some ts → own_tests ps es m ts o ≡ Ok us
      → sweep_from ps es m p current s (o ∷ os) ≡ sweep_from ps es m (p + 1) (carried o us) (comes_to ps ts (named_labels o) (falls_into ps (label_here m p) current s)) os
  sweep_at ts us is e = ap Behind is ∙ so_ok (λ us. sweep_from ps es m (p + 1) (carried o us) (comes_to ps ts (named_labels o) (falls_into ps (label_here m p) current s)) os) (tested_pass p e)

-- the row at a labelled or unlabelled point, by the table
abbrev pub row_here : Table → Option ℕ → Option (List ℕ) → Option (List ℕ)
row_here t None current = current
row_here t (Some n) current = row_in t n

pub row_there_lem : (label : Option ℕ) (current : Option (List ℕ)) (s : Sweep) → row_there label current s ≡ row_here s.table label current
row_there_lem None current s = refl
row_there_lem (Some n) current s = refl

-- a sweep that alters nothing in the table t: every row that comes somewhere fits the row there, and the points with a row have a path from point 0
pub data Quiet (ps : List ℕ) (es : List EntryDef) (m : MethodDef) (t : Table) : ℕ → Option (List ℕ) → List Op → Option ℕ → Option ℕ → Type 0 where
  end : {p : ℕ} {current : Option (List ℕ)} {q : Option ℕ} → Quiet ps es m t p current [] q q
  over : {p : ℕ} {current : Option (List ℕ)} {o : Op} {os : List Op} {q r : Option ℕ}
      → Arrives ps (label_here m p) current t → row_here t (label_here m p) current ≡ None
      → Quiet ps es m t (p + 1) None os (lowest q p) r → Quiet ps es m t p current (o ∷ os) q r
  at : {p : ℕ} {current : Option (List ℕ)} {o : Op} {os : List Op} {q r : Option ℕ} {ts us : List ℕ}
      → Arrives ps (label_here m p) current t → row_here t (label_here m p) current ≡ Some ts
      → Path m 0 p → own_tests ps es m ts o ≡ Ok us → Each (FitsIn ps ts t) (named_labels o)
      → Quiet ps es m t (p + 1) (carried o us) os q r → Quiet ps es m t p current (o ∷ os) q r
