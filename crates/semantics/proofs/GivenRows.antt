-- A method with the rows of a table in place of its own: its labels, its rows and its tests.
use Rattle.std.proofs.Common.{◌≡◌, ℕ, zero, suc, ◌+◌, Bool, true, false, cond, eqb, List, [], ◌∷◌, map, length, get_or, Some, None, Ok, Err, Option, sym, refl, ap, ◌∙◌, add-zero, zero-add, arith, MatchResult}
use Rattle.std.proofs.lemmas.Result.{MatchResult-at_ok}
use Rattle.semantics.specs.Check.{label_at_point}
use Rattle.semantics.specs.Entries.{EntryDef}
use Rattle.semantics.specs.Fill.{Table, label_number, with_rows, with_table}
use Rattle.semantics.specs.Methods.{Op, return, jump, jump_if, jump_list, invoke, LabelDef, MethodDef}
use Rattle.semantics.specs.Tests.{Tested, label_row, labels_fit, own_tests}
use Rattle.semantics.specs.Tree.{Tree}
use Rattle.semantics.proofs.RuleTests.{LabelsFit, labels_told}
use Rattle.semantics.proofs.Sweeping.{label_here}

-- x is the label of that number, with the row that f tells of it
abbrev pub Marks : (ℕ → List ℕ) → Option ℕ → Option LabelDef → Type 0
Marks f None x = x ≡ None
Marks f (Some n) x = (l : LabelDef) × (x ≡ Some l) × (l.row ≡ f n)

-- the rows of rs, by number
abbrev pub row_of : List (List ℕ) → ℕ → List ℕ
row_of rs n = get_or rs n []

labels_marked : (f : ℕ → List ℕ) (ls : List LabelDef) (rs : List (List ℕ)) (n p : ℕ) → length rs ≡ length ls → ((k : ℕ) → row_of rs k ≡ f (n + k))
    → Marks f (label_number ls n p) (label_at_point (with_rows ls (map Some rs)) p)
labels_marked f [] rs n p h is = refl
labels_marked f (l ∷ ls) [] n p h is = absurd (omega arith)
labels_marked f (l ∷ ls) (r ∷ rs) n p h is = go (eqb l.point p) (labels_marked f ls rs (n + 1) p (omega arith) (λ k. let e : n + suc k ≡ n + 1 + k = omega arith in rw e at (is (suc k))))
  where
    go : (b : Bool) → Marks f (label_number ls (n + 1) p) (label_at_point (with_rows ls (map Some rs)) p)
        → Marks f (cond b (Some n) (label_number ls (n + 1) p)) (cond b (Some (record { point = l.point; row = r })) (label_at_point (with_rows ls (map Some rs)) p))
    go true rest = (record { point = l.point; row = r }, refl, is 0 ∙ ap f (add-zero n))
    go false rest = rest

pub label_marked : (m : MethodDef) (rs : List (List ℕ)) → length rs ≡ length m.labels → (p : ℕ) → Marks (row_of rs) (label_here m p) (label_at_point (with_table m (map Some rs)).labels p)
label_marked m rs h p = labels_marked (row_of rs) m.labels rs 0 p h (λ k. ap (row_of rs) (sym (zero-add k)))

pub row_given : (ls : List LabelDef) (rs : List (List ℕ)) → length rs ≡ length ls → (n : ℕ) → label_row (with_rows ls (map Some rs)) n ≡ row_of rs n
row_given [] [] h n = refl
row_given [] (r ∷ rs) h n = absurd (omega arith)
row_given (l ∷ ls) [] h n = absurd (omega arith)
row_given (l ∷ ls) (r ∷ rs) h zero = refl
row_given (l ∷ ls) (r ∷ rs) h (suc n) = row_given ls rs (omega arith) n

-- an operation's own tests do not read the label rows
pub own_same : (ps : List ℕ) (es : List EntryDef) (m : MethodDef) (t : Table) (ts : List ℕ) (o : Op) → own_tests ps es (with_table m t) ts o ≡ own_tests ps es m ts o
own_same ps es m t ts (return a) = refl
own_same ps es m t ts (jump n) = refl
own_same ps es m t ts (jump_if a n) = refl
own_same ps es m t ts (jump_list a ns) = refl
own_same ps es m t ts (invoke d a n bs) = refl

-- a row fits those of several labels, as tested and in words
module _ (ps : List ℕ) (tree : Tree ps) (ls : List LabelDef) (ts : List ℕ) where
  abbrev All : List ℕ → Type 0
  All ns = LabelsFit ps tree ls ts ns

  pub labels_fit_lem : (k : ℕ) (ns : List ℕ) → labels_fit ps ls ts k ns ≡ Ok tt → All ns
  labels_fit_lem k ns e = MatchResult-at_ok (λ _. All ns) (λ _. All ns → ⊥) tt e (labels_told ps tree ls ts k ns)

  pub fit_labels : (k : ℕ) (ns : List ℕ) → All ns → labels_fit ps ls ts k ns ≡ Ok tt
  fit_labels k ns all = go (labels_fit ps ls ts k ns) (labels_told ps tree ls ts k ns)
    where
      go : (r : Tested (Unit {0})) → MatchResult r (λ _. All ns) (λ _. All ns → ⊥) → r ≡ Ok tt
      go (Ok u) told = refl
      go (Err d) told = absurd (told all)
