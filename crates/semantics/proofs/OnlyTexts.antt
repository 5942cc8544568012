-- What it is that a value is read from its only text, and what a good result tells of its parts.
use Rattle.std.proofs.Common.{◌≡◌, ℕ, Bool, true, false, cond, List, Ok, Err, Result, sym, refl, ◌∙◌, ⊎_elim, arith}
use Rattle.std.proofs.lemmas.Bool.{cases_Bool, cond-true, cond-false}
use Rattle.semantics.specs.Pieces.{Piece}
use Rattle.semantics.specs.Values.{Said, mapped, both}

-- says tells an x of P from just what shows the text of x
pub record Reads {I S X : Type 0} (shown : I → S) (P : X → Type 0) (text : X → S) (says : I → Said X) : Type 0 where
  pub forth : (v : I) (x : X) → shown v ≡ text x → P x → says v ≡ Ok x
  pub back : (v : I) (x : X) → says v ≡ Ok x → (shown v ≡ text x) × P x

abbrev pub bytes : Piece → List ℕ
bytes v = v.held

pub from_err : {X E Q : Type 0} {e : E} {x : X} → ◌≡◌ {A = Result X E} (Err e) (Ok x) → Q
from_err h = let z : ◌≡◌ {A = ℕ} 0 1 = cc in absurd (omega arith)

pub same_ok : {X E : Type 0} {x y : X} → ◌≡◌ {A = Result X E} (Ok x) (Ok y) → x ≡ y
same_ok h = cc

pub from_cond : {A Q : Type 0} (b : Bool) (x y z : A) → cond b x y ≡ z → (b ≡ true → x ≡ z → Q) → (b ≡ false → y ≡ z → Q) → Q
from_cond b x y z e then else = ⊎_elim (λ t. then t (sym (cond-true b x y t) ∙ e)) (λ f. else f (sym (cond-false b x y f) ∙ e)) (cases_Bool b)

pub from_mapped : {X Y : Type 0} (Q : Y → Type 0) (f : X → Y) (r : Said X) (y : Y) → mapped f r ≡ Ok y → ((x : X) → r ≡ Ok x → Q (f x)) → Q y
from_mapped Q f (Ok x) y e told = let s : f x ≡ y = same_ok e in rw s at (told x refl)
from_mapped Q f (Err d) y e told = from_err e

pub from_both : {X Y : Type 0} (r : Said X) (s : Said Y) (z : X × Y) → both r s ≡ Ok z → (r ≡ Ok z.0) × (s ≡ Ok z.1)
from_both {X} {Y} (Ok x) (Ok y) z e = let s : ◌≡◌ {A = X × Y} (x, y) z = same_ok e in ((λ i. Ok (s i).0), (λ i. Ok (s i).1))
from_both (Ok x) (Err f) z e = from_err e
from_both (Err d) (Ok y) z e = from_err e
from_both (Err d) (Err f) z e = from_err e
