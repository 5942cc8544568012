-- Values whose parts are taken one after the other.
use Rattle.std.proofs.Common.{◌≡◌, ℕ, ◌<◌, ◌≤◌, List, [], ◌∷◌, length, get_or, Ok, Err, sym, refl, ap, ◌∙◌, arith}
use Rattle.std.proofs.lemmas.Bool.{lt-leb, le-leb, cond-true, cond-false}
use Rattle.semantics.specs.declared.refusal.Fault.TheVariants.{Malformed, OutOfRange}
use Rattle.semantics.specs.declared.operation.Operand.{Operand}
use Rattle.semantics.specs.declared.operation.Destination.{Destination}
use Rattle.semantics.specs.Methods.{Op, jump_if, jump_list}
use Rattle.semantics.specs.Pieces.{Piece, parted}
use Rattle.semantics.specs.Values.{Said, mapped, both, list_on, list_of, number_at, operand_at, destination_at, jump_if_of, jump_list_of, invocation, invoke_of, label, row_at, label_parts, lettered, operation_of, operation_at}
use Rattle.text.specs.Parts.{taken, rest, ended}

-- a part that is due, and then what is said of it and of the parts behind it
abbrev pub with_part : {X : Type 0} → List Piece → (Piece → List Piece → Said X) → Said X
with_part [] says = Err Malformed
with_part (v ∷ vs) says = says v vs

-- no part is left
abbrev pub at_end : {X : Type 0} → List Piece → Said X → Said X
at_end [] s = s
at_end (v ∷ vs) s = Err Malformed

pub part_ok : {X : Type 0} (v : Piece) (L L' : List Piece) (says : Piece → List Piece → Said X) → Ok v ≡ taken L → L' ≡ rest L → with_part L says ≡ says v L'
part_ok v [] L' says e l = let z : ◌≡◌ {A = ℕ} 0 1 = cc in absurd (omega arith)
part_ok v (w ∷ ws) L' says e l = let k : w ≡ v = cc in λ i. says (k i) (sym l i)

pub end_ok : {X : Type 0} (u : Unit {0}) (L : List Piece) (s : Said X) → Ok u ≡ ended L → at_end L s ≡ s
end_ok u [] s e = refl
end_ok u (v ∷ vs) s e = let z : ◌≡◌ {A = ℕ} 0 1 = cc in absurd (omega arith)

-- the values by their parts
pub jump_if_by : (L : List Piece) → jump_if_of L ≡ with_part L (λ a L'. with_part L' (λ n L''. at_end L'' (mapped (λ x. jump_if x.0 x.1) (both (operand_at a) (number_at 63 n)))))
jump_if_by [] = refl
jump_if_by (a ∷ []) = refl
jump_if_by (a ∷ n ∷ []) = refl
jump_if_by (a ∷ n ∷ b ∷ vs) = refl

-- the labels of a jump list, one at least
abbrev pub listed_for : Piece → List Piece → Said Op
listed_for a [] = Err Malformed
listed_for a (n ∷ ns) = mapped (λ x. jump_list x.0 x.1) (both (operand_at a) (list_of 8 (number_at 63) (n ∷ ns)))

pub jump_list_by : (L : List Piece) → jump_list_of L ≡ with_part L listed_for
jump_list_by [] = refl
jump_list_by (a ∷ []) = refl
jump_list_by (a ∷ n ∷ ns) = refl

pub invoke_by : (L : List Piece) → invoke_of L ≡ with_part L (λ d L'. with_part L' (λ a L''. with_part L'' (λ m bs. mapped invocation (both (destination_at d) (both (operand_at a) (both (number_at 255 m) (list_of 7 operand_at bs)))))))
invoke_by [] = refl
invoke_by (d ∷ []) = refl
invoke_by (d ∷ a ∷ []) = refl
invoke_by (d ∷ a ∷ m ∷ bs) = refl

pub label_by : (n : ℕ) (L : List Piece) → label_parts n L ≡ with_part L (λ v L'. with_part L' (λ w L''. at_end L'' (mapped label (both (number_at 63 v) (row_at n w)))))
label_by n [] = refl
label_by n (v ∷ []) = refl
label_by n (v ∷ w ∷ []) = refl
label_by n (v ∷ w ∷ x ∷ xs) = refl

pub operation_by : (v u : Piece) (L L' : List Piece) → L ≡ parted 32 v.place v.held → Ok u ≡ taken L → L' ≡ rest L → length u.held ≡ 1 → operation_at v ≡ lettered (get_or u.held 0 0 ∷ []) L'
operation_by v u L L' l e r n = ap operation_of (sym l) ∙ by L e r ∙ ap (λ s. lettered s L') (one u.held n)
  where
    by : (L : List Piece) → Ok u ≡ taken L → L' ≡ rest L → operation_of L ≡ lettered u.held L'
    by [] e r = let z : ◌≡◌ {A = ℕ} 0 1 = cc in absurd (omega arith)
    by (w ∷ ws) e r = let k : w ≡ u = cc in λ i. lettered (k i).held (sym r i)

    one : (s : List ℕ) → length s ≡ 1 → s ≡ get_or s 0 0 ∷ []
    one [] n = absurd (omega arith)
    one (c ∷ []) n = refl
    one (c ∷ d ∷ ds) n = absurd (omega arith)

-- a malformed part behind any other
pub both_malformed : {X Y : Type 0} (x : Said X) (y : Said Y) → y ≡ Err Malformed → both x y ≡ Err Malformed
both_malformed (Ok x) y e = ap (both (Ok x)) e
both_malformed (Err Malformed) y e = ap (both (Err Malformed)) e
both_malformed (Err (OutOfRange p)) y e = ap (both (Err (OutOfRange p))) e

pub mapped_twice : {X Y Z : Type 0} (g : Y → Z) (f : X → Y) (x : Said X) → mapped g (mapped f x) ≡ mapped (λ y. g (f y)) x
mapped_twice g f (Ok x) = refl
mapped_twice g f (Err e) = refl

pub both_mapped : {X Y Z : Type 0} (f : Y → Z) (x : Said X) (y : Said Y) → both x (mapped f y) ≡ mapped (λ p. (p.0, f p.1)) (both x y)
both_mapped f (Ok x) (Ok y) = refl
both_mapped f (Ok x) (Err e) = refl
both_mapped f (Err d) (Ok y) = refl
both_mapped f (Err d) (Err e) = refl

-- a list that is not too long, and one that is
pub list_few : {X : Type 0} (n : ℕ) (says : Piece → Said X) (L : List Piece) → length L ≤ n → list_of n says L ≡ list_on says (Ok []) L
list_few n says L h = cond-true _ _ _ (le-leb (length L) n h)

pub list_many : {X : Type 0} (n : ℕ) (says : Piece → Said X) (L : List Piece) → n < length L → list_of n says L ≡ Err Malformed
list_many n says L h = cond-false _ _ _ (lt-leb (length L) n h)

-- the labels of a jump list: none, too many, or as many as there may be
abbrev pub listing : Operand × List ℕ → Op
listing x = jump_list x.0 x.1

pub listed_none : (a : Piece) (L : List Piece) → length L ≡ 0 → listed_for a L ≡ Err Malformed
listed_none a [] h = refl
listed_none a (n ∷ ns) h = absurd (omega arith)

pub listed_many : (a : Piece) (L : List Piece) → 8 < length L → listed_for a L ≡ Err Malformed
listed_many a [] h = absurd (omega arith)
listed_many a (n ∷ ns) h = ap (mapped listing) (both_malformed (operand_at a) _ (list_many 8 (number_at 63) (n ∷ ns) h))

pub listed_few : (a : Piece) (L : List Piece) → (length L ≡ 0 → ⊥) → length L ≤ 8 → listed_for a L ≡ mapped listing (both (operand_at a) (list_on (number_at 63) (Ok []) L))
listed_few a [] ne h = absurd (ne refl)
listed_few a (n ∷ ns) ne h = ap (λ x. mapped listing (both (operand_at a) x)) (list_few 8 (number_at 63) (n ∷ ns) h)

-- an invocation, by what its parts say
abbrev pub invoked : Said Destination → Said Operand → Said ℕ → Said (List Operand) → Said Op
invoked d a m bs = mapped invocation (both d (both a (both m bs)))

pub invoked_malformed : (d : Said Destination) (a : Said Operand) (m : Said ℕ) (bs : Said (List Operand)) → bs ≡ Err Malformed → invoked d a m bs ≡ Err Malformed
invoked_malformed d a m bs e = ap (mapped invocation) (both_malformed d _ (both_malformed a _ (both_malformed m bs e)))

-- the same over what the code has, which a function f turns into a list
pub invoked_over : {Y : Type 0} (f : Y → List Operand) (d : Said Destination) (a : Said Operand) (m : Said ℕ) (ys : Said Y) → invoked d a m (mapped f ys) ≡ mapped (λ x. invocation (x.0, (x.1.0, (x.1.1.0, f x.1.1.1)))) (both d (both a (both m ys)))
invoked_over f d a m ys =
    ap (λ x. mapped invocation (both d (both a x))) (both_mapped f m ys)
    ∙ ap (λ x. mapped invocation (both d x)) (both_mapped _ a (both m ys))
    ∙ ap (mapped invocation) (both_mapped _ d (both a (both m ys)))
    ∙ mapped_twice _ _ (both d (both a (both m ys)))
