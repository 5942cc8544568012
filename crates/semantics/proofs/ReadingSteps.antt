-- One line more of the labels and of the code, and their ends.
use Rattle.std.proofs.Common.{◌≡◌, ℕ, zero, suc, true, false, cond, eqb, List, [], ◌∷◌, ◌++◌, length, Ok, Err, codes, refl, ap, ◌∙◌}
use Rattle.std.proofs.lemmas.Bool.{cond-true, cond-false}
use Rattle.semantics.specs.declared.refusal.Refusal.{Refusal}
use Rattle.semantics.specs.declared.refusal.Refusal.TheVariants.{Line}
use Rattle.semantics.specs.Methods.{Op, LabelDef}
use Rattle.semantics.specs.Pieces.{Piece}
use Rattle.semantics.specs.Reading.{Read, read, so, begins, line, labels_on, code_on}
use Rattle.semantics.specs.Values.{label_at, operation_at}

-- a line of another word ends the labels
pub labels_stop : (k n : ℕ) (ls : List LabelDef) (v : Piece) → begins (codes "label=") v.held ≡ false → labels_on k n ls v ≡ Ok (read ls v)
unfolding labels_on
labels_stop zero n ls v f = cond-false _ _ _ f
labels_stop (suc k) n ls v f = cond-false _ _ _ f

pub labels_full : (n : ℕ) (ls : List LabelDef) (v : Piece) → begins (codes "label=") v.held ≡ true → labels_on 0 n ls v ≡ Err (Line v.place)
unfolding labels_on
labels_full n ls v t = cond-true _ _ _ t

pub labels_more : (k n : ℕ) (ls : List LabelDef) (v : Piece) (l : Read LabelDef) → begins (codes "label=") v.held ≡ true → line (codes "label=") (label_at n) v ≡ Ok l → labels_on (suc k) n ls v ≡ labels_on k n (ls ++ l.said ∷ []) l.left
unfolding labels_on
labels_more k n ls v l t e = cond-true _ _ _ t ∙ ap (λ r. so r (λ (x : Read LabelDef). labels_on k n (ls ++ x.said ∷ []) x.left)) e

pub labels_refused : (k n : ℕ) (ls : List LabelDef) (v : Piece) (d : Refusal) → begins (codes "label=") v.held ≡ true → line (codes "label=") (label_at n) v ≡ Err d → labels_on (suc k) n ls v ≡ Err d
unfolding labels_on
labels_refused k n ls v d t e = cond-true _ _ _ t ∙ ap (λ r. so r (λ (x : Read LabelDef). labels_on k n (ls ++ x.said ∷ []) x.left)) e

pub code_full : (os : List Op) (v : Piece) → code_on 0 os v ≡ Err (Line v.place)
unfolding code_on
code_full os v = refl

-- behind an operation the text ends or goes on
code_by : (k : ℕ) (os : List Op) (v : Piece) (o : Read Op) → line (codes "op=") operation_at v ≡ Ok o → code_on (suc k) os v ≡ cond (eqb (length o.left.held) 0) (Ok (os ++ o.said ∷ [])) (code_on k (os ++ o.said ∷ []) o.left)
unfolding code_on
code_by k os v o e = ap (λ r. so r (λ (x : Read Op). cond (eqb (length x.left.held) 0) (Ok (os ++ x.said ∷ [])) (code_on k (os ++ x.said ∷ []) x.left))) e

pub code_last : (k : ℕ) (os : List Op) (v : Piece) (o : Read Op) → line (codes "op=") operation_at v ≡ Ok o → eqb (length o.left.held) 0 ≡ true → code_on (suc k) os v ≡ Ok (os ++ o.said ∷ [])
code_last k os v o e t = code_by k os v o e ∙ cond-true _ _ _ t

pub code_more : (k : ℕ) (os : List Op) (v : Piece) (o : Read Op) → line (codes "op=") operation_at v ≡ Ok o → eqb (length o.left.held) 0 ≡ false → code_on (suc k) os v ≡ code_on k (os ++ o.said ∷ []) o.left
code_more k os v o e f = code_by k os v o e ∙ cond-false _ _ _ f

pub code_refused : (k : ℕ) (os : List Op) (v : Piece) (d : Refusal) → line (codes "op=") operation_at v ≡ Err d → code_on (suc k) os v ≡ Err d
unfolding code_on
code_refused k os v d e = ap (λ r. so r (λ (x : Read Op). cond (eqb (length x.left.held) 0) (Ok (os ++ x.said ∷ [])) (code_on k (os ++ x.said ∷ []) x.left))) e
