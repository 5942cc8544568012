-- Labels and code: each list of lines is read from its only text.
use Rattle.std.proofs.Common.{◌≡◌, ℕ, zero, suc, ◌<◌, ◌≤◌, false, cond, eqb, List, [], ◌∷◌, ◌++◌, length, Ok, codes, Result, sym, refl, ap, ◌∙◌, arith}
use Rattle.std.proofs.lemmas.List.{append-nil, append_assoc, nil_from_length}
use Rattle.std.proofs.lemmas.Bool.{eq-eqb, ne_eqb, eqb-true, cond-true, cond-false}
use Rattle.semantics.specs.declared.refusal.Refusal.{Refusal}
use Rattle.semantics.specs.Methods.{Each, Op, OpInRange, LabelDef, LabelInRange}
use Rattle.semantics.specs.Pieces.{Piece}
use Rattle.semantics.specs.Printing.{label_text, op_text, line_text, labels_text, code_text}
use Rattle.semantics.specs.Reading.{Read, read, begins, line, labels_on, code_on}
use Rattle.semantics.specs.Values.{label_at, operation_at}
use Rattle.semantics.proofs.OnlyTexts.{from_err, same_ok, from_cond}
use Rattle.semantics.proofs.LabelTexts.{labels, line_of_label}
use Rattle.semantics.proofs.OperationTexts.{operations, line_of_op}
use Rattle.semantics.proofs.LineTexts.{Takes, further, so_ok, from_so, lines}

label_line_lem : (n : ℕ) → Takes (LabelInRange n) (λ l rest. line_text (codes "label=") (label_text l) rest) (line (codes "label=") (label_at n))
label_line_lem n = lines (labels n) (line_of_label n) (codes "label=") refl

op_line : Takes OpInRange (λ o rest. line_text (codes "op=") (op_text o) rest) (line (codes "op=") operation_at)
op_line = lines operations line_of_op (codes "op=") refl

-- labels that are written behind those of ls are read, up to a line of another word
abbrev Left : List LabelDef → Result (Read (List LabelDef)) Refusal → List ℕ → Type 0
Left ls r rest = (l : Piece) × (r ≡ Ok (read ls l)) × (l.held ≡ rest)

stops : (r : Result (Read (List LabelDef)) Refusal) (ls : List LabelDef) (v : Piece) (rest : List ℕ) → v.held ≡ rest → begins (codes "label=") rest ≡ false → Left (ls ++ []) (cond (begins (codes "label=") v.held) r (Ok (read ls v))) rest
stops r ls v rest e other = (v, cond-false _ _ _ (ap (begins (codes "label=")) e ∙ other) ∙ ap (λ x. Ok (read x v)) (sym (append-nil ls)), e)

pub labels_forth : (k n : ℕ) (ls more : List LabelDef) (v : Piece) (rest : List ℕ) → v.held ≡ labels_text more rest → begins (codes "label=") rest ≡ false → length more ≤ k → Each (LabelInRange n) more → Left (ls ++ more) (labels_on k n ls v) rest
unfolding labels_on
labels_forth zero n ls [] v rest e other few h = stops _ ls v rest e other
labels_forth (suc k) n ls [] v rest e other few h = stops _ ls v rest e other
labels_forth zero n ls (l ∷ more) v rest e other few h = absurd (omega arith)
labels_forth (suc k) n ls (l ∷ more) v rest e other few h =
    let x = (label_line_lem n).forth v l (labels_text more rest) e h.0 in
    let m = labels_forth k n (ls ++ l ∷ []) more x.0 rest x.2 other (omega arith) h.1 in
    (m.0, cond-true _ _ _ (ap (begins (codes "label=")) e) ∙ so_ok _ x.1 ∙ m.1 ∙ ap (λ y. Ok (read y m.0)) (append_assoc ls (l ∷ []) more), m.2)

-- what was read behind the labels ls
abbrev Labelled : ℕ → ℕ → List LabelDef → Piece → Read (List LabelDef) → Type 0
Labelled k n ls v y = (more : List LabelDef) × (ls ++ more ≡ y.said) × (v.held ≡ labels_text more y.left.held) × (length more ≤ k) × Each (LabelInRange n) more

no_label : (k n : ℕ) (ls : List LabelDef) (v : Piece) (y : Read (List LabelDef)) → read ls v ≡ y → Labelled k n ls v y
no_label k n ls v y e = ([], append-nil ls ∙ ap (λ (z : Read (List LabelDef)). z.said) e, ap (λ (z : Read (List LabelDef)). z.left.held) e, omega arith, tt)

pub labels_back : (k n : ℕ) (ls : List LabelDef) (v : Piece) (y : Read (List LabelDef)) → labels_on k n ls v ≡ Ok y → Labelled k n ls v y
unfolding labels_on
labels_back zero n ls v y e = from_cond (begins (codes "label=") v.held) _ _ _ e (λ t d. from_err d) (λ f d. no_label zero n ls v y (same_ok d))
labels_back (suc k) n ls v y e = from_cond (begins (codes "label=") v.held) _ _ _ e
    (λ t d.
    let x = from_so {X = Read LabelDef} _ _ y d in
    let l = x.0.said in
    let m = labels_back k n (ls ++ l ∷ []) x.0.left y x.2 in
    (l ∷ m.0, sym (append_assoc ls (l ∷ []) m.0) ∙ m.1, further (label_line_lem n) v x.0 _ x.1 m.2, omega (arith, m.3), (((label_line_lem n).back v x.0 x.1).1, m.4)))
    (λ f d. no_label (suc k) n ls v y (same_ok d))

-- operations that are written behind those of os are read, up to the end
pub code_forth : (k : ℕ) (os more : List Op) (v : Piece) → v.held ≡ code_text more → 0 < length more → length more ≤ k → Each OpInRange more → code_on k os v ≡ Ok (os ++ more)
unfolding code_on
code_forth k os [] v e some few h = absurd (omega arith)
code_forth zero os (o ∷ more) v e some few h = absurd (omega arith)
code_forth (suc k) os (o ∷ []) v e some few h =
    let x = op_line.forth v o [] e h.0 in
    so_ok _ x.1 ∙ cond-true _ _ _ (eq-eqb _ 0 (ap length x.2))
code_forth (suc k) os (o ∷ p ∷ more) v e some few h =
    let x = op_line.forth v o (code_text (p ∷ more)) e h.0 in
    so_ok _ x.1
    ∙ cond-false _ _ _ (ne_eqb _ 0 (λ (z : length x.0.held ≡ 0). omega (arith, ap length x.2)))
    ∙ code_forth k (os ++ o ∷ []) (p ∷ more) x.0 x.2 (omega arith) (omega arith) h.1
    ∙ ap Ok (append_assoc os (o ∷ []) (p ∷ more))

pub code_back : (k : ℕ) (os : List Op) (v : Piece) (all : List Op) → code_on k os v ≡ Ok all → (more : List Op) × (os ++ more ≡ all) × (v.held ≡ code_text more) × (0 < length more) × (length more ≤ k) × Each OpInRange more
unfolding code_on
code_back zero os v all e = from_err e
code_back (suc k) os v all e =
    let x = from_so {X = Read Op} _ _ all e in
    let o = x.0.said in
    let told = (op_line.back v x.0 x.1).1 in
    from_cond (eqb (length x.0.left.held) 0) _ _ _ x.2
    (λ t d. (o ∷ [], same_ok d, further op_line v x.0 _ x.1 (nil_from_length _ (eqb-true _ 0 t)), omega arith, omega arith, (told, tt)))
    (λ f d.
    let m = code_back k (os ++ o ∷ []) x.0.left all d in
    (o ∷ m.0, sym (append_assoc os (o ∷ []) m.0) ∙ m.1, further op_line v x.0 _ x.1 m.2, omega arith, omega (arith, m.4), (told, m.5)))
