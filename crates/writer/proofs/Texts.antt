-- The texts of the definition, put part by part.
use Rattle.std.proofs.Common.{◌≡◌, ℕ, List, [], ◌∷◌, ◌++◌, map, codes, decimal, refl, sym, ap, ◌∙◌}
use Rattle.std.specs.List.{flat_map}
use Rattle.std.proofs.lemmas.List.{append-nil}
use Rattle.semantics.specs.Pieces.{joined_by}
use Rattle.semantics.specs.declared.operation.Operation.{Operation}
use Rattle.semantics.specs.declared.method.Label.{Label}
use Rattle.semantics.specs.declared.method.Method.{Method}
use Rattle.semantics.specs.Items.{items_of}
use Rattle.semantics.specs.Methods.{label_of, method_of, op_of}
use Rattle.semantics.specs.Printing.{classes_text, code_text, label_text, labels_text, line_text, method_text, op_text}
use Rattle.writer.specs.declared.output.Output.{Output}
use Rattle.writer.specs.Putting.{enclosed, put}
use Rattle.writer.proofs.Putting.{put_append}

-- the first item, and then each other behind the separator
pub joined_by_each : {X : Type 0} (sep : ℕ) (f : X → List ℕ) (w : List ℕ) (xs : List X) → joined_by sep (w ∷ map f xs) ≡ w ++ flat_map (λ x. enclosed (sep ∷ []) (f x) []) xs
unfolding enclosed
joined_by_each sep f w [] = sym (append-nil w)
joined_by_each sep f w (x ∷ xs) = ap (λ l. w ++ (sep ∷ l)) (joined_by_each sep f (f x) xs ∙ ap (λ l. l ++ flat_map (λ y. enclosed (sep ∷ []) (f y) []) xs) (sym (append-nil (f x))))

-- a line by itself
abbrev pub line : List ℕ → List ℕ → List ℕ
line word value = enclosed word value (10 ∷ [])

abbrev pub label_lines : List Label → List ℕ
label_lines = flat_map (λ l. line (codes "label=") (label_text (label_of l)))

abbrev pub code_lines : List Operation → List ℕ
code_lines = flat_map (λ o. line (codes "op=") (op_text (op_of o)))

-- each line, and then what stands behind it
put_line : (w v rest : List ℕ) (o : Output) → put (line_text w v rest) o ≡ put rest (put (line w v) o)
unfolding enclosed
put_line w v rest o = simp put_append

put_labels : (ls : List Label) (rest : List ℕ) (o : Output) → put (labels_text (map label_of ls) rest) o ≡ put rest (put (label_lines ls) o)
put_labels [] rest o = refl
put_labels (l ∷ ls) rest o =
    let first = line (codes "label=") (label_text (label_of l)) in
    put_line (codes "label=") (label_text (label_of l)) (labels_text (map label_of ls) rest) o ∙ put_labels ls rest (put first o) ∙ ap (put rest) (sym (put_append first (label_lines ls) o))

put_code : (os : List Operation) (o : Output) → put (code_text (map op_of os)) o ≡ put (code_lines os) o
put_code [] o = refl
put_code (p ∷ os) o =
    let first = line (codes "op=") (op_text (op_of p)) in
    put_line (codes "op=") (op_text (op_of p)) (code_text (map op_of os)) o ∙ put_code os (put first o) ∙ sym (put_append first (code_lines os) o)

pub put_lines : (m : Method) (o : Output) → put (method_text (method_of m)) o ≡ put (code_lines (items_of m.code)) (put (label_lines (items_of m.labels)) (put (line (codes "temps=") (decimal m.temporaries)) (put (line (codes "result=") (decimal m.result)) (put (line (codes "args=") (classes_text (items_of m.arguments))) (put (line (codes "name=") (decimal m.name)) (put (line (codes "class=") (decimal m.class)) o))))))
put_lines m o =
    put_line (codes "class=") (decimal m.class) _ _
    ∙ put_line (codes "name=") (decimal m.name) _ _
    ∙ put_line (codes "args=") (classes_text (items_of m.arguments)) _ _
    ∙ put_line (codes "result=") (decimal m.result) _ _
    ∙ put_line (codes "temps=") (decimal m.temporaries) _ _
    ∙ put_labels (items_of m.labels) _ _
    ∙ put_code (items_of m.code) _
