-- The head of a method: it is read from its only five lines.
use Rattle.std.proofs.Common.{◌≡◌, ℕ, ◌^◌, ◌<◌, ◌≤◌, List, length, Ok, codes, decimal, refl, ◌∙◌, subst, arith}
use Rattle.semantics.specs.Methods.{Each, Small}
use Rattle.semantics.specs.Pieces.{Piece, up_to}
use Rattle.semantics.specs.Printing.{classes_text, line_text}
use Rattle.semantics.specs.Reading.{Read, read, line, Head, head_of, head_at}
use Rattle.semantics.specs.Values.{number_at, arguments_at}
use Rattle.semantics.proofs.OnlyTexts.{same_ok}
use Rattle.semantics.proofs.PartTexts.{free_word}
use Rattle.semantics.proofs.NumberTexts.{numbers, word_of_decimal}
use Rattle.semantics.proofs.LabelTexts.{arguments, line_of_classes}
use Rattle.semantics.proofs.LineTexts.{Takes, further, so_ok, from_so, lines}

abbrev pub head_text : Head → List ℕ → List ℕ
head_text h rest =
    line_text (codes "class=") (decimal h.class)
    (line_text (codes "name=") (decimal h.name)
    (line_text (codes "args=") (classes_text h.arguments)
    (line_text (codes "result=") (decimal h.result)
    (line_text (codes "temps=") (decimal h.temporaries) rest))))

pub record HeadInRange (h : Head) : Type 0 where
  pub class : Small h.class
  pub name : h.name ≤ 255
  pub arguments : (length h.arguments ≤ 7) × Each Small h.arguments
  pub result : Small h.result
  pub temporaries : h.temporaries ≤ 8

-- a line with a number up to max
number_line : (max : ℕ) → max < 2 ^ 64 → (w : List ℕ) → up_to 10 w ≡ length w → Takes (λ n. n ≤ max) (λ n rest. line_text w (decimal n) rest) (line w (number_at max))
number_line max small w in-line = lines (numbers max small) (λ n h. free_word 10 (λ c b. b.newline) (decimal n) (word_of_decimal n (omega arith))) w in-line

class_line_lem : Takes Small (λ n rest. line_text (codes "class=") (decimal n) rest) (line (codes "class=") (number_at 63))
class_line_lem = number_line 63 (omega arith) (codes "class=") refl

name_line_lem : Takes (λ n. n ≤ 255) (λ n rest. line_text (codes "name=") (decimal n) rest) (line (codes "name=") (number_at 255))
name_line_lem = number_line 255 (omega arith) (codes "name=") refl

args_line : Takes (λ ns. (length ns ≤ 7) × Each Small ns) (λ ns rest. line_text (codes "args=") (classes_text ns) rest) (line (codes "args=") arguments_at)
args_line = lines arguments (λ ns h. line_of_classes ns h.1) (codes "args=") refl

result_line_lem : Takes Small (λ n rest. line_text (codes "result=") (decimal n) rest) (line (codes "result=") (number_at 63))
result_line_lem = number_line 63 (omega arith) (codes "result=") refl

temps_line : Takes (λ n. n ≤ 8) (λ n rest. line_text (codes "temps=") (decimal n) rest) (line (codes "temps=") (number_at 8))
temps_line = number_line 8 (omega arith) (codes "temps=") refl

head_forth : (v : Piece) (h : Head) (rest : List ℕ) → v.held ≡ head_text h rest → HeadInRange h → (l : Piece) × (head_at v ≡ Ok (read h l)) × (l.held ≡ rest)
head_forth v h rest e k =
    let c = class_line_lem.forth v h.class _ e k.class in
    let n = name_line_lem.forth c.0 h.name _ c.2 k.name in
    let a = args_line.forth n.0 h.arguments _ n.2 k.arguments in
    let r = result_line_lem.forth a.0 h.result _ a.2 k.result in
    let t = temps_line.forth r.0 h.temporaries rest r.2 k.temporaries in
    (t.0, so_ok _ c.1 ∙ so_ok _ n.1 ∙ so_ok _ a.1 ∙ so_ok _ r.1 ∙ so_ok _ t.1, t.2)

head_back : (v : Piece) (y : Read Head) → head_at v ≡ Ok y → (v.held ≡ head_text y.said y.left.held) × HeadInRange y.said
head_back v y e =
    let c = from_so _ _ y e in
    let n = from_so _ _ y c.2 in
    let a = from_so _ _ y n.2 in
    let r = from_so _ _ y a.2 in
    let t = from_so _ _ y r.2 in
    let same : read (head_of c.0.said n.0.said a.0.said r.0.said t.0.said) t.0.left ≡ y = same_ok t.2 in
    subst (λ (z : Read Head). (v.held ≡ head_text z.said z.left.held) × HeadInRange z.said) same (
      further class_line_lem v c.0 _ c.1
          (further name_line_lem c.0.left n.0 _ n.1
          (further args_line n.0.left a.0 _ a.1
          (further result_line_lem a.0.left r.0 _ r.1
          (further temps_line r.0.left t.0 _ t.1 refl)))),
      record {
        class = (class_line_lem.back v c.0 c.1).1;
        name = (name_line_lem.back c.0.left n.0 n.1).1;
        arguments = (args_line.back n.0.left a.0 a.1).1;
        result = (result_line_lem.back a.0.left r.0 r.1).1;
        temporaries = (temps_line.back r.0.left t.0 t.1).1;
      },
    )

pub heads : Takes HeadInRange head_text head_at
heads = record { forth = head_forth; back = head_back }
