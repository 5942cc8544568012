-- One method, one text.
use Rattle.std.proofs.Common.{◌≡◌, ◌<◌, ◌≤◌, false, List, [], ◌∷◌, length, codes, refl, ap, ◌∙◌, subst, arith}
use Rattle.semantics.specs.Methods.{Each, Op, OpInRange, LabelDef, LabelInRange, MethodDef, InRange}
use Rattle.semantics.specs.Pieces.{piece}
use Rattle.semantics.specs.Printing.{labels_text, code_text, method_text}
use Rattle.semantics.specs.Reading.{begins, Head, head_of, method_from}
use Rattle.semantics.specs.TextLaws.{WrittenIsRead, ReadWasWritten}
use Rattle.semantics.proofs.OnlyTexts.{same_ok}
use Rattle.semantics.proofs.LineTexts.{so_ok, from_so, further}
use Rattle.semantics.proofs.HeadTexts.{heads}
use Rattle.semantics.proofs.BodyTexts.{labels_forth, labels_back, code_forth, code_back}

abbrev head_in : MethodDef → Head
head_in m = head_of m.class m.name m.arguments m.result m.temporaries

-- code begins with another word than labels do
no_label_in_code : (os : List Op) → 0 < length os → begins (codes "label=") (code_text os) ≡ false
no_label_in_code [] h = absurd (omega arith)
no_label_in_code (o ∷ os) h = refl

pub written_is_read : WrittenIsRead
written_is_read m r =
    let h = heads.forth (piece 0 (method_text m)) (head_in m) (labels_text m.labels (code_text m.code)) refl
    (record { class = r.class; name = r.name; arguments = (r.few_arguments, r.arguments); result = r.result; temporaries = r.temporaries }) in
    let l = labels_forth 16 m.temporaries [] m.labels h.0 (code_text m.code) h.2 (no_label_in_code m.code r.some_code) r.few_labels r.labels in
    so_ok _ h.1 ∙ so_ok _ l.1 ∙ so_ok _ (code_forth 64 [] m.code l.0 l.2 r.some_code r.few_points r.code)

pub read_was_written : ReadWasWritten
read_was_written t m e =
    let h = from_so _ _ m e in
    let l = from_so _ _ m h.2 in
    let c = from_so _ _ m l.2 in
    let head = (heads.back (piece 0 t) h.0 h.1).1 in
    let labels = labels_back 16 h.0.said.temporaries [] h.0.left l.0 l.1 in
    let code = code_back 64 [] l.0.left c.0 c.1 in
    let behind : h.0.left.held ≡ labels_text l.0.said (code_text c.0) = labels.2 ∙ (λ i. labels_text (labels.1 i) (◌∙◌ {c = code_text c.0} code.2 (ap code_text code.1) i)) in
    let same : method_from h.0.said l.0.said c.0 ≡ m = same_ok c.2 in
    subst (λ (n : MethodDef). (t ≡ method_text n) × InRange n) same (
      further heads (piece 0 t) h.0 _ h.1 behind,
      record {
        class = head.class;
        name = head.name;
        few_arguments = head.arguments.0;
        arguments = head.arguments.1;
        result = head.result;
        temporaries = head.temporaries;
        few_labels = subst (λ (ls : List LabelDef). length ls ≤ 16) labels.1 labels.3;
        labels = subst (Each (LabelInRange h.0.said.temporaries)) labels.1 labels.4;
        some_code = subst (λ (os : List Op). 0 < length os) code.1 code.3;
        few_points = subst (λ (os : List Op). length os ≤ 64) code.1 code.4;
        code = subst (Each OpInRange) code.1 code.5;
      },
    )
