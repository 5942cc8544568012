use Rattle.std.proofs.Common.{◌≡◌, ℕ, sym, ap, ◌∙◌}
use Rattle.semantics.specs.declared.array_vec.ArrayVec.{ArrayVec}
use Rattle.semantics.specs.Items.{items_of}
use Rattle.semantics.specs.Methods.{LabelDef, label_of}
use Rattle.semantics.specs.Values.{mapped, both, number_at, row_at, label, label_parts, label_at}
use Rattle.text.specs.Parts.{piece_of, parts_left}
use Rattle.semantics.proofs.Walks.{exits}
use Rattle.text.proofs.Taking.{at_end, part_ok, end_ok, label_by, both_mapped, mapped_twice}
use Rattle.text.proofs.label.read_label.Goals as goal
use Rattle.text.proofs.label.read_label.Goals.{In_ok-next_part-2, After-both}

-- what the parts say, behind two of them
second : (c : In_ok-next_part-2) → label_at c.args.temporaries.count (piece_of c.args.value) ≡ at_end (parts_left c.next_part-2.new.self) (mapped label (both (number_at 63 (piece_of c.in_ok-next_part.field-0)) (row_at c.args.temporaries.count (piece_of c.in_ok-next_part-2.field-0))))
second c =
    ap (label_parts c.args.temporaries.count) (sym c.new-parts.ensures)
    ∙ label_by c.args.temporaries.count (parts_left c.new-parts.result)
    ∙ part_ok (piece_of c.in_ok-next_part.field-0) (parts_left c.new-parts.result) (parts_left c.next_part.new.self) _ c.in_ok-next_part.ensures.value c.next_part.ensures.after
    ∙ part_ok (piece_of c.in_ok-next_part-2.field-0) (parts_left c.next_part.new.self) (parts_left c.next_part-2.new.self) _ c.in_ok-next_part-2.ensures.value c.next_part-2.ensures.after

-- the same over what was read
abbrev labelled : ℕ × ArrayVec ℕ 8 → LabelDef
labelled x = label (x.0, items_of x.1)

third : (c : After-both) → label_at c.args.temporaries.count (piece_of c.args.value) ≡ mapped labelled c.both.result
third c =
    second (goal.at.After-both c).In_ok-next_part-2
    ∙ end_ok tt (parts_left c.next_part-2.new.self) _ c.in_ok-end.ensures
    ∙ (λ i. mapped label (both (sym c.read-point.ensures i) (sym c.read_row-row.ensures i)))
    ∙ ap (mapped label) (both_mapped items_of c.read-point.result c.read_row-row.result)
    ∙ mapped_twice label _ (both c.read-point.result c.read_row-row.result)
    ∙ ap (mapped labelled) (sym c.both.ensures)

pub returns-in_err-point : goal.returns-in_err-point
returns-in_err-point c =
    ap (mapped label_of) (exits c.from_residual-in_err-point.result _ c.from_residual-in_err-point.ensures.1)
    ∙ ap (mapped labelled) (sym c.in_err-point.was) ∙ sym (third (goal.at.returns-in_err-point c).After-both)
