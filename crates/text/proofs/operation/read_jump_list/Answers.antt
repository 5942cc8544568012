use Rattle.std.proofs.Common.{◌≡◌, ℕ, ◌≤◌, length, sym, ap, ◌∙◌, ⊎_elim, arith}
use Rattle.semantics.specs.declared.array_vec.ArrayVec.{ArrayVec}
use Rattle.semantics.specs.declared.operation.Operand.{Operand}
use Rattle.semantics.specs.Items.{items_of}
use Rattle.semantics.specs.Methods.{Op, op_of}
use Rattle.semantics.specs.Values.{mapped, both, jump_list_of}
use Rattle.text.specs.Parts.{piece_of, parts_left}
use Rattle.semantics.proofs.Walks.{exits}
use Rattle.text.proofs.Taking.{part_ok, jump_list_by, listed_for, listing, listed_none, listed_many, listed_few, both_mapped, mapped_twice}
use Rattle.text.proofs.operation.read_jump_list.Goals as goal
use Rattle.text.proofs.operation.read_jump_list.Goals.{In_ok-next_part, After-both}

-- what the parts say, behind the first
first : (c : In_ok-next_part) → jump_list_of (parts_left c.args.parts) ≡ listed_for (piece_of c.in_ok-next_part.field-0) (parts_left c.next_part.new.self)
first c =
    jump_list_by (parts_left c.args.parts)
    ∙ part_ok (piece_of c.in_ok-next_part.field-0) (parts_left c.args.parts) (parts_left c.next_part.new.self) listed_for c.in_ok-next_part.ensures.value c.next_part.ensures.after

-- the same over what was read
abbrev listing_of : Operand × ArrayVec ℕ 8 → Op
listing_of x = listing (x.0, items_of x.1)

second : (c : After-both) → jump_list_of (parts_left c.args.parts) ≡ mapped listing_of c.both.result
second c =
    let L = parts_left c.next_part.new.self in
    let few : length L ≤ 8 = omega (arith, c.len-count.ensures, c.if-count-gt-MAX_LABELS.false) in
    first (goal.at.After-both c).In_ok-next_part
    ∙ listed_few (piece_of c.in_ok-next_part.field-0) L (λ e. c.if-count-eq0.false (c.len-count.ensures ∙ e)) few
    ∙ (λ i. mapped listing (both (sym c.read-selector.ensures i) (sym c.list-labels.ensures i)))
    ∙ ap (mapped listing) (both_mapped items_of c.read-selector.result c.list-labels.result)
    ∙ mapped_twice listing _ (both c.read-selector.result c.list-labels.result)
    ∙ ap (mapped listing_of) (sym c.both.ensures)

pub returns-then-count-eq0 : goal.returns-then-count-eq0
returns-then-count-eq0 c =
    let a = piece_of c.in_ok-next_part.field-0 in
    let L = parts_left c.next_part.new.self in
    sym (first (goal.at.returns-then-count-eq0 c).In_ok-next_part
    ∙ ⊎_elim (λ e. listed_none a L (sym c.len-count.ensures ∙ e)) (λ e. listed_many a L (omega (arith, e.1, c.len-count.ensures))) c.then-count-eq0.either)

pub returns-in_err-selector : goal.returns-in_err-selector
returns-in_err-selector c =
    ap (mapped op_of) (exits c.from_residual-in_err-selector.result _ c.from_residual-in_err-selector.ensures.1)
    ∙ ap (mapped listing_of) (sym c.in_err-selector.was) ∙ sym (second (goal.at.returns-in_err-selector c).After-both)

pub returns : goal.returns
returns c = ap (mapped listing_of) (sym c.in_ok-selector.was) ∙ sym (second (goal.at.returns c).After-both)
