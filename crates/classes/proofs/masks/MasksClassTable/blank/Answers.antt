use Rattle.std.proofs.Common.{◌≡◌, ◌∷◌, [], get_or, ap, sym, subst, ◌∙◌}
use Rattle.semantics.specs.Items.{items_of, pushed}
use Rattle.semantics.specs.Tree.{Shape}
use Rattle.classes.specs.Masked.{Steps, reads}
use Rattle.classes.proofs.MaskTable.{blank_reads, blank_shape, blank_steps}
use Rattle.classes.proofs.masks.MasksClassTable.blank.Goals as goal

pub invariant_of-result : goal.invariant_of-result
invariant_of-result c =
    let e : items_of c.push-2.new.self ≡ 1 ∷ 3 ∷ 5 ∷ [] =
    c.push-2.ensures.after ∙ ap (λ xs. pushed 64 xs 5) (c.push.ensures.after ∙ ap (λ xs. pushed 64 xs 3) c.repeat-masks.ensures) in
    record {
      tree = subst (λ xs. Shape (reads 0 xs)) (sym e) blank_shape;
      first = ap (λ xs. get_or xs 0 0) e;
      steps = subst Steps (sym e) blank_steps;
    }

pub returns : goal.returns
returns c =
    let e : items_of c.push-2.new.self ≡ 1 ∷ 3 ∷ 5 ∷ [] =
    c.push-2.ensures.after ∙ ap (λ xs. pushed 64 xs 5) (c.push.ensures.after ∙ ap (λ xs. pushed 64 xs 3) c.repeat-masks.ensures) in
    ap (reads 0) e ∙ blank_reads
