use Rattle.std.proofs.Common.{◌≡◌, ℕ, [], ◌∷◌, ◌++◌, length, get_or, ap, sym, subst, ◌∙◌, arith}
use Rattle.semantics.specs.Items.{items_of}
use Rattle.semantics.specs.Tree.{Shape, adding}
use Rattle.semantics.proofs.Items.{pushed_room}
use Rattle.classes.specs.Masked.{Steps, parents_in, reads}
use Rattle.classes.proofs.MaskTable as table
use Rattle.classes.proofs.masks.MasksClassTable.add.Goals as goal

pub returns-then-parents-gt-MAX_DEPTH-clause-answer :
    goal.returns-then-parents-gt-MAX_DEPTH-clause-answer
returns-then-parents-gt-MAX_DEPTH-clause-answer c =
    let s = c.args.self.now in
    let p = c.in_ok-above.above in
    let m = c.mask-parents in
    let u = c.in_ok-above.ensures.made in
    let f = table.size (items_of s.masks) s.tree s.first s.steps in
    table.adding_deep (items_of s.masks) s.tree s.first s.steps p m.result m.ensures.value (omega arith) (omega arith) (omega arith) ∙ ap (adding (parents_in (items_of s.masks))) u.0

pub invariant_of-self : goal.invariant_of-self
invariant_of-self c =
    let s = c.args.self.now in
    let p = c.in_ok-above.above in
    let m = c.mask-parents in
    let u = c.in_ok-above.ensures.made in
    let f = table.size (items_of s.masks) s.tree s.first s.steps in
    let n : c.count-count.result ≡ length (items_of s.masks) = omega arith in
    let e : items_of c.push.new.self ≡ items_of s.masks ++ table.new_bits (length (items_of s.masks)) m.result ∷ [] =
    c.push.ensures.after ∙ pushed_room 64 (items_of s.masks) _ (omega arith) ∙ ap (λ (k : ℕ). items_of s.masks ++ table.new_bits k m.result ∷ []) n in
    record {
      tree = subst (λ xs. Shape (reads 0 xs)) (sym e) (table.new_shape (items_of s.masks) s.tree s.first s.steps p m.result m.ensures.value (omega arith) (omega arith) (omega arith));
      first = ap (λ xs. get_or xs 0 0) e ∙ table.new_first (items_of s.masks) s.tree s.first s.steps p m.result m.ensures.value (omega arith) (omega arith);
      steps = subst Steps (sym e) (table.new_steps (items_of s.masks) s.tree s.first s.steps p m.result m.ensures.value (omega arith) (omega arith));
    }

pub returns-clause-answer : goal.returns-clause-answer
returns-clause-answer c =
    let s = c.args.self.now in
    let p = c.in_ok-above.above in
    let m = c.mask-parents in
    let u = c.in_ok-above.ensures.made in
    let f = table.size (items_of s.masks) s.tree s.first s.steps in
    let n : c.count-count.result ≡ length (items_of s.masks) = omega arith in
    let e : items_of c.push.new.self ≡ items_of s.masks ++ table.new_bits (length (items_of s.masks)) m.result ∷ [] =
    c.push.ensures.after ∙ pushed_room 64 (items_of s.masks) _ (omega arith) ∙ ap (λ (k : ℕ). items_of s.masks ++ table.new_bits k m.result ∷ []) n in
    let a = table.adding_ok (items_of s.masks) s.tree s.first s.steps p m.result m.ensures.value (omega arith) (omega arith) (omega arith) in
    cc

pub returns-clause-list : goal.returns-clause-list
returns-clause-list c =
    let s = c.args.self.now in
    let p = c.in_ok-above.above in
    let m = c.mask-parents in
    let u = c.in_ok-above.ensures.made in
    let f = table.size (items_of s.masks) s.tree s.first s.steps in
    let n : c.count-count.result ≡ length (items_of s.masks) = omega arith in
    let e : items_of c.push.new.self ≡ items_of s.masks ++ table.new_bits (length (items_of s.masks)) m.result ∷ [] =
    c.push.ensures.after ∙ pushed_room 64 (items_of s.masks) _ (omega arith) ∙ ap (λ (k : ℕ). items_of s.masks ++ table.new_bits k m.result ∷ []) n in
    ap (reads 0) e ∙ table.list (items_of s.masks) s.tree s.first s.steps p m.result m.ensures.value (omega arith) (omega arith) ∙ ap (λ (x : ℕ). parents_in (items_of s.masks) ++ x ∷ []) u.0
