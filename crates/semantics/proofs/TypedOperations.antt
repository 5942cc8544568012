-- The operation at which a typed frame stands: its operands, the point behind it, and the labels that it names.
use Rattle.std.proofs.Common.{◌≡◌, ℕ, suc, ◌+◌, ◌<◌, true, false, List, map, length, drop, Some, None, Ok, sym, ap, ◌∙◌, subst, ⊎_elim}
use package.native.Mathlib.Omega.{arith}
use Rattle.std.proofs.lemmas.Bool.{cases_lt, cond-false, true≢false}
use Rattle.semantics.specs.declared.operation.Operand.{Operand}
use Rattle.semantics.specs.declared.operation.Operand.TheVariants as operand
use Rattle.semantics.specs.Check.{at_row, carried, check_from, zeros}
use Rattle.semantics.specs.Entries.{Found}
use Rattle.semantics.specs.Form.{target, operands, leaves}
use Rattle.semantics.specs.FormLaws.{Leaves, WellFormed}
use Rattle.semantics.specs.Lists.{At, here, there}
use Rattle.semantics.specs.Methods.{Op, return, jump, jump_if, jump_list, invoke, LabelDef}
use Rattle.semantics.specs.Runs.{FrameDef, kind_of, operand_value, declared, moved_to, point_of}
use Rattle.semantics.specs.Stores.{Store, entry_at, code_at, op_at, method_at}
use Rattle.semantics.specs.Tests.{operand_class, classes_fit, callee, own_tests, named_labels, first_label, labels_fit}
use Rattle.semantics.specs.Tree.{fits}
use Rattle.semantics.proofs.CardFacts.{Checked}
use Rattle.semantics.proofs.ItemPlaces.{within_at}
use Rattle.semantics.proofs.Lowering.{Over, over_itself, Lowers, fits_lower, operand_lower, operands_lower, callee_lower, fits_lowers}
use Rattle.semantics.proofs.TypedCalls.{from_first}
use Rattle.semantics.proofs.TypedFrames.{Coded, OnTop}
use Rattle.semantics.proofs.TypedPoints.{label_first, label_passes}
use Rattle.semantics.proofs.TypedRows.{kinds, get_d_at, at_nth, at_map, at_row_lem, value_class, value_classes, label_fits}

not_leaving : (o : Op) → leaves o ≡ false → Leaves o → ⊥
not_leaving (return a) e l = true≢false e
not_leaving (jump n) e l = true≢false e
not_leaving (jump_if a n) e l = l
not_leaving (jump_list a ns) e l = l
not_leaving (invoke d a m bs) e l = l

named_target : (o : Op) {i n : ℕ} → At (named_labels o) i n → (j : ℕ) × At (operands o) j (target n)
named_target (return a) x = elim x [ ]
named_target (jump n) here = (0, here)
named_target (jump n) (there x) = elim x [ ]
named_target (jump_if a n) here = (1, there here)
named_target (jump_if a n) (there x) = elim x [ ]
named_target (jump_list a ns) {i} x = (suc i, there (at_map target x))
named_target (invoke d a m bs) x = elim x [ ]

-- what the check saw of an operation o at the point of a frame
pub record Here (s : Store) (f : FrameDef) (o : Op) : Type 0 where
  pub held : Coded s f.row
  pub row : List ℕ
  pub next : List ℕ
  pub stands : op_at (code_at s f.row) f.point ≡ o
  pub within : f.point < length (code_at s f.row).points
  pub locals : classes_fit s.classes (kinds f.locals) (declared (entry_at s f.row)) ≡ true
  pub temporaries : classes_fit s.classes (kinds f.temporaries) row ≡ true
  pub own : own_tests s.classes s.entries (method_at s f.row) row o ≡ Ok next
  pub labels : labels_fit s.classes (code_at s f.row).labels row (first_label o) (named_labels o) ≡ Ok tt
  pub rest : check_from s.classes s.entries (method_at s f.row) (f.point + 1) (carried o next) (drop (f.point + 1) (code_at s f.row).points) ≡ Ok tt

module _ (s : Store) (k : Checked s) where
  same_card : Over s.classes s.classes s.entries s.entries
  same_card = over_itself k.founded.tree k.founded.agree

  well_formed : {f : FrameDef} {o : Op} → Here s f o → WellFormed (method_at s f.row)
  well_formed {f} h = k.founded.formed f.row (code_at s f.row) h.held

  op_at_lem : {f : FrameDef} {o : Op} → Here s f o → At (code_at s f.row).points f.point o
  op_at_lem {f} h = subst (At (code_at s f.row).points f.point) h.stands (get_d_at (code_at s f.row).points f.point (return (operand.Local 0)) h.within)

  -- what an operand's class fits, its value's class fits
  module _ {f : FrameDef} {o : Op} (h : Here s f o) where
    low_locals : Lowers same_card (kinds f.locals) (declared (entry_at s f.row))
    unfolding same_card
    low_locals = fits_lowers s.classes k.founded.tree s.entries k.founded.agree (kinds f.locals) (declared (entry_at s f.row)) h.locals

    low_temporaries : Lowers same_card (kinds f.temporaries) h.row
    unfolding same_card
    low_temporaries = fits_lowers s.classes k.founded.tree s.entries k.founded.agree (kinds f.temporaries) h.row h.temporaries

    pub value_fits : (a : Operand) (r : ℕ) → fits s.classes (operand_class (declared (entry_at s f.row)) h.row a) r ≡ true → fits s.classes (kind_of (operand_value f a)) r ≡ true
    value_fits a r e = ap (λ c. fits s.classes c r) (value_class f a)
        ∙ fits_lower same_card _ _ r (operand_lower same_card (kinds f.locals) (declared (entry_at s f.row)) (kinds f.temporaries) h.row low_locals low_temporaries a) e

    -- the row that is called on the values
    pub called_row : (a : Operand) (m : ℕ) (bs : List Operand) (g : Found)
        → callee s.classes s.entries (operand_class (declared (entry_at s f.row)) h.row a) m (map (operand_class (declared (entry_at s f.row)) h.row) bs) ≡ Ok g
        → (i : Found) × (callee s.classes s.entries (kind_of (operand_value f a)) m (kinds (map (operand_value f) bs)) ≡ Ok i) × (i.entry.result ≡ g.entry.result)
    called_row a m bs g e =
        let c = callee_lower same_card _ _ m _ _ g (operand_lower same_card (kinds f.locals) (declared (entry_at s f.row)) (kinds f.temporaries) h.row low_locals low_temporaries a)
        (operands_lower same_card (kinds f.locals) (declared (entry_at s f.row)) (kinds f.temporaries) h.row low_locals low_temporaries bs) e in
        (c.0, (λ i. callee s.classes s.entries (value_class f a i) m (value_classes f bs i)) ∙ c.1, c.2.1)

    -- the point behind
    pub behind_within : leaves o ≡ false → f.point + 1 < length (code_at s f.row).points
    behind_within e = ⊎_elim (λ l. l) (λ l. absurd (not_leaving o e ((well_formed h).last f.point o (op_at_lem h) (let w = h.within in omega arith)))) (cases_lt (f.point + 1) (length (code_at s f.row).points))

    carried_on : leaves o ≡ false → carried o h.next ≡ Some h.next
    carried_on e = cond-false (leaves o) None (Some h.next) e

    pub rest_behind : leaves o ≡ false → check_from s.classes s.entries (method_at s f.row) (f.point + 1) (Some h.next) (drop (f.point + 1) (code_at s f.row).points) ≡ Ok tt
    rest_behind e = ap (λ c. check_from s.classes s.entries (method_at s f.row) (f.point + 1) c (drop (f.point + 1) (code_at s f.row).points)) (sym (carried_on e)) ∙ h.rest

    pub goes_on : leaves o ≡ false → h.next ≡ h.row → OnTop s (moved_to f (f.point + 1))
    goes_on e n = (
      h.held,
      record {
        row = h.next;
        locals = h.locals;
        temporaries = ap (classes_fit s.classes (kinds f.temporaries)) n ∙ h.temporaries;
        within = behind_within e;
        rest = rest_behind e;
      },
    )

    -- the point of a label that is named
    at_label_lem : (l : LabelDef) {i n : ℕ} → At (code_at s f.row).labels n l → At (named_labels o) i n → OnTop s (moved_to f l.point)
    at_label_lem l {n = n} a x = (
      h.held,
      record {
        row = h.row;
        locals = h.locals;
        temporaries = h.temporaries;
        within = (well_formed h).inside n l a;
        rest = label_passes s.classes s.entries (method_at s f.row) 0 l.point l.point (Some (zeros (code_at s f.row).temporaries)) h.row l (code_at s f.row).points
            (omega arith) ((well_formed h).inside n l a) (label_first (code_at s f.row).labels a ((well_formed h).rising n l a))
            (ap (classes_fit s.classes h.row) (sym (at_row_lem a)) ∙ label_fits s.classes (code_at s f.row).labels h.row (first_label o) h.labels x)
            (from_first s k f.row (code_at s f.row) h.held);
      },
    )

    pub jumps : {i n : ℕ} → At (named_labels o) i n → OnTop s (moved_to f (point_of (code_at s f.row).labels n))
    jumps {i} {n} x =
        let y = named_target o x in
        let l = within_at (code_at s f.row).labels n ((well_formed h).named f.point o (op_at_lem h) y.0 (target n) y.1) in
        subst (λ p. OnTop s (moved_to f p)) (ap (λ z. at_row z 0 (λ (y : LabelDef). y.point)) (sym (at_nth l.1))) (at_label_lem l.0 l.1 x)
