-- The rows that come to a point, and the row that the check has there.
use Rattle.std.proofs.Common.{◌≡◌, ℕ, zero, suc, ◌+◌, false, eqb, ◌⊎◌, List, [], ◌∷◌, Some, None, Option, sym, refl, ap, ◌∙◌, subst, inl, inr, ⊎_elim, arith, MatchResult}
use Rattle.std.specs.Option as options
use Rattle.std.proofs.lemmas.Result.{MatchResult-weaker}
use Rattle.std.proofs.lemmas.Bool.{cases_order, cond_both, eqb-true, eqb-false, cond-false, cases_Bool, cond-true}
use Rattle.semantics.specs.declared.refusal.Refusal.{Refusal}
use Rattle.semantics.specs.declared.refusal.Refusal.TheVariants.{RowMisfit}
use Rattle.semantics.specs.Check.{label_at_point, falling_in, arrived, carried, zeros}
use Rattle.semantics.specs.Entries.{EntryDef}
use Rattle.semantics.specs.Form.{must, leaves}
use Rattle.semantics.specs.FormLaws.{WellFormed}
use Rattle.semantics.specs.Lists.{At, here, there}
use Rattle.semantics.specs.Methods.{Op, LabelDef, MethodDef}
use Rattle.semantics.specs.Passes.{RowFits, LabelAt, NoLabelAt, Behind, RowAt, start, label, next, Arrives, first, behind, Falls}
use Rattle.semantics.specs.Tests.{classes_fit}
use Rattle.semantics.specs.Tree.{Tree}
use Rattle.semantics.proofs.RuleTests.{decides_fit, same_behind}
use Rattle.semantics.proofs.Searches.{same_at, must_tells}
use Rattle.semantics.proofs.Testing.{so_tells}

pub from_none : {X Q : Type 0} {x : X} → ◌≡◌ {A = Option X} None (Some x) → Q
from_none e = let z : ◌≡◌ {A = ℕ} 0 1 = cc in absurd (omega arith)

pub same_some : {X : Type 0} {x y : X} → ◌≡◌ {A = Option X} (Some x) (Some y) → x ≡ y
same_some e = cc

-- the label of a point
abbrev Marks : List LabelDef → ℕ → LabelDef → Type 0
Marks ls p l = (i : ℕ) × At ls i l × (l.point ≡ p)

label_told : (ls : List LabelDef) (p : ℕ) → options.MatchOption (label_at_point ls p) ((l : LabelDef) → Marks ls p l → ⊥) (Marks ls p)
label_told [] p = λ l x. elim x.1 [ ]
label_told (k ∷ ls) p = cond_both (eqb k.point p) (Some k) (label_at_point ls p) (λ o. options.MatchOption o ((l : LabelDef) → Marks (k ∷ ls) p l → ⊥) (Marks (k ∷ ls) p))
    (λ b. (0, here, eqb-true k.point p b))
    (λ b. later (label_at_point ls p) (eqb-false k.point p b) (label_told ls p))
  where
    behind : (l : LabelDef) → (k.point ≡ p → ⊥) → Marks (k ∷ ls) p l → Marks ls p l
    behind l other (zero, here, e) = absurd (other e)
    behind l other (suc i, there a, e) = (i, a, e)

    later : (o : Option LabelDef) → (k.point ≡ p → ⊥) → options.MatchOption o ((l : LabelDef) → Marks ls p l → ⊥) (Marks ls p) → options.MatchOption o ((l : LabelDef) → Marks (k ∷ ls) p l → ⊥) (Marks (k ∷ ls) p)
    later None other out = λ l x. out l (behind l other x)
    later (Some l) other x = (suc x.0, there x.1, x.2)

same_label : (m : MethodDef) → WellFormed m → {p : ℕ} {k l : LabelDef} → LabelAt m p k → LabelAt m p l → k ≡ l
same_label m w {p} {k} {l} x y = ⊎_elim (λ e. same_at (rw e at x.1) y.1) (λ s. ⊎_elim
    (λ h. absurd (let u = w.rising y.0 l y.1 x.0 k x.1 h in let a = x.2 in let b = y.2 in omega arith))
    (λ h. absurd (let u = w.rising x.0 k x.1 y.0 l y.1 h in let a = x.2 in let b = y.2 in omega arith)) s) (cases_order x.0 y.0)

-- c tells the one row of P, if there is one
pub record Tells (P : List ℕ → Type 0) (c : Option (List ℕ)) : Type 0 where
  pub only : (ts : List ℕ) → P ts → c ≡ Some ts
  pub is : (ts : List ℕ) → c ≡ Some ts → P ts

module _ (ps : List ℕ) (t : Tree ps) (es : List EntryDef) (m : MethodDef) (w : WellFormed m) where
  row_ways : {p : ℕ} {ts : List ℕ} → RowAt ps es m p ts → ((l : LabelDef) × LabelAt m p l × (ts ≡ l.row)) ⊎ (NoLabelAt m p × Arrives ps es m p ts)
  row_ways (start n) = inr (n, first)
  row_ways (label {l} a) = inl (l, a, refl)
  row_ways (next r a h n b) = inr (n, behind r a h b)

  arrived_row : {p : ℕ} {ts : List ℕ} → NoLabelAt m p → Arrives ps es m p ts → RowAt ps es m p ts
  arrived_row n first = start n
  arrived_row n (behind r a h b) = next r a h n b

  -- the point before, from which a row comes
  before : {q : ℕ} {us : List ℕ} → Arrives ps es m q us → (p : ℕ) → q ≡ p + 1
      → (ts : List ℕ) × (o : Op) × RowAt ps es m p ts × At m.code p o × (leaves o ≡ false) × Behind ps es m ts o us
  before first p e = absurd (omega arith)
  before (behind {p = q} {ts} {us} {o} r a h b) p e = let s : q ≡ p = omega arith in (ts, o, rw s at r, rw s at a, h, b)

  tells_label : (p : ℕ) (l : LabelDef) → LabelAt m p l → Tells (RowAt ps es m p) (Some l.row)
  tells_label p l a = record {
    only = λ ts r. ⊎_elim (λ x. ap Some (ap (λ (k : LabelDef). k.row) (same_label m w a x.1) ∙ sym x.2)) (λ x. absurd (x.0 l a)) (row_ways r);
    is = λ ts e. subst (RowAt ps es m p) (same_some e) (label a);
  }

  -- a row that comes to p does not fit its label's row, and e tells so
  abbrev pub Misfalls : ℕ → Refusal → Type 0
  Misfalls p e = (ts : List ℕ) × (l : LabelDef) × Arrives ps es m p ts × LabelAt m p l × (RowFits ps ts l.row → ⊥) × (e ≡ RowMisfit p falling_in)

  pub arrived_told : (p : ℕ) (c : Option (List ℕ)) → Tells (Arrives ps es m p) c → MatchResult (arrived ps p c (label_at_point m.labels p)) (λ d. Falls ps es m p × Tells (RowAt ps es m p) d) (Misfalls p)
  arrived_told p c tells = go (label_at_point m.labels p) c tells (label_told m.labels p)
    where
      go : (o : Option LabelDef) (c : Option (List ℕ)) → Tells (Arrives ps es m p) c → options.MatchOption o (NoLabelAt m p) (LabelAt m p) → MatchResult (arrived ps p c o) (λ d. Falls ps es m p × Tells (RowAt ps es m p) d) (Misfalls p)
      go None c tells out = (
        (λ ts l a b. absurd (out l b)),
        record {
          only = λ ts r. ⊎_elim (λ x. absurd (out x.0 x.1)) (λ x. tells.only ts x.1) (row_ways r);
          is = λ ts e. arrived_row out (tells.is ts e);
        },
      )
      go (Some l) None tells a = ((λ ts k b x. from_none (tells.only ts b)), tells_label p l a)
      go (Some l) (Some ts) tells a = so_tells (λ d. Falls ps es m p × Tells (RowAt ps es m p) d) (Misfalls p) (must (classes_fit ps ts l.row) (RowMisfit p falling_in)) _
          (MatchResult-weaker (must (classes_fit ps ts l.row) (RowMisfit p falling_in)) (must_tells (classes_fit ps ts l.row) (RowMisfit p falling_in) (decides_fit ps t ts l.row))
          (λ _ f. f) (λ _ out. (ts, l, tells.is ts refl, a, out.0, out.1)))
          (λ _ f. ((λ us k b x. let e : ts ≡ us = same_some (tells.only us b) in let s : l ≡ k = same_label m w a x in subst (λ (z : LabelDef). RowFits ps us z.row) s (rw e at f)), tells_label p l a))

  -- what is carried on to the next point
  pub tells_none : (p : ℕ) → Tells (RowAt ps es m p) None → Tells (Arrives ps es m (p + 1)) None
  tells_none p tells = record { only = λ us a. from_none (tells.only _ (before a p refl).2); is = λ us e. from_none e }

  pub tells_carried : (p : ℕ) (ts us : List ℕ) (o : Op) → Tells (RowAt ps es m p) (Some ts) → At m.code p o → Behind ps es m ts o us → Tells (Arrives ps es m (p + 1)) (carried o us)
  tells_carried p ts us o tells a b = record { only = only; is = is }
    where
      only : (vs : List ℕ) → Arrives ps es m (p + 1) vs → carried o us ≡ Some vs
      only vs x =
          let y = before x p refl in
          let e : y.0 ≡ ts = sym (same_some (tells.only _ y.2)) in
          let s : y.1 ≡ o = same_at y.3 a in
          let l : leaves o ≡ false = rw s at y.4 in
          let d : Behind ps es m ts o vs = subst (λ (r : List ℕ). Behind ps es m r o vs) e (subst (λ (q : Op). Behind ps es m y.0 q vs) s y.5) in
          cond-false (leaves o) None (Some us) l ∙ ap Some (same_behind ps t es m ts o us vs b d)

      is : (vs : List ℕ) → carried o us ≡ Some vs → Arrives ps es m (p + 1) vs
      is vs e = ⊎_elim (λ l. from_none (sym (cond-true (leaves o) None (Some us) l) ∙ e))
          (λ l. subst (Arrives ps es m (p + 1)) (same_some (sym (cond-false (leaves o) None (Some us) l) ∙ e)) (behind (tells.is ts refl) a l b))
          (cases_Bool (leaves o))

  pub tells_first : Tells (Arrives ps es m 0) (Some (zeros m.temporaries))
  tells_first = record { only = λ ts a. at_first a refl; is = λ ts e. subst (Arrives ps es m 0) (same_some e) first }
    where
      at_first : {p : ℕ} {ts : List ℕ} → Arrives ps es m p ts → p ≡ 0 → Some (zeros m.temporaries) ≡ Some ts
      at_first first e = refl
      at_first (behind {p} r a h b) e = absurd (omega arith)
