-- A method is well formed exactly when the form rules find no fault; the fault they tell is the first.
use Rattle.std.proofs.Common.{◌≡◌, ℕ, zero, suc, ◌+◌, ◌<◌, ◌≤◌, true, false, not, ◌&&◌, ◌||◌, eqb, ltb, leb, ◌⊎◌, List, [], ◌∷◌, length, Ok, Decides, sym, refl, ap, ◌∙◌, subst, inl, inr, ⊎_elim, add-zero, zero-add, arith, MatchResult}
use Rattle.std.proofs.lemmas.Result.{MatchResult-at_ok, MatchResult-at_err, MatchResult-weaker}
use Rattle.std.proofs.lemmas.Bool.{cases_Bool, false≢true, leb-true, le-leb, cases_lt}
use Rattle.std.proofs.lemmas.Bool.Decides.{Decides-ltb, Decides-eqb, Decides-and, Decides-or, Decides-not, Decides-like}
use Rattle.semantics.specs.declared.refusal.Refusal.{Refusal}
use Rattle.semantics.specs.declared.refusal.Refusal.TheVariants.{LabelPoint, Absent, OpenEnd}
use Rattle.semantics.specs.Form.{labels_rise, Named, local, temporary, target, nothing, operands, Scope, scope_of, present, all_present, code_names, leaves, labelled, code_ends, form_of}
use Rattle.semantics.specs.FormLaws.{Present, Leaves, Marked, Has, HasAll, Fits, Closed, WellFormed, FormExact, FirstFault, label, absent, end, FormFirst}
use Rattle.semantics.specs.Lists.{At, here, there, Throughout, First}
use Rattle.semantics.specs.Methods.{Op, return, jump, jump_if, jump_list, invoke, LabelDef, MethodDef}
use Rattle.semantics.proofs.Searches.{same_at, same_first, first_breaks, must_tells, so_done, so_cases, ok_unless, err_unless, FoundFrom, throughout_none, found_more, found_all}

-- what the tests decide
decides_true : Decides true (Unit {0})
decides_true = ((λ e. tt), (λ u. refl))

decides_false : Decides false ⊥
decides_false = ((λ e. false≢true e), (λ b. absurd b))

decides_present : (s : Scope) (x : Named) → Decides (present s x) (Present s x)
decides_present s (local n) = Decides-ltb n s.locals
decides_present s (temporary n) = Decides-ltb n s.temporaries
decides_present s (target n) = Decides-ltb n s.labels
decides_present s nothing = decides_true

decides_leaves : (o : Op) → Decides (leaves o) (Leaves o)
decides_leaves (return a) = decides_true
decides_leaves (jump n) = decides_true
decides_leaves (jump_if a n) = decides_false
decides_leaves (jump_list a ns) = decides_false
decides_leaves (invoke d a m bs) = decides_false

marked_cons : (l : LabelDef) (ls : List LabelDef) (p : ℕ) → Marked (l ∷ ls) p → (l.point ≡ p) ⊎ Marked ls p
marked_cons l ls p (zero, k, here, e) = inl e
marked_cons l ls p (suc i, k, there a, e) = inr (i, k, a, e)

decides_labelled : (ls : List LabelDef) (p : ℕ) → Decides (labelled ls p) (Marked ls p)
decides_labelled [] p = ((λ e. absurd (false≢true e)), (λ x. elim x.2 [ ]))
decides_labelled (l ∷ ls) p = Decides-like (labelled (l ∷ ls) p)
    (λ s. ⊎_elim (λ e. (0, l, here, e)) (λ x. (suc x.0, x.1, there x.2, x.3)) s)
    (marked_cons l ls p)
    (Decides-or (eqb l.point p) (labelled ls p) (Decides-eqb l.point p) (decides_labelled ls p))

module _ (m : MethodDef) where
  -- the labels before label n mark points below p
  abbrev Below : ℕ → ℕ → Type 0
  Below n p = (j : ℕ) (k : LabelDef) → At m.labels j k → j < n → k.point < p

  decides_below : (n : ℕ) (l : LabelDef) → At m.labels n l → Below n l.point → (p : ℕ) → Decides (leb (l.point + 1) p) (Below (n + 1) p)
  decides_below n l a before p = (
    (λ t j k b h. ⊎_elim
        (λ (less : j < n). let u = before j k b less in omega (arith, leb-true (l.point + 1) p t))
        (λ (last : n ≤ j). let same : j ≡ n = omega arith in let u : l ≡ k = same_at a (rw same at b) in let v = ap (λ (x : LabelDef). x.point) u in omega (arith, leb-true (l.point + 1) p t))
        (cases_lt j n)),
    (λ below. let u = below n l a (omega arith) in le-leb (l.point + 1) p (omega arith)),
  )

  -- the labels ls, the first of which is label n; low is the lowest point above those before
  abbrev LabelTold : ℕ → LabelDef → Refusal → Type 0
  LabelTold i l e = e ≡ LabelPoint i

  labels_found : (n low : ℕ) (ls : List LabelDef) → Throughout (λ k l. At m.labels (n + k) l) ls → ((p : ℕ) → Decides (leb low p) (Below n p)) → FoundFrom (Fits m) LabelTold n ls (labels_rise (length m.code) n low ls)
  labels_found n low [] within above = throughout_none (λ k. Fits m (n + k))
  labels_found n low (l ∷ ls) within above = found_more (Fits m) LabelTold n l ls _ _
      (must_tells (leb low l.point && ltb l.point (length m.code)) (LabelPoint n) (Decides-and (leb low l.point) (ltb l.point (length m.code)) (above l.point) (Decides-ltb l.point (length m.code))))
      (λ kept. labels_found (n + 1) (l.point + 1) ls
      (λ k x a. let e : n + suc k ≡ n + 1 + k = omega arith in rw e at (within (suc k) x (there a)))
      (decides_below n l (rw add-zero at (within 0 l here)) kept.0))

  -- the operands xs, the first of which is operand k
  abbrev OperandTold : ℕ → ℕ → Named → Refusal → Type 0
  OperandTold p k x e = e ≡ Absent p k

  operands_found : (p k : ℕ) (xs : List Named) → FoundFrom (Has m) (OperandTold p) k xs (all_present (scope_of m) p k xs)
  operands_found p k [] = throughout_none (λ j. Has m (k + j))
  operands_found p k (x ∷ xs) = found_more (Has m) (OperandTold p) k x xs _ _ (must_tells (present (scope_of m) x) (Absent p k) (decides_present (scope_of m) x)) (λ _. operands_found p (k + 1) xs)

  -- the operations os, the first of which stands at p
  abbrev NameTold : ℕ → Op → Refusal → Type 0
  NameTold p o e = (k : ℕ) × First (Has m) (operands o) k × (e ≡ Absent p k)

  names_found : (p : ℕ) (os : List Op) → FoundFrom (HasAll m) NameTold p os (code_names (scope_of m) p os)
  names_found p [] = throughout_none (λ k. HasAll m (p + k))
  names_found p (o ∷ os) = found_more (HasAll m) NameTold p o os _ _
      (MatchResult-weaker (all_present (scope_of m) p 0 (operands o)) (found_all (Has m) (OperandTold p) (operands o) _ (operands_found p 0 (operands o))) (λ _ all. all) (λ e f. (first_breaks f.1, (f.0, f.1, f.2))))
      (λ _. names_found (p + 1) os)

  abbrev EndTold : ℕ → Op → Refusal → Type 0
  EndTold p o e = e ≡ OpenEnd p

  decides_last : (p : ℕ) (o : Op) → p + 1 ≡ length m.code → Decides (leaves o) (Closed m p o)
  decides_last p o is = Decides-like (leaves o) (λ l. ((λ _. l), (λ h _. absurd (omega arith)))) (λ c. c.0 is) (decides_leaves o)

  decides_behind : (p : ℕ) (o : Op) → p + 1 < length m.code → Decides (not (leaves o) || labelled m.labels (p + 1)) (Closed m p o)
  decides_behind p o less = Decides-like (not (leaves o) || labelled m.labels (p + 1))
      (λ s. ((λ h. absurd (omega arith)), (λ _ l. ⊎_elim (λ n. absurd (n l)) (λ x. x) s)))
      (λ c. ⊎_elim (λ t. inr (c.1 less ((decides_leaves o).0 t))) (λ f. inl (λ l. false≢true (sym f ∙ (decides_leaves o).1 l))) (cases_Bool (leaves o)))
      (Decides-or (not (leaves o)) (labelled m.labels (p + 1)) (Decides-not (leaves o) (decides_leaves o)) (decides_labelled m.labels (p + 1)))

  ends_found : (p : ℕ) (os : List Op) → p + length os ≡ length m.code → FoundFrom (Closed m) EndTold p os (code_ends m.labels p os)
  ends_found p [] h = throughout_none (λ k. Closed m (p + k))
  ends_found p (o ∷ []) h = rw so_done at (found_more (Closed m) EndTold p o [] _ (Ok tt) (must_tells (leaves o) (OpenEnd p) (decides_last p o (omega arith))) (λ _. throughout_none (λ k. Closed m (p + 1 + k))))
  ends_found p (o ∷ q ∷ os) h = found_more (Closed m) EndTold p o (q ∷ os) _ _ (must_tells (not (leaves o) || labelled m.labels (p + 1)) (OpenEnd p) (decides_behind p o (omega arith))) (λ _. ends_found (p + 1) (q ∷ os) (omega arith))

  -- the three searches, one behind the other
  form_told : MatchResult (form_of m) (λ _. WellFormed m) (FirstFault m)
  form_told =
      let labels = found_all (Fits m) LabelTold m.labels _ (labels_found 0 0 m.labels (λ k l a. rw zero-add a) (λ p. ((λ t j k a h. absurd (omega arith)), (λ _. le-leb 0 p (omega arith))))) in
      let names = found_all (HasAll m) NameTold m.code _ (names_found 0 m.code) in
      let ends = found_all (Closed m) EndTold m.code _ (ends_found 0 m.code (zero-add _)) in
      so_cases (WellFormed m) (FirstFault m) (labels_rise (length m.code) 0 0 m.labels) _
      (MatchResult-weaker (labels_rise (length m.code) 0 0 m.labels) labels (λ _ fit. fit) (λ e f. subst (FirstFault m) (sym f.2) (label f.1)))
      (λ fit. so_cases (WellFormed m) (FirstFault m) (code_names (scope_of m) 0 m.code) _
      (MatchResult-weaker (code_names (scope_of m) 0 m.code) names (λ _ named. named) (λ e f. subst (FirstFault m) (sym f.2.2) (absent fit f.1 f.2.1)))
      (λ named. MatchResult-weaker (code_ends m.labels 0 m.code) ends
      (λ _ closed. record { inside = λ i l a. (fit i l a).1; rising = λ i l a. (fit i l a).0; named = named; last = λ p o a. (closed p o a).0; behind = λ p o a. (closed p o a).1 })
      (λ e f. subst (FirstFault m) (sym f.2) (end fit named f.1))))

  no_fault : WellFormed m → (e : Refusal) → FirstFault m e → ⊥
  no_fault w e (label f) = first_breaks f (λ i l a. (w.rising i l a, w.inside i l a))
  no_fault w e (absent fit f g) = first_breaks f w.named
  no_fault w e (end fit named f) = first_breaks f (λ p o a. (w.last p o a, w.behind p o a))

  same_operation : {p q : ℕ} (f : First (HasAll m) m.code p) (g : First (HasAll m) m.code q) → f.item ≡ g.item
  same_operation f g = same_at (rw (same_first f g) at f.at) g.at

  same_fault : (d e : Refusal) → FirstFault m d → FirstFault m e → d ≡ e
  same_fault d e (label f) (label g) = ap LabelPoint (same_first f g)
  same_fault d e (label f) (absent fit g b) = absurd (first_breaks f fit)
  same_fault d e (label f) (end fit named g) = absurd (first_breaks f fit)
  same_fault d e (absent fit f a) (label g) = absurd (first_breaks g fit)
  same_fault d e (absent fit f a) (absent fit' g b) = let same : f.item ≡ g.item = same_operation f g in λ i. Absent (same_first f g i) (same_first (rw same at a) b i)
  same_fault d e (absent fit f a) (end fit' named g) = absurd (first_breaks f named)
  same_fault d e (end fit named f) (label g) = absurd (first_breaks g fit)
  same_fault d e (end fit named f) (absent fit' g b) = absurd (first_breaks g named)
  same_fault d e (end fit named f) (end fit' named' g) = ap OpenEnd (same_first f g)

pub form_exact : FormExact
form_exact m = ((λ e. MatchResult-at_ok (λ _. WellFormed m) (FirstFault m) tt e (form_told m)), (λ w. ok_unless (WellFormed m) (form_of m) (form_told m) (no_fault m w)))

pub form_first : FormFirst
form_first m e = (
  (λ is. MatchResult-at_err (λ _. WellFormed m) (FirstFault m) e is (form_told m)),
  (λ f. err_unless e (form_of m) (form_told m) (λ w. no_fault m w e f) (λ d g. same_fault m d e g f)),
)
