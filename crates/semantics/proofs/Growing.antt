-- What passes on a card passes on each card grown from it, and the rules for a new row keep the signatures in agreement.
use Rattle.std.proofs.Common.{◌≡◌, ℕ, ◌+◌, ◌<◌, true, false, not, ◌||◌, eqb, List, [], ◌∷◌, ◌++◌, length, Some, None, Ok, Option, sym, refl, ap, ◌∙◌, subst, ⊎_elim}
use Rattle.std.proofs.lemmas.Bool.{false≢true, and_parts, and_from, or_left, or_right, eqb-true, eq-eqb, ltb-true, not-true, not_from_false, cases_Bool}
use Rattle.semantics.specs.declared.refusal.Refusal.TheVariants.{ClassAbsent, RowMisfit, NameTaken, SignatureDiffers}
use Rattle.semantics.specs.Check.{label_at_point, falling_in, arrived, at_row, carried, point_tests, tested_at, check_from, zeros, check_of}
use Rattle.semantics.specs.CheckLaws.{GrowthKeepsPassing, RulesKeepAgreement}
use Rattle.semantics.specs.Entries.{EntryDef, SameSignature, Agree}
use Rattle.semantics.specs.Form.{must}
use Rattle.semantics.specs.Lists.{At, here, there}
use Rattle.semantics.specs.Methods.{Each, Op, LabelDef, MethodDef}
use Rattle.semantics.specs.NewRows.{entry_classes, classes_present, taken, same_list, same_signature, clashes, agrees}
use Rattle.semantics.specs.Reading.{so}
use Rattle.semantics.specs.Tests.{classes_fit, own_tests, named_labels, first_label, labels_fit}
use Rattle.semantics.specs.Tree.{present, Up, Tree, fits}
use Rattle.semantics.proofs.ItemPlaces.{at_front, at_push}
use Rattle.semantics.proofs.LineTexts.{so_ok, from_so}
use Rattle.semantics.proofs.Lookups.{up_grown}
use Rattle.semantics.proofs.Lowering.{Over, Moved, kept, put, lowers_same, row_lower, own_passes, labels_pass}
use Rattle.semantics.proofs.Testing.{then_ok, then_pass, must_ok, must_pass, tested_ok, tested_pass}
use Rattle.semantics.proofs.TreeOrder.{up_fits}

pub over_grown : {ps : List ℕ} (qs : List ℕ) {es : List EntryDef} (fs : List EntryDef) → Tree ps → Tree (ps ++ qs) → Agree (ps ++ qs) (es ++ fs) → Over ps (ps ++ qs) es (es ++ fs)
over_grown qs fs t s agree = record { tree = t; onto = s; agree = agree; keeps = λ a b u. up_grown t qs u; rows = λ i e a. at_front fs a }

same_moved : {es : List EntryDef} {ts ws vs : List ℕ} → Moved es ts ts ws vs → ws ≡ vs
same_moved kept = refl
same_moved (put n a) = refl

-- the same rows at the same points
module _ {ps qs : List ℕ} {es fs : List EntryDef} (h : Over ps qs es fs) (m : MethodDef) where
  arrived_over : (p : ℕ) (c : Option (List ℕ)) (l : Option LabelDef) (d : Option (List ℕ)) → arrived ps p c l ≡ Ok d → arrived qs p c l ≡ Ok d
  arrived_over p c None d e = e
  arrived_over p None (Some l) d e = e
  arrived_over p (Some ts) (Some l) d e =
      let s = from_so (must (classes_fit ps ts l.row) (RowMisfit p falling_in)) _ d e in
      so_ok _ (must_pass (RowMisfit p falling_in) (row_lower h ts ts l.row (lowers_same h ts) (must_ok _ (RowMisfit p falling_in) s.1))) ∙ s.2

  tests_over : (ts us : List ℕ) (o : Op) → point_tests ps es m ts o ≡ Ok us → point_tests qs fs m ts o ≡ Ok us
  tests_over ts us o e =
      let own = then_ok (own_tests ps es m ts o) _ e in
      let labels = then_ok (labels_fit ps m.labels ts (first_label o) (named_labels o)) _ own.2 in
      let more = own_passes h m ts ts (lowers_same h ts) o own.0 own.1 in
      then_pass _ more.1 ∙ then_pass _ (labels_pass h m.labels ts ts (lowers_same h ts) (first_label o) (named_labels o) labels.1)
      ∙ ap Ok (same_moved more.2) ∙ labels.2

  row_over : (p : ℕ) (o : Op) (os : List Op) (d : Option (List ℕ)) → ((c : Option (List ℕ)) → check_from ps es m (p + 1) c os ≡ Ok tt → check_from qs fs m (p + 1) c os ≡ Ok tt)
      → at_row d (check_from ps es m (p + 1) None os) (λ ts. so (tested_at p (point_tests ps es m ts o)) (λ us. check_from ps es m (p + 1) (carried o us) os)) ≡ Ok tt
      → at_row d (check_from qs fs m (p + 1) None os) (λ ts. so (tested_at p (point_tests qs fs m ts o)) (λ us. check_from qs fs m (p + 1) (carried o us) os)) ≡ Ok tt
  row_over p o os None rest e = rest None e
  row_over p o os (Some ts) rest e =
      let s = from_so (tested_at p (point_tests ps es m ts o)) _ tt e in
      so_ok _ (tested_pass p (tests_over ts s.0 o (tested_ok p _ s.1))) ∙ rest (carried o s.0) s.2

  pub check_over : (p : ℕ) (os : List Op) (c : Option (List ℕ)) → check_from ps es m p c os ≡ Ok tt → check_from qs fs m p c os ≡ Ok tt
  check_over p [] c e = refl
  check_over p (o ∷ os) c e =
      let s = from_so (arrived ps p c (label_at_point m.labels p)) _ tt e in
      so_ok _ (arrived_over p c (label_at_point m.labels p) s.0 s.1) ∙ row_over p o os s.0 (check_over (p + 1) os) s.2

-- it needs no premise on the classes that rows name
pub growth_passes :
    (ps qs : List ℕ) (es fs : List EntryDef) (m : MethodDef)
    → Tree ps → Tree (ps ++ qs) → Agree (ps ++ qs) (es ++ fs)
    → check_of ps es m ≡ Ok tt → check_of (ps ++ qs) (es ++ fs) m ≡ Ok tt
unfolding check_of
growth_passes ps qs es fs m t s agree e = check_over (over_grown qs fs t s agree) m 0 m.code (Some (zeros m.temporaries)) e

pub growth_keeps_passing : GrowthKeepsPassing
growth_keeps_passing ps qs es fs m t s known agree has e = growth_passes ps qs es fs m t s agree e

-- what the test of a new row tells of the rows that are there
same_list_lem : (xs ys : List ℕ) → same_list xs ys ≡ true → xs ≡ ys
same_list_lem [] [] e = refl
same_list_lem [] (y ∷ ys) e = absurd (false≢true e)
same_list_lem (x ∷ xs) [] e = absurd (false≢true e)
same_list_lem (x ∷ xs) (y ∷ ys) e = let p = and_parts (eqb x y) (same_list xs ys) e in λ i. eqb-true x y p.0 i ∷ same_list_lem xs ys p.1 i

same_signature_lem : (e f : EntryDef) → same_signature e f ≡ true → SameSignature e f
same_signature_lem e f s = let p = and_parts (same_list e.arguments f.arguments) (eqb e.result f.result) s in (same_list_lem e.arguments f.arguments p.0, eqb-true e.result f.result p.1)

module _ (ps : List ℕ) (t : Tree ps) (e : EntryDef) where
  none_clashes : (i : ℕ) (fs : List EntryDef) → agrees ps e i fs ≡ Ok tt → {k : ℕ} {f : EntryDef} → At fs k f → clashes ps e f ≡ false
  none_clashes i [] h a = elim a [ ]
  none_clashes i (f ∷ fs) h here = not-true (clashes ps e f) (must_ok _ (SignatureDiffers i) (from_so (must (not (clashes ps e f)) (SignatureDiffers i)) _ tt h).1)
  none_clashes i (f ∷ fs) h (there a) = none_clashes (i + 1) fs (from_so (must (not (clashes ps e f)) (SignatureDiffers i)) _ tt h).2 a

  unclashed : (f : EntryDef) → clashes ps e f ≡ false → f.name ≡ e.name → ((fits ps f.class e.class || fits ps e.class f.class) ≡ true) → SameSignature f e
  unclashed f h n u = ⊎_elim (same_signature_lem f e)
      (λ d. absurd (false≢true (sym h ∙ and_from (eqb f.name e.name) _ (eq-eqb f.name e.name n) (and_from _ (not (same_signature f e)) u (not_from_false (same_signature f e) d)))))
      (cases_Bool (same_signature f e))

-- the classes that a new row names are present
pub classes_known : (ps : List ℕ) (k : ℕ) (cs : List ℕ) → classes_present ps k cs ≡ Ok tt → Each (λ c. c < length ps) cs
classes_known ps k [] e = tt
classes_known ps k (c ∷ cs) e =
    let s = from_so (must (present ps c) (ClassAbsent k)) _ tt e in (ltb-true c (length ps) (must_ok _ (ClassAbsent k) s.1), classes_known ps (k + 1) cs s.2)

pub rules_keep_agreement : RulesKeepAgreement
rules_keep_agreement ps es e t agree rules i j x y a b n u =
    ⊎_elim (λ c. ⊎_elim (λ d. agree i j x y c d n u) (λ s. below c s.1) (at_push es e b))
    (λ r. ⊎_elim (λ d. above r.1 d) (λ s. let same : x ≡ y = r.1 ∙ sym s.1 in (ap (λ (z : EntryDef). z.arguments) same, ap (λ (z : EntryDef). z.result) same)) (at_push es e b)) (at_push es e a)
  where
    agreed : agrees ps e 0 es ≡ Ok tt
    agreed = (from_so (must (not (taken e es)) NameTaken) _ tt (from_so (classes_present ps 0 (entry_classes e)) _ tt rules).2).2

    below : At es i x → y ≡ e → SameSignature x y
    below c same = subst (SameSignature x) (sym same) (unclashed ps t e x (none_clashes ps t e 0 es agreed c) (n ∙ ap (λ (z : EntryDef). z.name) same)
        (or_left _ _ (up_fits ps t (subst (λ (z : EntryDef). Up ps x.class z.class) same u))))

    above : x ≡ e → At es j y → SameSignature x y
    above same d =
        let s = unclashed ps t e y (none_clashes ps t e 0 es agreed d) (sym n ∙ ap (λ (z : EntryDef). z.name) same) (or_right _ _ (up_fits ps t (subst (λ (z : EntryDef). Up ps z.class y.class) same u))) in
        subst (λ (z : EntryDef). SameSignature z y) (sym same) (sym s.0, sym s.1)
