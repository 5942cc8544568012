-- The point that a label marks, and what the first fault tells.
use Rattle.std.proofs.Common.{◌≡◌, ℕ, ◌||◌, eqb, List, [], ◌∷◌, map, IfErr, Ok, Err, sym, refl, ap, ◌∙◌}
use Rattle.std.specs.List.{list_any}
use Rattle.semantics.specs.declared.method.Label.{Label}
use Rattle.semantics.specs.Form.{Formed, labelled, form_of}
use Rattle.semantics.specs.Methods.{label_of, MethodDef}
use Rattle.semantics.specs.FormLaws.{WellFormed, FirstFault}
use Rattle.semantics.proofs.FormLaws.{form_exact, form_first}

-- the label of a point
pub labelled_any : (p : ℕ) (xs : List Label) → list_any (λ l. eqb l.point p) xs ≡ labelled (map label_of xs) p
labelled_any p [] = refl
labelled_any p (x ∷ xs) = ap (λ b. eqb x.point p || b) (labelled_any p xs)

-- what the first fault tells of the method
pub told_exact : (m : MethodDef) (r : Formed) → r ≡ form_of m → (r ≡ Ok tt → WellFormed m) × (WellFormed m → r ≡ Ok tt)
told_exact m r e = ((λ o. (form_exact m).0 (sym e ∙ o)), (λ w. e ∙ (form_exact m).1 w))

pub told_first : (m : MethodDef) (r : Formed) → r ≡ form_of m → IfErr r (FirstFault m)
told_first m (Ok u) e = tt
told_first m (Err d) e = (form_first m d).0 (sym e)
