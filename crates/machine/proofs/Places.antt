-- Items of lists by their place: of labels, and of what is gathered item by item.
use Rattle.std.proofs.Common.{◌≡◌, ℕ, Bool, true, false, List, [], ◌∷◌, ◌++◌, length, take, Some, None, Ok, Option, sym, refl, ap, ◌∙◌, arith}
use Rattle.std.proofs.lemmas.List.{length-append, length-take-le, take_all, take-append-le}
use lib.Dec.{ltb}
use Rattle.std.proofs.lemmas.Bool.{ltb-true, ltb-false, lt-ltb, le-ltb, cond-true, cond-false}
use Rattle.semantics.specs.declared.misfit.Misfit.TheVariants.{Row}
use Rattle.semantics.specs.declared.value.Value.{Value}
use Rattle.semantics.specs.Items.{pushed}
use Rattle.semantics.specs.Methods.{LabelDef}
use Rattle.semantics.specs.Rows.{row_fits}
use Rattle.semantics.specs.Runs.{at_label, kind_of}
use Rattle.semantics.specs.Tests.{demand}
use Rattle.verifier.specs.Points.{labelled_row}

-- the test at a labelled point, and at one that has no label
pub labelled_by : (ps : List ℕ) (vs : List Value) (o : Option LabelDef) (ts : List ℕ) → Some ts ≡ labelled_row o → demand (row_fits ps kind_of (λ c. c) vs ts) (Row 15) ≡ at_label ps vs o
labelled_by ps vs None ts e = cc
labelled_by ps vs (Some l) ts e = cc

pub unlabelled_by : (ps : List ℕ) (vs : List Value) (o : Option LabelDef) → None ≡ labelled_row o → Ok tt ≡ at_label ps vs o
unlabelled_by ps vs None e = refl
unlabelled_by ps vs (Some l) e = cc

-- the first n items of one more
pub taken_more : {X : Type 0} (n : ℕ) (xs : List X) (x : X) → take n (xs ++ x ∷ []) ≡ pushed n (take n xs) x
taken_more n xs x = go (ltb (length xs) n) refl
  where
    go : (b : Bool) → ltb (length xs) n ≡ b → take n (xs ++ x ∷ []) ≡ pushed n (take n xs) x
    go true e =
        let h = ltb-true (length xs) n e in
        take_all n (xs ++ x ∷ []) (omega (arith, length-append xs (x ∷ []), h))
        ∙ sym (ap (λ l. pushed n l x) (take_all n xs (omega (arith, h))) ∙ cond-true _ _ _ (lt-ltb (length xs) n h))
    go false e =
        let h = ltb-false (length xs) n e in
        take-append-le n xs (x ∷ []) h
        ∙ sym (cond-false _ _ _ (le-ltb (length (take n xs)) n (omega (arith, length-take-le n xs h))))
