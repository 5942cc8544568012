-- The tests of an operation decide its rule, and what they leave is the row behind it.
use Rattle.std.proofs.Common.{◌≡◌, ℕ, suc, ◌+◌, Bool, eqb, List, [], ◌∷◌, map, length, get_or, set, Some, None, Ok, Decides, Option, sym, refl, ap, ◌∙◌, subst, arith, MatchResult}
use Rattle.std.proofs.lemmas.Result.{MatchResult-weaker}
use Rattle.std.proofs.lemmas.Bool.Decides.{Decides-eqb}
use Rattle.semantics.specs.declared.misfit.Misfit.{Misfit}
use Rattle.semantics.specs.declared.misfit.Misfit.TheVariants as misfit
use Rattle.semantics.specs.declared.operation.Destination.TheVariants.{Local, Temporary}
use Rattle.semantics.specs.declared.operation.Operand.{Operand}
use Rattle.semantics.specs.Check.{point_tests}
use Rattle.semantics.specs.Entries.{EntryDef, Found, lookup, Nearest}
use Rattle.semantics.specs.Methods.{Each, Op, return, jump, jump_if, jump_list, invoke, LabelDef, MethodDef}
use Rattle.semantics.specs.Passes.{RowFits, Rule, Behind}
use Rattle.semantics.specs.Rows.{none, cell}
use Rattle.semantics.specs.Tests.{then, demand, needed, bool_class, int_class, operand_class, classes_fit, label_row, arguments_fit, callee, put_into, locals_of, own_tests, named_labels, first_label, labels_fit}
use Rattle.semantics.specs.Tree.{Up, Tree, fits}
use Rattle.semantics.proofs.Lookups.{lookup_nearest, nearest_lookup, same_nearest}
use Rattle.semantics.proofs.RowLaws.{row_decides}
use Rattle.semantics.proofs.Testing.{then_cases, demand_tells}
use Rattle.semantics.proofs.TreeOrder.{fits_decides}

pub fits_length : {ps ts us : List ℕ} → RowFits ps ts us → length ts ≡ length us
fits_length none = refl
fits_length (cell u f) = ap suc (fits_length f)

module _ (ps : List ℕ) (t : Tree ps) where
  pub decides_fit : (ts us : List ℕ) → Decides (classes_fit ps ts us) (RowFits ps ts us)
  decides_fit ts us = row_decides ps (λ c. c) (λ c. c) t ts us

  -- a demand, behind which the temporaries are as they were
  demand_told : {P : Type 0} (b : Bool) (d : Misfit) (ts : List ℕ) → Decides b P → MatchResult (then (demand b d) (λ _. Ok ts)) (λ us. P × (us ≡ ts)) (λ _. P → ⊥)
  demand_told {P} b d ts h = then_cases (λ us. P × (us ≡ ts)) (λ _. P → ⊥) (demand b d) (λ _. Ok ts) (demand_tells b d h) (λ u p. (p, refl))

  -- the rows of the labels ns
  abbrev pub LabelsFit : List LabelDef → List ℕ → List ℕ → Type 0
  LabelsFit ls ts ns = Each (λ n. RowFits ps ts (label_row ls n)) ns

  pub labels_told : (ls : List LabelDef) (ts : List ℕ) (k : ℕ) (ns : List ℕ) → MatchResult (labels_fit ps ls ts k ns) (λ _. LabelsFit ls ts ns) (λ _. LabelsFit ls ts ns → ⊥)
  labels_told ls ts k [] = tt
  labels_told ls ts k (n ∷ ns) = then_cases (λ _. LabelsFit ls ts (n ∷ ns)) (λ _. LabelsFit ls ts (n ∷ ns) → ⊥) (demand (classes_fit ps ts (label_row ls n)) (misfit.Row k)) _
      (MatchResult-weaker (demand (classes_fit ps ts (label_row ls n)) (misfit.Row k)) (demand_tells _ (misfit.Row k) (decides_fit ts (label_row ls n))) (λ _ p. p) (λ _ out all. out all.0))
      (λ _ p. MatchResult-weaker (labels_fit ps ls ts (k + 1) ns) (labels_told ls ts (k + 1) ns) (λ _ all. (p, all)) (λ _ out all. out all.1))

  -- as many arguments as a signature has
  arguments_told : (k : ℕ) (cs as' : List ℕ) → length cs ≡ length as' → MatchResult (arguments_fit ps k cs as') (λ _. RowFits ps cs as') (λ _. RowFits ps cs as' → ⊥)
  arguments_told k [] [] e = none
  arguments_told k [] (a ∷ as') e = absurd (omega arith)
  arguments_told k (c ∷ cs) [] e = absurd (omega arith)
  arguments_told k (c ∷ cs) (a ∷ as') e = then_cases (λ _. RowFits ps (c ∷ cs) (a ∷ as')) (λ _. RowFits ps (c ∷ cs) (a ∷ as') → ⊥) (demand (fits ps c a) (misfit.Argument k)) _
      (MatchResult-weaker (demand (fits ps c a) (misfit.Argument k)) (demand_tells _ (misfit.Argument k) (fits_decides ps t c a)) (λ _ p. p) (λ _ out f. out (first f)))
      (λ _ p. MatchResult-weaker (arguments_fit ps (k + 1) cs as') (arguments_told (k + 1) cs as' (omega arith)) (λ _ f. cell p f) (λ _ out f. out (rest f)))
    where
      first : {x y : ℕ} {xs ys : List ℕ} → RowFits ps (x ∷ xs) (y ∷ ys) → Up ps x y
      first (cell u f) = u

      rest : {x y : ℕ} {xs ys : List ℕ} → RowFits ps (x ∷ xs) (y ∷ ys) → RowFits ps xs ys
      rest (cell u f) = f

  module _ (es : List EntryDef) where
    -- the row f is the nearest, and takes the arguments
    abbrev Fitting : ℕ → ℕ → List ℕ → Found → Type 0
    Fitting c n cs f = Nearest ps es c n f × RowFits ps cs f.entry.arguments

    abbrev NoneFits : ℕ → ℕ → List ℕ → Misfit → Type 0
    NoneFits c n cs e = (f : Found) → Fitting c n cs f → ⊥

    nearest_told : (c n : ℕ) (cs : List ℕ) → MatchResult (needed (lookup ps es c n) misfit.NoRow) (Nearest ps es c n) (NoneFits c n cs)
    nearest_told c n cs = go (lookup ps es c n) refl
      where
        go : (o : Option Found) → lookup ps es c n ≡ o → MatchResult (needed o misfit.NoRow) (Nearest ps es c n) (NoneFits c n cs)
        go (Some f) e = lookup_nearest t e
        go None e = λ f near. let s : lookup ps es c n ≡ Some f = nearest_lookup t near.0 in let z : ◌≡◌ {A = ℕ} 0 1 = cc in omega arith

    callee_told : (c n : ℕ) (cs : List ℕ) → MatchResult (callee ps es c n cs) (Fitting c n cs) (NoneFits c n cs)
    callee_told c n cs = then_cases (Fitting c n cs) (NoneFits c n cs) (needed (lookup ps es c n) misfit.NoRow) _ (nearest_told c n cs) taken
      where
        taken : (f : Found) → Nearest ps es c n f → MatchResult (then (demand (eqb (length cs) (length f.entry.arguments)) (misfit.Argument 2)) (λ _. then (arguments_fit ps 3 cs f.entry.arguments) (λ _. Ok f))) (Fitting c n cs) (NoneFits c n cs)
        taken f near = then_cases (Fitting c n cs) (NoneFits c n cs) (demand (eqb (length cs) (length f.entry.arguments)) (misfit.Argument 2)) _
            (MatchResult-weaker (demand (eqb (length cs) (length f.entry.arguments)) (misfit.Argument 2)) (demand_tells _ (misfit.Argument 2) (Decides-eqb (length cs) (length f.entry.arguments))) (λ _ e. e) (λ _ out g x. out (fits_length (its g x))))
            (λ _ e. then_cases (Fitting c n cs) (NoneFits c n cs) (arguments_fit ps 3 cs f.entry.arguments) _
            (MatchResult-weaker (arguments_fit ps 3 cs f.entry.arguments) (arguments_told 3 cs f.entry.arguments e) (λ _ r. r) (λ _ out g x. out (its g x)))
            (λ _ r. (near, r)))
          where
            its : (g : Found) → Fitting c n cs g → RowFits ps cs f.entry.arguments
            its g x = let e : g ≡ f = same_nearest t x.0 near in subst (λ (k : Found). RowFits ps cs k.entry.arguments) e x.1

    module _ (m : MethodDef) (ts : List ℕ) where
      abbrev class : Operand → ℕ
      class a = operand_class (locals_of m) ts a

      -- what an operation asks beside the rows of the labels that it names
      abbrev Own : Op → Type 0
      Own (return a) = Up ps (class a) m.result
      Own (jump n) = Unit {0}
      Own (jump_if a n) = Up ps (class a) bool_class
      Own (jump_list a ns) = Up ps (class a) int_class
      Own (invoke d a n bs) = Rule ps es m ts (invoke d a n bs)

      own_told : (o : Op) → MatchResult (own_tests ps es m ts o) (λ us. Own o × Behind ps es m ts o us) (λ _. Own o → ⊥)
      own_told (return a) = demand_told _ misfit.ResultClass ts (fits_decides ps t (class a) m.result)
      own_told (jump n) = (tt, refl)
      own_told (jump_if a n) = demand_told _ misfit.Condition ts (fits_decides ps t (class a) bool_class)
      own_told (jump_list a ns) = demand_told _ misfit.Condition ts (fits_decides ps t (class a) int_class)
      own_told (invoke (Local k) a n bs) = then_cases _ _ (callee ps es (class a) n (map class bs)) _
          (MatchResult-weaker (callee ps es (class a) n (map class bs)) (callee_told (class a) n (map class bs)) (λ f x. x) (λ _ out x. out x.0 (x.1, x.2.0)))
          (λ f x. MatchResult-weaker (put_into ps (locals_of m) ts (Local k) f.entry.result) (demand_told _ misfit.ResultClass ts (fits_decides ps t f.entry.result (get_or (locals_of m) k 0)))
          (λ us p. ((f, x.0, (x.1, p.0)), p.1))
          (λ _ out y. let e : y.0 ≡ f = same_nearest t y.1 x.0 in out (subst (λ (g : Found). Up ps g.entry.result (get_or (locals_of m) k 0)) e y.2.1)))
      own_told (invoke (Temporary k) a n bs) = then_cases _ _ (callee ps es (class a) n (map class bs)) _
          (MatchResult-weaker (callee ps es (class a) n (map class bs)) (callee_told (class a) n (map class bs)) (λ f x. x) (λ _ out x. out x.0 (x.1, x.2)))
          (λ f x. ((f, x.0, x.1), (f, x.0, refl)))

      -- both parts of a rule
      parts : (o : Op) → Rule ps es m ts o → Own o × LabelsFit m.labels ts (named_labels o)
      parts (return a) r = (r, tt)
      parts (jump n) r = (tt, (r, tt))
      parts (jump_if a n) r = (r.0, (r.1, tt))
      parts (jump_list a ns) r = (r.0, r.1)
      parts (invoke d a n bs) r = (r, tt)

      whole : (o : Op) → Own o → LabelsFit m.labels ts (named_labels o) → Rule ps es m ts o
      whole (return a) r l = r
      whole (jump n) r l = l.0
      whole (jump_if a n) r l = (r, l.0)
      whole (jump_list a ns) r l = (r, l)
      whole (invoke d a n bs) r l = r

      pub rule_told : (o : Op) → MatchResult (point_tests ps es m ts o) (λ us. Rule ps es m ts o × Behind ps es m ts o us) (λ _. Rule ps es m ts o → ⊥)
      rule_told o = then_cases _ _ (own_tests ps es m ts o) _
          (MatchResult-weaker (own_tests ps es m ts o) (own_told o) (λ us x. x) (λ _ out r. out (parts o r).0))
          (λ us x. then_cases _ _ (labels_fit ps m.labels ts (first_label o) (named_labels o)) _
          (MatchResult-weaker (labels_fit ps m.labels ts (first_label o) (named_labels o)) (labels_told m.labels ts (first_label o) (named_labels o)) (λ _ l. l) (λ _ out r. out (parts o r).1))
          (λ _ l. (whole o x.0 l, x.1)))

      pub same_behind : (o : Op) (us vs : List ℕ) → Behind ps es m ts o us → Behind ps es m ts o vs → us ≡ vs
      same_behind (return a) us vs p q = p ∙ sym q
      same_behind (jump n) us vs p q = p ∙ sym q
      same_behind (jump_if a n) us vs p q = p ∙ sym q
      same_behind (jump_list a ns) us vs p q = p ∙ sym q
      same_behind (invoke (Local k) a n bs) us vs p q = p ∙ sym q
      same_behind (invoke (Temporary k) a n bs) us vs p q = p.2 ∙ ap (λ (f : Found). set ts k f.entry.result) (same_nearest t p.1 q.1) ∙ sym q.2
