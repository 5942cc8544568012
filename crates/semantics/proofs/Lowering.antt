-- Lower rows pass an operation's tests where higher ones do, on the same card and on one that has more classes and rows.
use Rattle.std.proofs.Common.{◌≡◌, ℕ, zero, suc, ◌+◌, ◌<◌, Bool, true, eqb, List, [], ◌∷◌, ◌++◌, map, length, get_or, set, Ok, refl, ap, ◌∙◌, subst}
use Rattle.std.proofs.lemmas.Bool.{and_parts, and_from, false≢true}
use Rattle.semantics.specs.declared.misfit.Misfit.{Misfit}
use Rattle.semantics.specs.declared.misfit.Misfit.TheVariants as misfit
use Rattle.semantics.specs.declared.operation.Destination.{Destination}
use Rattle.semantics.specs.declared.operation.Destination.TheVariants as destination
use Rattle.semantics.specs.declared.operation.Operand.{Operand}
use Rattle.semantics.specs.declared.operation.Operand.TheVariants as operand
use Rattle.semantics.specs.CheckLaws.{EntryKnown}
use Rattle.semantics.specs.Entries.{EntryDef, SameSignature, Agree, Found, Nearest}
use Rattle.semantics.specs.Lists.{At}
use Rattle.semantics.specs.Methods.{Each, Op, return, jump, jump_if, jump_list, invoke, LabelDef, MethodDef}
use Rattle.semantics.specs.Tests.{then, demand, bool_class, int_class, operand_class, classes_fit, label_row, arguments_fit, callee, put_into, locals_of, own_tests, labels_fit}
use Rattle.semantics.specs.Tree.{Up, Tree, fits}
use Rattle.semantics.proofs.ItemPlaces.{each_at}
use Rattle.semantics.proofs.Lookups.{lookup_nearest, lookup_serves}
use Rattle.semantics.proofs.OnlyTexts.{same_ok}
use Rattle.semantics.proofs.Testing.{then_ok, demanded, then_pass, demand_then, callee_ok, callee_pass}
use Rattle.semantics.proofs.TreeOrder.{up_trans, fits_up, up_fits, fits_same}

-- the classes qs and the rows fs have all that ps and es have, and their signatures agree
pub record Over (ps qs : List ℕ) (es fs : List EntryDef) : Type 0 where
  pub tree : Tree ps
  pub onto : Tree qs
  pub agree : Agree qs fs
  pub keeps : (a b : ℕ) → Up ps a b → Up qs a b
  pub rows : (i : ℕ) (e : EntryDef) → At es i e → At fs i e

pub over_itself : {ps : List ℕ} {es : List EntryDef} → Tree ps → Agree ps es → Over ps ps es es
over_itself t agree = record { tree = t; onto = t; agree = agree; keeps = λ a b u. u; rows = λ i e a. a }

-- the temporaries behind an operation: as they were, or with the result of a row of es in one place
pub data Moved (es : List EntryDef) (ts us : List ℕ) : List ℕ → List ℕ → Type 0 where
  kept : Moved es ts us ts us
  put : {i : ℕ} {e : EntryDef} (n : ℕ) → At es i e → Moved es ts us (set ts n e.result) (set us n e.result)

module _ {ps qs : List ℕ} {es fs : List EntryDef} (h : Over ps qs es fs) where
  -- class x goes up on qs to where y goes up on ps; and so in each place of two rows
  abbrev pub Lower : ℕ → ℕ → Type 0
  Lower x y = (r : ℕ) → Up ps y r → Up qs x r

  abbrev pub Lowers : List ℕ → List ℕ → Type 0
  Lowers [] [] = Unit {0}
  Lowers [] (y ∷ ys) = ⊥
  Lowers (x ∷ xs) [] = ⊥
  Lowers (x ∷ xs) (y ∷ ys) = Lower x y × Lowers xs ys

  pub lower_same : (x : ℕ) → Lower x x
  lower_same x r u = h.keeps x r u

  pub lowers_same : (xs : List ℕ) → Lowers xs xs
  lowers_same [] = tt
  lowers_same (x ∷ xs) = (lower_same x, lowers_same xs)

  pub fits_lower : (x y r : ℕ) → Lower x y → fits ps y r ≡ true → fits qs x r ≡ true
  fits_lower x y r low e = up_fits qs h.onto (low r (fits_up ps h.tree e))

  pub lower_at : (xs ys : List ℕ) → Lowers xs ys → (n : ℕ) → Lower (get_or xs n 0) (get_or ys n 0)
  lower_at [] [] low n = lower_same 0
  lower_at [] (y ∷ ys) low n = absurd low
  lower_at (x ∷ xs) [] low n = absurd low
  lower_at (x ∷ xs) (y ∷ ys) low zero = low.0
  lower_at (x ∷ xs) (y ∷ ys) low (suc n) = lower_at xs ys low.1 n

  pub length_lower : (xs ys : List ℕ) → Lowers xs ys → length xs ≡ length ys
  length_lower [] [] low = refl
  length_lower [] (y ∷ ys) low = absurd low
  length_lower (x ∷ xs) [] low = absurd low
  length_lower (x ∷ xs) (y ∷ ys) low = ap suc (length_lower xs ys low.1)

  pub row_lower : (ts us rs : List ℕ) → Lowers ts us → classes_fit ps us rs ≡ true → classes_fit qs ts rs ≡ true
  row_lower [] [] [] low e = refl
  row_lower [] [] (r ∷ rs) low e = absurd (false≢true e)
  row_lower [] (u ∷ us) rs low e = absurd low
  row_lower (t ∷ ts) [] rs low e = absurd low
  row_lower (t ∷ ts) (u ∷ us) [] low e = absurd (false≢true e)
  row_lower (t ∷ ts) (u ∷ us) (r ∷ rs) low e =
      let p = and_parts (fits ps u r) (classes_fit ps us rs) e in
      and_from (fits qs t r) (classes_fit qs ts rs) (fits_lower t u r low.0 p.0) (row_lower ts us rs low.1 p.1)

  -- operands, where the locals have the classes ks below ls and the temporaries ts below us
  module _ (ks ls ts us : List ℕ) (locals : Lowers ks ls) (temporaries : Lowers ts us) where
    pub operand_lower : (a : Operand) → Lower (operand_class ks ts a) (operand_class ls us a)
    operand_lower (operand.Local n) = lower_at ks ls locals n
    operand_lower (operand.Temporary n) = lower_at ts us temporaries n
    operand_lower (operand.Constant z) = lower_same int_class

    pub operands_lower : (bs : List Operand) → Lowers (map (operand_class ks ts) bs) (map (operand_class ls us) bs)
    operands_lower [] = tt
    operands_lower (b ∷ bs) = (operand_lower b, operands_lower bs)

  pub arguments_lower : (k : ℕ) (xs ys as' : List ℕ) → Lowers xs ys → arguments_fit ps k ys as' ≡ Ok tt → arguments_fit qs k xs as' ≡ Ok tt
  arguments_lower k [] [] as' low e = refl
  arguments_lower k [] (y ∷ ys) as' low e = absurd low
  arguments_lower k (x ∷ xs) [] as' low e = absurd low
  arguments_lower k (x ∷ xs) (y ∷ ys) [] low e = refl
  arguments_lower k (x ∷ xs) (y ∷ ys) (a ∷ as') low e =
      let p = demanded (fits ps y a) (misfit.Argument k) _ e in
      demand_then (misfit.Argument k) _ (fits_lower x y a low.0 p.0) ∙ arguments_lower (k + 1) xs ys as' low.1 p.1

  -- the row that is called serves in place of the one that is called from above
  pub callee_lower : (x y m : ℕ) (xs ys : List ℕ) (f : Found) → Lower x y → Lowers xs ys → callee ps es y m ys ≡ Ok f
      → (g : Found) × (callee qs fs x m xs ≡ Ok g) × SameSignature g.entry f.entry
  callee_lower x y m xs ys f low lows e =
      let c = callee_ok ps es y m ys e in
      let near : Nearest ps es y m f = lookup_nearest h.tree c.row in
      let s = lookup_serves h.onto h.agree (h.rows _ _ near.row) near.name (low _ near.above) in (
        s.0,
        callee_pass qs fs x m xs (record {
          row = s.1;
          count = (λ i. eqb (length_lower xs ys lows i) (length (s.2.0 i))) ∙ c.count;
          fit = ap (arguments_fit qs 3 xs) s.2.0 ∙ arguments_lower 3 xs ys f.entry.arguments lows c.fit;
        }),
        s.2,
      )

  -- temporaries that an operation leaves as they are, once its test is passed
  demand_lower : (b b' : Bool) (d : Misfit) (ts us vs : List ℕ) → (b ≡ true → b' ≡ true) → then (demand b d) (λ _. Ok us) ≡ Ok vs
      → (ws : List ℕ) × (then (demand b' d) (λ _. Ok ts) ≡ Ok ws) × Moved es ts us ws vs
  demand_lower b b' d ts us vs more e =
      let p = demanded b d (Ok us) e in (ts, demand_then d (Ok ts) (more p.0), subst (Moved es ts us ts) (same_ok p.1) kept)

  pub put_lower : (ls ts us vs : List ℕ) (d : Destination) (i : ℕ) (e : EntryDef) → At es i e → put_into ps ls us d e.result ≡ Ok vs
      → (ws : List ℕ) × (put_into qs ls ts d e.result ≡ Ok ws) × Moved es ts us ws vs
  put_lower ls ts us vs (destination.Local n) i e a q = demand_lower _ _ misfit.ResultClass ts us vs (fits_lower e.result e.result (get_or ls n 0) (lower_same e.result)) q
  put_lower ls ts us vs (destination.Temporary n) i e a q = (set ts n e.result, refl, subst (Moved es ts us (set ts n e.result)) (same_ok q) (put n a))

  module _ (m : MethodDef) (ts us : List ℕ) (low : Lowers ts us) where
    own_operand : (a : Operand) → Lower (operand_class (locals_of m) ts a) (operand_class (locals_of m) us a)
    own_operand a = operand_lower (locals_of m) (locals_of m) ts us (lowers_same (locals_of m)) low a

    pub own_passes : (o : Op) (vs : List ℕ) → own_tests ps es m us o ≡ Ok vs → (ws : List ℕ) × (own_tests qs fs m ts o ≡ Ok ws) × Moved es ts us ws vs
    own_passes (return a) vs e = demand_lower _ _ misfit.ResultClass ts us vs (fits_lower _ _ m.result (own_operand a)) e
    own_passes (jump n) vs e = (ts, refl, subst (Moved es ts us ts) (same_ok e) kept)
    own_passes (jump_if a n) vs e = demand_lower _ _ misfit.Condition ts us vs (fits_lower _ _ bool_class (own_operand a)) e
    own_passes (jump_list a ns) vs e = demand_lower _ _ misfit.Condition ts us vs (fits_lower _ _ int_class (own_operand a)) e
    own_passes (invoke d a n bs) vs e =
        let p = then_ok (callee ps es (operand_class (locals_of m) us a) n (map (operand_class (locals_of m) us) bs)) _ e in
        let near = lookup_nearest h.tree (callee_ok ps es _ n _ p.1).row in
        let c = callee_lower _ _ n _ _ p.0 (own_operand a) (operands_lower (locals_of m) (locals_of m) ts us (lowers_same (locals_of m)) low bs) p.1 in
        let q = put_lower (locals_of m) ts us vs d _ p.0.entry near.row p.2 in
        (q.0, then_pass _ c.1 ∙ ap (put_into qs (locals_of m) ts d) c.2.1 ∙ q.1, q.2)

  pub labels_pass : (ls : List LabelDef) (ts us : List ℕ) → Lowers ts us → (k : ℕ) (ns : List ℕ) → labels_fit ps ls us k ns ≡ Ok tt → labels_fit qs ls ts k ns ≡ Ok tt
  labels_pass ls ts us low k [] e = refl
  labels_pass ls ts us low k (n ∷ ns) e =
      let p = demanded (classes_fit ps us (label_row ls n)) (misfit.Row k) _ e in
      demand_then (misfit.Row k) _ (row_lower ts us (label_row ls n) low p.0) ∙ labels_pass ls ts us low (k + 1) ns p.1

-- one card
pub result_known : (ps : List ℕ) (e : EntryDef) → EntryKnown ps e → e.result < length ps
result_known ps e known = last e.arguments known.1
  where
    last : (cs : List ℕ) → Each (λ c. c < length ps) (cs ++ e.result ∷ []) → e.result < length ps
    last [] all = all.0
    last (c ∷ cs) all = last cs all.1

pub none_agree : (ps : List ℕ) → Agree ps []
none_agree ps i j e f a b n u = elim a [ ]

module _ (ps : List ℕ) (t : Tree ps) where
  pub classes_same : (ts : List ℕ) → Each (λ c. c < length ps) ts → classes_fit ps ts ts ≡ true
  classes_same [] all = refl
  classes_same (x ∷ xs) all = and_from _ _ (fits_same ps t x all.0) (classes_same xs all.1)

  pub classes_set : (ts us : List ℕ) (n x y : ℕ) → fits ps x y ≡ true → classes_fit ps ts us ≡ true → classes_fit ps (set ts n x) (set us n y) ≡ true
  classes_set [] [] n x y e h = refl
  classes_set [] (v ∷ us) n x y e h = absurd (false≢true h)
  classes_set (w ∷ ts) [] n x y e h = absurd (false≢true h)
  classes_set (w ∷ ts) (v ∷ us) zero x y e h = and_from (fits ps x y) (classes_fit ps ts us) e (and_parts (fits ps w v) (classes_fit ps ts us) h).1
  classes_set (w ∷ ts) (v ∷ us) (suc n) x y e h =
      let p = and_parts (fits ps w v) (classes_fit ps ts us) h in
      and_from (fits ps w v) (classes_fit ps (set ts n x) (set us n y)) p.0 (classes_set ts us n x y e p.1)

  module _ (es : List EntryDef) (agree : Agree ps es) where
    pub fits_lowers : (ts us : List ℕ) → classes_fit ps ts us ≡ true → Lowers (over_itself t agree) ts us
    fits_lowers [] [] e = tt
    fits_lowers [] (u ∷ us) e = false≢true e
    fits_lowers (x ∷ xs) [] e = false≢true e
    fits_lowers (x ∷ xs) (u ∷ us) e =
        let p = and_parts (fits ps x u) (classes_fit ps xs us) e in
        ((λ r v. up_trans (fits_up ps t p.0) v), fits_lowers xs us p.1)

    pub moved_fits : Each (EntryKnown ps) es → (ts us ws vs : List ℕ) → classes_fit ps ts us ≡ true → Moved es ts us ws vs → classes_fit ps ws vs ≡ true
    moved_fits known ts us ws vs e kept = e
    moved_fits known ts us ws vs e (put {e = f} n a) = classes_set ts us n f.result f.result (fits_same ps t f.result (result_known ps f (each_at (EntryKnown ps) known a))) e

    -- an operation's own tests, from lower rows
    pub own_lower : Each (EntryKnown ps) es → (m : MethodDef) (ts us vs : List ℕ) (o : Op) → classes_fit ps ts us ≡ true → own_tests ps es m us o ≡ Ok vs
        → (ws : List ℕ) × (own_tests ps es m ts o ≡ Ok ws) × (classes_fit ps ws vs ≡ true)
    own_lower known m ts us vs o e q =
        let p = own_passes (over_itself t agree) m ts us (fits_lowers ts us e) o vs q in (p.0, p.1, moved_fits known ts us p.0 vs e p.2)

  pub classes_trans : (ts us vs : List ℕ) → classes_fit ps ts us ≡ true → classes_fit ps us vs ≡ true → classes_fit ps ts vs ≡ true
  classes_trans ts us vs e q = row_lower (over_itself t (none_agree ps)) ts us vs (fits_lowers [] (none_agree ps) ts us e) q

  pub labels_lower : (ls : List LabelDef) (ts us : List ℕ) (k : ℕ) (ns : List ℕ) → classes_fit ps ts us ≡ true → labels_fit ps ls us k ns ≡ Ok tt → labels_fit ps ls ts k ns ≡ Ok tt
  labels_lower ls ts us k ns e q = labels_pass (over_itself t (none_agree ps)) ls ts us (fits_lowers [] (none_agree ps) ts us e) k ns q
