-- The lookup by candidates, and the row that a lookup finds.
use Rattle.std.proofs.Common.{◌≡◌, ℕ, suc, ◌+◌, ◌-◌, ◌<◌, ◌≤◌, Bool, true, false, cond, not, ◌&&◌, eqb, List, [], ◌∷◌, map, length, get_or, drop, IfSome, Some, None, Option, sym, refl, ap, ◌∙◌, arith}
use Rattle.std.specs.Option.{option_map}
use Rattle.std.proofs.lemmas.List.{drop_more, length-drop, length-map, get_or-map}
use Rattle.std.proofs.lemmas.Bool.{cond_both}
use Rattle.semantics.specs.declared.entry.Entry.{Entry}
use Rattle.semantics.specs.Entries.{EntryDef, entry_of, Found, found, closer, lookup_on, lookup}
use Rattle.semantics.specs.Tree.{fits}
use Rattle.verifier.specs.declared.lookup.Candidate.{Candidate}
use Rattle.verifier.specs.Answers.{number_of}
use Rattle.verifier.specs.Candidates.{candidate, nearer, considered}
use Rattle.semantics.proofs.Walks.{walk_end}

abbrev pub candidate_of : Option Found → Option Candidate
candidate_of None = None
candidate_of (Some f) = Some (candidate f)

abbrev pub numbered : Option Candidate → Option ℕ
numbered best = option_map (λ (a : Candidate). a.number) best

-- the nearest candidate after the rows es, of which the first has the number i
abbrev pub nearest_on : List ℕ → ℕ → ℕ → Option Candidate → ℕ → List EntryDef → Option Candidate
nearest_on ps c m best i [] = best
nearest_on ps c m best i (e ∷ es) = nearest_on ps c m (considered ps c m best i e) (i + 1) es

one_nearer : (b : Bool) (f g : Found) → candidate_of (cond b (Some g) (Some f)) ≡ Some (cond b (candidate g) (candidate f))
one_nearer true f g = refl
one_nearer false f g = refl

closer_as : (ps : List ℕ) (f : Option Found) (g : Found) → candidate_of (closer ps f g) ≡ Some (nearer ps (candidate_of f) (candidate g))
closer_as ps None g = refl
closer_as ps (Some f) g = one_nearer (fits ps g.entry.class f.entry.class && not (eqb g.entry.class f.entry.class)) f g

one_considered : (b : Bool) (f g : Option Found) (a : Option Candidate) → candidate_of g ≡ a → candidate_of (cond b g f) ≡ cond b a (candidate_of f)
one_considered true f g a e = e
one_considered false f g a e = refl

nearest_as : (ps : List ℕ) (c m : ℕ) (f : Option Found) (i : ℕ) (es : List EntryDef) → nearest_on ps c m (candidate_of f) i es ≡ candidate_of (lookup_on ps c m f i es)
nearest_as ps c m f i [] = refl
nearest_as ps c m f i (e ∷ es) =
    ap (λ b. nearest_on ps c m b (i + 1) es) (sym (one_considered (eqb e.name m && fits ps c e.class) f (closer ps f (found i e)) _ (closer_as ps f (found i e))))
    ∙ nearest_as ps c m (cond (eqb e.name m && fits ps c e.class) (closer ps f (found i e)) f) (i + 1) es

numbered_as : (f : Option Found) → numbered (candidate_of f) ≡ number_of f
numbered_as None = refl
numbered_as (Some f) = refl

lookup_number : (ps : List ℕ) (es : List EntryDef) (c m : ℕ) (best : Option Candidate) → best ≡ nearest_on ps c m None 0 es → numbered best ≡ number_of (lookup ps es c m)
unfolding lookup
lookup_number ps es c m best e = ap numbered (e ∙ nearest_as ps c m None 0 es) ∙ numbered_as (lookup_on ps c m None 0 es)

-- the end of the walk over the rows
pub lookup_ends : (ps : List ℕ) (xs : List Entry) (c m i : ℕ) (best : Option Candidate) → length xs ≤ i → nearest_on ps c m best i (map entry_of (drop i xs)) ≡ nearest_on ps c m None 0 (map entry_of xs) → numbered best ≡ number_of (lookup ps (map entry_of xs) c m)
lookup_ends ps xs c m i best h inv = lookup_number ps (map entry_of xs) c m best (walk_end (λ l. nearest_on ps c m best i (map entry_of l)) xs i _ h inv)

-- a row that was found stands at its number
abbrev RowOf : List EntryDef → Option Found → Type 0
RowOf es None = Unit {0}
RowOf es (Some f) = (f.number < length es) × (get_or es f.number f.entry ≡ f.entry)

closer_row : (ps : List ℕ) (es : List EntryDef) (f : Option Found) (g : Found) → RowOf es f → RowOf es (Some g) → RowOf es (closer ps f g)
closer_row ps es None g h k = k
closer_row ps es (Some f) g h k = cond_both (fits ps g.entry.class f.entry.class && not (eqb g.entry.class f.entry.class)) (Some g) (Some f) (RowOf es) (λ _. k) (λ _. h)

on_row : (ps : List ℕ) (c m : ℕ) (all : List EntryDef) (f : Option Found) (i : ℕ) (es : List EntryDef) → drop i all ≡ es → RowOf all f → RowOf all (lookup_on ps c m f i es)
on_row ps c m all f i [] d h = h
on_row ps c m all f i (e ∷ es) d h =
    let n : length all - i ≡ suc (length es) = sym (length-drop i all) ∙ ap length d in
    let k : i < length all = omega arith in
    let s : get_or all i e ∷ drop (i + 1) all ≡ e ∷ es = sym (drop_more all i e k) ∙ d in
    let at : get_or all i e ≡ e = cc in
    let rest : drop (i + 1) all ≡ es = cc in
    on_row ps c m all (cond (eqb e.name m && fits ps c e.class) (closer ps f (found i e)) f) (i + 1) es rest (cond_both (eqb e.name m && fits ps c e.class) (closer ps f (found i e)) f (RowOf all) (λ _. closer_row ps all f (found i e) h (k, at)) (λ _. h))

lookup_at : (ps : List ℕ) (es : List EntryDef) (c m : ℕ) → RowOf es (lookup ps es c m)
unfolding lookup
lookup_at ps es c m = on_row ps c m es None 0 es refl tt

-- the number that was found is a row's, and the row is the one of that number
pub record RowFound (ps : List ℕ) (xs : List Entry) (c m k : ℕ) : Type 0 where
  pub row : Found
  pub is : lookup ps (map entry_of xs) c m ≡ Some row
  pub number : row.number ≡ k
  pub within : k < length xs
  pub at : (d : Entry) → row.entry ≡ entry_of (get_or xs k d)

found_by : (ps : List ℕ) (xs : List Entry) (c m k : ℕ) (f : Option Found) → lookup ps (map entry_of xs) c m ≡ f → RowOf (map entry_of xs) f → Some k ≡ number_of f → RowFound ps xs c m k
found_by ps xs c m k None l h e = let z : ◌≡◌ {A = ℕ} 0 1 = cc in absurd (omega arith)
found_by ps xs c m k (Some f) l h e =
    let n : f.number ≡ k = cc in
    let w : k < length xs = omega (arith, h.0, length-map xs entry_of) in
    record {
      row = f;
      is = l;
      number = n;
      within = w;
      at = λ d. sym h.1 ∙ ap (λ j. get_or (map entry_of xs) j f.entry) n ∙ get_or-map entry_of xs k d f.entry w;
    }

pub row_found : (ps : List ℕ) (xs : List Entry) (c m k : ℕ) → Some k ≡ number_of (lookup ps (map entry_of xs) c m) → RowFound ps xs c m k
row_found ps xs c m k = found_by ps xs c m k (lookup ps (map entry_of xs) c m) refl (lookup_at ps (map entry_of xs) c m)

-- what a lookup answers is within the rows
pub number_within : (ps : List ℕ) (xs : List Entry) (c m : ℕ) (r : Option ℕ) → r ≡ number_of (lookup ps (map entry_of xs) c m) → IfSome r (λ k. k < length xs)
number_within ps xs c m None e = tt
number_within ps xs c m (Some k) e = (row_found ps xs c m k e).within
