-- A lookup finds the nearest row of a name; from a lower class, or among more rows, it finds one that serves in its place.
use Rattle.std.proofs.Common.{◌≡◌, ℕ, ◌+◌, Bool, cond, not, ◌&&◌, eqb, List, [], ◌∷◌, ◌++◌, length, Some, None, Decides, Option, sym, refl, ap, ◌∙◌, subst, ⊎_elim, arith, MatchOption}
use Rattle.std.proofs.lemmas.List.{append-nil, append_assoc, length-append, length_push}
use Rattle.std.proofs.lemmas.Option.{MatchOption-at_some, MatchOption-at_none}
use Rattle.std.proofs.lemmas.Bool.{cases_eq, cond_both}
use Rattle.std.proofs.lemmas.Bool.Decides.{Decides-and, Decides-not, Decides-eqb, not_from_Decides}
use Rattle.semantics.specs.CheckLaws.{LookupIsNearest}
use Rattle.semantics.specs.Entries.{EntryDef, SameSignature, Agree, Found, found, closer, lookup_on, lookup, Nearest, NoneAbove}
use Rattle.semantics.specs.Lists.{At}
use Rattle.semantics.specs.Tree.{Up, here, above, Tree, fits}
use Rattle.semantics.proofs.ItemPlaces.{at_within, at_front, at_last, at_push}
use Rattle.semantics.proofs.Searches.{same_at}
use Rattle.semantics.proofs.TreeGrowth.{parent_old}
use Rattle.semantics.proofs.TreeOrder.{up_right, up_trans, up_at, up_antisym, fits_decides, fits_up, fits_comparable}

-- what goes up goes up still among more classes
pub up_grown : {ps : List ℕ} → Tree ps → (qs : List ℕ) {a b : ℕ} → Up ps a b → Up (ps ++ qs) a b
up_grown {ps} t qs (here h) = let n = length-append ps qs in here (omega arith)
up_grown {ps} t qs {a} {b} (above h u) = let n = length-append ps qs in above (omega arith) (let P : ℕ → Type 0 = λ k. Up (ps ++ qs) k b in subst P (sym (parent_old ps t qs a h)) (up_grown t qs u))

module _ (ps : List ℕ) (t : Tree ps) (c m : ℕ) where
  -- the answer o among the rows es is the nearest row, or there is none
  abbrev Right : List EntryDef → Option Found → Type 0
  Right es o = MatchOption o (NoneAbove ps es c m) (Nearest ps es c m)

  -- the row e has the name, and stands on the way up
  abbrev Meant : EntryDef → Type 0
  Meant e = (e.name ≡ m) × Up ps c e.class

  decides_meant : (e : EntryDef) → Decides (eqb e.name m && fits ps c e.class) (Meant e)
  decides_meant e = Decides-and (eqb e.name m) (fits ps c e.class) (Decides-eqb e.name m) (fits_decides ps t c e.class)

  -- the row e stands below the row f
  abbrev nearer : EntryDef → Found → Bool
  nearer e f = fits ps e.class f.entry.class && not (eqb e.class f.entry.class)

  abbrev Nearer : EntryDef → Found → Type 0
  Nearer e f = Up ps e.class f.entry.class × (e.class ≡ f.entry.class → ⊥)

  decides_nearer : (e : EntryDef) (f : Found) → Decides (nearer e f) (Nearer e f)
  decides_nearer e f = Decides-and (fits ps e.class f.entry.class) (not (eqb e.class f.entry.class))
      (fits_decides ps t e.class f.entry.class) (Decides-not (eqb e.class f.entry.class) (Decides-eqb e.class f.entry.class))

  -- one row more behind the rows es
  module _ (es : List EntryDef) (e : EntryDef) where
    passed_none : (Meant e → ⊥) → NoneAbove ps es c m → NoneAbove ps (es ++ e ∷ []) c m
    passed_none other none i x a n u = ⊎_elim (λ b. none i x b n u) (λ s. let same : x ≡ e = s.1 in other (rw same at n, rw same at u)) (at_push es e a)

    -- the row f stays the nearest where it lies below the new one
    stays : (f : Found) → (Meant e → Up ps f.entry.class e.class) → Nearest ps es c m f → Nearest ps (es ++ e ∷ []) c m f
    stays f low near = record {
      row = at_front (e ∷ []) near.row;
      name = near.name;
      above = near.above;
      nearest = λ i x a n u. ⊎_elim (λ b. near.nearest i x b n u) (λ s. let same : x ≡ e = s.1 in rw same (low (rw same at n, rw same at u))) (at_push es e a);
      lowest = λ i x a n k. ⊎_elim (λ b. near.lowest i x b n k) (λ s. let l = at_within near.row in let r = s.0 in omega arith) (at_push es e a);
    }

    -- the new row is the nearest where those that are meant lie above it
    comes : Meant e → ((i : ℕ) (x : EntryDef) → At es i x → Meant x → Up ps e.class x.class × (x.class ≡ e.class → ⊥)) → Nearest ps (es ++ e ∷ []) c m (found (length es) e)
    comes is high = record {
      row = at_last es e;
      name = is.0;
      above = is.1;
      nearest = λ i x a n u. ⊎_elim (λ b. (high i x b (n, u)).0) (λ s. let same : x ≡ e = s.1 in rw same (here (up_right is.1))) (at_push es e a);
      lowest = λ i x a n k. ⊎_elim (λ b. absurd ((high i x b (n, (rw k is.1))).1 k)) (λ s. let r = s.0 in omega arith) (at_push es e a);
    }

    closer_right : (o : Option Found) → Meant e → Right es o → Right (es ++ e ∷ []) (closer ps o (found (length es) e))
    closer_right None is none = comes is (λ i x a w. absurd (none i x a w.0 w.1))
    closer_right (Some f) is near = cond_both (nearer e f) (Some (found (length es) e)) (Some f) (Right (es ++ e ∷ []))
        (λ b. let new = (decides_nearer e f).0 b in comes is (λ i x a w. let v = near.nearest i x a w.0 w.1 in
        (up_trans new.0 v, λ k. new.1 (up_antisym ps t new.0 (rw k at v)))))
        (λ b. stays f (λ _. kept (not_from_Decides (nearer e f) (decides_nearer e f) b)) near)
      where
        kept : (Nearer e f → ⊥) → Up ps f.entry.class e.class
        kept not-below = ⊎_elim (λ u. fits_up ps t u)
            (λ u. ⊎_elim (λ s. up_at (up_right near.above) (sym s)) (λ n. absurd (not-below (fits_up ps t u, n))) (cases_eq e.class f.entry.class))
            (fits_comparable ps t near.above is.1)

    right_more : (o : Option Found) → Right es o → Right (es ++ e ∷ []) (cond (eqb e.name m && fits ps c e.class) (closer ps o (found (length es) e)) o)
    right_more o r = cond_both (eqb e.name m && fits ps c e.class) (closer ps o (found (length es) e)) o (Right (es ++ e ∷ []))
        (λ b. closer_right o ((decides_meant e).0 b) r)
        (λ b. passed o (not_from_Decides (eqb e.name m && fits ps c e.class) (decides_meant e) b) r)
      where
        passed : (o : Option Found) → (Meant e → ⊥) → Right es o → Right (es ++ e ∷ []) o
        passed None other r = passed_none other r
        passed (Some f) other r = stays f (λ is. absurd (other is)) r

  -- the rows es behind the rows ds, which gave o
  right_on : (ds es : List EntryDef) (i : ℕ) (o : Option Found) → length ds ≡ i → Right ds o → Right (ds ++ es) (lookup_on ps c m o i es)
  right_on ds [] i o n r = rw append-nil r
  right_on ds (e ∷ es) i o n r =
      let s = right_on (ds ++ e ∷ []) es (i + 1) (cond (eqb e.name m && fits ps c e.class) (closer ps o (found i e)) o) (length_push ds e ∙ ap (λ k. k + 1) n) (rw n at (right_more ds e o r)) in
      rw append_assoc at s

  lookup_right : (es : List EntryDef) → Right es (lookup ps es c m)
  unfolding lookup
  lookup_right es = right_on [] es 0 None refl (λ i e a n u. elim a [ ])

  -- there is one nearest row at most
  nearest_only : (es : List EntryDef) (f g : Found) → Nearest ps es c m f → Nearest ps es c m g → f ≡ g
  nearest_only es f g p q =
      let k : f.entry.class ≡ g.entry.class = up_antisym ps t (p.nearest _ _ q.row q.name q.above) (q.nearest _ _ p.row p.name p.above) in
      let l = p.lowest _ _ q.row q.name (sym k) in
      let h = q.lowest _ _ p.row p.name k in
      let n : f.number ≡ g.number = omega arith in
      let e : f.entry ≡ g.entry = same_at (rw n at p.row) q.row in
      λ i. found (n i) (e i)

  none_nearest : (es : List EntryDef) (f : Found) → NoneAbove ps es c m → Nearest ps es c m f → ⊥
  none_nearest es f none near = none f.number f.entry near.row near.name near.above

pub lookup_is_nearest : LookupIsNearest
lookup_is_nearest ps es c m t = ((λ f. ((λ e. MatchOption-at_some (NoneAbove ps es c m) (Nearest ps es c m) f e right), some (lookup ps es c m) right f)), ((λ e. MatchOption-at_none (NoneAbove ps es c m) (Nearest ps es c m) e right), none (lookup ps es c m) right))
  where
    right : Right ps t c m es (lookup ps es c m)
    right = lookup_right ps t c m es

    some : (o : Option Found) → Right ps t c m es o → (f : Found) → Nearest ps es c m f → o ≡ Some f
    some None r f near = absurd (none_nearest ps t c m es f r near)
    some (Some g) r f near = ap Some (nearest_only ps t c m es g f r near)

    none : (o : Option Found) → Right ps t c m es o → NoneAbove ps es c m → o ≡ None
    none None r out = refl
    none (Some g) r out = absurd (none_nearest ps t c m es g out r)

module _ {ps : List ℕ} (t : Tree ps) where
  pub lookup_nearest : {es : List EntryDef} {c m : ℕ} {f : Found} → lookup ps es c m ≡ Some f → Nearest ps es c m f
  lookup_nearest {es} {c} {m} {f} e = ((lookup_is_nearest ps es c m t).0 f).0 e

  pub nearest_lookup : {es : List EntryDef} {c m : ℕ} {f : Found} → Nearest ps es c m f → lookup ps es c m ≡ Some f
  nearest_lookup {es} {c} {m} {f} near = ((lookup_is_nearest ps es c m t).0 f).1 near

  pub same_nearest : {es : List EntryDef} {c m : ℕ} {f g : Found} → Nearest ps es c m f → Nearest ps es c m g → f ≡ g
  same_nearest {es} {c} {m} {f} {g} p q = nearest_only ps t c m es f g p q

  -- a row of the name above the class is found, or one that serves in its place
  pub lookup_serves : {es : List EntryDef} {c m i : ℕ} {e : EntryDef} → Agree ps es → At es i e → e.name ≡ m → Up ps c e.class
      → (g : Found) × (lookup ps es c m ≡ Some g) × SameSignature g.entry e
  lookup_serves {es} {c} {m} {i} {e} agree a n u = go (lookup ps es c m) refl
    where
      go : (o : Option Found) → lookup ps es c m ≡ o → (g : Found) × (lookup ps es c m ≡ Some g) × SameSignature g.entry e
      go None is = absurd ((lookup_is_nearest ps es c m t).1.0 is i e a n u)
      go (Some g) is = let near = lookup_nearest is in (g, is, agree g.number i g.entry e near.row a (near.name ∙ sym n) (near.nearest i e a n u))

pub lookup_lower : {ps : List ℕ} (es : List EntryDef) (a b m : ℕ) {f : Found} → Tree ps → Agree ps es → Up ps a b → lookup ps es b m ≡ Some f
    → (g : Found) × (lookup ps es a m ≡ Some g) × SameSignature g.entry f.entry
lookup_lower {ps} es a b m {f} t agree u e =
    let near : Nearest ps es b m f = lookup_nearest t e in lookup_serves t agree near.row near.name (up_trans u near.above)

pub lookup_grown : (ps qs : List ℕ) (es fs : List EntryDef) (c m : ℕ) {f : Found} → Tree ps → Tree (ps ++ qs) → Agree (ps ++ qs) (es ++ fs) → lookup ps es c m ≡ Some f
    → (g : Found) × (lookup (ps ++ qs) (es ++ fs) c m ≡ Some g) × SameSignature g.entry f.entry
lookup_grown ps qs es fs c m {f} t s agree e =
    let near : Nearest ps es c m f = lookup_nearest t e in lookup_serves s agree (at_front fs near.row) near.name (up_grown t qs near.above)
