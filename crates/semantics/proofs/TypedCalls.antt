-- A frame that is opened for a row that takes its receiver and arguments.
use Rattle.std.proofs.Common.{◌≡◌, ℕ, true, eqb, List, [], length, Some, Ok, Err, sym, refl, ap, ◌∙◌, subst}
use package.native.Mathlib.Omega.{arith}
use Rattle.std.proofs.lemmas.Bool.{and_from, eqb-true}
use Rattle.semantics.specs.declared.misfit.Misfit.TheVariants as misfit
use Rattle.semantics.specs.declared.value.Value.{Value}
use Rattle.semantics.specs.Cards.{start_tested, start_frame, first_frame}
use Rattle.semantics.specs.Check.{zeros, check_from, check_of}
use Rattle.semantics.specs.Entries.{EntryDef, Found, lookup, Nearest}
use Rattle.semantics.specs.Lists.{At}
use Rattle.semantics.specs.Runs.{FrameDef, in_hand, kind_of, opened}
use Rattle.semantics.specs.Stores.{CodeDef, BodyDef, native, coded, Store, entry_at, body_at, code_at, code_behind, method_with, no_entry}
use Rattle.semantics.specs.Tests.{Tested, needed, arguments_fit, taking, classes_fit}
use Rattle.semantics.specs.Tree.{fits}
use Rattle.semantics.proofs.CardFacts.{Checked}
use Rattle.semantics.proofs.ItemPlaces.{at_within}
use Rattle.semantics.proofs.LineTexts.{from_so}
use Rattle.semantics.proofs.Lookups.{lookup_nearest}
use Rattle.semantics.proofs.OnlyTexts.{from_err, same_ok}
use Rattle.semantics.proofs.Testing.{then_ok, demanded, needed_ok}
use Rattle.semantics.proofs.TreeOrder.{up_fits}
use Rattle.semantics.proofs.TypedFrames.{Stands, OnTop, Typed}
use Rattle.semantics.proofs.TypedRows.{kinds, get_d_at, at_get_d, arguments_fit_lem, zeros_fit}

module _ (s : Store) (k : Checked s) where
  -- the body of a row
  pub body_at_lem : {r : ℕ} {e : EntryDef} → At s.entries r e → At s.bodies r (body_at s r)
  body_at_lem {r} a = get_d_at s.bodies r native (let h = at_within a in let n = k.founded.paired in omega arith)

  pub code_at_lem : (r : ℕ) (b : CodeDef) → body_at s r ≡ coded b → code_at s r ≡ b
  code_at_lem r b e = ap code_behind e

  -- a method passes from its first point
  pub from_first : (r : ℕ) (b : CodeDef) → At s.bodies r (coded b) → check_from s.classes s.entries (method_with (entry_at s r) b) 0 (Some (zeros b.temporaries)) b.points ≡ Ok tt
  unfolding check_of
  from_first r b a = k.passes r b a

  fresh_stands : (r : ℕ) (b : CodeDef) (v : Value) (vs : List Value) → At s.bodies r (coded b)
      → fits s.classes (kind_of v) (entry_at s r).class ≡ true → classes_fit s.classes (kinds vs) (entry_at s r).arguments ≡ true
      → Stands s.classes s.entries (entry_at s r) b (opened r b v vs)
  fresh_stands r b v vs a u w = record {
    row = zeros b.temporaries;
    locals = and_from (fits s.classes (kind_of v) (entry_at s r).class) _ u w;
    temporaries = zeros_fit s.classes k.founded.tree b.temporaries;
    within = (k.founded.ranged r b a).some_code;
    rest = from_first r b a;
  }

  -- the frame opened for the row that is found
  pub fresh : (g : Found) (b : CodeDef) (v : Value) (m : ℕ) (vs : List Value) → Nearest s.classes s.entries (kind_of v) m g
      → classes_fit s.classes (kinds vs) g.entry.arguments ≡ true → body_at s g.number ≡ coded b → OnTop s (opened g.number b v vs)
  fresh g b v m vs near w e =
      let row : entry_at s g.number ≡ g.entry = at_get_d no_entry near.row in
      let same : code_at s g.number ≡ b = code_at_lem g.number b e in
      let a : At s.bodies g.number (coded b) = rw e at (body_at_lem near.row) in (
        subst (λ x. At s.bodies g.number (coded x)) (sym same) a,
        subst (λ x. Stands s.classes s.entries (entry_at s g.number) x (opened g.number b v vs)) (sym same)
            (fresh_stands g.number b v vs a
            (ap (λ (x : EntryDef). fits s.classes (kind_of v) x.class) row ∙ up_fits s.classes k.founded.tree near.above)
            (ap (λ (x : EntryDef). classes_fit s.classes (kinds vs) x.arguments) row ∙ w)),
      )

-- what a row that takes its arguments says of them
pub taking_fits : (ps cs : List ℕ) (g : Found) {h : Found} → taking ps cs g ≡ Ok h → classes_fit ps cs g.entry.arguments ≡ true
taking_fits ps cs g e =
    let a = demanded (eqb (length cs) (length g.entry.arguments)) (misfit.Argument 2) _ e in
    let b = then_ok (arguments_fit ps 3 cs g.entry.arguments) _ a.1 in
    arguments_fit_lem ps 3 cs g.entry.arguments (eqb-true (length cs) (length g.entry.arguments) a.0) b.1

start_ok : {X : Type 0} (t : Tested X) {x : X} → start_tested t ≡ Ok x → t ≡ Ok x
start_ok (Ok y) e = ap Ok (same_ok e)
start_ok (Err d) e = from_err e

frame_ok : (r : ℕ) (v : Value) (vs : List Value) (b : BodyDef) {f : FrameDef} → start_frame r v vs b ≡ Ok f → (c : CodeDef) × (b ≡ coded c) × (opened r c v vs ≡ f)
frame_ok r v vs native e = from_err e
frame_ok r v vs (coded c) e = (c, refl, same_ok e)

pub start_typed : (s : Store) (v : Value) (m : ℕ) (vs : List Value) (f : FrameDef) → Checked s → first_frame s v m vs ≡ Ok f → Typed s (in_hand f [])
start_typed s v m vs f k e =
    let a = from_so (start_tested (needed (lookup s.classes s.entries (kind_of v) m) misfit.NoRow)) _ f e in
    let g : Found = a.0 in
    let b = from_so (start_frame g.number v vs (body_at s g.number)) _ f a.2 in
    let d = from_so (start_tested (taking s.classes (kinds vs) g)) _ f b.2 in
    let c = frame_ok g.number v vs (body_at s g.number) b.1 in
    let near = lookup_nearest k.founded.tree (needed_ok _ misfit.NoRow (start_ok _ a.1)) in
    let same : opened g.number c.0 v vs ≡ f = c.2 ∙ same_ok d.2 in
    (subst (OnTop s) same (fresh s k g c.0 v m vs near (taking_fits s.classes (kinds vs) g (start_ok _ d.1)) c.1), tt)
