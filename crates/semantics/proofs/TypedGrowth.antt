-- A typed run stays typed on a card that was grown by further classes and rows.
use Rattle.std.proofs.Common.{◌≡◌, ℕ, ◌+◌, true, List, [], ◌∷◌, get_or, drop, Some, Ok, sym, ap, ◌∙◌, subst}
use package.native.Mathlib.Omega.{arith}
use Rattle.semantics.specs.declared.misfit.Misfit.TheVariants as misfit
use Rattle.semantics.specs.declared.operation.Destination.{Destination}
use Rattle.semantics.specs.declared.operation.Destination.TheVariants as destination
use Rattle.semantics.specs.Entries.{EntryDef}
use Rattle.semantics.specs.Lists.{At}
use Rattle.semantics.specs.Runs.{FrameDef, RunDef, idle, in_hand, declared, destination_of}
use Rattle.semantics.specs.Stores.{CodeDef, native, coded, Store, entry_at, code_at, code_behind, op_at, method_with, no_entry}
use Rattle.semantics.specs.Tests.{classes_fit, put_into}
use Rattle.semantics.proofs.CardFacts.{Checked, Grows}
use Rattle.semantics.proofs.Growing.{check_over}
use Rattle.semantics.proofs.ItemPlaces.{at_within, at_front}
use Rattle.semantics.proofs.Lookups.{up_grown}
use Rattle.semantics.proofs.Lowering.{Over, lower_same, lowers_same, fits_lower, row_lower}
use Rattle.semantics.proofs.Testing.{demanded, demand_then}
use Rattle.semantics.proofs.TypedFrames.{Stands, Waits, Coded, Below, Typed}
use Rattle.semantics.proofs.TypedRows.{get_d_at, at_get_d, kinds}
use Rattle.semantics.specs.Tree.{Up, fits}

-- the same rows at the same points
module _ {ps qs : List ℕ} {es fs : List EntryDef} (h : Over ps qs es fs) where
  rows_over : (ts us : List ℕ) → classes_fit ps ts us ≡ true → classes_fit qs ts us ≡ true
  rows_over ts us e = row_lower h ts ts us (lowers_same h ts) e

  put_over : (ls ts us : List ℕ) (d : Destination) (c : ℕ) → put_into ps ls ts d c ≡ Ok us → put_into qs ls ts d c ≡ Ok us
  put_over ls ts us (destination.Local n) c e =
      let p = demanded (fits ps c (get_or ls n 0)) misfit.ResultClass (Ok ts) e in demand_then misfit.ResultClass (Ok ts) (fits_lower h c c (get_or ls n 0) (lower_same h c) p.0) ∙ p.1
  put_over ls ts us (destination.Temporary n) c e = e

  stands_over : {e : EntryDef} {b : CodeDef} {f : FrameDef} → Stands ps es e b f → Stands qs fs e b f
  stands_over {e} {b} {f} w = record {
    row = w.row;
    locals = rows_over (kinds f.locals) (declared e) w.locals;
    temporaries = rows_over (kinds f.temporaries) w.row w.temporaries;
    within = w.within;
    rest = check_over h (method_with e b) f.point (drop f.point b.points) (Some w.row) w.rest;
  }

  waits_over : {c : ℕ} {e : EntryDef} {b : CodeDef} {f : FrameDef} → Waits ps es c e b f → Waits qs fs c e b f
  waits_over {c} {e} {b} {f} w = record {
    row = w.row;
    next = w.next;
    locals = rows_over (kinds f.locals) (declared e) w.locals;
    temporaries = rows_over (kinds f.temporaries) w.row w.temporaries;
    into = put_over (declared e) w.row w.next (destination_of (op_at b f.point)) c w.into;
    within = w.within;
    rest = check_over h (method_with e b) (f.point + 1) (drop (f.point + 1) b.points) (Some w.next) w.rest;
  }

module _ (s t : Store) (a : Checked s) (b : Checked t) (g : Grows s t) where
  grown : Over s.classes t.classes s.entries t.entries
  grown = record {
    tree = a.founded.tree;
    onto = b.founded.tree;
    agree = b.founded.agree;
    keeps = λ x y u. subst (λ ps. Up ps x y) (sym g.classes) (up_grown a.founded.tree g.more_classes u);
    rows = λ i e x. subst (λ es. At es i e) (sym g.entries) (at_front g.more_entries x);
  }

  -- an old row stays
  same_entry : (r : ℕ) → Coded s r → entry_at t r ≡ entry_at s r
  same_entry r x = at_get_d no_entry (grown.rows r (entry_at s r) (get_d_at s.entries r no_entry (let h = at_within x in let n = a.founded.paired in omega arith)))

  body_kept : (r : ℕ) → Coded s r → At t.bodies r (coded (code_at s r))
  body_kept r x = subst (λ bs. At bs r (coded (code_at s r))) (sym g.bodies) (at_front g.more_bodies x)

  same_code : (r : ℕ) → Coded s r → code_at t r ≡ code_at s r
  same_code r x = ap code_behind (at_get_d native (body_kept r x))

  kept_on : (P : EntryDef → CodeDef → Type 0) (r : ℕ) → Coded s r → P (entry_at s r) (code_at s r) → Coded t r × P (entry_at t r) (code_at t r)
  kept_on P r x p = (
    subst (λ (c : CodeDef). At t.bodies r (coded c)) (sym (same_code r x)) (body_kept r x),
    subst (λ (c : CodeDef). P (entry_at t r) c) (sym (same_code r x)) (subst (λ (e : EntryDef). P e (code_at s r)) (sym (same_entry r x)) p),
  )

  below_grows : (r : ℕ) (gs : List FrameDef) → Coded s r → Below s r gs → Below t r gs
  below_grows r [] x w = tt
  below_grows r (f ∷ gs) x w = (
    kept_on (λ e c. Waits t.classes t.entries (entry_at t r).result e c f) f.row w.0.0
        (waits_over grown (subst (λ (e : EntryDef). Waits s.classes s.entries e.result (entry_at s f.row) (code_at s f.row) f) (sym (same_entry r x)) w.0.1)),
    below_grows f.row gs w.0.0 w.1,
  )

pub typed_grows : (s t : Store) (r : RunDef) → Checked s → Checked t → Grows s t → Typed s r → Typed t r
typed_grows s t idle a b g w = tt
typed_grows s t (in_hand f gs) a b g w = (
  kept_on s t a b g (λ e c. Stands t.classes t.entries e c f) f.row w.0.0 (stands_over (grown s t a b g) w.0.1),
  below_grows s t a b g f.row gs w.0.0 w.1,
)
