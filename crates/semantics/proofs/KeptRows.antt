-- What a call may do to the classes and rows of a card, and that the laws of a card are kept.
use Rattle.std.proofs.Common.{◌≡◌, ℕ, ◌+◌, ◌<◌, List, [], ◌∷◌, ◌++◌, length, Ok, sym, refl, ap, ◌∙◌, subst, ⊎_elim, length-append}
use package.native.Mathlib.Omega.{arith}
use Rattle.std.proofs.lemmas.List.{length_push, get_or_push, get_or_append_left, append-nil}
use Rattle.semantics.specs.declared.call.Kind.{Kind}
use Rattle.semantics.specs.declared.call.Kind.TheVariants.{Issue}
use Rattle.semantics.specs.Cards.{blank_card}
use Rattle.semantics.specs.Check.{check_of}
use Rattle.semantics.specs.CheckLaws.{EntryKnown}
use Rattle.semantics.specs.Entries.{EntryDef, Agree, entry_in}
use Rattle.semantics.specs.FormLaws.{WellFormed}
use Rattle.semantics.specs.Lists.{At}
use Rattle.semantics.specs.Methods.{Each, InRange, MethodDef}
use Rattle.semantics.specs.NewRows.{max_rows, entry_classes, entry_rules, classes_present}
use Rattle.semantics.specs.Stores.{CodeDef, BodyDef, native, coded, Store, entry_at, no_entry, method_with}
use Rattle.semantics.specs.Tree.{Tree}
use Rattle.semantics.proofs.CardFacts.{Founded, Checked, Grows}
use Rattle.semantics.proofs.Growing.{growth_passes, classes_known, rules_keep_agreement}
use Rattle.semantics.proofs.ItemPlaces.{at_within, at_push, each_at, each_push}
use Rattle.semantics.proofs.LineTexts.{from_so}
use Rattle.semantics.proofs.PartTexts.{each_from}
use Rattle.semantics.proofs.TreeGrowth.{blank_tree, fits_old}
use Rattle.semantics.proofs.TreeOrder.{up_fits, fits_up}

-- a store with one class more, and with one row more
abbrev pub classed : Store → ℕ → Store
classed s p = record { classes = s.classes ++ p ∷ []; entries = s.entries; bodies = s.bodies }

abbrev pub rowed : Store → EntryDef → BodyDef → Store
rowed s e b = record { classes = s.classes; entries = s.entries ++ e ∷ []; bodies = s.bodies ++ b ∷ [] }

-- what holds of a body's code, where it has any
abbrev pub Behind : (CodeDef → Type 0) → BodyDef → Type 0
Behind P native = Unit {0}
Behind P (coded b) = P b

behind_map : {P Q : CodeDef → Type 0} → ((b : CodeDef) → P b → Q b) → (x : BodyDef) → Behind P x → Behind Q x
behind_map f native h = tt
behind_map f (coded b) h = f b h

-- what holds of a method that is let in
pub record Fit (kind : Kind) (s : Store) (m : MethodDef) : Type 0 where
  pub formed : WellFormed m
  pub ranged : InRange m
  pub passes : kind ≡ Issue → check_of s.classes (s.entries ++ entry_in m ∷ []) m ≡ Ok tt

-- a call adds nothing, a class or a row
pub data Change (kind : Kind) (s : Store) : Store → Type 0 where
  none : Change kind s s
  class : (p : ℕ) → Tree (s.classes ++ p ∷ []) → Change kind s (classed s p)
  row : (e : EntryDef) (x : BodyDef) → entry_rules s.classes s.entries e (entry_classes e) ≡ Ok tt → length s.entries < max_rows
      → Behind (λ b. Fit kind s (method_with e b)) x → Change kind s (rowed s e x)

pub change_grows : {kind : Kind} {s t : Store} → Change kind s t → Grows s t
change_grows {kind} {s} none = record {
  more_classes = [];
  more_entries = [];
  more_bodies = [];
  classes = sym (append-nil s.classes);
  entries = sym (append-nil s.entries);
  bodies = sym (append-nil s.bodies);
}
change_grows {kind} {s} (class p t) = record {
  more_classes = p ∷ [];
  more_entries = [];
  more_bodies = [];
  classes = refl;
  entries = sym (append-nil s.entries);
  bodies = sym (append-nil s.bodies);
}
change_grows {kind} {s} (row e x rules room fit) = record {
  more_classes = [];
  more_entries = e ∷ [];
  more_bodies = x ∷ [];
  classes = sym (append-nil s.classes);
  entries = refl;
  bodies = refl;
}

-- the classes that are known stay known
more_known : (ps qs cs : List ℕ) → Each (λ c. c < length ps) cs → Each (λ c. c < length (ps ++ qs)) cs
more_known ps qs cs h = each_from (λ c k. let n = length-append ps qs in omega arith) cs h

-- a law of each coded row, with one row more
module _ (s : Store) (e : EntryDef) (x : BodyDef) (paired : length s.bodies ≡ length s.entries) where
  entry_old : (r : ℕ) → r < length s.bodies → entry_at s r ≡ entry_at (rowed s e x) r
  entry_old r h = sym (get_or_append_left s.entries (e ∷ []) no_entry r (omega arith))

  entry_new : (r : ℕ) → r ≡ length s.bodies → e ≡ entry_at (rowed s e x) r
  entry_new r h = sym (get_or_push s.entries e no_entry r (omega arith))

  row_law : (P : MethodDef → Type 0) → ((r : ℕ) (b : CodeDef) → At s.bodies r (coded b) → P (method_with (entry_at s r) b)) → Behind (λ b. P (method_with e b)) x
      → (r : ℕ) (b : CodeDef) → At (s.bodies ++ x ∷ []) r (coded b) → P (method_with (entry_at (rowed s e x) r) b)
  row_law P old new r b a = ⊎_elim
      (λ o. subst (λ (f : EntryDef). P (method_with f b)) (entry_old r (at_within o)) (old r b o))
      (λ n. subst (λ (f : EntryDef). P (method_with f b)) (entry_new r n.0) (let Q : BodyDef → Type 0 = Behind (λ c. P (method_with e c)) in subst Q (sym n.1) new))
      (at_push s.bodies x a)

-- with one class more the rows agree as before
class_agrees : (s : Store) (p : ℕ) → Founded s → Tree (s.classes ++ p ∷ []) → Agree (s.classes ++ p ∷ []) s.entries
class_agrees s p h t i j e f a b n u =
    let k : e.class < length s.classes = (each_at (EntryKnown s.classes) h.known a).0 in
    h.agree i j e f a b n (fits_up s.classes h.tree (sym (fits_old s.classes h.tree (p ∷ []) e.class f.class k) ∙ up_fits (s.classes ++ p ∷ []) t u))

pub founded_kept : {kind : Kind} {s t : Store} → Change kind s t → Founded s → Founded t
founded_kept none h = h
founded_kept {kind} {s} (class p t) h = record {
  tree = t;
  some = let n = length_push s.classes p in let l = h.some in omega arith;
  known = each_from (λ e k. more_known s.classes (p ∷ []) (entry_classes e) k) s.entries h.known;
  agree = class_agrees s p h t;
  paired = h.paired;
  few = h.few;
  formed = h.formed;
  ranged = h.ranged;
}
founded_kept {kind} {s} (row e x rules room fit) h = record {
  tree = h.tree;
  some = h.some;
  known = each_push (EntryKnown s.classes) s.entries e h.known (classes_known s.classes 0 (entry_classes e) (from_so (classes_present s.classes 0 (entry_classes e)) _ tt rules).1);
  agree = rules_keep_agreement s.classes s.entries e h.tree h.agree rules;
  paired = length_push s.bodies x ∙ ap (λ n. n + 1) h.paired ∙ sym (length_push s.entries e);
  few = let n = length_push s.entries e in omega arith;
  formed = row_law s e x h.paired WellFormed h.formed (behind_map (λ b f. f.formed) x fit);
  ranged = row_law s e x h.paired InRange h.ranged (behind_map (λ b f. f.ranged) x fit);
}

-- what passes goes on passing
pub passes_still : {s t : Store} → Founded s → Founded t → Grows s t → (m : MethodDef) → check_of s.classes s.entries m ≡ Ok tt → check_of t.classes t.entries m ≡ Ok tt
passes_still {s} {t} h k g m e =
    subst (λ (ps : List ℕ). Tree ps → Agree ps t.entries → check_of ps t.entries m ≡ Ok tt) (sym g.classes)
    (subst (λ (es : List EntryDef). Tree (s.classes ++ g.more_classes) → Agree (s.classes ++ g.more_classes) es → check_of (s.classes ++ g.more_classes) es m ≡ Ok tt) (sym g.entries)
    (λ tree agree. growth_passes s.classes g.more_classes s.entries g.more_entries m h.tree tree agree e))
    k.tree k.agree

pub checked_kept : {s t : Store} → Change Issue s t → Checked s → Checked t
checked_kept none h = h
checked_kept {s} (class p tree) h =
    let g : Grows s (classed s p) = change_grows {kind = Issue} (class p tree) in
    let f : Founded (classed s p) = founded_kept {kind = Issue} (class p tree) h.founded in
    record { founded = f; passes = λ r b a. passes_still h.founded f g (method_with (entry_at s r) b) (h.passes r b a) }
checked_kept {s} (row e x rules room fit) h =
    let g : Grows s (rowed s e x) = change_grows {kind = Issue} (row e x rules room fit) in
    let f : Founded (rowed s e x) = founded_kept {kind = Issue} (row e x rules room fit) h.founded in
    record {
      founded = f;
      passes = row_law s e x h.founded.paired (λ m. check_of s.classes (s.entries ++ e ∷ []) m ≡ Ok tt)
          (λ r b a. passes_still h.founded f g (method_with (entry_at s r) b) (h.passes r b a)) (behind_map (λ b f. f.passes refl) x fit);
    }

-- a blank card
no_rows : {X : Type 0} {k : ℕ} {x : X} {Q : Type 0} → At [] k x → Q
no_rows a = elim a [ ]

pub blank_founded : (kind : Kind) → Founded (blank_card kind).store
blank_founded kind = record {
  tree = blank_tree;
  some = omega arith;
  known = tt;
  agree = λ i j e f a b n u. no_rows a;
  paired = refl;
  few = omega arith;
  formed = λ r b a. no_rows a;
  ranged = λ r b a. no_rows a;
}

pub blank_checked : (kind : Kind) → Checked (blank_card kind).store
blank_checked kind = record { founded = blank_founded kind; passes = λ r b a. no_rows a }
