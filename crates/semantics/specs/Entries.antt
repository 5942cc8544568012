-- Method rows as a lookup and the check know them, and the lookup.
use Rattle.std.specs.Prelude.{◌≡◌, ℕ, ◌+◌, ◌≤◌, cond, not, ◌&&◌, List, [], ◌∷◌, Some, None, Option, ◌==◌}
use Rattle.semantics.specs.declared.entry.Entry.{Entry}
use Rattle.semantics.specs.Items.{items_of}
use Rattle.semantics.specs.Lists.{At}
use Rattle.semantics.specs.Methods.{MethodDef}
use Rattle.semantics.specs.Tree.{Up, fits}

-- the class and name of a row, and its signature: argument classes in order and result class
pub record EntryDef : Type 0 where
  pub class : ℕ
  pub name : ℕ
  pub arguments : List ℕ
  pub result : ℕ

abbrev pub entry_of : Entry → EntryDef
entry_of e = record { class = e.class; name = e.name; arguments = items_of e.arguments; result = e.result }

abbrev pub entry_in : MethodDef → EntryDef
entry_in m = record { class = m.class; name = m.name; arguments = m.arguments; result = m.result }

-- two rows with one name, one's class fitting the other's, have the same signature
abbrev pub SameSignature : EntryDef → EntryDef → Type 0
SameSignature e f = (e.arguments ≡ f.arguments) × (e.result ≡ f.result)

abbrev pub Agree : List ℕ → List EntryDef → Type 0
Agree ps es = (i j : ℕ) (e f : EntryDef) → At es i e → At es j f → e.name ≡ f.name → Up ps e.class f.class → SameSignature e f

-- a row and its number
pub record Found : Type 0 where
  pub number : ℕ
  pub entry : EntryDef

abbrev pub found : ℕ → EntryDef → Found
found i e = record { number = i; entry = e }

-- the row of two whose class is lower on the way up; the first of them where they have one class
abbrev pub closer : List ℕ → Option Found → Found → Option Found
closer ps None g = Some g
closer ps (Some f) g = cond (fits ps g.entry.class f.entry.class && not (g.entry.class == f.entry.class)) (Some g) (Some f)

-- the nearest row of the name m on the way up from class c, after the rows before the i-th gave best
abbrev pub lookup_on : List ℕ → ℕ → ℕ → Option Found → ℕ → List EntryDef → Option Found
lookup_on ps c m best i [] = best
lookup_on ps c m best i (e ∷ es) = lookup_on ps c m (cond (e.name == m && fits ps c e.class) (closer ps best (found i e)) best) (i + 1) es

unfoldable pub lookup : List ℕ → List EntryDef → ℕ → ℕ → Option Found
lookup ps es c m = lookup_on ps c m None 0 es

-- the same in words: the row of that name on the class c or on the nearest class above it
pub record Nearest (ps : List ℕ) (es : List EntryDef) (c m : ℕ) (f : Found) : Type 0 where
  pub row : At es f.number f.entry
  pub name : f.entry.name ≡ m
  pub above : Up ps c f.entry.class
  pub nearest : (i : ℕ) (e : EntryDef) → At es i e → e.name ≡ m → Up ps c e.class → Up ps f.entry.class e.class
  pub lowest : (i : ℕ) (e : EntryDef) → At es i e → e.name ≡ m → e.class ≡ f.entry.class → f.number ≤ i

abbrev pub NoneAbove : List ℕ → List EntryDef → ℕ → ℕ → Type 0
NoneAbove ps es c m = (i : ℕ) (e : EntryDef) → At es i e → e.name ≡ m → Up ps c e.class → ⊥
