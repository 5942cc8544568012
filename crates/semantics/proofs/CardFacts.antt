-- What holds of the classes and rows of a card after every list of calls.
use Rattle.std.proofs.Common.{◌≡◌, ℕ, ◌<◌, ◌≤◌, List, ◌++◌, length, Ok}
use Rattle.semantics.specs.Check.{check_of}
use Rattle.semantics.specs.CheckLaws.{EntryKnown}
use Rattle.semantics.specs.Entries.{EntryDef, Agree}
use Rattle.semantics.specs.FormLaws.{WellFormed}
use Rattle.semantics.specs.Lists.{At}
use Rattle.semantics.specs.Methods.{Each, InRange}
use Rattle.semantics.specs.NewRows.{max_rows}
use Rattle.semantics.specs.Stores.{CodeDef, BodyDef, coded, Store, entry_at, method_with}
use Rattle.semantics.specs.Tree.{Tree}

-- on a card of either kind
pub record Founded (s : Store) : Type 0 where
  pub tree : Tree s.classes
  pub some : 2 < length s.classes
  pub known : Each (EntryKnown s.classes) s.entries
  pub agree : Agree s.classes s.entries
  pub paired : length s.bodies ≡ length s.entries
  pub few : length s.entries ≤ max_rows
  pub formed : (r : ℕ) (b : CodeDef) → At s.bodies r (coded b) → WellFormed (method_with (entry_at s r) b)
  pub ranged : (r : ℕ) (b : CodeDef) → At s.bodies r (coded b) → InRange (method_with (entry_at s r) b)

-- on an issue card every method passes
pub record Checked (s : Store) : Type 0 where
  pub founded : Founded s
  pub passes : (r : ℕ) (b : CodeDef) → At s.bodies r (coded b) → check_of s.classes s.entries (method_with (entry_at s r) b) ≡ Ok tt

-- a card that was grown from another by further classes and rows
pub record Grows (s t : Store) : Type 0 where
  pub more_classes : List ℕ
  pub more_entries : List EntryDef
  pub more_bodies : List BodyDef
  pub classes : t.classes ≡ s.classes ++ more_classes
  pub entries : t.entries ≡ s.entries ++ more_entries
  pub bodies : t.bodies ≡ s.bodies ++ more_bodies
