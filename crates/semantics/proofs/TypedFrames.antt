-- Frames that fit what the check saw of their methods, and runs of such frames.
use Rattle.std.proofs.Common.{◌≡◌, ℕ, ◌+◌, ◌<◌, true, List, [], ◌∷◌, length, drop, Some, Ok}
use Rattle.semantics.specs.Check.{check_from}
use Rattle.semantics.specs.Entries.{EntryDef}
use Rattle.semantics.specs.Lists.{At}
use Rattle.semantics.specs.Runs.{FrameDef, RunDef, idle, in_hand, declared, destination_of}
use Rattle.semantics.specs.Stores.{CodeDef, coded, Store, entry_at, code_at, op_at, method_with}
use Rattle.semantics.specs.Tests.{classes_fit, put_into}
use Rattle.semantics.proofs.TypedRows.{kinds}

-- a frame of the method with signature e and code b: its values fit, and the check goes on from its point with its row
pub record Stands (ps : List ℕ) (es : List EntryDef) (e : EntryDef) (b : CodeDef) (f : FrameDef) : Type 0 where
  pub row : List ℕ
  pub locals : classes_fit ps (kinds f.locals) (declared e) ≡ true
  pub temporaries : classes_fit ps (kinds f.temporaries) row ≡ true
  pub within : f.point < length b.points
  pub rest : check_from ps es (method_with e b) f.point (Some row) (drop f.point b.points) ≡ Ok tt

-- the same behind its point, once a value of class c was put where its invocation wants it
pub record Waits (ps : List ℕ) (es : List EntryDef) (c : ℕ) (e : EntryDef) (b : CodeDef) (f : FrameDef) : Type 0 where
  pub row : List ℕ
  pub next : List ℕ
  pub locals : classes_fit ps (kinds f.locals) (declared e) ≡ true
  pub temporaries : classes_fit ps (kinds f.temporaries) row ≡ true
  pub into : put_into ps (declared e) row (destination_of (op_at b f.point)) c ≡ Ok next
  pub within : f.point + 1 < length b.points
  pub rest : check_from ps es (method_with e b) (f.point + 1) (Some next) (drop (f.point + 1) b.points) ≡ Ok tt

module _ (s : Store) where
  -- the row has code
  abbrev pub Coded : ℕ → Type 0
  Coded r = At s.bodies r (coded (code_at s r))

  abbrev pub OnTop : FrameDef → Type 0
  OnTop f = Coded f.row × Stands s.classes s.entries (entry_at s f.row) (code_at s f.row) f

  abbrev pub Waiting : ℕ → FrameDef → Type 0
  Waiting c f = Coded f.row × Waits s.classes s.entries c (entry_at s f.row) (code_at s f.row) f

  -- the frames below one of the row r
  abbrev pub Below : ℕ → List FrameDef → Type 0
  Below r [] = Unit {0}
  Below r (g ∷ gs) = Waiting (entry_at s r).result g × Below g.row gs

abbrev pub Typed : Store → RunDef → Type 0
Typed s idle = Unit {0}
Typed s (in_hand f gs) = OnTop s f × Below s f.row gs

pub idle_typed : (s : Store) → Typed s idle
idle_typed s = tt
