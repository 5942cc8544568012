-- The classes and method rows that a card holds. The row of a number has its signature and its body under that number.
use Rattle.std.specs.Prelude.{ℕ, ◌+◌, List, [], ◌∷◌, map, length, slice_index_or}
use Rattle.semantics.specs.declared.body.Body.{Body}
use Rattle.semantics.specs.declared.body.Body.TheVariants as body
use Rattle.semantics.specs.declared.body.Code.{Code}
use Rattle.semantics.specs.declared.operation.Operand.TheVariants as operand
use Rattle.semantics.specs.Entries.{EntryDef}
use Rattle.semantics.specs.Items.{items_of}
use Rattle.semantics.specs.Methods.{Op, return, LabelDef, MethodDef, label_of, op_of}

pub record CodeDef : Type 0 where
  pub temporaries : ℕ
  pub labels : List LabelDef
  pub points : List Op

-- a row is native or coded
pub data BodyDef : Type 0 where
  native : BodyDef
  coded : CodeDef → BodyDef

abbrev pub code_of : Code → CodeDef
code_of b = record { temporaries = b.temporaries; labels = map label_of (items_of b.labels); points = map op_of (items_of b.points) }

abbrev pub body_of : Body → BodyDef
body_of body.Native = native
body_of (body.Coded b) = coded (code_of b)

pub record Store : Type 0 where
  pub classes : List ℕ
  pub entries : List EntryDef
  pub bodies : List BodyDef

-- the code of a method, and the method of a signature and code
abbrev pub code_in : MethodDef → CodeDef
code_in m = record { temporaries = m.temporaries; labels = m.labels; points = m.code }

abbrev pub method_with : EntryDef → CodeDef → MethodDef
method_with e b = record {
  class = e.class;
  name = e.name;
  arguments = e.arguments;
  result = e.result;
  temporaries = b.temporaries;
  labels = b.labels;
  code = b.points;
}

-- the row of that number; nothing is behind a number that no row has
abbrev pub no_entry : EntryDef
no_entry = record { class = 0; name = 0; arguments = []; result = 0 }

abbrev pub no_code : CodeDef
no_code = record { temporaries = 0; labels = []; points = [] }

abbrev pub entry_at : Store → ℕ → EntryDef
entry_at s r = slice_index_or s.entries r no_entry

abbrev pub body_at : Store → ℕ → BodyDef
body_at s r = slice_index_or s.bodies r native

abbrev pub code_behind : BodyDef → CodeDef
code_behind native = no_code
code_behind (coded b) = b

abbrev pub code_at : Store → ℕ → CodeDef
code_at s r = code_behind (body_at s r)

abbrev pub method_at : Store → ℕ → MethodDef
method_at s r = method_with (entry_at s r) (code_at s r)

-- the operation of a point
abbrev pub op_at : CodeDef → ℕ → Op
op_at b p = slice_index_or b.points p (return (operand.Local 0))

-- all points of code together
abbrev pub points_in : BodyDef → ℕ
points_in b = length (code_behind b).points

abbrev pub points_of : List BodyDef → ℕ
points_of [] = 0
points_of (b ∷ bs) = points_in b + points_of bs
