-- A run: its frames, one step of it, and a go of some steps. The tests are those of the check, on the classes that the values have.
use Rattle.std.specs.Prelude.{ℕ, zero, suc, ◌+◌, cond, List, [], ◌∷◌, map, length, replicate, ℤ, pos, negsuc, Some, None, Ok, Err, Option, nat_lt, slice_index_or, slice_set}
use Rattle.std.specs.List.{slice_get}
use Rattle.semantics.specs.declared.ending.Break.TheVariants as break
use Rattle.semantics.specs.declared.ending.End.{End}
use Rattle.semantics.specs.declared.ending.Ending.{Ending}
use Rattle.semantics.specs.declared.ending.Ending.TheVariants.{Returned, NoAnswer, FramesFull, BrokenOff, StepsTaken}
use Rattle.semantics.specs.declared.misfit.Misfit.TheVariants as misfit
use Rattle.semantics.specs.declared.operation.Destination.{Destination}
use Rattle.semantics.specs.declared.operation.Destination.TheVariants as destination
use Rattle.semantics.specs.declared.operation.Operand.{Operand}
use Rattle.semantics.specs.declared.operation.Operand.TheVariants as operand
use Rattle.semantics.specs.declared.value.Value.{Value}
use Rattle.semantics.specs.Check.{label_at_point, falling_in, at_row}
use Rattle.semantics.specs.Endings.{end}
use Rattle.semantics.specs.Entries.{EntryDef, Found}
use Rattle.semantics.specs.Hosts.{QuestionDef, Reply, value, zero_value, is_zero, Answer}
use Rattle.semantics.specs.Methods.{Op, return, jump, jump_if, jump_list, invoke, LabelDef}
use Rattle.semantics.specs.Rows.{row_fits}
use Rattle.semantics.specs.Stores.{CodeDef, BodyDef, native, coded, Store, entry_at, body_at, code_at, op_at}
use Rattle.semantics.specs.Tests.{Tested, demand, bool_class, int_class, callee, may_hold, cells_fit, named_labels, first_label}
use Rattle.semantics.specs.Tree.{fits}

abbrev pub max_frames : ℕ
max_frames = 8

-- a method row, a point, locals and temporaries
pub record FrameDef : Type 0 where
  pub row : ℕ
  pub point : ℕ
  pub locals : List Value
  pub temporaries : List Value

-- at most one run is in hand: its frame on top, and the frames that wait for it, the nearest first
pub data RunDef : Type 0 where
  idle : RunDef
  in_hand : FrameDef → List FrameDef → RunDef

-- the first frame of a row: receiver and arguments, and temporaries of class 0 with number 0
abbrev pub opened : ℕ → CodeDef → Value → List Value → FrameDef
opened r b v vs = record { row = r; point = 0; locals = v ∷ vs; temporaries = replicate b.temporaries zero_value }

abbrev pub moved_to : FrameDef → ℕ → FrameDef
moved_to f p = record { row = f.row; point = p; locals = f.locals; temporaries = f.temporaries }

abbrev pub kind_of : Value → ℕ
kind_of v = v.class

abbrev pub operand_value : FrameDef → Operand → Value
operand_value f (operand.Local n) = slice_index_or f.locals n zero_value
operand_value f (operand.Temporary n) = slice_index_or f.temporaries n zero_value
operand_value f (operand.Constant z) = value int_class z

-- the classes that a method's locals are declared with
abbrev pub declared : EntryDef → List ℕ
declared e = e.class ∷ e.arguments

-- the frame with a value in d, past its invocation
abbrev pub put_in : FrameDef → Destination → Value → FrameDef
put_in f (destination.Local n) v = record { row = f.row; point = f.point + 1; locals = slice_set f.locals n v; temporaries = f.temporaries }
put_in f (destination.Temporary n) v = record { row = f.row; point = f.point + 1; locals = f.locals; temporaries = slice_set f.temporaries n v }

-- what a step comes to, and the condition that it leaves the host in: the run goes on, or it ended at a row and point
pub data Turn (C : Type 0) : Type 0 where
  onward : FrameDef → List FrameDef → C → Turn C
  ended : Ending → ℕ → ℕ → C → Turn C

-- a test at the operation of a frame, which breaks the run off there
abbrev pub or_break : {C X : Type 0} → FrameDef → C → Tested X → (X → Turn C) → Turn C
or_break f c (Ok x) k = k x
or_break f c (Err e) k = ended (BrokenOff (break.Misfit e)) f.row f.point c

-- at a labelled point the temporaries have to fit the label's row
abbrev pub at_label : List ℕ → List Value → Option LabelDef → Tested (Unit {0})
at_label ps vs None = Ok tt
at_label ps vs (Some l) = demand (row_fits ps kind_of (λ c. c) vs l.row) (misfit.Row falling_in)

-- the point of a label, and where a jump goes
abbrev pub point_of : List LabelDef → ℕ → ℕ
point_of ls n = at_row (slice_get ls n) 0 (λ l. l.point)

abbrev pub jumps_to : FrameDef → List LabelDef → Option ℕ → ℕ
jumps_to f ls None = f.point + 1
jumps_to f ls (Some n) = point_of ls n

abbrev pub if_not_zero : ℤ → ℕ → Option ℕ
if_not_zero z n = cond (is_zero z) None (Some n)

abbrev pub chosen : List ℕ → ℤ → Option ℕ
chosen ns (pos k) = slice_get ns k
chosen ns (negsuc k) = None

-- J, F and L, once their own test is passed: the row against every label that is named, taken or not
abbrev pub jumped : {C : Type 0} → Store → FrameDef → List FrameDef → C → Op → Option ℕ → Turn C
jumped s f gs c o to =
    or_break f c (cells_fit s.classes kind_of (code_at s f.row).labels f.temporaries (first_label o) (named_labels o)) (λ _.
    onward (moved_to f (jumps_to f (code_at s f.row).labels to)) gs c)

-- a value for the invocation at which a frame stands; d is tested on the value's own class
abbrev pub received : {C : Type 0} → Store → FrameDef → List FrameDef → C → Destination → Value → Turn C
received s f gs c d v = or_break f c (may_hold s.classes (declared (entry_at s f.row)) d (kind_of v)) (λ _. onward (put_in f d v) gs c)

-- where the invocation of a waiting frame puts its result
abbrev pub destination_of : Op → Destination
destination_of (return a) = destination.Local 0
destination_of (jump n) = destination.Local 0
destination_of (jump_if a n) = destination.Local 0
destination_of (jump_list a ns) = destination.Local 0
destination_of (invoke d a m bs) = d

-- the frame on top is closed with a value: the run has returned it, or the frame below takes it
abbrev pub closed : {C : Type 0} → Store → FrameDef → List FrameDef → C → Value → Turn C
closed s f [] c v = ended (Returned v) f.row f.point c
closed s f (g ∷ gs) c v = received s g gs c (destination_of (op_at (code_at s g.row) g.point)) v

-- what the host answers: none, a value outside the wanted class, or one for d
abbrev pub answered : {C : Type 0} → Store → FrameDef → List FrameDef → Destination → ℕ → Answer × C → Turn C
answered s f gs d wanted (Err cause, c) = ended (NoAnswer cause) f.row f.point c
answered s f gs d wanted (Ok v, c) =
    cond (fits s.classes (kind_of v) wanted) (received s f gs c d v) (ended (BrokenOff break.AnswerClass) f.row f.point c)

abbrev pub question : EntryDef → Value → List Value → QuestionDef
question e v vs = record { name = e.name; class = e.class; wanted = e.result; receiver = v; arguments = vs }

-- the called row: a native one puts its question, a coded one opens a frame
abbrev pub called : {C : Type 0} → Store → Reply C → FrameDef → List FrameDef → C → Destination → Value → List Value → Found → BodyDef → Turn C
called s reply f gs c d v vs g native = answered s f gs d g.entry.result (reply c (question g.entry v vs))
called s reply f gs c d v vs g (coded b) =
    cond (nat_lt (length gs + 1) max_frames) (onward (opened g.number b v vs) (f ∷ gs) c) (ended FramesFull f.row f.point c)

-- one operation
abbrev pub operate : {C : Type 0} → Store → Reply C → FrameDef → List FrameDef → C → Op → Turn C
operate s reply f gs c (return a) =
    or_break f c (demand (fits s.classes (kind_of (operand_value f a)) (entry_at s f.row).result) misfit.ResultClass) (λ _. closed s f gs c (operand_value f a))
operate s reply f gs c (jump n) = jumped s f gs c (jump n) (Some n)
operate s reply f gs c (jump_if a n) =
    or_break f c (demand (fits s.classes (kind_of (operand_value f a)) bool_class) misfit.Condition) (λ _.
    jumped s f gs c (jump_if a n) (if_not_zero (operand_value f a).number n))
operate s reply f gs c (jump_list a ns) =
    or_break f c (demand (fits s.classes (kind_of (operand_value f a)) int_class) misfit.Condition) (λ _.
    jumped s f gs c (jump_list a ns) (chosen ns (operand_value f a).number))
operate s reply f gs c (invoke d a m bs) =
    or_break f c (callee s.classes s.entries (kind_of (operand_value f a)) m (map kind_of (map (operand_value f) bs))) (λ g.
    called s reply f gs c d (operand_value f a) (map (operand_value f) bs) g (body_at s g.number))

-- one step: the label of the point first, then its operation
abbrev pub step_of : {C : Type 0} → Store → Reply C → FrameDef → List FrameDef → C → Turn C
step_of s reply f gs c =
    or_break f c (at_label s.classes f.temporaries (label_at_point (code_at s f.row).labels f.point)) (λ _.
    operate s reply f gs c (op_at (code_at s f.row) f.point))

-- what a go comes to: its end, the run after it, and the condition of the host
pub record Gone (C : Type 0) : Type 0 where
  pub end : End
  pub run : RunDef
  pub host : C

abbrev pub gone : {C : Type 0} → End → RunDef → C → Gone C
gone e r c = record { end = e; run = r; host = c }

-- at most n steps, after k of them
unfoldable pub go_from : {C : Type 0} → Store → Reply C → ℕ → ℕ → Turn C → Gone C
go_from s reply n k (ended e r p c) = gone (end e k r p) idle c
go_from s reply zero k (onward f gs c) = gone (end StepsTaken k f.row f.point) (in_hand f gs) c
go_from s reply (suc n) k (onward f gs c) = go_from s reply n (k + 1) (step_of s reply f gs c)
