-- What the run of the code means, and what a step of it comes to.
use Rattle.std.specs.Prelude.{ℕ, ◌-◌, Bool, true, false, cond, List, [], map, Ok, Err, Result, slice_index_or}
use Rattle.semantics.specs.declared.ending.Break.TheVariants as break
use Rattle.semantics.specs.declared.ending.Ending.{Ending}
use Rattle.semantics.specs.declared.ending.Ending.TheVariants.{NoAnswer, BrokenOff}
use Rattle.semantics.specs.declared.misfit.Misfit.TheVariants as misfit
use Rattle.semantics.specs.declared.operation.Operand.{Operand}
use Rattle.semantics.specs.declared.refusal.Refusal.{Refusal}
use Rattle.semantics.specs.declared.value.Value.{Value}
use Rattle.semantics.specs.Hosts.{Answer}
use Rattle.semantics.specs.Runs.{FrameDef, RunDef, idle, in_hand, Turn, onward, ended, or_break, kind_of, operand_value, closed, Gone}
use Rattle.semantics.specs.Stores.{Store, entry_at}
use Rattle.semantics.specs.Tests.{Tested, demand}
use Rattle.semantics.specs.Tree.{fits}
use Rattle.machine.specs.declared.run.Frames.{Frames}
use Rattle.machine.specs.declared.run.Run.{Run}
use Rattle.machine.specs.declared.run.Run.TheVariants as run
use Rattle.machine.specs.declared.run.stop.Stop.{Stop}
use Rattle.machine.specs.Frames.{frame_of, no_frame, stacked}

-- the frame on top, and those below it
abbrev pub top_of : Frames → FrameDef
top_of r = slice_index_or (map frame_of r.frames) (r.depth - 1) no_frame

abbrev pub rest_of : Frames → List FrameDef
rest_of r = stacked (map frame_of r.frames) (r.depth - 1)

abbrev pub run_of : Run → RunDef
run_of run.Idle = idle
run_of (run.InHand r) = in_hand (top_of r) (rest_of r)

abbrev pub is_in_hand : RunDef → Bool
is_in_hand idle = false
is_in_hand (in_hand f gs) = true

-- an ending at the operation of a frame
abbrev pub stop_at : Ending → FrameDef → Stop
stop_at e f = record { ending = e; row = f.row; point = f.point }

-- a test at the operation of a frame, which breaks the run off there
abbrev pub or_stop : {X : Type 0} → FrameDef → Tested X → Result X Stop
or_stop f (Ok x) = Ok x
or_stop f (Err e) = Err (stop_at (BrokenOff (break.Misfit e)) f)

-- a value that the host gave in the wanted class
abbrev pub given : List ℕ → FrameDef → ℕ → Answer → Result Value Stop
given ps f wanted (Err cause) = Err (stop_at (NoAnswer cause) f)
given ps f wanted (Ok v) = cond (fits ps (kind_of v) wanted) (Ok v) (Err (stop_at (BrokenOff break.AnswerClass) f))

-- what a step answers, the run that it leaves, and the condition of the host
abbrev pub turned : {C : Type 0} → Result (Unit {0}) Stop → Frames → C → Turn C
turned (Ok u) r c = onward (top_of r) (rest_of r) c
turned (Err s) r c = ended s.ending s.row s.point c

-- R: its test, and the frame is closed
abbrev pub given_back : {C : Type 0} → Store → FrameDef → List FrameDef → C → Operand → Turn C
given_back s f gs c a =
    or_break f c (demand (fits s.classes (kind_of (operand_value f a)) (entry_at s f.row).result) misfit.ResultClass) (λ _. closed s f gs c (operand_value f a))

-- the run after a start that was refused or gave a first frame
abbrev pub begun : RunDef → Result FrameDef Refusal → RunDef
begun r (Ok f) = in_hand f []
begun r (Err e) = r

-- the run after a go
abbrev pub run_after : {C : Type 0} → RunDef → Result (Gone C) Refusal → RunDef
run_after r (Ok g) = g.run
run_after r (Err e) = r
