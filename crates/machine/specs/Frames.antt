-- What the frames of the code mean, a stack of them, and the rows that they run on.
use Rattle.std.specs.Prelude.{ℕ, zero, suc, ◌+◌, ◌<◌, List, [], ◌∷◌, map, get_or, Some, None, Ok, Option, slice_index_or}
use Rattle.semantics.specs.declared.body.Body.{Body}
use Rattle.semantics.specs.declared.body.Code.{Code}
use Rattle.semantics.specs.declared.entry.Entry.{Entry}
use Rattle.semantics.specs.Entries.{entry_of}
use Rattle.semantics.specs.Items.{items_of}
use Rattle.semantics.specs.Methods.{Op, LabelDef}
use Rattle.semantics.specs.Runs.{FrameDef, kind_of, jumps_to}
use Rattle.semantics.specs.Stores.{Store, BodyDef, native, coded, body_of, code_of}
use Rattle.semantics.specs.Tests.{Tested, then, cells_fit, first_label, named_labels}
use Rattle.machine.specs.declared.frame.Frame.{Frame}
use Rattle.machine.specs.declared.store.Store as held

-- the classes, signatures and bodies of a card
abbrev pub stored : List ℕ → List Entry → List Body → Store
stored ps es bs = record { classes = ps; entries = map entry_of es; bodies = map body_of bs }

-- the same of a store; f tells the parents that a class table lists
abbrev pub store_of : {T : Type 0} → (T → List ℕ) → held.Store T → Store
store_of f s = stored (f s.env.table.now) s.env.entries.now s.bodies.now

-- what is behind a row of this code, or of none
abbrev pub body_with : Option Code → BodyDef
body_with None = native
body_with (Some b) = coded (code_of b)

abbrev pub frame_of : Frame → FrameDef
frame_of f = record { row = f.row; point = f.point; locals = items_of f.locals; temporaries = items_of f.temporaries }

abbrev pub no_frame : FrameDef
no_frame = record { row = 0; point = 0; locals = []; temporaries = [] }

-- the first d of these frames, the last of them on top
abbrev pub stacked : List FrameDef → ℕ → List FrameDef
stacked fs zero = []
stacked fs (suc d) = slice_index_or fs d no_frame ∷ stacked fs d

-- each of the first d frames but the last waits at a point of its code
abbrev pub Waiting : List Frame → ℕ → Type 0
Waiting fs d = (k : ℕ) → k + 1 < d → (get_or (map frame_of fs) k no_frame).point < 64

-- where J, F and L go, once their own test is passed
abbrev pub jump_tests : List ℕ → FrameDef → List LabelDef → Op → Option ℕ → Tested ℕ
jump_tests ps f ls o to = then (cells_fit ps kind_of ls f.temporaries (first_label o) (named_labels o)) (λ _. Ok (jumps_to f ls to))
