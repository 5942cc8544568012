-- How the answers of calls are printed.
use Rattle.std.specs.Prelude.{ℕ, List, ◌∷◌, ◌++◌, codes, decimal}
use Rattle.std.specs.Fmt.{signed_decimal}
use Rattle.semantics.specs.declared.call.Response.{Response}
use Rattle.semantics.specs.declared.call.Response.TheVariants.{Class, Row, Started, Ended, Filled, Refused}
use Rattle.semantics.specs.declared.ending.End.{End}
use Rattle.semantics.specs.declared.ending.Ending.{Ending}
use Rattle.semantics.specs.declared.ending.Ending.TheVariants.{Returned, NoAnswer, FramesFull, BrokenOff, StepsTaken}
use Rattle.semantics.specs.declared.refusal.Layer.{Layer}
use Rattle.semantics.specs.declared.refusal.Layer.TheVariants.{Text, Form, Card, Check, Run}
use Rattle.semantics.specs.Endings.{break_told}
use Rattle.semantics.specs.Hosts.{cause_number}
use Rattle.semantics.specs.Refusals.{told, refusal_text}

abbrev pub layer_word : Layer → List ℕ
layer_word Text = codes "text"
layer_word Form = codes "form"
layer_word Card = codes "card"
layer_word Check = codes "check"
layer_word Run = codes "run"

abbrev pub ending_text : Ending → List ℕ
ending_text (Returned v) = codes "returned=" ++ (decimal v.class ++ (58 ∷ signed_decimal v.number))
ending_text (NoAnswer c) = codes "no-answer=" ++ decimal (cause_number c)
ending_text FramesFull = codes "frames-full"
ending_text (BrokenOff b) = codes "broken-off=" ++ (decimal (break_told b).number ++ (58 ∷ decimal (break_told b).operand))
ending_text StepsTaken = codes "steps-taken"

-- the ending, then its steps, row and point
abbrev pub end_text : End → List ℕ
end_text e = ending_text e.ending ++ (codes " steps=" ++ (decimal e.steps ++ (codes " row=" ++ (decimal e.row ++ (codes " point=" ++ decimal e.point)))))

abbrev pub answer_text : Response → List ℕ
answer_text (Class n) = codes "class=" ++ decimal n
answer_text (Row n) = codes "row=" ++ decimal n
answer_text Started = codes "started"
answer_text (Ended e) = end_text e
answer_text (Filled n k) = codes "length=" ++ (decimal n ++ (codes " sweeps=" ++ decimal k))
answer_text (Refused r) = refusal_text r ++ (codes " layer=" ++ layer_word (told r).layer)
