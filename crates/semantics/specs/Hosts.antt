-- What a host means: a condition, its answer to each question, and the condition left behind; and the four hosts.
use Rattle.std.specs.Prelude.{ℕ, ◌^◌, Bool, true, false, cond, ◌||◌, List, [], ◌∷◌, length, get_or, ℤ, pos, negsuc, ◌+ℤ◌, ◌-ℤ◌, ◌*ℤ◌, ◌==◌, int_div, int_le, nat_lt, slice_index_or, slice_set, Ok, Err, Result}
use Rattle.semantics.specs.declared.value.Cause.{Cause}
use Rattle.semantics.specs.declared.value.Cause.TheVariants.{NameUnknown, ArgumentCount, WantedClass, CellNumber, Range, ScriptUsedUp, NameDiffers}
use Rattle.semantics.specs.declared.value.Question.{Question}
use Rattle.semantics.specs.declared.value.Value.{Value}
use Rattle.semantics.specs.Items.{items_of}
use Rattle.semantics.specs.Tests.{bool_class, int_class}

-- the number of each cause
abbrev pub cause_number : Cause → ℕ
cause_number NameUnknown = 1
cause_number ArgumentCount = 2
cause_number WantedClass = 3
cause_number CellNumber = 4
cause_number Range = 5
cause_number ScriptUsedUp = 6
cause_number NameDiffers = 7

pub record QuestionDef : Type 0 where
  pub name : ℕ
  pub class : ℕ
  pub wanted : ℕ
  pub receiver : Value
  pub arguments : List Value

abbrev pub question_of : Question → QuestionDef
question_of q = record { name = q.name; class = q.class; wanted = q.wanted; receiver = q.receiver; arguments = items_of q.arguments }

-- what a question is answered with
abbrev pub Answer : Type 0
Answer = Result Value Cause

abbrev pub Reply : Type 0 → Type 0
Reply C = C → QuestionDef → Answer × C

abbrev pub value : ℕ → ℤ → Value
value c z = record { class = c; number = z }

abbrev pub an_int : ℤ → Answer
an_int z = Ok (value int_class z)

abbrev pub a_bool : Bool → Answer
a_bool b = Ok (value bool_class (cond b (pos 1) (pos 0)))

-- that a question has n arguments, and wants class c or class 0
abbrev pub shape : QuestionDef → ℕ → ℕ → Result (Unit {0}) Cause
shape q n c = cond (length q.arguments == n) (cond (q.wanted == 0 || q.wanted == c) (Ok tt) (Err WantedClass)) (Err ArgumentCount)

-- an answer of class c to a question that has n arguments, and wants that class or class 0
abbrev pub shaped : QuestionDef → ℕ → ℕ → Answer → Answer
shaped q n c a = cond (length q.arguments == n) (cond (q.wanted == 0 || q.wanted == c) a (Err WantedClass)) (Err ArgumentCount)

-- the number of the only argument
abbrev pub zero_value : Value
zero_value = value 0 (pos 0)

abbrev pub argument_of : QuestionDef → ℤ
argument_of q = (get_or q.arguments 0 zero_value).number

-- from -2^31 to 2^31-1
abbrev pub in_range : ℤ → Bool
in_range (pos n) = nat_lt n (2 ^ 31)
in_range (negsuc n) = nat_lt n (2 ^ 31)

abbrev pub is_zero : ℤ → Bool
is_zero (pos n) = n == 0
is_zero (negsuc n) = false

abbrev pub eq_z : ℤ → ℤ → Bool
eq_z (pos a) (pos b) = a == b
eq_z (pos a) (negsuc b) = false
eq_z (negsuc a) (pos b) = false
eq_z (negsuc a) (negsuc b) = a == b

abbrev pub ranged : ℤ → Answer
ranged z = cond (in_range z) (an_int z) (Err Range)

-- division toward zero
abbrev pub divided : ℤ → ℤ → Answer
divided x y = cond (is_zero y) (Err Range) (ranged (int_div x y))

-- the number host: likeIt, add, subtract, multiply, divide, LtOrEq and equal
abbrev pub number_answer : QuestionDef → Answer
number_answer q =
    cond (q.name == 0) (shaped q 0 int_class (an_int q.receiver.number))
    (cond (q.name == 1) (shaped q 1 int_class (ranged (q.receiver.number +ℤ argument_of q)))
    (cond (q.name == 2) (shaped q 1 int_class (ranged (q.receiver.number -ℤ argument_of q)))
    (cond (q.name == 3) (shaped q 1 int_class (ranged (q.receiver.number *ℤ argument_of q)))
    (cond (q.name == 4) (shaped q 1 int_class (divided q.receiver.number (argument_of q)))
    (cond (q.name == 5) (shaped q 1 bool_class (a_bool (int_le q.receiver.number (argument_of q))))
    (cond (q.name == 6) (shaped q 1 bool_class (a_bool (eq_z q.receiver.number (argument_of q))))
    (Err NameUnknown)))))))

abbrev pub number_reply : Reply (Unit {0})
number_reply c q = (number_answer q, c)

-- the cell host: 128 gets the cell that the receiver numbers, 129 puts its argument's number there and answers the former
abbrev pub is_cell : ℤ → Bool
is_cell (pos n) = nat_lt n 64
is_cell (negsuc n) = false

abbrev pub cell_place : ℤ → ℕ
cell_place (pos n) = n
cell_place (negsuc n) = 64

abbrev pub cell_held : List ℤ → QuestionDef → Answer
cell_held cs q = cond (is_cell q.receiver.number) (an_int (slice_index_or cs (cell_place q.receiver.number) (pos 0))) (Err CellNumber)

abbrev pub cell_answer : List ℤ → QuestionDef → Answer
cell_answer cs q =
    cond (q.name == 128) (shaped q 0 int_class (cell_held cs q))
    (cond (q.name == 129) (shaped q 1 int_class (cell_held cs q)) (Err NameUnknown))

abbrev pub is_given : Answer → Bool
is_given (Ok v) = true
is_given (Err k) = false

abbrev pub cells_after : List ℤ → QuestionDef → List ℤ
cells_after cs q = cond (q.name == 129) (cond (is_given (cell_answer cs q)) (slice_set cs (cell_place q.receiver.number) (argument_of q)) cs) cs

abbrev pub cell_reply : Reply (List ℤ)
cell_reply cs q = (cell_answer cs q, cells_after cs q)

-- the script host: the next value of a list, if its name agrees
pub record Line : Type 0 where
  pub name : ℕ
  pub value : Value

abbrev pub script_reply : Reply (List Line)
script_reply [] q = (Err ScriptUsedUp, [])
script_reply (l ∷ ls) q = cond (l.name == q.name) (Ok l.value, ls) (Err NameDiffers, l ∷ ls)

-- the switch: names below 128 go to the first of two hosts, the rest to the second
abbrev pub switch_reply : {A B : Type 0} → Reply A → Reply B → Reply (A × B)
switch_reply f g c q =
    cond (nat_lt q.name 128)
    ((f c.0 q).0, ((f c.0 q).1, c.1))
    ((g c.1 q).0, (c.0, (g c.1 q).1))
