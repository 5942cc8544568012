-- The card and its seven calls: what each answers, and what card, host and buffer then hold.
use Rattle.std.specs.Prelude.{ℕ, Bool, true, ◌&&◌, List, [], ◌∷◌, ◌++◌, map, length, Ok, Err, Result, nat_le, nat_lt}
use Rattle.semantics.specs.declared.call.Kind.{Kind}
use Rattle.semantics.specs.declared.call.Kind.TheVariants.{Issue, Bench}
use Rattle.semantics.specs.declared.call.Offered.{Offered}
use Rattle.semantics.specs.declared.misfit.Misfit.{Misfit}
use Rattle.semantics.specs.declared.misfit.Misfit.TheVariants as misfit
use Rattle.semantics.specs.declared.refusal.Refusal.{Refusal}
use Rattle.semantics.specs.declared.refusal.Refusal.TheVariants.{ArgumentOutOfRange, RunInHand, NoRunInHand, NativeRow, NoSuchRow, StartNoRow, StartArgument}
use Rattle.semantics.specs.declared.value.Value.{Value}
use Rattle.semantics.specs.Buffers.{written, filled}
use Rattle.semantics.specs.Check.{check_of}
use Rattle.semantics.specs.Entries.{EntryDef, entry_in, lookup}
use Rattle.semantics.specs.FillCall.{filled_answer, filled_into}
use Rattle.semantics.specs.Form.{Formed, must, form_of}
use Rattle.semantics.specs.Hosts.{Reply, value, in_range}
use Rattle.semantics.specs.Methods.{MethodDef}
use Rattle.semantics.specs.NewRows.{classes_present, entry_classes, row_classes, entry_rules, room_for}
use Rattle.semantics.specs.Printing.{method_text}
use Rattle.semantics.specs.Reading.{so, method_in}
use Rattle.semantics.specs.Runs.{RunDef, idle, in_hand, FrameDef, kind_of, opened, Gone, go_from, onward}
use Rattle.semantics.specs.Stores.{BodyDef, native, coded, Store, code_in, body_at, method_with, entry_at, points_of}
use Rattle.semantics.specs.Tests.{Tested, needed, taking}
use Rattle.semantics.specs.Tree as tree

-- a card: its kind, its classes and rows, and its run
pub record CardDef : Type 0 where
  pub kind : Kind
  pub store : Store
  pub run : RunDef

abbrev pub blank_card : Kind → CardDef
blank_card k = record { kind = k; store = record { classes = tree.blank; entries = []; bodies = [] }; run = idle }

abbrev pub with_run : CardDef → RunDef → CardDef
with_run k r = record { kind = k.kind; store = k.store; run = r }

abbrev pub with_classes : CardDef → List ℕ → CardDef
with_classes k ps = record { kind = k.kind; store = record { classes = ps; entries = k.store.entries; bodies = k.store.bodies }; run = k.run }

abbrev pub with_row : CardDef → EntryDef → BodyDef → CardDef
with_row k e b = record {
  kind = k.kind;
  store = record { classes = k.store.classes; entries = k.store.entries ++ e ∷ []; bodies = k.store.bodies ++ b ∷ [] };
  run = k.run;
}

-- the card after a call that is answered with x; a refused one leaves it as it was
abbrev pub unless_refused : {X : Type 0} → CardDef → (X → CardDef) → Result X Refusal → CardDef
unless_refused k f (Ok x) = f x
unless_refused k f (Err e) = k

-- the number of a row that is added
abbrev pub next_row : {X : Type 0} → CardDef → Result X Refusal → Result ℕ Refusal
next_row k r = so r (λ _. Ok (length k.store.entries))

-- class: a parent
abbrev pub class_answer : CardDef → ℕ → Result ℕ Refusal
class_answer k p = tree.adding k.store.classes p

abbrev pub class_after : CardDef → ℕ → CardDef
class_after k p = with_classes k (tree.after (class_answer k p) k.store.classes p)

-- numbers of calls: classes run to 63, names to 255, and there are at most 7 arguments
abbrev pub all_small : List ℕ → Bool
all_small [] = true
all_small (c ∷ cs) = nat_le c 63 && all_small cs

abbrev pub max_name : ℕ
max_name = 255

abbrev pub max_arguments : ℕ
max_arguments = 7

-- native: a class, a name, argument classes and a result class
abbrev pub signature : ℕ → ℕ → List ℕ → ℕ → EntryDef
signature c m as' r = record { class = c; name = m; arguments = as'; result = r }

abbrev pub signature_in_range : EntryDef → Bool
signature_in_range e = all_small (entry_classes e) && (nat_le e.name max_name && nat_le (length e.arguments) max_arguments)

-- the native row that is let in
abbrev pub native_row : CardDef → EntryDef → Result EntryDef Refusal
native_row k e =
    so (must (signature_in_range e) ArgumentOutOfRange) (λ _.
    so (entry_rules k.store.classes k.store.entries e (entry_classes e)) (λ _.
    so (room_for (length k.store.entries) (points_of k.store.bodies) 0) (λ _. Ok e)))

abbrev pub native_answer : CardDef → EntryDef → Result ℕ Refusal
native_answer k e = next_row k (native_row k e)

abbrev pub native_after : CardDef → EntryDef → CardDef
native_after k e = unless_refused k (λ x. with_row k x native) (native_row k e)

-- load: a text; only an issue card makes the check, in which the method counts as present
abbrev pub checked_on : Kind → List ℕ → List EntryDef → MethodDef → Formed
checked_on Issue ps es m = check_of ps (es ++ entry_in m ∷ []) m
checked_on Bench ps es m = Ok tt

-- the method that is let in
abbrev pub loaded_method : CardDef → List ℕ → Result MethodDef Refusal
loaded_method k t =
    so (method_in t) (λ m.
    so (form_of m) (λ _.
    so (entry_rules k.store.classes k.store.entries (entry_in m) (entry_classes (entry_in m) ++ row_classes m.labels)) (λ _.
    so (room_for (length k.store.entries) (points_of k.store.bodies) (length m.code)) (λ _.
    so (checked_on k.kind k.store.classes k.store.entries m) (λ _. Ok m)))))

abbrev pub load_answer : CardDef → List ℕ → Result ℕ Refusal
load_answer k t = next_row k (loaded_method k t)

abbrev pub load_after : CardDef → List ℕ → CardDef
load_after k t = unless_refused k (λ m. with_row k (entry_in m) (coded (code_in m))) (loaded_method k t)

-- start: a receiver value, a name and argument values
abbrev pub numbers_in_range : List Offered → Bool
numbers_in_range [] = true
numbers_in_range (v ∷ vs) = (nat_le v.class 63 && in_range v.number) && numbers_in_range vs

abbrev pub start_in_range : Offered → ℕ → List Offered → Bool
start_in_range v m vs = numbers_in_range (v ∷ vs) && (nat_le m max_name && nat_le (length vs) max_arguments)

abbrev pub taken : Offered → Value
taken v = value v.class v.number

abbrev pub not_in_hand : RunDef → Formed
not_in_hand idle = Ok tt
not_in_hand (in_hand f gs) = Err RunInHand

-- a start counts as an invocation at point 0: no row is found, or an argument does not fit
abbrev pub start_refusal : Misfit → Refusal
start_refusal misfit.NoRow = StartNoRow
start_refusal (misfit.Argument k) = StartArgument k
start_refusal misfit.ResultClass = StartNoRow
start_refusal misfit.Condition = StartNoRow
start_refusal (misfit.Row k) = StartNoRow

abbrev pub start_tested : {X : Type 0} → Tested X → Result X Refusal
start_tested (Ok x) = Ok x
start_tested (Err e) = Err (start_refusal e)

-- the first frame, where the row that is found has a body
abbrev pub start_frame : ℕ → Value → List Value → BodyDef → Result FrameDef Refusal
start_frame r v vs native = Err NativeRow
start_frame r v vs (coded b) = Ok (opened r b v vs)

abbrev pub first_frame : Store → Value → ℕ → List Value → Result FrameDef Refusal
first_frame s v m vs =
    so (start_tested (needed (lookup s.classes s.entries (kind_of v) m) misfit.NoRow)) (λ g.
    so (start_frame g.number v vs (body_at s g.number)) (λ f.
    so (start_tested (taking s.classes (map kind_of vs) g)) (λ _. Ok f)))

abbrev pub started_frame : CardDef → Offered → ℕ → List Offered → Result FrameDef Refusal
started_frame k v m vs =
    so (not_in_hand k.run) (λ _.
    so (must (start_in_range v m vs) ArgumentOutOfRange) (λ _.
    so (classes_present k.store.classes 0 (map kind_of (map taken (v ∷ vs)))) (λ _.
    first_frame k.store (taken v) m (map taken vs))))

abbrev pub start_answer : CardDef → Offered → ℕ → List Offered → Formed
start_answer k v m vs = so (started_frame k v m vs) (λ _. Ok tt)

abbrev pub start_after : CardDef → Offered → ℕ → List Offered → CardDef
start_after k v m vs = unless_refused k (λ f. with_run k (in_hand f [])) (started_frame k v m vs)

-- go: at most n steps
abbrev pub max_steps : ℕ
max_steps = 65535

abbrev pub go_run : {C : Type 0} → Store → Reply C → ℕ → C → RunDef → Result (Gone C) Refusal
go_run s reply n c idle = Err NoRunInHand
go_run s reply n c (in_hand f gs) = Ok (go_from s reply n 0 (onward f gs c))

abbrev pub gone_by : {C : Type 0} → CardDef → Reply C → ℕ → C → Result (Gone C) Refusal
gone_by k reply n c = so (must (nat_le n max_steps) ArgumentOutOfRange) (λ _. go_run k.store reply n c k.run)

abbrev pub go_after : {C : Type 0} → CardDef → Reply C → ℕ → C → CardDef
go_after k reply n c = unless_refused k (λ g. with_run k g.run) (gone_by k reply n c)

abbrev pub host_after : {C : Type 0} → C → Result (Gone C) Refusal → C
host_after c (Ok g) = g.host
host_after c (Err e) = c

-- fill: a text and a lent buffer; the card stays
abbrev pub fill_answer : CardDef → List ℕ → ℕ → Result (ℕ × ℕ) Refusal
fill_answer k t room = filled_answer k.store.classes k.store.entries t room

abbrev pub fill_into : CardDef → List ℕ → List ℕ → List ℕ
fill_into k t buf = filled_into k.store.classes k.store.entries t buf

-- write: a row and a lent buffer; the card stays
abbrev pub text_behind : EntryDef → BodyDef → Result (List ℕ) Refusal
text_behind e native = Err NativeRow
text_behind e (coded b) = Ok (method_text (method_with e b))

abbrev pub row_text : CardDef → ℕ → Result (List ℕ) Refusal
row_text k r = so (must (nat_lt r (length k.store.entries)) NoSuchRow) (λ _. text_behind (entry_at k.store r) (body_at k.store r))

abbrev pub write_answer : CardDef → ℕ → List ℕ → Result ℕ Refusal
write_answer k r buf = so (row_text k r) (λ t. written t buf)

abbrev pub text_into : Result (List ℕ) Refusal → List ℕ → List ℕ
text_into (Ok t) buf = filled t buf
text_into (Err e) buf = buf

abbrev pub write_into : CardDef → ℕ → List ℕ → List ℕ
write_into k r buf = text_into (row_text k r) buf
