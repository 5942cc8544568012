-- What a text says: a method, or the first refusal. The first faulty line decides.
use Rattle.std.specs.Prelude.{ℕ, zero, suc, ◌+◌, Bool, true, false, cond, ◌&&◌, List, [], ◌∷◌, ◌++◌, length, take, drop, Ok, Err, codes, Result, ◌==◌, nat_lt}
use Rattle.semantics.specs.declared.refusal.Refusal.{Refusal}
use Rattle.semantics.specs.declared.refusal.Refusal.TheVariants.{Line, Malformed, OutOfRange}
use Rattle.semantics.specs.declared.refusal.Fault.{Fault}
use Rattle.semantics.specs.declared.refusal.Fault.TheVariants as fault
use Rattle.semantics.specs.Methods.{Op, LabelDef, MethodDef}
use Rattle.semantics.specs.Pieces.{Piece, piece, up_to}
use Rattle.semantics.specs.Values.{Said, number_at, arguments_at, label_at, operation_at}

-- a good result, handed on, or the refusal
abbrev pub so : {X Y : Type 0} → Result X Refusal → (X → Result Y Refusal) → Result Y Refusal
so (Ok x) f = f x
so (Err e) f = Err e

-- what was read, and what is left behind it, with the place where that begins
pub record Read (X : Type 0) : Type 0 where
  pub said : X
  pub left : Piece

abbrev pub read : {X : Type 0} → X → Piece → Read X
read x v = record { said = x; left = v }

abbrev pub begins : List ℕ → List ℕ → Bool
begins [] s = true
begins (w ∷ ws) [] = false
begins (w ∷ ws) (c ∷ cs) = c == w && begins ws cs

-- the text begins with an ended line of that word
abbrev pub is_line : List ℕ → List ℕ → Bool
is_line w s = nat_lt (up_to 10 s) (length s) && begins w s

-- the value of that line, and what stands behind the line
abbrev pub value_in : List ℕ → Piece → Piece
value_in w v = piece (v.place + length w) (drop (length w) (take (up_to 10 v.held) v.held))

abbrev pub behind : Piece → Piece
behind v = piece (v.place + (up_to 10 v.held + 1)) (drop (up_to 10 v.held + 1) v.held)

-- 2 is told at the first byte of the value, 3 at the number
abbrev pub refused : ℕ → Fault → Refusal
refused at fault.Malformed = Malformed at
refused at (fault.OutOfRange p) = OutOfRange p

abbrev pub said_in : {X : Type 0} → ℕ → Said X → Result X Refusal
said_in at (Ok x) = Ok x
said_in at (Err f) = Err (refused at f)

-- the next line, which is to have that word and such a value, or 1 at its first byte
abbrev pub line : {X : Type 0} → List ℕ → (Piece → Said X) → Piece → Result (Read X) Refusal
line w says v = cond (is_line w v.held) (so (said_in (value_in w v).place (says (value_in w v))) (λ x. Ok (read x (behind v)))) (Err (Line v.place))

pub record Head : Type 0 where
  pub class : ℕ
  pub name : ℕ
  pub arguments : List ℕ
  pub result : ℕ
  pub temporaries : ℕ

abbrev pub head_of : ℕ → ℕ → List ℕ → ℕ → ℕ → Head
head_of c n a r t = record { class = c; name = n; arguments = a; result = r; temporaries = t }

abbrev pub head_at : Piece → Result (Read Head) Refusal
head_at v =
    so (line (codes "class=") (number_at 63) v) (λ c.
    so (line (codes "name=") (number_at 255) c.left) (λ n.
    so (line (codes "args=") arguments_at n.left) (λ a.
    so (line (codes "result=") (number_at 63) a.left) (λ r.
    so (line (codes "temps=") (number_at 8) r.left) (λ t.
    Ok (read (head_of c.said n.said a.said r.said t.said) t.left))))))

-- label lines behind those of ls, at most k, with rows of n classes
unfoldable pub labels_on : ℕ → ℕ → List LabelDef → Piece → Result (Read (List LabelDef)) Refusal
labels_on zero n ls v = cond (begins (codes "label=") v.held) (Err (Line v.place)) (Ok (read ls v))
labels_on (suc k) n ls v =
    cond (begins (codes "label=") v.held) (so (line (codes "label=") (label_at n) v) (λ l. labels_on k n (ls ++ l.said ∷ []) l.left)) (Ok (read ls v))

-- op lines behind those of os, one at least and at most k, up to the end of the text
unfoldable pub code_on : ℕ → List Op → Piece → Result (List Op) Refusal
code_on zero os v = Err (Line v.place)
code_on (suc k) os v =
    so (line (codes "op=") operation_at v) (λ o. cond (length o.left.held == 0) (Ok (os ++ o.said ∷ [])) (code_on k (os ++ o.said ∷ []) o.left))

abbrev pub method_from : Head → List LabelDef → List Op → MethodDef
method_from h ls os = record {
  class = h.class;
  name = h.name;
  arguments = h.arguments;
  result = h.result;
  temporaries = h.temporaries;
  labels = ls;
  code = os;
}

abbrev pub method_in : List ℕ → Result MethodDef Refusal
method_in t =
    so (head_at (piece 0 t)) (λ h.
    so (labels_on 16 h.said.temporaries [] h.left) (λ l.
    so (code_on 64 [] l.left) (λ os. Ok (method_from h.said l.said os))))
