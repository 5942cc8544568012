-- What an output holds after bytes were put into it.
use Rattle.std.specs.Prelude.{ℕ, ◌+◌, ◌-◌, ◌^◌, List, [], ◌∷◌, ◌++◌, min, slice_set}
use Rattle.writer.specs.declared.output.Output.{Output}

-- one byte more: kept if the buffer reaches so far, and counted up to the largest count
unfoldable pub with_byte : ℕ → Output → Output
with_byte b o = record { buffer = record o.buffer { now = slice_set o.buffer.now o.len b }; len = min (o.len + 1) (2 ^ 64 - 1) }

abbrev pub put : List ℕ → Output → Output
put [] o = o
put (b ∷ bs) o = put bs (with_byte b o)

-- a text between two others
unfoldable pub enclosed : (before text after : List ℕ) → List ℕ
enclosed before text after = before ++ (text ++ after)
