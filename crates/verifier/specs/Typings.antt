-- What the operands of a method are.
use Rattle.std.specs.Prelude.{ℕ}
use Rattle.semantics.specs.declared.operation.Operand.{Operand}
use Rattle.semantics.specs.Items.{items_of}
use Rattle.semantics.specs.Methods.{method_of}
use Rattle.semantics.specs.Tests.{operand_class, locals_of}
use Rattle.verifier.specs.declared.tests.Typing.{Typing}

-- the class of an operand
abbrev pub class_in : Typing → Operand → ℕ
class_in t = operand_class (locals_of (method_of t.method.now)) (items_of t.row.now)
