use Rattle.std.proofs.Common.{◌≡◌, map, take}
use Rattle.semantics.specs.Items.{items_of}
use Rattle.semantics.specs.Methods.{method_of}
use Rattle.semantics.specs.Tests.{operand_class, locals_of}
use Rattle.verifier.proofs.tests.Typing.classes_of.Given as goal

abbrev pub invariant-loop-operand : goal.invariant-loop-operand
invariant-loop-operand l = items_of l.classes ≡ map (operand_class (locals_of (method_of l.self.method.now)) (items_of l.self.row.now)) (take l.operand-index l.operand-items)
