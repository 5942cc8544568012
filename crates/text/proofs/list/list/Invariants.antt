use Rattle.std.proofs.Common.{◌≡◌, ◌+◌, ◌≤◌, [], length, IfOk, Ok}
use Rattle.semantics.specs.Items.{items_of}
use Rattle.semantics.specs.Values.{mapped, list_on}
use Rattle.text.specs.Parts.{parts_left}
use Rattle.text.proofs.list.list.Given as goal

abbrev pub invariant-loop-part : goal.invariant-loop-part
invariant-loop-part g l =
    (list_on g.T.Item.says (mapped items_of l.list) (parts_left l.part-iterator) ≡ list_on g.T.Item.says (Ok []) (parts_left l.parts))
    × IfOk l.list (λ v. length (items_of v) + length (parts_left l.part-iterator) ≤ g.row.N)
