use Rattle.std.proofs.Common.{◌≡◌, map, take, drop}
use Rattle.std.specs.List.{list_all}
use Rattle.semantics.specs.Items.{items_of}
use Rattle.card.proofs.numbers.all_small.Given as goal

abbrev pub invariant-loop-one : goal.invariant-loop-one
invariant-loop-one g l =
    (items_of l.list ≡ map g.H.Handed.taken (take l.one-index l.handed)) × (list_all g.H.Handed.allowed (drop l.one-index l.handed) ≡ list_all g.H.Handed.allowed l.handed)
