use Rattle.std.proofs.Common.{◌≡◌, ◌-◌, ◌≤◌, Ok}
use Rattle.machine.specs.Frames.{store_of}
use Rattle.machine.proofs.Going.{on_from}
use Rattle.machine.proofs.run.Run.go.Given as goal

abbrev pub invariant-loop-self : goal.invariant-loop-self
invariant-loop-self g l =
    (l.taken ≤ l.steps)
    × (on_from (store_of g.T.ClassTable.listed l.store) g.H.Host.reply (l.steps - l.taken) l.taken l.outcome l.self (g.H.Host.condition l.host)
    ≡ on_from (store_of g.T.ClassTable.listed l.store) g.H.Host.reply l.steps 0 (Ok tt) l.initial.self (g.H.Host.condition l.initial.host))

abbrev pub decreases-loop-self : goal.decreases-loop-self
decreases-loop-self g l = l.steps - l.taken
