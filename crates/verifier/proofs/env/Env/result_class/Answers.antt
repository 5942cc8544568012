use Rattle.std.proofs.Common.{map, Ok, ◌∙◌}
use Rattle.semantics.specs.Entries.{entry_of}
use Rattle.semantics.specs.Tests.{then, callee}
use Rattle.verifier.proofs.Callees.{callee_then}
use Rattle.verifier.proofs.env.Env.result_class.Goals as goal

pub returns : goal.returns
returns g c =
    let ps = g.T.ClassTable.listed c.args.self.now.table.now in
    callee_then ps c.args.self.now.entries.now c.class_of-class.result c.args.name c.as_slice.result.now c.in_ok-called.called c.index-self-called.result (λ e. Ok e.result) c.in_ok-called.ensures.value
    ∙ (λ i. then (callee ps (map entry_of c.args.self.now.entries.now) (c.class_of-class.ensures i) c.args.name ((c.as_slice.ensures ∙ c.classes_of-given.ensures) i)) (λ f. Ok f.entry.result))
