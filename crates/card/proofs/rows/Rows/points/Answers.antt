use Rattle.std.proofs.Common.{◌∙◌, rules, tests}
use Rattle.std.proofs.lemmas.Iterator.{YieldsList-from_slice, YieldsList-from_map}
use Rattle.std.proofs.lemmas.Iterator.Consumers.{fits_from_yields_list, sum_from_yields_List}
use Rattle.semantics.specs.Items.{items_of}
use Rattle.card.proofs.Points.{in_body, summed, fit}
use Rattle.card.proofs.rows.Rows.points.Goals as goal

pub sum-requires-clause-fits : goal.sum-requires-clause-fits
sum-requires-clause-fits c =
    fits_from_yields_list c.map.result _ (YieldsList-from_map _ in_body (YieldsList-from_slice (items_of c.args.self.now.bodies) cc) c.map.ensures.closure (λ x r q k. search (rules, tests))) (fit c.args.self.now.bodies)

pub returns : goal.returns
returns c =
    sum_from_yields_List c.map.result c.sum.result c.sum.ensures.ran (YieldsList-from_map _ in_body (YieldsList-from_slice (items_of c.args.self.now.bodies) cc) c.map.ensures.closure (λ x r q k. search (rules, tests)))
    ∙ summed (items_of c.args.self.now.bodies)
