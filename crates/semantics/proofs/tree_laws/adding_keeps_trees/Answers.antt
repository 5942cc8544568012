use Rattle.semantics.proofs.TreeGrowth.{added, tree_push}
use Rattle.semantics.proofs.tree_laws.adding_keeps_trees.Goals as goal

pub returns : goal.returns
returns c = λ ps p n t e. let a = added ps p n e in tree_push ps t p a.under a.room a.low
