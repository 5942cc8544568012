use Rattle.semantics.proofs.TreeGrowth.{stays}
use Rattle.semantics.proofs.tree_laws.old_classes_stay.Goals as goal

pub returns : goal.returns
returns c = λ ps xs t. stays ps t xs
