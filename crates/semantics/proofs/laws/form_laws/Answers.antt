-- The two laws of the form.
use Rattle.semantics.proofs.FormLaws.{form_exact, form_first}
use Rattle.semantics.proofs.laws.form_laws.Goals as goal

pub returns : goal.returns
returns c = (form_exact, form_first)
