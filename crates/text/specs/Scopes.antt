-- What the scope of a method means.
use Rattle.semantics.specs.Form as form
use Rattle.text.specs.declared.form.Scope.{Scope}

abbrev pub scope_from : Scope → form.Scope
scope_from s = record { locals = s.locals; temporaries = s.temporaries; labels = s.labels }
