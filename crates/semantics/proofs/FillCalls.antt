-- A text that is filled keeps the laws of filling.
use Rattle.std.proofs.Common.{ℕ, List, [], ◌∷◌, ◌++◌}
use Rattle.semantics.specs.CheckLaws.{EntryKnown}
use Rattle.semantics.specs.Entries.{EntryDef, Agree, entry_in}
use Rattle.semantics.specs.FillCall.{TextFillsLawfully}
use Rattle.semantics.specs.Methods.{Each}
use Rattle.semantics.specs.NewRows.{entry_classes, classes_present}
use Rattle.semantics.specs.Tree.{Tree}
use Rattle.semantics.proofs.Filled.{filling_holds}
use Rattle.semantics.proofs.FormLaws.{form_exact}
use Rattle.semantics.proofs.Growing.{classes_known, rules_keep_agreement}
use Rattle.semantics.proofs.ItemPlaces.{each_push}
use Rattle.semantics.proofs.LineTexts.{from_so}
use Rattle.semantics.proofs.TextLaws.{read_was_written}

pub text_fills_lawfully : (ps : List ℕ) (es : List EntryDef) (t : List ℕ) → Tree ps → Each (EntryKnown ps) es → Agree ps es → TextFillsLawfully ps es t
text_fills_lawfully ps es t tree known agree m said formed rules =
    let r = (read_was_written t m said).1 in
    let c = from_so (classes_present ps 0 (entry_classes (entry_in m))) _ tt rules in
    let k : EntryKnown ps (entry_in m) = classes_known ps 0 (entry_classes (entry_in m)) c.1 in
    filling_holds ps (es ++ entry_in m ∷ []) m tree (each_push (EntryKnown ps) es (entry_in m) known k) (rules_keep_agreement ps es (entry_in m) tree agree rules) k ((form_exact m).0 formed) r.some_code r.few_labels r.temporaries
