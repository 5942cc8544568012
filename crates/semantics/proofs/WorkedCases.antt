-- The worked cases, by computing them, and the premises of the laws for Countdown on the trial card.
use Rattle.std.proofs.Common.{◌≡◌, List, [], ◌∷◌, Ok, refl, arith}
use Rattle.std.specs.Fmt.{digits}
use Rattle.semantics.specs.Check.{check_of}
use Rattle.semantics.specs.CheckLaws.{EntryKnown}
use Rattle.semantics.specs.Entries.{EntryDef, Agree, entry_in, lookup}
use Rattle.semantics.specs.Fill.{sweep_of, fill_on}
use Rattle.semantics.specs.FormLaws.{WellFormed}
use Rattle.semantics.specs.Methods.{Each}
use Rattle.semantics.specs.NewRows.{classes_present, entry_classes, row_classes}
use Rattle.semantics.specs.Reading.{labels_on, code_on}
use Rattle.semantics.specs.Runs.{go_from}
use Rattle.semantics.specs.Tree.{blank, Tree, fits, line, line_in, join, depth}
use Rattle.semantics.specs.Worked.{trial_classes, passing, rows_with, WorkedPremises}
use Rattle.semantics.specs.WorkedRuns.{WorkedCases}
use Rattle.semantics.proofs.CheckExact.{check_is_exact}
use Rattle.semantics.proofs.FormLaws.{form_exact}
use Rattle.semantics.proofs.Growing.{classes_known, rules_keep_agreement}
use Rattle.semantics.proofs.Lowering.{none_agree}
use Rattle.semantics.proofs.TreeGrowth.{blank_tree, tree_push}

pub worked_cases : WorkedCases
unfolding check_of lookup sweep_of fill_on fits line line_in join depth go_from labels_on code_on digits
worked_cases = record {
  classes = (blank_tree, refl, refl, refl);
  more_classes = (refl, refl, refl, refl, refl, refl, refl, refl, refl);
  passes = refl;
  asks_more = refl;
  tells_less = refl;
  fills = refl;
  from_ten = refl;
  from_zero = refl;
  to_first_label = refl;
  no_label = refl;
  past_labels = refl;
  toward_zero = refl;
  out_of_range = refl;
  range_number = refl;
  whole_list = refl;
}

trial_tree : Tree trial_classes
unfolding depth line line_in
trial_tree = tree_push blank blank_tree 0 (omega arith) (omega arith) (omega arith)

-- the rows came one after the other, as the rules let them in
trial_agrees : Agree trial_classes (rows_with passing)
unfolding fits line line_in
trial_agrees =
    rules_keep_agreement trial_classes _ _ trial_tree
    (rules_keep_agreement trial_classes _ _ trial_tree
    (rules_keep_agreement trial_classes _ _ trial_tree
    (rules_keep_agreement trial_classes [] _ trial_tree (none_agree trial_classes) refl) refl) refl) refl

each_known : (es : List EntryDef) → Each (λ e. classes_present trial_classes 0 (entry_classes e) ≡ Ok tt) es → Each (EntryKnown trial_classes) es
each_known [] all = tt
each_known (e ∷ es) all = (classes_known trial_classes 0 (entry_classes e) all.0, each_known es all.1)

well_formed : WellFormed passing
well_formed = (form_exact passing).0 refl

pub worked_premises : WorkedPremises
unfolding check_of lookup fits line line_in
worked_premises = record {
  tree = trial_tree;
  known = each_known (rows_with passing) (refl, (refl, (refl, (refl, tt))));
  agree = trial_agrees;
  method_known = (classes_known trial_classes 0 (entry_classes (entry_in passing)) refl, classes_known trial_classes 0 (row_classes passing.labels) refl);
  well_formed = well_formed;
  passes = (check_is_exact trial_classes (rows_with passing) passing trial_tree well_formed).0 refl;
}
