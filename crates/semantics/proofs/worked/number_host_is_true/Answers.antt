use Rattle.semantics.proofs.TrialHosts.{trial_card_is_reached, number_host_is_true, true_from_blank}
use Rattle.semantics.proofs.worked.number_host_is_true.Goals as goal

pub returns : goal.returns
returns c = record { reached = trial_card_is_reached; from_trial = number_host_is_true; from_blank = true_from_blank }
