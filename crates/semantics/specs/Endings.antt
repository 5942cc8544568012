-- What each break and each cause tells.
use Rattle.std.specs.Prelude.{ℕ}
use Rattle.semantics.specs.declared.ending.Break.{Break}
use Rattle.semantics.specs.declared.ending.Break.TheVariants as break
use Rattle.semantics.specs.declared.ending.BreakTold.{BreakTold}
use Rattle.semantics.specs.declared.ending.End.{End}
use Rattle.semantics.specs.declared.ending.Ending.{Ending}
use Rattle.semantics.specs.declared.misfit.Misfit.{Misfit}
use Rattle.semantics.specs.declared.misfit.Misfit.TheVariants as misfit

abbrev pub breaking : ℕ → ℕ → BreakTold
breaking n k = record { number = n; operand = k }

-- the number and operand of a misfit, as the check has them
abbrev pub misfit_told : Misfit → BreakTold
misfit_told misfit.NoRow = breaking 12 1
misfit_told (misfit.Argument k) = breaking 13 k
misfit_told misfit.ResultClass = breaking 14 0
misfit_told misfit.Condition = breaking 15 0
misfit_told (misfit.Row k) = breaking 16 k

abbrev pub break_told : Break → BreakTold
break_told (break.Misfit e) = misfit_told e
break_told break.AnswerClass = breaking 21 0

abbrev pub end : Ending → ℕ → ℕ → ℕ → End
end e steps row point = record { ending = e; steps = steps; row = row; point = point }
