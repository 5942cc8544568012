-- Which faults say that there is no memory.
use Rattle.std.specs.Prelude.{◌≡◌}
use Rattle.std.specs.IoError.{error_kind}
use Rattle.std.specs.declared.io.ErrorKind.TheVariants.{OutOfMemory}
use Rattle.console.specs.declared.fault.Fault.{Fault}
use Rattle.console.specs.declared.fault.Fault.TheVariants as fault

abbrev pub NoMemory : Fault → Type 0
NoMemory fault.NotUnderstood = ⊥
NoMemory (fault.Io e) = error_kind e ≡ OutOfMemory
