-- A number that is to be at most max.
use Rattle.std.specs.Prelude.{ℕ, cond, Some, None, Option, nat_le}

abbrev pub up_to_max : ℕ → ℕ → Option ℕ
up_to_max max n = cond (nat_le n max) (Some n) None
