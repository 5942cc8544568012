-- An `Option` after `map`.
use Rattle.std.proofs.Common.{◌≡◌, Some, None, Option, ap}
use Rattle.std.specs.Option.{MatchOption, IsSomeAnd, option_map}

pub mapped : {X Y : Type 0} (f : X → Y) (P : X → Y → Type 0) (o : Option X) (r : Option Y) → ((x : X) (y : Y) → P x y → y ≡ f x) → MatchOption o (r ≡ None) (λ x. IsSomeAnd r (P x)) → r ≡ option_map f o
mapped f P None r h e = e
mapped f P (Some x) None h e = absurd e
mapped f P (Some x) (Some y) h e = ap Some (h x y e)
