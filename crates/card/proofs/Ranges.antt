-- The signature of a native row, of which each number is tested.
use Rattle.std.proofs.Common.{◌≡◌, ℕ, Bool, true, false, ◌&&◌, leb, List, [], ◌∷◌, ◌++◌, length, sym, refl, ap, ◌∙◌}
use Rattle.std.specs.List.{list_all}
use Rattle.std.proofs.lemmas.List.{map-id}
use Rattle.semantics.specs.Cards.{all_small, signature, signature_in_range}

and_with : (b : Bool) → (b && true) ≡ b
and_with true = refl
and_with false = refl

and_and : (a b c : Bool) → ((a && b) && c) ≡ (a && (b && c))
and_and true b c = refl
and_and false b c = refl

small_push : (cs : List ℕ) (c : ℕ) → all_small (cs ++ c ∷ []) ≡ (list_all (λ x. leb x 63) cs && leb c 63)
small_push [] c = and_with (leb c 63)
small_push (x ∷ xs) c = ap (λ b. leb x 63 && b) (small_push xs c) ∙ sym (and_and (leb x 63) (list_all (λ x. leb x 63) xs) (leb c 63))

pub in_range_by : (c m r : ℕ) (cs : List ℕ) → signature_in_range (signature c m cs r) ≡ ((leb c 63 && (list_all (λ x. leb x 63) cs && leb r 63)) && (leb m 255 && leb (length cs) 7))
in_range_by c m r cs = ap (λ b. (leb c 63 && b) && (leb m 255 && leb (length cs) 7)) (small_push cs r)

pub ruleset signature_tests = (in_range_by, map-id)
