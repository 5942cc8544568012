-- Bytes put one after the other, and what an output holds after them where the count does not stop.
use Rattle.std.proofs.Common.{◌≡◌, ℕ, ◌+◌, ◌-◌, ◌^◌, ◌<◌, List, [], ◌∷◌, ◌++◌, length, get_or, drop, min, refl, sym, ap, ◌∙◌, arith}
use Rattle.std.specs.List.{flat_map}
use Rattle.std.proofs.lemmas.List.{at_drop_more}
use Rattle.std.specs.Prelude.{slice_set}
use Rattle.semantics.specs.Buffers.{put_all}
use Rattle.writer.specs.declared.output.Output.{Output}
use Rattle.writer.specs.Putting.{put, with_byte}

pub put_append : (xs ys : List ℕ) (o : Output) → put (xs ++ ys) o ≡ put ys (put xs o)
put_append [] ys o = refl
put_append (x ∷ xs) ys o = put_append xs ys (with_byte x o)

abbrev pub holding : List ℕ → ℕ → Output → Output
holding bs n o = record { buffer = record o.buffer { now = bs }; len = n }

pub put_counted : (xs : List ℕ) (o : Output) {n : ℕ} → o.len + length xs ≡ n → n < 2 ^ 64 → put xs o ≡ holding (put_all o.len xs o.buffer.now) n o
unfolding with_byte
put_counted [] o e h = let f : o.len ≡ _ = omega arith in ap (λ k. holding o.buffer.now k o) f
put_counted (x ∷ xs) o {n = n} e h =
    let f : min (o.len + 1) (2 ^ 64 - 1) ≡ o.len + 1 = omega arith in
    put_counted xs (with_byte x o) (omega arith) h ∙ ap (λ k. holding (put_all k xs (slice_set o.buffer.now o.len x)) n o) f

-- in a loop that puts f of each item: the text of one item, and then of those behind it
pub put_each : {X : Type 0} (f : X → List ℕ) (xs : List X) (i : ℕ) {x : X} (o : Output) → i < length xs → x ≡ get_or xs i x → put (flat_map f (drop (i + 1) xs)) (put (f x) o) ≡ put (flat_map f (drop i xs)) o
put_each f xs i {x = x} o h e =
    let rest = flat_map f (drop (i + 1) xs) in
    ap (λ y. put rest (put (f y) o)) e ∙ sym (at_drop_more (λ ys. put (flat_map f ys) o) xs i x h ∙ put_append (f (get_or xs i x)) rest o)
