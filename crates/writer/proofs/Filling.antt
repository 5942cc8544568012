-- A text put from the first place on: the buffer, and what is read back of it.
use Rattle.std.proofs.Common.{◌≡◌, ℕ, ◌+◌, ◌≤◌, List, [], ◌∷◌, ◌++◌, length, take, drop, Ok, sym, refl, ap, ◌∙◌, arith}
use Rattle.std.proofs.lemmas.List.{append_assoc, length_push, set_at, take_at}
use Rattle.semantics.specs.Buffers.{put_all}
use Rattle.semantics.specs.Methods.{MethodDef, InRange}
use Rattle.semantics.specs.Printing.{method_text}
use Rattle.semantics.specs.Reading.{method_in}
use Rattle.semantics.proofs.TextLaws.{written_is_read}

put_all_over : (p xs q : List ℕ) (n : ℕ) → length p ≡ n → length xs ≤ length q → put_all n xs (p ++ q) ≡ p ++ (xs ++ drop (length xs) q)
put_all_over p [] q n e h = refl
put_all_over p (x ∷ xs) [] n e h = absurd (omega arith)
put_all_over p (x ∷ xs) (y ∷ q) n e h =
    ap (put_all (n + 1) xs) (set_at p y q x n e ∙ sym (append_assoc p (x ∷ []) q))
    ∙ put_all_over (p ++ x ∷ []) xs q (n + 1) (length_push p x ∙ ap (λ k. k + 1) e) (omega arith)
    ∙ append_assoc p (x ∷ []) (xs ++ drop (length xs) q)

-- the text fits: it stands in front of the buffer's last bytes
pub put_whole : (xs buf : List ℕ) → length xs ≤ length buf → put_all 0 xs buf ≡ xs ++ drop (length xs) buf
put_whole xs buf h = put_all_over [] xs buf 0 refl h

-- what was written is read back, by the law that a method's text tells that method
pub back : (m : MethodDef) (buf : List ℕ) {n : ℕ} {after : List ℕ} → length (method_text m) ≤ length buf → n ≡ length (method_text m) → after ≡ put_all 0 (method_text m) buf → InRange m → method_in (take n after) ≡ Ok m
back m buf {n = n} h e p i =
    let w : take n _ ≡ method_text m = ap (take n) (p ∙ put_whole (method_text m) buf h) ∙ take_at (method_text m) (drop (length (method_text m)) buf) n (sym e) in
    ap method_in w ∙ written_is_read m i
