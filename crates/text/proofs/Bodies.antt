-- Labels and code, read line by line into a bounded list.
use Rattle.std.proofs.Common.{◌≡◌, ℕ, suc, ◌+◌, ◌-◌, ◌<◌, true, false, eqb, List, [], ◌∷◌, ◌++◌, map, length, Ok, Err, codes, Result, sym, ap, ◌∙◌, arith}
use Rattle.std.proofs.lemmas.List.{length_push, map-append}
use Rattle.std.proofs.lemmas.Bool.{lt-ltb, cond-true}
use Rattle.semantics.specs.declared.refusal.Refusal.{Refusal}
use Rattle.semantics.specs.Items.{pushed}
use Rattle.semantics.specs.Methods.{Op, LabelDef}
use Rattle.semantics.specs.Pieces.{Piece}
use Rattle.semantics.specs.Reading.{Read, read, begins, line, labels_on, code_on}
use Rattle.semantics.specs.Values.{label_at, operation_at}
use Rattle.semantics.proofs.ReadingSteps.{labels_more, labels_refused, code_last, code_more, code_refused}

-- how many more lines may come
pub fewer : (n i : ℕ) → i < n → n - i ≡ suc (n - (i + 1))
fewer n i h = omega arith

-- an item that was pushed, by its meaning f
pub push_as : {X Y : Type 0} (f : X → Y) (n : ℕ) (xs ys : List X) (x : X) → ys ≡ pushed n xs x → length xs < n → (map f ys ≡ map f xs ++ f x ∷ []) × (length ys ≡ length xs + 1)
push_as f n xs ys x e h =
    let p : ys ≡ xs ++ x ∷ [] = e ∙ cond-true _ _ _ (lt-ltb (length xs) n (omega arith)) in
    (ap (map f) p ∙ map-append f xs (x ∷ []), omega (arith, ap length p ∙ length_push xs x))

pub labels_turn : (i t : ℕ) (ls ls' : List LabelDef) (l : LabelDef) (v v' : Piece) (all : Result (Read (List LabelDef)) Refusal) → i < 16 → true ≡ begins (codes "label=") v.held → Ok (read l v') ≡ line (codes "label=") (label_at t) v → ls' ≡ ls ++ l ∷ [] → labels_on (16 - i) t ls v ≡ all → labels_on (16 - (i + 1)) t ls' v' ≡ all
labels_turn i t ls ls' l v v' all h b e p inv =
    ap (λ x. labels_on (16 - (i + 1)) t x v') p ∙ sym (labels_more (16 - (i + 1)) t ls v (read l v') (sym b) (sym e)) ∙ ap (λ k. labels_on k t ls v) (sym (fewer 16 i h)) ∙ inv

pub labels_break : (i t : ℕ) (ls : List LabelDef) (v : Piece) (d : Refusal) (all : Result (Read (List LabelDef)) Refusal) → i < 16 → true ≡ begins (codes "label=") v.held → Err d ≡ line (codes "label=") (label_at t) v → labels_on (16 - i) t ls v ≡ all → Err d ≡ all
labels_break i t ls v d all h b e inv = sym (labels_refused (16 - (i + 1)) t ls v d (sym b) (sym e)) ∙ ap (λ k. labels_on k t ls v) (sym (fewer 16 i h)) ∙ inv

pub code_turn : (i : ℕ) (os os' : List Op) (o : Op) (v v' : Piece) (all : Result (List Op) Refusal) → i < 64 → Ok (read o v') ≡ line (codes "op=") operation_at v → os' ≡ os ++ o ∷ [] → false ≡ eqb (length v'.held) 0 → code_on (64 - i) os v ≡ all → code_on (64 - (i + 1)) os' v' ≡ all
code_turn i os os' o v v' all h e p more inv =
    ap (λ x. code_on (64 - (i + 1)) x v') p ∙ sym (code_more (64 - (i + 1)) os v (read o v') (sym e) (sym more)) ∙ ap (λ k. code_on k os v) (sym (fewer 64 i h)) ∙ inv

pub code_done : (i : ℕ) (os os' : List Op) (o : Op) (v v' : Piece) (all : Result (List Op) Refusal) → i < 64 → Ok (read o v') ≡ line (codes "op=") operation_at v → os' ≡ os ++ o ∷ [] → true ≡ eqb (length v'.held) 0 → code_on (64 - i) os v ≡ all → Ok os' ≡ all
code_done i os os' o v v' all h e p end inv =
    ap Ok p ∙ sym (code_last (64 - (i + 1)) os v (read o v') (sym e) (sym end)) ∙ ap (λ k. code_on k os v) (sym (fewer 64 i h)) ∙ inv

pub code_break : (i : ℕ) (os : List Op) (v : Piece) (d : Refusal) (all : Result (List Op) Refusal) → i < 64 → Err d ≡ line (codes "op=") operation_at v → code_on (64 - i) os v ≡ all → Err d ≡ all
code_break i os v d all h e inv = sym (code_refused (64 - (i + 1)) os v d (sym e)) ∙ ap (λ k. code_on k os v) (sym (fewer 64 i h)) ∙ inv
