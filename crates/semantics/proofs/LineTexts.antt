-- Lines: each is read from its word, its value's only text and byte 10.
use Rattle.std.proofs.Common.{◌≡◌, ℕ, suc, ◌+◌, ◌<◌, true, eqb, ltb, List, [], ◌∷◌, ◌++◌, length, take, drop, Ok, Err, Result, sym, refl, ap, ◌∙◌, subst, add-one, arith}
use Rattle.std.proofs.lemmas.List.{append_assoc, length-append, length_push, take_at, drop_at}
use Rattle.std.proofs.lemmas.Bool.{and_parts, and_from, eq-eqb, ne_eqb, eqb-true, eqb-false, ltb-true, lt-ltb, cond-true, cond-false, false≢true}
use Rattle.semantics.specs.declared.refusal.Refusal.{Refusal}
use Rattle.semantics.specs.Pieces.{Piece, up_to}
use Rattle.semantics.specs.Printing.{line_text}
use Rattle.semantics.specs.Reading.{so, Read, read, begins, is_line, value_in, behind, said_in, line}
use Rattle.semantics.specs.Values.{Said}
use Rattle.semantics.proofs.OnlyTexts.{Reads, bytes, from_err, same_ok, from_cond}
use Rattle.semantics.proofs.PartTexts.{Free, each_append}

-- reads takes an x of P from just the texts that begin with the text of x, and leaves the rest
pub record Takes {X : Type 0} (P : X → Type 0) (text : X → List ℕ → List ℕ) (reads : Piece → Result (Read X) Refusal) : Type 0 where
  pub forth : (v : Piece) (x : X) (rest : List ℕ) → v.held ≡ text x rest → P x → (l : Piece) × (reads v ≡ Ok (read x l)) × (l.held ≡ rest)
  pub back : (v : Piece) (y : Read X) → reads v ≡ Ok y → (v.held ≡ text y.said y.left.held) × P y.said

-- the text behind what was taken, further known
pub further : {X : Type 0} {P : X → Type 0} {text : X → List ℕ → List ℕ} {reads : Piece → Result (Read X) Refusal} → Takes P text reads → (v : Piece) (y : Read X) (rest : List ℕ) → reads v ≡ Ok y → y.left.held ≡ rest → v.held ≡ text y.said rest
further {text} t v y rest e h = (t.back v y e).0 ∙ ap (text y.said) h

pub so_ok : {X Y : Type 0} (f : X → Result Y Refusal) {r : Result X Refusal} {x : X} → r ≡ Ok x → so r f ≡ f x
so_ok f e = ap (λ s. so s f) e

pub from_so : {X Y : Type 0} (r : Result X Refusal) (f : X → Result Y Refusal) (y : Y) → so r f ≡ Ok y → (x : X) × (r ≡ Ok x) × (f x ≡ Ok y)
from_so (Ok x) f y e = (x, refl, e)
from_so (Err d) f y e = from_err e

from_said_in : {X : Type 0} (at : ℕ) (r : Said X) (x : X) → said_in at r ≡ Ok x → r ≡ Ok x
from_said_in at (Ok y) x e = ap Ok (same_ok e)
from_said_in at (Err f) x e = from_err e

-- where byte 10 stands, and what begins with a word
free_counted : (w : List ℕ) → up_to 10 w ≡ length w → Free 10 w
free_counted [] h = tt
free_counted (c ∷ cs) h = from_cond (eqb c 10) 0 (suc (up_to 10 cs)) _ h (λ t e. absurd (omega arith)) (λ f e. (eqb-false c 10 f, free_counted cs (omega arith)))

up_to_past : (s rest : List ℕ) → Free 10 s → up_to 10 (s ++ (10 ∷ rest)) ≡ length s
up_to_past [] rest h = refl
up_to_past (c ∷ cs) rest h = cond-false _ _ _ (ne_eqb c 10 h.0) ∙ ap suc (up_to_past cs rest h.1)

begins_own : (w s : List ℕ) → begins w (w ++ s) ≡ true
begins_own [] s = refl
begins_own (c ∷ cs) s = and_from _ _ (eq-eqb c c refl) (begins_own cs s)

begins_is : (w s : List ℕ) → begins w s ≡ true → s ≡ w ++ drop (length w) s
begins_is [] s h = refl
begins_is (w ∷ ws) [] h = absurd (false≢true h)
begins_is (w ∷ ws) (c ∷ cs) h = let p = and_parts (eqb c w) (begins ws cs) h in λ i. eqb-true c w p.0 i ∷ begins_is ws cs p.1 i

-- a word without byte 10 ends before the line does
begins_within : (w s : List ℕ) → Free 10 w → begins w s ≡ true → begins w (take (up_to 10 s) s) ≡ true
begins_within [] s free h = refl
begins_within (w ∷ ws) [] free h = absurd (false≢true h)
begins_within (w ∷ ws) (c ∷ cs) free h =
    let p = and_parts (eqb c w) (begins ws cs) h in
    let u : up_to 10 (c ∷ cs) ≡ suc (up_to 10 cs) = cond-false _ _ _ (ne_eqb c 10 (λ e. free.0 (sym (eqb-true c w p.0) ∙ e))) in
    ap (λ n. begins (w ∷ ws) (take n (c ∷ cs))) u ∙ and_from _ _ p.0 (begins_within ws cs free.1 p.1)

abbrev cut_at : List ℕ → ℕ → List ℕ
cut_at s n = take n s ++ (10 ∷ drop (suc n) s)

at_break : (s : List ℕ) → up_to 10 s < length s → s ≡ cut_at s (up_to 10 s)
at_break [] h = absurd (omega arith)
at_break (c ∷ cs) h = from_cond (eqb c 10) 0 (suc (up_to 10 cs)) _ refl
    (λ t u. ap (λ x. x ∷ cs) (eqb-true c 10 t) ∙ ap (cut_at (c ∷ cs)) u)
    (λ f u. ap (λ l. c ∷ l) (at_break cs (omega arith)) ∙ ap (cut_at (c ∷ cs)) u)

module _ {X : Type 0} {P : X → Type 0} {text : X → List ℕ} {says : Piece → Said X} (r : Reads bytes P text says) (one_line : (x : X) → P x → Free 10 (text x)) (w : List ℕ) (in-line : up_to 10 w ≡ length w) where
  line_forth : (v : Piece) (x : X) (rest : List ℕ) → v.held ≡ line_text w (text x) rest → P x → (l : Piece) × (line w says v ≡ Ok (read x l)) × (l.held ≡ rest)
  line_forth v x rest e h =
      let s = v.held in
      let front = w ++ text x in
      let cut : s ≡ front ++ (10 ∷ rest) = e ∙ sym (append_assoc w (text x) (10 ∷ rest)) in
      let u : up_to 10 s ≡ length front = ap (up_to 10) cut ∙ up_to_past front rest (each_append (λ (c : ℕ). c ≡ 10 → ⊥) w (text x) (free_counted w in-line) (one_line x h)) in
      let f : take (up_to 10 s) s ≡ front = (λ i. take (up_to 10 s) (cut i)) ∙ take_at front (10 ∷ rest) (up_to 10 s) (sym u) in
      let d : (value_in w v).held ≡ text x = ap (drop (length w)) f ∙ drop_at w (text x) (length w) refl in
      let b : (behind v).held ≡ rest = (λ i. drop (up_to 10 s + 1) ((cut ∙ sym (append_assoc front (10 ∷ []) rest)) i)) ∙ drop_at (front ++ (10 ∷ [])) rest (up_to 10 s + 1) (length_push front 10 ∙ ap (λ n. n + 1) (sym u)) in
      let is : is_line w s ≡ true = and_from _ _ (lt-ltb (up_to 10 s) (length s) (omega (arith, ap length cut ∙ length-append front (10 ∷ rest)))) (ap (begins w) e ∙ begins_own w _) in
      (behind v, cond-true _ _ _ is ∙ ap (λ y. so (said_in (value_in w v).place y) (λ z. Ok (read z (behind v)))) (r.forth (value_in w v) x d h), b)

  line_back : (v : Piece) (y : Read X) → line w says v ≡ Ok y → (v.held ≡ line_text w (text y.said) y.left.held) × P y.said
  line_back v y e = from_cond (is_line w v.held) _ _ _ e
      (λ t d.
      let s = v.held in
      let b = and_parts (ltb (up_to 10 s) (length s)) (begins w s) t in
      let k = from_so _ _ y d in
      let told = r.back (value_in w v) k.0 (from_said_in _ _ k.0 k.1) in
      let same : read k.0 (behind v) ≡ y = same_ok k.2 in
      let front : take (up_to 10 s) s ≡ w ++ text k.0 = begins_is w _ (begins_within w s (free_counted w in-line) b.1) ∙ ap (λ x. w ++ x) told.0 in
      let rest : drop (suc (up_to 10 s)) s ≡ (behind v).held = ap (λ n. drop n s) (sym (add-one (up_to 10 s))) in
      subst (λ (z : Read X). (s ≡ line_text w (text z.said) z.left.held) × P z.said) same
      (at_break s (ltb-true (up_to 10 s) (length s) b.0) ∙ (λ i. front i ++ (10 ∷ rest i)) ∙ append_assoc w (text k.0) (10 ∷ (behind v).held), told.1))
      (λ f d. from_err d)

  pub lines : Takes P (λ x rest. line_text w (text x) rest) (line w says)
  lines = record { forth = line_forth; back = line_back }
