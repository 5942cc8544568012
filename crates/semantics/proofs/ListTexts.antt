-- Lists of parts: each is read from the texts of its items.
use Rattle.std.proofs.Common.{◌≡◌, ℕ, ◌≤◌, Bool, true, cond, eqb, leb, List, [], ◌∷◌, ◌++◌, map, length, Ok, Err, sym, refl, ap, ◌∙◌, subst, arith}
use Rattle.std.proofs.lemmas.List.{append-nil, append_assoc, length-map}
use Rattle.std.proofs.lemmas.Bool.{leb-true, le-leb, eq-eqb, eqb-true, cond-true}
use Rattle.semantics.specs.declared.refusal.Fault.TheVariants.{Malformed}
use Rattle.semantics.specs.Methods.{Each}
use Rattle.semantics.specs.Pieces.{Piece}
use Rattle.semantics.specs.Values.{Said, appended, list_on, list_of}
use Rattle.semantics.proofs.OnlyTexts.{Reads, bytes, from_err, same_ok, from_cond}

pub from_nil_cons : {X Q : Type 0} {x : X} {xs : List X} → [] ≡ x ∷ xs → Q
from_nil_cons e = let z : ◌≡◌ {A = ℕ} 0 1 = cc in absurd (omega arith)

pub from_cons_nil : {X Q : Type 0} {x : X} {xs : List X} → x ∷ xs ≡ [] → Q
from_cons_nil e = from_nil_cons (sym e)

pub same_head : {X : Type 0} {x y : X} {xs ys : List X} → x ∷ xs ≡ y ∷ ys → x ≡ y
same_head e = cc

pub same_tail : {X : Type 0} {x y : X} {xs ys : List X} → x ∷ xs ≡ y ∷ ys → xs ≡ ys
same_tail e = cc

from_appended : {X : Type 0} (s : Said (List X)) (t : Said X) (ys : List X) → appended s t ≡ Ok ys → (xs : List X) × (x : X) × (s ≡ Ok xs) × (t ≡ Ok x)
from_appended (Ok xs) (Ok x) ys e = (xs, x, refl, refl)
from_appended (Ok xs) (Err f) ys e = from_err e
from_appended (Err d) (Ok x) ys e = from_err e
from_appended (Err d) (Err f) ys e = from_err e

module _ {X : Type 0} {P : X → Type 0} {text : X → List ℕ} {says : Piece → Said X} (r : Reads bytes P text says) where
  forth_on : (so_far : List X) (vs : List Piece) (xs : List X) → map bytes vs ≡ map text xs → Each P xs → list_on says (Ok so_far) vs ≡ Ok (so_far ++ xs)
  forth_on so_far [] [] e h = ap Ok (sym (append-nil so_far))
  forth_on so_far [] (x ∷ xs) e h = from_nil_cons e
  forth_on so_far (v ∷ vs) [] e h = from_cons_nil e
  forth_on so_far (v ∷ vs) (x ∷ xs) e h =
      ap (λ s. list_on says (appended (Ok so_far) s) vs) (r.forth v x (same_head e) h.0)
      ∙ forth_on (so_far ++ x ∷ []) vs xs (same_tail e) h.1 ∙ ap Ok (append_assoc so_far (x ∷ []) xs)

  -- a list that came began with a list
  began : (s : Said (List X)) (vs : List Piece) (ys : List X) → list_on says s vs ≡ Ok ys → (xs : List X) × (s ≡ Ok xs)
  began s [] ys e = (ys, e)
  began s (v ∷ vs) ys e =
      let k = began (appended s (says v)) vs ys e in
      let a = from_appended s (says v) k.0 k.1 in
      (a.0, a.2)

  back_on : (so_far : List X) (vs : List Piece) (ys : List X) → list_on says (Ok so_far) vs ≡ Ok ys → (xs : List X) × (so_far ++ xs ≡ ys) × (map bytes vs ≡ map text xs) × Each P xs
  back_on so_far [] ys e = ([], append-nil so_far ∙ same_ok e, refl, tt)
  back_on so_far (v ∷ vs) ys e =
      let k = began (appended (Ok so_far) (says v)) vs ys e in
      let a = from_appended (Ok so_far) (says v) k.0 k.1 in
      let x = a.1 in
      let b = r.back v x a.3 in
      let m = back_on (so_far ++ x ∷ []) vs ys (ap (λ s. list_on says (appended (Ok so_far) s) vs) (sym a.3) ∙ e) in
      (x ∷ m.0, sym (append_assoc so_far (x ∷ []) m.0) ∙ m.1, (λ i. b.0 i ∷ m.2 i), (b.1, m.3))

  -- with a test of how many there are
  counted : (test : ℕ → Bool) (C : ℕ → Type 0) → ((n : ℕ) → C n → test n ≡ true) → ((n : ℕ) → test n ≡ true → C n) → Reads (map bytes) (λ xs. C (length xs) × Each P xs) (map text) (λ vs. cond (test (length vs)) (list_on says (Ok []) vs) (Err Malformed))
  counted test C passes tells = record {
    forth = λ vs xs e h. cond-true _ _ _ (ap test (as_many vs xs e) ∙ passes (length xs) h.0) ∙ forth_on [] vs xs e h.1;
    back = λ vs ys e. from_cond (test (length vs)) _ _ _ e
        (λ t d.
        let k = back_on [] vs ys d in
        let same : map bytes vs ≡ map text ys = k.2 ∙ ap (map text) k.1 in
        (same, (subst C (as_many vs ys same) (tells (length vs) t), subst (Each P) k.1 k.3)))
        (λ f d. from_err d);
  }
    where
      as_many : (vs : List Piece) (xs : List X) → map bytes vs ≡ map text xs → length vs ≡ length xs
      as_many vs xs e = sym (length-map vs bytes) ∙ ap length e ∙ length-map xs text

  pub at_most : (n : ℕ) → Reads (map bytes) (λ xs. (length xs ≤ n) × Each P xs) (map text) (list_of n says)
  at_most n = counted (λ k. leb k n) (λ k. k ≤ n) (λ k h. le-leb k n h) (λ k h. leb-true k n h)

  pub exactly : (n : ℕ) → Reads (map bytes) (λ xs. (length xs ≡ n) × Each P xs) (map text) (λ vs. cond (eqb (length vs) n) (list_on says (Ok []) vs) (Err Malformed))
  exactly n = counted (λ k. eqb k n) (λ k. k ≡ n) (λ k h. eq-eqb k n h) (λ k h. eqb-true k n h)
