-- The words that lines begin with, and the lines themselves.
use Rattle.std.proofs.Common.{◌≡◌, ℕ, suc, ◌+◌, Bool, true, false, ◌&&◌, cond, eqb, ltb, List, [], ◌∷◌, length, take, drop, Option, Some, None, Ok, Err, Result, IsErrAnd, sym, refl, ap, ◌∙◌, subst, ⊎_elim, arith}
use Rattle.std.specs.List.{starts_with}
use Rattle.std.specs.Option.{ok_or}
use Rattle.std.specs.Result.{MatchResult}
use Rattle.std.proofs.lemmas.Result.{err_from_is_err_and}
use Rattle.std.proofs.lemmas.Cmp.{nat_list_eq_equiv}
use lib.Pointwise.{pointwise}
use Rattle.std.proofs.lemmas.Bool.{and_left, eqb-true, ne_eqb, cases_Bool, cond-true, cond-false, false≢true}
use Rattle.semantics.specs.declared.refusal.Fault.{Fault}
use Rattle.semantics.specs.declared.refusal.Refusal.{Refusal}
use Rattle.semantics.specs.declared.refusal.Refusal.TheVariants.{Line}
use Rattle.semantics.specs.Pieces.{Piece, piece, up_to}
use Rattle.semantics.specs.Reading.{begins, value_in, behind, refused, said_in}
use Rattle.semantics.specs.Values.{Said}
use Rattle.text.specs.declared.part.Part.{Part}
use Rattle.text.specs.Lines.{piece_read, line_of, GivesLine}
use Rattle.text.specs.Parts.{piece_of, piece_in, cut, behind_word}

-- a word in front
begins_by : (w s : List ℕ) → pointwise eqb (take (length w) s) w ≡ begins w s
begins_by [] s = refl
begins_by (w ∷ ws) [] = refl
begins_by (w ∷ ws) (c ∷ cs) = ap (λ b. eqb c w && b) (begins_by ws cs)

pub starts_begins : (w s : List ℕ) → starts_with eqb s w ≡ begins w s
starts_begins w s = nat_list_eq_equiv.symm w (take (length w) s) ∙ begins_by w s

pub word_none : (w : List ℕ) (v : Piece) → pointwise eqb (take (length w) v.held) w ≡ false → None ≡ behind_word w v
word_none w v e = sym (cond-false _ _ _ (sym (begins_by w v.held) ∙ e))

pub word_some : (w : List ℕ) (v : Piece) (s : List ℕ) → pointwise eqb (take (length w) v.held) w ≡ true → s ≡ drop (length w) v.held → Some (piece (v.place + length w) s) ≡ behind_word w v
word_some w v s e is = ap (λ x. Some (piece (v.place + length w) x)) is ∙ sym (cond-true _ _ _ (sym (begins_by w v.held) ∙ e))

-- a word without byte 10 stands in front of a text if it does in front of the first line
begins_line : (w s : List ℕ) → up_to 10 w ≡ length w → begins w (take (up_to 10 s) s) ≡ begins w s
begins_line [] s h = refl
begins_line (w ∷ ws) [] h = refl
begins_line (w ∷ ws) (c ∷ cs) h = ⊎_elim
    (λ t. absurd (omega (arith, cond-true (eqb w 10) 0 (suc (up_to 10 ws)) t)))
    (λ f.
    let u : suc (up_to 10 ws) ≡ suc (length ws) = sym (cond-false (eqb w 10) 0 (suc (up_to 10 ws)) f) ∙ h in
    ⊎_elim
    (λ t.
    let other : eqb c w ≡ false = ap (λ x. eqb x w) (eqb-true c 10 t) ∙ ten_other w f in
    ap (λ n. begins (w ∷ ws) (take n (c ∷ cs))) (cond-true (eqb c 10) 0 (suc (up_to 10 cs)) t) ∙ sym (and_left (eqb c w) (begins ws cs) other))
    (λ g.
    ap (λ n. begins (w ∷ ws) (take n (c ∷ cs))) (cond-false (eqb c 10) 0 (suc (up_to 10 cs)) g)
    ∙ ap (λ b. eqb c w && b) (begins_line ws cs (omega arith)))
    (cases_Bool (eqb c 10)))
    (cases_Bool (eqb w 10))
  where
    ten_other : (w : ℕ) → eqb w 10 ≡ false → eqb 10 w ≡ false
    ten_other w f = ne_eqb 10 w (λ e. false≢true (sym f ∙ ap (λ x. eqb x 10) (sym e)))

-- the value of a line, by the cut behind it and the word in front of it
line_cut : (w : List ℕ) (v u l : Piece) → up_to 10 w ≡ length w → Some (u, l) ≡ cut 10 v → ok_or (behind_word w u) (Line v.place) ≡ line_of w v
line_cut w v u l h e = ⊎_elim
    (λ t.
    let k : Some (u, l) ≡ Some (piece v.place (take (up_to 10 v.held) v.held), behind v) = e ∙ cond-true _ _ _ t in
    let p : (u, l) ≡ (piece v.place (take (up_to 10 v.held) v.held), behind v) = cc in
    ap (λ (x : Piece × Piece). ok_or (behind_word w x.0) (Line v.place)) p
    ∙ or_cond (begins w (take (up_to 10 v.held) v.held)) (value_in w v) (Line v.place)
    ∙ ap (λ b. cond b (Ok (value_in w v)) (Err (Line v.place))) (begins_line w v.held h)
    ∙ ap (λ b. cond (b && begins w v.held) (Ok (value_in w v)) (Err (Line v.place))) (sym t))
    (λ f. let k : Some (u, l) ≡ None = e ∙ cond-false _ _ _ f in let z : ◌≡◌ {A = ℕ} 0 1 = cc in absurd (omega arith))
    (cases_Bool (ltb (up_to 10 v.held) (length v.held)))
  where
    or_cond : (b : Bool) (x : Piece) (e : Refusal) → ok_or (cond b (Some x) None) e ≡ cond b (Ok x) (Err e)
    or_cond true x e = refl
    or_cond false x e = refl

read_or : (r : Option Part) (e : Refusal) → piece_read (ok_or r e) ≡ ok_or (piece_in r) e
read_or (Some v) e = refl
read_or None e = refl

pub line_value : (w : List ℕ) (v u l : Piece) (r : Option Part) (t : Result Part Refusal) → up_to 10 w ≡ length w → Some (u, l) ≡ cut 10 v → piece_in r ≡ behind_word w u → t ≡ ok_or r (Line v.place) → piece_read t ≡ line_of w v
line_value w v u l r t h e b is = ap piece_read is ∙ read_or r (Line v.place) ∙ ap (λ x. ok_or x (Line v.place)) b ∙ line_cut w v u l h e

-- the line that a reader gives
pub said_by : {X : Type 0} (Told : Fault → Refusal → Type 0) (at : ℕ) (s : Said X) (r : Result X Refusal) → MatchResult s (λ x. r ≡ Ok x) (λ f. IsErrAnd r (Told f)) → ((f : Fault) (d : Refusal) → Told f d → d ≡ refused at f) → r ≡ said_in at s
said_by Told at (Ok x) r h t = h
said_by Told at (Err f) r h t = let p = err_from_is_err_and r h in p.1 ∙ ap Err (t f p.0 p.2)

pub given_line : {X : Type 0} (Gives : Part → Said X → Type 0) (w : List ℕ) (v v' : Piece) (p : Part) (s : Said X) (r : Result X Refusal) → Ok (piece_of p) ≡ line_of w v → v' ≡ behind v → Gives p s → r ≡ said_in p.at s → GivesLine Gives w v r v'
given_line {X} Gives w v v' p s r found left gives is = subst (λ l. MatchResult l (λ u. (p : Part) × (s : Said X) × (piece_of p ≡ u) × Gives p s × (r ≡ said_in u.place s) × (v' ≡ behind v)) (λ e. r ≡ Err e)) found (p, s, refl, gives, is, left)
