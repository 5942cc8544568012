-- What a separator parts, found by looking for the first one.
use Rattle.std.proofs.Common.{◌≡◌, ℕ, suc, ◌+◌, ◌-◌, ◌<◌, ◌≤◌, cond, eqb, ltb, List, [], ◌∷◌, length, take, drop, Option, Some, None, Err, sym, refl, ap, ◌∙◌, ⊎_elim, add-one, arith}
use Rattle.std.specs.List.{position, position_or_len, count_by}
use Rattle.std.proofs.lemmas.List.{take_rest}
use Rattle.std.proofs.lemmas.List.Recursion.{is_position_or_len}
use Rattle.std.proofs.lemmas.List.Sums.{sum_by-cons}
use Rattle.std.proofs.lemmas.Bool.{cases_Bool, ltb-true, ltb-false, cond-true, cond-false}
use Rattle.semantics.specs.declared.refusal.Fault.TheVariants.{Malformed}
use Rattle.semantics.specs.Pieces.{Piece, piece, up_to, onto, parted}
use Rattle.text.specs.Parts.{cut, ended}

-- the place of the first separator, if there is one
abbrev place_in : ℕ → List ℕ → Option ℕ
place_in sep s = cond (ltb (up_to sep s) (length s)) (Some (up_to sep s)) None

place_by : (sep : ℕ) (s : List ℕ) → position (λ c. eqb c sep) s ≡ place_in sep s
place_by sep s =
    let e : up_to sep s ≡ position_or_len (λ c. eqb c sep) s = is_position_or_len (up_to sep) (λ c. eqb c sep) refl (λ c cs. ap (cond (eqb c sep) 0) (omega arith)) s in
    ap (λ n. cond (ltb n (length s)) (Some n) None) (sym e)

-- cut at that place
pub cut_none : (sep p : ℕ) (s : List ℕ) → None ≡ position (λ c. eqb c sep) s → None ≡ cut sep (piece p s)
cut_none sep p s e = ⊎_elim
    (λ t. let k : None ≡ Some (up_to sep s) = e ∙ place_by sep s ∙ cond-true _ _ _ t in let z : ◌≡◌ {A = ℕ} 0 1 = cc in absurd (omega arith))
    (λ f. sym (cond-false _ _ _ f))
    (cases_Bool (ltb (up_to sep s) (length s)))

pub cut_some : (sep p n : ℕ) (s : List ℕ) → Some n ≡ position (λ c. eqb c sep) s → Some (piece p (take n s), piece (p + n + 1) (take (length s - (n + 1)) (drop (n + 1) s))) ≡ cut sep (piece p s)
cut_some sep p n s e = ⊎_elim
    (λ t.
    let k : Some n ≡ Some (up_to sep s) = e ∙ place_by sep s ∙ cond-true _ _ _ t in
    let j : n ≡ up_to sep s = cc in
    let q : p + n + 1 ≡ p + (n + 1) = omega arith in
    (λ i. Some (piece p (take n s), piece (q i) (take_rest s (n + 1) i)))
    ∙ ap (λ m. Some (piece p (take m s), piece (p + (m + 1)) (drop (m + 1) s))) j
    ∙ sym (cond-true _ _ _ t))
    (λ f. let k : Some n ≡ None = e ∙ place_by sep s ∙ cond-false _ _ _ f in let z : ◌≡◌ {A = ℕ} 0 1 = cc in absurd (omega arith))
    (cases_Bool (ltb (up_to sep s) (length s)))

-- where a separator stands, and where none does
abbrev cut_at : ℕ → ℕ → ℕ → List ℕ → List Piece
cut_at sep n p s = piece p (take n s) ∷ parted sep (p + (n + 1)) (drop (n + 1) s)

parted_cut : (sep p : ℕ) (s : List ℕ) → up_to sep s < length s → parted sep p s ≡ cut_at sep (up_to sep s) p s
parted_cut sep p [] h = absurd (omega arith)
parted_cut sep p (c ∷ cs) h = ⊎_elim
    (λ t. cond-true _ _ _ t ∙ ap (λ n. cut_at sep n p (c ∷ cs)) (sym (cond-true (eqb c sep) 0 (suc (up_to sep cs)) t)))
    (λ f.
    let u = cond-false (eqb c sep) 0 (suc (up_to sep cs)) f in
    let r = parted_cut sep (p + 1) cs (omega arith) in
    let q : p + 1 + (up_to sep cs + 1) ≡ p + (suc (up_to sep cs) + 1) = omega arith in
    cond-false _ _ _ f ∙ ap (onto c p) r
    ∙ ap (λ k. piece p (c ∷ take (up_to sep cs) cs) ∷ parted sep k (drop (up_to sep cs + 1) cs)) q
    ∙ ap (λ k. piece p (c ∷ take (up_to sep cs) cs) ∷ parted sep (p + (suc (up_to sep cs) + 1)) k) (drop_suc c cs (up_to sep cs))
    ∙ ap (λ n. cut_at sep n p (c ∷ cs)) (sym u))
    (cases_Bool (eqb c sep))
  where
    drop_suc : (c : ℕ) (cs : List ℕ) (n : ℕ) → drop (n + 1) cs ≡ drop (suc n + 1) (c ∷ cs)
    drop_suc c cs n = ap (λ k. drop k cs) (add-one n) ∙ ap (λ k. drop k (c ∷ cs)) (sym (add-one (suc n)))

parted_whole : (sep p : ℕ) (s : List ℕ) → length s ≤ up_to sep s → parted sep p s ≡ piece p s ∷ []
parted_whole sep p [] h = refl
parted_whole sep p (c ∷ cs) h = ⊎_elim
    (λ t. absurd (omega (arith, cond-true (eqb c sep) 0 (suc (up_to sep cs)) t)))
    (λ f. cond-false _ _ _ f ∙ ap (onto c p) (parted_whole sep (p + 1) cs (omega (arith, cond-false (eqb c sep) 0 (suc (up_to sep cs)) f))))
    (cases_Bool (eqb c sep))

-- the two ways of `next`: a part with more behind it, and the last part
pub next_more : (sep p : ℕ) (s : List ℕ) (u v : Piece) → Some (u, v) ≡ cut sep (piece p s) → parted sep p s ≡ u ∷ parted sep v.place v.held
next_more sep p s u v e = ⊎_elim
    (λ t.
    let n = up_to sep s in
    let k : Some (u, v) ≡ Some (piece p (take n s), piece (p + (n + 1)) (drop (n + 1) s)) = e ∙ cond-true _ _ _ t in
    let j : (u, v) ≡ (piece p (take n s), piece (p + (n + 1)) (drop (n + 1) s)) = cc in
    parted_cut sep p s (ltb-true n (length s) t) ∙ ap (λ (x : Piece × Piece). x.0 ∷ parted sep x.1.place x.1.held) (sym j))
    (λ f. let k : Some (u, v) ≡ None = e ∙ cond-false _ _ _ f in let z : ◌≡◌ {A = ℕ} 0 1 = cc in absurd (omega arith))
    (cases_Bool (ltb (up_to sep s) (length s)))

pub next_last : (sep p : ℕ) (s : List ℕ) → None ≡ cut sep (piece p s) → parted sep p s ≡ piece p s ∷ []
next_last sep p s e = ⊎_elim
    (λ t. let z : ◌≡◌ {A = ℕ} 0 1 = cc (e ∙ cond-true _ _ _ t) in absurd (omega arith))
    (λ f. parted_whole sep p s (ltb-false (up_to sep s) (length s) f))
    (cases_Bool (ltb (up_to sep s) (length s)))

-- how many pieces there are
pub parted_length : (sep p : ℕ) (s : List ℕ) → length (parted sep p s) ≡ 1 + count_by (λ c. eqb c sep) s
parted_length sep p [] = refl
parted_length sep p (c ∷ cs) =
    let r = parted_length sep (p + 1) cs in
    let k : count_by (λ c. eqb c sep) (c ∷ cs) ≡ cond (eqb c sep) 1 0 + count_by (λ c. eqb c sep) cs = sum_by-cons (λ c. cond (eqb c sep) 1 0) c cs in
    ⊎_elim
    (λ t.
    let l : length (parted sep p (c ∷ cs)) ≡ suc (length (parted sep (p + 1) cs)) = ap length (cond-true _ _ _ t) in
    let one : cond {A = ℕ} (eqb c sep) 1 0 ≡ 1 = cond-true _ _ _ t in
    omega arith)
    (λ f.
    let l : length (parted sep p (c ∷ cs)) ≡ length (parted sep (p + 1) cs) = ap length (cond-false _ _ _ f) ∙ onto_length (parted sep (p + 1) cs) (omega (arith, r)) in
    let none : cond {A = ℕ} (eqb c sep) 1 0 ≡ 0 = cond-false _ _ _ f in
    omega arith)
    (cases_Bool (eqb c sep))
  where
    onto_length : (L : List Piece) → 0 < length L → length (onto c p L) ≡ length L
    onto_length [] h = absurd (omega arith)
    onto_length (v ∷ vs) h = refl

-- parts are left
pub ended_more : (sep p : ℕ) (s : List ℕ) (L : List Piece) → L ≡ parted sep p s → Err Malformed ≡ ended L
ended_more sep p s [] l = absurd (omega (arith, ap length l, parted_length sep p s))
ended_more sep p s (v ∷ vs) l = refl
