-- Words joined by separators are parted again, and what separators part is joined again.
use Rattle.std.proofs.Common.{◌≡◌, ℕ, ◌+◌, ◌<◌, eqb, List, [], ◌∷◌, ◌++◌, map, length, sym, refl, ap, ◌∙◌, arith}
use Rattle.std.proofs.lemmas.List.{length-append}
use Rattle.std.proofs.lemmas.Bool.{eq-eqb, ne_eqb, eqb-true, cond-true, cond-false, cond_both}
use Rattle.semantics.specs.Methods.{Each}
use Rattle.semantics.specs.Pieces.{Piece, piece, onto, parted, parted_or_none, joined_by}
use Rattle.semantics.specs.Values.{Said}
use Rattle.semantics.proofs.OnlyTexts.{Reads, bytes}

-- a byte that parts nothing, and the words of such bytes
pub record WordByte (c : ℕ) : Type 0 where
  pub newline : c ≡ 10 → ⊥
  pub blank : c ≡ 32 → ⊥
  pub comma : c ≡ 44 → ⊥
  pub colon : c ≡ 58 → ⊥

pub word_byte : (c : ℕ) → 32 < c → (c ≡ 44 → ⊥) → (c ≡ 58 → ⊥) → WordByte c
word_byte c above comma colon = record { newline = λ e. omega arith; blank = λ e. omega arith; comma = comma; colon = colon }

abbrev pub Word : List ℕ → Type 0
Word s = Each WordByte s

-- a byte of no word, and texts without such a byte
abbrev pub Parts : ℕ → Type 0
Parts t = (c : ℕ) → WordByte c → c ≡ t → ⊥

abbrev pub Free : ℕ → List ℕ → Type 0
Free sep s = Each (λ (c : ℕ). c ≡ sep → ⊥) s

pub each_from : {X : Type 0} {P Q : X → Type 0} → ((x : X) → P x → Q x) → (xs : List X) → Each P xs → Each Q xs
each_from f [] h = tt
each_from f (x ∷ xs) h = (f x h.0, each_from f xs h.1)

pub each_map : {X Y : Type 0} {P : X → Type 0} (Q : Y → Type 0) (g : X → Y) → ((x : X) → P x → Q (g x)) → (xs : List X) → Each P xs → Each Q (map g xs)
each_map Q g f [] h = tt
each_map Q g f (x ∷ xs) h = (f x h.0, each_map Q g f xs h.1)

pub each_append : {X : Type 0} (P : X → Type 0) (xs ys : List X) → Each P xs → Each P ys → Each P (xs ++ ys)
each_append P [] ys h k = k
each_append P (x ∷ xs) ys h k = (h.0, each_append P xs ys h.1 k)

pub free_word : (t : ℕ) → Parts t → (w : List ℕ) → Word w → Free t w
free_word t apart w h = each_from apart w h

-- another separator does not stand in what is joined of words without it
pub free_joined : (sep t : ℕ) → (sep ≡ t → ⊥) → (ws : List (List ℕ)) → Each (Free t) ws → Free t (joined_by sep ws)
free_joined sep t ne [] h = tt
free_joined sep t ne (w ∷ []) h = h.0
free_joined sep t ne (w ∷ x ∷ ws) h = each_append (λ (c : ℕ). c ≡ t → ⊥) w _ h.0 (ne, free_joined sep t ne (x ∷ ws) h.1)

module _ (sep : ℕ) where
  abbrev join : List Piece → List ℕ
  join vs = joined_by sep (map bytes vs)

  -- what was parted, joined again
  join_onto : (c p : ℕ) (vs : List Piece) → join (onto c p vs) ≡ c ∷ join vs
  join_onto c p [] = refl
  join_onto c p (v ∷ []) = refl
  join_onto c p (v ∷ w ∷ vs) = refl

  join_nil : (p : ℕ) (vs : List Piece) → 0 < length vs → join (piece p [] ∷ vs) ≡ sep ∷ join vs
  join_nil p [] h = absurd (omega arith)
  join_nil p (v ∷ vs) h = refl

  onto_some : (c p : ℕ) (vs : List Piece) → 0 < length (onto c p vs)
  onto_some c p [] = omega arith
  onto_some c p (v ∷ vs) = omega arith

  parted_some : (p : ℕ) (s : List ℕ) → 0 < length (parted sep p s)
  parted_some p [] = omega arith
  parted_some p (c ∷ cs) = cond_both (eqb c sep) _ _ (λ vs. 0 < length vs) (λ t. omega arith) (λ f. onto_some c p (parted sep (p + 1) cs))

  pub joined_parted : (p : ℕ) (s : List ℕ) → joined_by sep (map bytes (parted sep p s)) ≡ s
  joined_parted p [] = refl
  joined_parted p (c ∷ cs) = cond_both (eqb c sep) _ _ (λ vs. join vs ≡ c ∷ cs)
      (λ t. join_nil p (parted sep (p + 1) cs) (parted_some (p + 1) cs) ∙ (λ i. sym (eqb-true c sep t) i ∷ joined_parted (p + 1) cs i))
      (λ f. join_onto c p (parted sep (p + 1) cs) ∙ ap (λ l. c ∷ l) (joined_parted (p + 1) cs))

  pub joined_parted_or_none : (p : ℕ) (s : List ℕ) → joined_by sep (map bytes (parted_or_none sep p s)) ≡ s
  joined_parted_or_none p [] = refl
  joined_parted_or_none p (c ∷ cs) = joined_parted p (c ∷ cs)

  -- what was joined, parted again
  abbrev onto_word : ℕ → List (List ℕ) → List (List ℕ)
  onto_word c [] = (c ∷ []) ∷ []
  onto_word c (w ∷ ws) = (c ∷ w) ∷ ws

  bytes_onto : (c p : ℕ) (vs : List Piece) → map bytes (onto c p vs) ≡ onto_word c (map bytes vs)
  bytes_onto c p [] = refl
  bytes_onto c p (v ∷ vs) = refl

  parted_byte : (p c : ℕ) (s : List ℕ) → (c ≡ sep → ⊥) → map bytes (parted sep p (c ∷ s)) ≡ onto_word c (map bytes (parted sep (p + 1) s))
  parted_byte p c s ne = ap (map bytes) (cond-false _ _ _ (ne_eqb c sep ne)) ∙ bytes_onto c p (parted sep (p + 1) s)

  parted_one : (p : ℕ) (w : List ℕ) → Free sep w → map bytes (parted sep p w) ≡ w ∷ []
  parted_one p [] h = refl
  parted_one p (c ∷ cs) h = parted_byte p c cs h.0 ∙ ap (onto_word c) (parted_one (p + 1) cs h.1)

  -- behind a word and a separator the parts are those of what follows, at some place
  parted_more : (p : ℕ) (w s : List ℕ) → Free sep w → (q : ℕ) × (map bytes (parted sep p (w ++ (sep ∷ s))) ≡ w ∷ map bytes (parted sep q s))
  parted_more p [] s h = (p + 1, ap (map bytes) (cond-true _ _ _ (eq-eqb sep sep refl)))
  parted_more p (c ∷ cs) s h =
      let k = parted_more (p + 1) cs s h.1 in
      (k.0, parted_byte p c _ h.0 ∙ ap (onto_word c) k.1)

  pub parted_joined : (p : ℕ) (ws : List (List ℕ)) → 0 < length ws → Each (Free sep) ws → map bytes (parted sep p (joined_by sep ws)) ≡ ws
  parted_joined p [] l h = absurd (omega arith)
  parted_joined p (w ∷ []) l h = parted_one p w h.0
  parted_joined p (w ∷ x ∷ ws) l h =
      let k = parted_more p w (joined_by sep (x ∷ ws)) h.0 in
      k.1 ∙ ap (λ us. w ∷ us) (parted_joined k.0 (x ∷ ws) (omega arith) h.1)

  joined_some : (w : List ℕ) (ws : List (List ℕ)) → 0 < length w → 0 < length (joined_by sep (w ∷ ws))
  joined_some w [] h = h
  joined_some w (x ∷ ws) h = omega (arith, length-append w (sep ∷ joined_by sep (x ∷ ws)))

  parted_or_none_some : (p : ℕ) (s : List ℕ) → 0 < length s → parted_or_none sep p s ≡ parted sep p s
  parted_or_none_some p [] h = absurd (omega arith)
  parted_or_none_some p (c ∷ cs) h = refl

  pub parted_or_none_joined : (p : ℕ) (ws : List (List ℕ)) → Each (λ w. 0 < length w) ws → Each (Free sep) ws → map bytes (parted_or_none sep p (joined_by sep ws)) ≡ ws
  parted_or_none_joined p [] n h = refl
  parted_or_none_joined p (w ∷ ws) n h = ap (map bytes) (parted_or_none_some p _ (joined_some w ws n.0)) ∙ parted_joined p (w ∷ ws) (omega arith) h

  -- so a value is read from its only text, if it is from its only words
  module _ {X : Type 0} {P : X → Type 0} {words : X → List (List ℕ)} {says : List Piece → Said X} (r : Reads (map bytes) P words says) where
    reads_by : (part : ℕ → List ℕ → List Piece) → ((p : ℕ) (s : List ℕ) → joined_by sep (map bytes (part p s)) ≡ s) → ((p : ℕ) (x : X) → P x → map bytes (part p (joined_by sep (words x))) ≡ words x) → Reads bytes P (λ x. joined_by sep (words x)) (λ v. says (part v.place v.held))
    reads_by part joins parts = record {
      forth = λ v x e h. r.forth _ x (ap (λ s. map bytes (part v.place s)) e ∙ parts v.place x h) h;
      back = λ v x e. let k = r.back _ x e in (sym (joins v.place v.held) ∙ ap (joined_by sep) k.0, k.1);
    }

    pub reads_parted : ((x : X) → P x → 0 < length (words x)) → ((x : X) → P x → Each (Free sep) (words x)) → Reads bytes P (λ x. joined_by sep (words x)) (λ v. says (parted sep v.place v.held))
    reads_parted some free = reads_by (parted sep) joined_parted (λ p x h. parted_joined p (words x) (some x h) (free x h))

    pub reads_parted_or_none : ((x : X) → P x → Each (λ w. 0 < length w) (words x)) → ((x : X) → P x → Each (Free sep) (words x)) → Reads bytes P (λ x. joined_by sep (words x)) (λ v. says (parted_or_none sep v.place v.held))
    reads_parted_or_none some free = reads_by (parted_or_none sep) joined_parted_or_none (λ p x h. parted_or_none_joined p (words x) (some x h) (free x h))
