-- Searches through a list: every item keeps the rule, or the first that breaks it is told.
use Rattle.std.proofs.Common.{◌≡◌, ℕ, zero, suc, ◌+◌, ◌<◌, Bool, true, false, List, [], ◌∷◌, Ok, Err, Decides, refl, ap, subst, ⊎_elim, add-zero, zero-add, arith, MatchResult}
use Rattle.std.proofs.lemmas.Bool.{cases_order, false≢true}
use Rattle.semantics.specs.declared.refusal.Refusal.{Refusal}
use Rattle.semantics.specs.Form.{Formed, must}
use Rattle.semantics.specs.Lists.{At, here, there, Throughout, First}
use Rattle.semantics.specs.Reading.{so}

pub same_at : {X : Type 0} {xs : List X} {k : ℕ} {x y : X} → At xs k x → At xs k y → x ≡ y
same_at here here = refl
same_at (there a) (there b) = same_at a b

pub first_breaks : {X : Type 0} {Rule : ℕ → X → Type 0} {xs : List X} {k : ℕ} → First Rule xs k → Throughout Rule xs → ⊥
first_breaks {k} f all = f.broken (all k f.item f.at)

pub same_first : {X : Type 0} {Rule : ℕ → X → Type 0} {xs : List X} {j k : ℕ} → First Rule xs j → First Rule xs k → j ≡ k
same_first {j} {k} f g = ⊎_elim (λ e. e) (λ s. ⊎_elim
    (λ (h : j < k). absurd (f.broken (g.before j f.item f.at h)))
    (λ (h : k < j). absurd (g.broken (f.before k g.item g.at h))) s) (cases_order j k)

-- a test that fails is told by its refusal
pub must_tells : {P : Type 0} (b : Bool) (e : Refusal) → Decides b P → MatchResult (must b e) (λ _. P) (λ d. (P → ⊥) × (d ≡ e))
must_tells true e d = d.0 refl
must_tells false e d = ((λ p. false≢true (d.1 p)), refl)

pub so_done : (r : Formed) → so r (λ _. Ok tt) ≡ r
so_done (Ok u) = refl
so_done (Err e) = refl

pub so_cases : {P : Type 0} (R : Type 0) (Q : Refusal → Type 0) (r s : Formed) → MatchResult r (λ _. P) Q → (P → MatchResult s (λ _. R) Q) → MatchResult (so r (λ _. s)) (λ _. R) Q
so_cases R Q (Ok u) s p more = more p
so_cases R Q (Err e) s q more = q

pub ok_unless : (P : Type 0) {Q : Refusal → Type 0} (r : Formed) → MatchResult r (λ _. P) Q → ((e : Refusal) → Q e → ⊥) → r ≡ Ok tt
ok_unless P (Ok u) c none = refl
ok_unless P (Err e) c none = absurd (none e c)

pub err_unless : {P : Type 0} {Q : Refusal → Type 0} (e : Refusal) (r : Formed) → MatchResult r (λ _. P) Q → (P → ⊥) → ((d : Refusal) → Q d → d ≡ e) → r ≡ Err e
err_unless e (Ok u) c never only = absurd (never c)
err_unless e (Err d) c never only = ap Err (only d c)

-- every item of xs keeps the rule, or the refusal tells of the first that breaks it
abbrev pub Found : {X : Type 0} → (ℕ → X → Type 0) → (ℕ → X → Refusal → Type 0) → List X → Formed → Type 0
Found Rule Tells xs r = MatchResult r (λ _. Throughout Rule xs) (λ e. (k : ℕ) × (f : First Rule xs k) × Tells k f.item e)

pub throughout_none : {X : Type 0} (Rule : ℕ → X → Type 0) → Throughout Rule []
throughout_none Rule k x a = elim a [ ]

pub throughout_more : {X : Type 0} (Rule : ℕ → X → Type 0) {x : X} {xs : List X} → Rule 0 x → Throughout (λ k. Rule (suc k)) xs → Throughout Rule (x ∷ xs)
throughout_more Rule first rest zero y here = first
throughout_more Rule first rest (suc k) y (there a) = rest k y a

found_cons : {X : Type 0} (Rule : ℕ → X → Type 0) (Tells : ℕ → X → Refusal → Type 0) (x : X) (xs : List X) (t r : Formed) → MatchResult t (λ _. Rule 0 x) (λ e. (Rule 0 x → ⊥) × Tells 0 x e) → (Rule 0 x → Found (λ k. Rule (suc k)) (λ k. Tells (suc k)) xs r) → Found Rule Tells (x ∷ xs) (so t (λ _. r))
found_cons Rule Tells x xs (Ok u) (Ok v) kept more = throughout_more Rule kept (more kept)
found_cons Rule Tells x xs (Ok u) (Err e) kept more =
    let m = more kept in
    (suc m.0, record { item = m.1.item; at = there m.1.at; broken = m.1.broken; before = throughout_more (λ j y. j < suc m.0 → Rule j y) (λ _. kept) (λ j y a h. m.1.before j y a (omega arith)) }, m.2)
found_cons Rule Tells x xs (Err e) r broken more = (0, record { item = x; at = here; broken = broken.0; before = λ j y a h. absurd (omega arith) }, broken.1)

module _ {X : Type 0} (Rule : ℕ → X → Type 0) (Tells : ℕ → X → Refusal → Type 0) where
  -- the same, where the first item of xs has the number n
  abbrev pub FoundFrom : ℕ → List X → Formed → Type 0
  FoundFrom n xs r = Found (λ k. Rule (n + k)) (λ k. Tells (n + k)) xs r

  found_as : (f g : ℕ → ℕ) (xs : List X) (r : Formed) → ((k : ℕ) → f k ≡ g k) → Found (λ k. Rule (f k)) (λ k. Tells (f k)) xs r → Found (λ k. Rule (g k)) (λ k. Tells (g k)) xs r
  found_as f g xs r same = let P : (ℕ → ℕ) → Type 0 = λ h. Found (λ k. Rule (h k)) (λ k. Tells (h k)) xs r in let e : f ≡ g = λ i k. same k i in subst P e

  pub found_more : (n : ℕ) (x : X) (xs : List X) (t r : Formed) → MatchResult t (λ _. Rule n x) (λ e. (Rule n x → ⊥) × Tells n x e) → (Rule n x → FoundFrom (n + 1) xs r) → FoundFrom n (x ∷ xs) (so t (λ _. r))
  found_more n x xs t r step more =
      let here : n + 0 ≡ n = add-zero n in
      found_cons (λ k. Rule (n + k)) (λ k. Tells (n + k)) x xs t r (rw here step) (λ kept. found_as (λ k. n + 1 + k) (λ k. n + suc k) xs r (λ k. omega arith) (more (rw here at kept)))

  pub found_all : (xs : List X) (r : Formed) → FoundFrom 0 xs r → Found Rule Tells xs r
  found_all xs r = found_as (λ k. 0 + k) (λ k. k) xs r zero-add
