-- Calls that are performed one after the other.
use Rattle.std.proofs.Common.{◌≡◌, ℕ, suc, ◌+◌, ◌<◌, min, List, [], ◌∷◌, ◌++◌, length, get_or, take, drop, set, sym, refl, ap, ◌∙◌, append_assoc, append-nil, arith}
use Rattle.std.proofs.lemmas.List.{drop_all, drop-drop, drop_more, drop-set-lt, get_or-map, get_or-take, length-map, length-take, take_more_set, take-append-drop}
use Rattle.semantics.specs.declared.call.Response.{Response}
use Rattle.semantics.specs.Calls.{CallDef, act, Moment, moments, state, after_all}
use Rattle.semantics.specs.Cards.{CardDef}
use Rattle.semantics.specs.Hosts.{Reply}
use Rattle.session.specs.declared.call.Call.{Call}
use Rattle.session.specs.CallMeaning.{call_of, buffer_after, taken_calls, responses_of, responded_in, buffer_after_all}

-- after the first i calls of xs, which began with the card k₀, the condition c₀, the buffer b₀ and the places r₀
pub record Performed {C : Type 0} (reply : Reply C) (xs : List CallDef) (k₀ : CardDef) (c₀ : C) (b₀ : List ℕ) (r₀ : List Response) (i : ℕ) (k : CardDef) (c : C) (b : List ℕ) (r : List Response) : Type 0 where
  pub after : after_all reply k c (drop i xs) ≡ after_all reply k₀ c₀ xs
  pub told : take i r ++ responses_of (moments reply k c (drop i xs)) ≡ responses_of (moments reply k₀ c₀ xs)
  pub rest : drop i r ≡ drop i r₀
  pub buffer : buffer_after_all (moments reply k c (drop i xs)) b ≡ buffer_after_all (moments reply k₀ c₀ xs) b₀

as_many : {C : Type 0} (reply : Reply C) (k : CardDef) (c : C) (xs : List CallDef) → length (moments reply k c xs) ≡ length xs
as_many reply k c [] = refl
as_many reply k c (x ∷ xs) = ap suc (as_many reply (act reply k c x).card (act reply k c x).host xs)

drop_next : {X : Type 0} (i : ℕ) (xs ys : List X) → drop i xs ≡ drop i ys → drop (i + 1) xs ≡ drop (i + 1) ys
drop_next i xs ys e = sym (drop-drop 1 i xs) ∙ ap (drop 1) e ∙ drop-drop 1 i ys

-- the calls that are performed
pub taken_length : (room places : ℕ) (xs : List Call) → length (taken_calls room places xs) ≡ min places (length xs)
taken_length room places xs = length-map (take places xs) (call_of room) ∙ length-take places xs

pub call_at : (room places i : ℕ) (xs : List Call) (x : Call) → i < length xs → x ≡ get_or xs i x → i < places → drop i (taken_calls room places xs) ≡ call_of room x ∷ drop (i + 1) (taken_calls room places xs)
call_at room places i xs x h e p =
    let l = length-take places xs in
    drop_more (taken_calls room places xs) i (call_of room x) (omega (arith, taken_length room places xs))
    ∙ ap (λ y. y ∷ drop (i + 1) (taken_calls room places xs)) (get_or-map (call_of room) (take places xs) i x (call_of room x) (omega arith) ∙ ap (call_of room) (get_or-take places xs i x p ∙ sym e))

module _ {C : Type 0} (reply : Reply C) (xs : List CallDef) (k₀ : CardDef) (c₀ : C) (b₀ : List ℕ) (r₀ : List Response) where
  pub performed_none : Performed reply xs k₀ c₀ b₀ r₀ 0 k₀ c₀ b₀ r₀
  performed_none = record { after = refl; told = refl; rest = refl; buffer = refl }

  -- one call more
  pub performed_more : (i : ℕ) (x x' : CallDef) (k k' : CardDef) (c c' : C) (b b' : List ℕ) (r : List Response) (y : Response)
      → drop i xs ≡ x ∷ drop (i + 1) xs → x' ≡ x → i < length r
      → y ≡ (act reply k c x').response → k' ≡ (act reply k c x').card → c' ≡ (act reply k c x').host → b' ≡ buffer_after k x' b
      → Performed reply xs k₀ c₀ b₀ r₀ i k c b r → Performed reply xs k₀ c₀ b₀ r₀ (i + 1) k' c' b' (set r i y)
  performed_more i x x' k k' c c' b b' r y d same h e₀ f₀ g₀ s₀ inv =
      let e : y ≡ (act reply k c x).response = e₀ ∙ ap (λ z. (act reply k c z).response) same in
      let f : k' ≡ (act reply k c x).card = f₀ ∙ ap (λ z. (act reply k c z).card) same in
      let g : c' ≡ (act reply k c x).host = g₀ ∙ ap (λ z. (act reply k c z).host) same in
      let s : b' ≡ buffer_after k x b = s₀ ∙ ap (λ z. buffer_after k z b) same in
      let rest : CardDef → C → List (Moment C) = λ q o. moments reply q o (drop (i + 1) xs) in
      record {
        after = (λ j. after_all reply (f j) (g j) (drop (i + 1) xs)) ∙ ap (after_all reply k c) (sym d) ∙ inv.after;
        told =
            ap (λ z. z ++ responses_of (rest k' c')) (take_more_set r i y h) ∙ append_assoc (take i r) (y ∷ []) (responses_of (rest k' c'))
            ∙ (λ j. take i r ++ e j ∷ responses_of (rest (f j) (g j))) ∙ ap (λ z. take i r ++ responses_of (moments reply k c z)) (sym d) ∙ inv.told;
        rest = drop-set-lt (i + 1) r i y (omega arith) ∙ drop_next i r r₀ inv.rest;
        buffer = (λ j. buffer_after_all (rest (f j) (g j)) (s j)) ∙ ap (λ z. buffer_after_all (moments reply k c z) b) (sym d) ∙ inv.buffer;
      }

  -- all of them
  pub performed_all : (i : ℕ) (k : CardDef) (c : C) (b : List ℕ) (r : List Response) → i ≡ length xs → Performed reply xs k₀ c₀ b₀ r₀ i k c b r
      → (state k c ≡ after_all reply k₀ c₀ xs) × (r ≡ responded_in r₀ (moments reply k₀ c₀ xs)) × (b ≡ buffer_after_all (moments reply k₀ c₀ xs) b₀)
  performed_all i k c b r h inv =
      let z : drop i xs ≡ [] = drop_all i xs (omega arith) in
      let t : take i r ≡ responses_of (moments reply k₀ c₀ xs) = sym (append-nil (take i r)) ∙ ap (λ y. take i r ++ responses_of (moments reply k c y)) (sym z) ∙ inv.told in
      let n : i ≡ length (moments reply k₀ c₀ xs) = h ∙ sym (as_many reply k₀ c₀ xs) in (
        ap (after_all reply k c) (sym z) ∙ inv.after,
        sym (take-append-drop i r) ∙ (λ j. t j ++ inv.rest j) ∙ ap (λ y. responses_of (moments reply k₀ c₀ xs) ++ drop y r₀) n,
        ap (λ y. buffer_after_all (moments reply k c y) b) (sym z) ∙ inv.buffer,
      )
