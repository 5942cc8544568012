-- The steps of a start.
use Rattle.std.proofs.Common.{◌≡◌, ℕ, List, [], ◌∷◌, map, Ok, Err, Result, sym, refl, ap, ◌∙◌}
use Rattle.semantics.specs.declared.call.Offered.{Offered}
use Rattle.semantics.specs.declared.refusal.Refusal.{Refusal}
use Rattle.semantics.specs.declared.refusal.Refusal.TheVariants.{ArgumentOutOfRange}
use Rattle.semantics.specs.Cards.{CardDef, with_run, unless_refused, start_in_range, not_in_hand, taken, first_frame, started_frame, start_after}
use Rattle.semantics.specs.Form.{must}
use Rattle.semantics.specs.NewRows.{classes_present}
use Rattle.semantics.specs.Reading.{so}
use Rattle.semantics.specs.Runs.{FrameDef, in_hand, kind_of}
use Rattle.machine.specs.Turns.{begun}
use Rattle.semantics.proofs.Walks.{so_so}
use Rattle.card.specs.Openings.{OpeningDef, opening, opened}

-- what is done once the numbers are in range
abbrev opened_on : CardDef → OpeningDef → Result FrameDef Refusal
opened_on k o = so (classes_present k.store.classes 0 (map kind_of (o.receiver ∷ o.arguments))) (λ _. first_frame k.store o.receiver o.name o.arguments)

run_begun : (k : CardDef) (f : Result FrameDef Refusal) → with_run k (begun k.run f) ≡ unless_refused k (λ g. with_run k (in_hand g [])) f
run_begun k (Ok f) = refl
run_begun k (Err e) = refl

module _ (k : CardDef) (v : Offered) (m : ℕ) (vs : List Offered) (free : Ok tt ≡ not_in_hand k.run) where
  pub opened_on_lem : (a : Result OpeningDef Refusal) → a ≡ opened v m vs → so a (opened_on k) ≡ started_frame k v m vs
  opened_on_lem a e =
      let rest : Result FrameDef Refusal = so (must (start_in_range v m vs) ArgumentOutOfRange) (λ _. opened_on k (opening (taken v) m (map taken vs))) in
      ap (λ x. so x (opened_on k)) e
      ∙ sym (so_so (must (start_in_range v m vs) ArgumentOutOfRange) (λ _. Ok (opening (taken v) m (map taken vs))) (opened_on k))
      ∙ ap (λ x. so x (λ _. rest)) free

  -- what a start leaves whose numbers are out of range
  pub after_refused : (d : Refusal) → Err d ≡ opened v m vs → k ≡ start_after k v m vs
  after_refused d e = ap (unless_refused k (λ f. with_run k (in_hand f []))) (opened_on_lem (Err d) e)

  -- and one that comes to its first frame
  pub after_begun : (k' : CardDef) (o : OpeningDef) (f : Result FrameDef Refusal) → Ok o ≡ opened v m vs → Ok tt ≡ classes_present k.store.classes 0 (map kind_of (o.receiver ∷ o.arguments)) → f ≡ first_frame k.store o.receiver o.name o.arguments
      → k' ≡ with_run k (begun k.run f) → k' ≡ start_after k v m vs
  after_begun k' o f a b c e =
      e ∙ run_begun k f ∙ ap (unless_refused k (λ g. with_run k (in_hand g []))) ((λ i. so (b i) (λ _. c i)) ∙ opened_on_lem (Ok o) a)
