-- Chains of tests: what a chain that was passed tells of each test, how one is passed, and what it decides.
use Rattle.std.proofs.Common.{◌≡◌, ℕ, Bool, true, false, eqb, List, length, Some, None, Ok, Err, Decides, Option, Result, refl, ap, ◌∙◌, subst, MatchResult}
use Rattle.std.proofs.lemmas.Bool.{false≢true}
use Rattle.semantics.specs.declared.misfit.Misfit.{Misfit}
use Rattle.semantics.specs.declared.misfit.Misfit.TheVariants as misfit
use Rattle.semantics.specs.declared.refusal.Refusal.{Refusal}
use Rattle.semantics.specs.Check.{tested_at}
use Rattle.semantics.specs.Entries.{EntryDef, Found, lookup}
use Rattle.semantics.specs.Form.{must}
use Rattle.semantics.specs.Reading.{so}
use Rattle.semantics.specs.Tests.{Tested, then, demand, needed, arguments_fit, callee}
use Rattle.semantics.proofs.OnlyTexts.{from_err, same_ok}

-- a chain that was passed
pub then_ok : {X Y : Type 0} (t : Tested X) (f : X → Tested Y) {y : Y} → then t f ≡ Ok y → (x : X) × (t ≡ Ok x) × (f x ≡ Ok y)
then_ok (Ok x) f e = (x, refl, e)
then_ok (Err d) f e = from_err e

pub demand_ok : (b : Bool) (d : Misfit) {u : Unit {0}} → demand b d ≡ Ok u → b ≡ true
demand_ok true d e = refl
demand_ok false d e = from_err e

pub needed_ok : {X : Type 0} (o : Option X) (d : Misfit) {x : X} → needed o d ≡ Ok x → o ≡ Some x
needed_ok (Some y) d e = ap Some (same_ok e)
needed_ok None d e = from_err e

pub must_ok : (b : Bool) (d : Refusal) {u : Unit {0}} → must b d ≡ Ok u → b ≡ true
must_ok true d e = refl
must_ok false d e = from_err e

pub tested_ok : {X : Type 0} (p : ℕ) (t : Tested X) {x : X} → tested_at p t ≡ Ok x → t ≡ Ok x
tested_ok p (Ok y) e = ap Ok (same_ok e)
tested_ok p (Err d) e = from_err e

-- a demand that was met, and what comes behind it
pub demanded : {Y : Type 0} (b : Bool) (d : Misfit) (r : Tested Y) {y : Y} → then (demand b d) (λ _. r) ≡ Ok y → (b ≡ true) × (r ≡ Ok y)
demanded true d r e = (refl, e)
demanded false d r e = from_err e

-- passing a chain
pub then_pass : {X Y : Type 0} (f : X → Tested Y) {t : Tested X} {x : X} → t ≡ Ok x → then t f ≡ f x
then_pass f e = ap (λ s. then s f) e

pub demand_pass : {b : Bool} (d : Misfit) → b ≡ true → demand b d ≡ Ok tt
demand_pass d e = ap (λ c. demand c d) e

pub needed_pass : {X : Type 0} {o : Option X} {x : X} (d : Misfit) → o ≡ Some x → needed o d ≡ Ok x
needed_pass d e = ap (λ c. needed c d) e

pub must_pass : {b : Bool} (d : Refusal) → b ≡ true → must b d ≡ Ok tt
must_pass d e = ap (λ c. must c d) e

pub tested_pass : {X : Type 0} (p : ℕ) {t : Tested X} {x : X} → t ≡ Ok x → tested_at p t ≡ Ok x
tested_pass p e = ap (tested_at p) e

pub demand_then : {Y : Type 0} {b : Bool} (d : Misfit) (r : Tested Y) → b ≡ true → then (demand b d) (λ _. r) ≡ r
demand_then d r e = then_pass (λ _. r) (demand_pass d e)

-- what is known of the row f that was called
pub record Called (ps : List ℕ) (es : List EntryDef) (c m : ℕ) (cs : List ℕ) (f : Found) : Type 0 where
  pub row : lookup ps es c m ≡ Some f
  pub count : eqb (length cs) (length f.entry.arguments) ≡ true
  pub fit : arguments_fit ps 3 cs f.entry.arguments ≡ Ok tt

module _ (ps : List ℕ) (es : List EntryDef) (c m : ℕ) (cs : List ℕ) where
  pub callee_ok : {f : Found} → callee ps es c m cs ≡ Ok f → Called ps es c m cs f
  callee_ok {f} e =
      let a = then_ok (needed (lookup ps es c m) misfit.NoRow) _ e in
      let b = demanded (eqb (length cs) (length a.0.entry.arguments)) _ _ a.2 in
      let d = then_ok (arguments_fit ps 3 cs a.0.entry.arguments) _ b.1 in
      subst (Called ps es c m cs) (same_ok d.2) (record { row = needed_ok _ _ a.1; count = b.0; fit = d.1 })

  pub callee_pass : {f : Found} → Called ps es c m cs f → callee ps es c m cs ≡ Ok f
  callee_pass h = then_pass _ (needed_pass misfit.NoRow h.row) ∙ demand_then _ _ h.count ∙ then_pass _ h.fit

-- what a chain decides: each test's fact where it is passed, and Q of the misfit where one is not
pub then_cases : {X Y : Type 0} {P : X → Type 0} (R : Y → Type 0) (Q : Misfit → Type 0) (t : Tested X) (f : X → Tested Y) → MatchResult t P Q → ((x : X) → P x → MatchResult (f x) R Q) → MatchResult (then t f) R Q
then_cases R Q (Ok x) f p more = more x p
then_cases R Q (Err e) f q more = q

pub demand_tells : {P : Type 0} (b : Bool) (d : Misfit) → Decides b P → MatchResult (demand b d) (λ _. P) (λ _. P → ⊥)
demand_tells true d h = h.0 refl
demand_tells false d h = λ p. false≢true (h.1 p)

pub so_tells : {X Y : Type 0} {P : X → Type 0} (R : Y → Type 0) (Q : Refusal → Type 0) (t : Result X Refusal) (f : X → Result Y Refusal) → MatchResult t P Q → ((x : X) → P x → MatchResult (f x) R Q) → MatchResult (so t f) R Q
so_tells R Q (Ok x) f p more = more x p
so_tells R Q (Err e) f q more = q
