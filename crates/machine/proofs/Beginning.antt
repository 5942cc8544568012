-- The first frame of a run, from the number of the row that was found.
use Rattle.std.proofs.Common.{◌≡◌, ℕ, eqb, List, map, length, get_or, Some, Ok, Err, Option, Result, MatchResult, IsErrAnd, sym, refl, ap, ◌∙◌}
use Rattle.semantics.specs.declared.body.Body.{Body}
use Rattle.semantics.specs.declared.body.Code.{Code}
use Rattle.semantics.specs.declared.entry.Entry.{Entry}
use Rattle.semantics.specs.declared.misfit.Misfit.TheVariants as misfit
use Rattle.semantics.specs.declared.refusal.Refusal.{Refusal}
use Rattle.semantics.specs.declared.value.Value.{Value}
use Rattle.semantics.specs.Cards.{start_refusal, start_tested, start_frame, first_frame}
use Rattle.semantics.specs.Entries.{EntryDef, entry_of, Found, found, lookup}
use Rattle.semantics.specs.Reading.{so}
use Rattle.semantics.specs.Runs.{FrameDef, kind_of, opened}
use Rattle.semantics.specs.Stores.{CodeDef, code_of, coded, Store, body_at}
use Rattle.semantics.specs.Tests.{Tested, then, needed, demand, arguments_fit, taking}
use Rattle.verifier.specs.Answers.{number_of, answered}
use Rattle.verifier.proofs.Lookups.{RowFound, row_found}
use Rattle.semantics.proofs.Walks.{exits}
use Rattle.machine.specs.Frames.{stored, body_with}

-- the first frame of the row r of signature e and code b, where it takes the arguments
abbrev entered : List ℕ → EntryDef → ℕ → CodeDef → Value → List Value → Result FrameDef Refusal
entered ps e r b v vs = so (start_tested (taking ps (map kind_of vs) (found r e))) (λ _. Ok (opened r b v vs))

-- the row g that was found
abbrev begun_with : Store → Value → List Value → Found → Result FrameDef Refusal
begun_with s v vs g = so (start_frame g.number v vs (body_at s g.number)) (λ f. so (start_tested (taking s.classes (map kind_of vs) g)) (λ _. Ok f))

first_found : (ps : List ℕ) (es : List Entry) (bs : List Body) (v : Value) (m : ℕ) (vs : List Value) (k : ℕ) (r : RowFound ps es v.class m k) → first_frame (stored ps es bs) v m vs ≡ begun_with (stored ps es bs) v vs (found k r.row.entry)
first_found ps es bs v m vs k r =
    ap (λ o. so (start_tested (needed o misfit.NoRow)) (begun_with (stored ps es bs) v vs)) r.is ∙ ap (λ n. begun_with (stored ps es bs) v vs (found n r.row.entry)) r.number

-- the tests are the same for whatever they let pass
same_start : (t u : Tested (Unit {0})) (x y : Found) (f : FrameDef) → so (start_tested (then t (λ _. then u (λ _. Ok x)))) (λ _. Ok f) ≡ so (start_tested (answered (λ _. tt {0}) (then t (λ _. then u (λ _. Ok y))))) (λ _. Ok f)
same_start (Ok a) (Ok b) x y f = refl
same_start (Ok a) (Err e) x y f = refl
same_start (Err e) u x y f = refl

-- the answer t of the tests on the arguments
entered_by : (ps : List ℕ) (e : EntryDef) (r : ℕ) (b : CodeDef) (v : Value) (vs : List Value) (cs : List ℕ) (t : Tested (Unit {0})) → cs ≡ map kind_of vs → t ≡ answered (λ _. tt) (taking ps cs (found 0 e)) → entered ps e r b v vs ≡ so (start_tested t) (λ _. Ok (opened r b v vs))
entered_by ps e r b v vs cs t ks h =
    same_start (demand (eqb (length (map kind_of vs)) (length e.arguments)) (misfit.Argument 2)) (arguments_fit ps 3 (map kind_of vs) e.arguments) (found r e) (found 0 e) (opened r b v vs)
    ∙ sym (ap (λ u. so (start_tested u) (λ _. Ok (opened r b v vs))) (h ∙ ap (λ ns. answered (λ _. tt) (taking ps ns (found 0 e))) ks))

-- a coded row
first_coded : (ps : List ℕ) (es : List Entry) (bs : List Body) (v : Value) (m : ℕ) (vs : List Value) (k : ℕ) (b : CodeDef) (y : Entry) → Some k ≡ number_of (lookup ps (map entry_of es) v.class m) → coded b ≡ body_at (stored ps es bs) k → y ≡ get_or es k y → first_frame (stored ps es bs) v m vs ≡ entered ps (entry_of y) k b v vs
first_coded ps es bs v m vs k b y e c at =
    let r = row_found ps es v.class m k e in
    first_found ps es bs v m vs k r
    ∙ sym (ap (λ z. so (start_frame k v vs z) (λ f. so (start_tested (taking ps (map kind_of vs) (found k r.row.entry))) (λ _. Ok f))) c)
    ∙ ap (λ x. entered ps x k b v vs) (r.at y ∙ sym (ap entry_of at))

-- the answer r of those tests, as a start tells it
pub told_as : (t : Tested (Unit {0})) (r : Result (Unit {0}) Refusal) → MatchResult t (λ x. r ≡ Ok x) (λ e. IsErrAnd r (λ d. d ≡ start_refusal e)) → r ≡ start_tested t
told_as (Ok x) r h = h
told_as (Err e) r h = exits r (start_refusal e) h

-- a coded row of which that is the answer
pub first_by : (ps : List ℕ) (es : List Entry) (bs : List Body) (v : Value) (m : ℕ) (vs : List Value) (k : ℕ) (b : Code) (y : Entry) (o : Option Code) (cs : List ℕ) (t : Tested (Unit {0})) (r u : Result (Unit {0}) Refusal) → Some k ≡ number_of (lookup ps (map entry_of es) v.class m) → body_with o ≡ body_at (stored ps es bs) k → o ≡ Some b → y ≡ get_or es k y → cs ≡ map kind_of vs → t ≡ answered (λ _. tt) (taking ps cs (found 0 (entry_of (get_or es k y)))) → r ≡ start_tested t → r ≡ u
    → so u (λ _. Ok (opened k (code_of b) v vs)) ≡ first_frame (stored ps es bs) v m vs
first_by ps es bs v m vs k b y o cs t r u e c s at ks h a w =
    ap (λ x. so x (λ _. Ok (opened k (code_of b) v vs))) (sym w ∙ a)
    ∙ sym (first_coded ps es bs v m vs k (code_of b) y e (ap body_with (sym s) ∙ c) at ∙ entered_by ps (entry_of y) k (code_of b) v vs cs t ks (h ∙ ap (λ x. answered (λ _. tt) (taking ps cs (found 0 (entry_of x)))) (sym at)))
