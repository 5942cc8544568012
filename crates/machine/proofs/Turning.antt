-- The operations of a step: what they come to without a host is what they come to beside one that is not asked.
use Rattle.std.proofs.Common.{◌≡◌, ℕ, ◌<◌, List, [], ◌∷◌, map, length, get_or, Some, Ok, Err, Result, sym, refl, ap, ◌∙◌, arith}
use Rattle.std.proofs.lemmas.List.{get_or-map}
use Rattle.semantics.specs.declared.body.Body.{Body}
use Rattle.semantics.specs.declared.ending.Break.TheVariants as break
use Rattle.semantics.specs.declared.ending.Ending.TheVariants.{BrokenOff}
use Rattle.semantics.specs.declared.entry.Entry.{Entry}
use Rattle.semantics.specs.declared.misfit.Misfit.TheVariants as misfit
use Rattle.semantics.specs.declared.operation.Destination.{Destination}
use Rattle.semantics.specs.declared.operation.Operand.{Operand}
use Rattle.semantics.specs.declared.value.Value.{Value}
use Rattle.semantics.specs.Entries.{EntryDef, entry_of, found}
use Rattle.semantics.specs.Hosts.{Reply}
use Rattle.semantics.specs.Methods.{Op, jump, jump_if, jump_list, invoke, LabelDef}
use Rattle.semantics.specs.Runs.{FrameDef, put_in, declared, Turn, onward, ended, or_break, moved_to, kind_of, operand_value, received, closed, called, jumps_to, if_not_zero, chosen, operate}
use Rattle.semantics.specs.Stores.{Store, no_entry, code_at, body_at, entry_at}
use Rattle.semantics.specs.Tests.{Tested, then, demand, callee, may_hold, bool_class, int_class, cells_fit, first_label, named_labels}
use Rattle.semantics.specs.Tree.{fits}
use Rattle.verifier.specs.Answers.{answered}
use Rattle.verifier.proofs.Callees.{callee_row}
use Rattle.machine.specs.declared.run.Frames.{Frames}
use Rattle.machine.specs.declared.run.stop.Stop.{Stop}
use Rattle.machine.specs.Frames.{stored, jump_tests}
use Rattle.machine.specs.Turns.{stop_at, or_stop, turned, given_back}

-- a turn beside a host in the condition c
abbrev pub hosted : {C : Type 0} → C → Turn (Unit {0}) → Turn C
hosted c (onward f gs u) = onward f gs c
hosted c (ended e r p u) = ended e r p c

pub turned_hosted : {C : Type 0} (o : Result (Unit {0}) Stop) (r : Frames) (c : C) → turned o r c ≡ hosted c (turned o r tt)
turned_hosted (Ok u) r c = refl
turned_hosted (Err s) r c = refl

break_hosted : {C X : Type 0} (c : C) (f : FrameDef) (t : Tested X) (k : X → Turn (Unit {0})) (l : X → Turn C) → ((x : X) → hosted c (k x) ≡ l x) → hosted c (or_break f tt t k) ≡ or_break f c t l
break_hosted c f (Ok x) k l h = h x
break_hosted c f (Err e) k l h = refl

received_hosted : {C : Type 0} (s : Store) (f : FrameDef) (gs : List FrameDef) (c : C) (d : Destination) (v : Value) → hosted c (received s f gs tt d v) ≡ received s f gs c d v
received_hosted s f gs c d v = break_hosted c f (may_hold s.classes (declared (entry_at s f.row)) d (kind_of v)) (λ _. onward (put_in f d v) gs tt) (λ _. onward (put_in f d v) gs c) (λ _. refl)

closed_hosted : {C : Type 0} (s : Store) (f : FrameDef) (gs : List FrameDef) (c : C) (v : Value) → hosted c (closed s f gs tt v) ≡ closed s f gs c v
closed_hosted s f [] c v = refl
closed_hosted s f (g ∷ gs) c v = received_hosted s g gs c _ v

pub given_back_turn : {C : Type 0} (s : Store) (f : FrameDef) (gs : List FrameDef) (c : C) (a : Operand) (o : Result (Unit {0}) Stop) (r : Frames) → turned o r (tt {0}) ≡ given_back s f gs tt a → turned o r c ≡ given_back s f gs c a
given_back_turn s f gs c a o r e = turned_hosted o r c ∙ ap (hosted c) e ∙ break_hosted c f (demand (fits s.classes (kind_of (operand_value f a)) (entry_at s f.row).result) misfit.ResultClass) _ _ (λ _. closed_hosted s f gs c (operand_value f a))

-- J, and the jumps that make a test before
jump_breaks : {C : Type 0} (c : C) (f : FrameDef) (gs : List FrameDef) (t : Tested (Unit {0})) (p : ℕ) → hosted c (or_break f tt (then t (λ _. Ok p)) (λ q. onward (moved_to f q) gs tt)) ≡ or_break f c t (λ _. onward (moved_to f p) gs c)
jump_breaks c f gs (Ok u) p = refl
jump_breaks c f gs (Err e) p = refl

test_breaks : {C : Type 0} (c : C) (f : FrameDef) (gs : List FrameDef) (t u : Tested (Unit {0})) (p : ℕ) → hosted c (or_break f tt (then t (λ _. then u (λ _. Ok p))) (λ q. onward (moved_to f q) gs tt)) ≡ or_break f c t (λ _. or_break f c u (λ _. onward (moved_to f p) gs c))
test_breaks c f gs (Ok v) u p = jump_breaks c f gs u p
test_breaks c f gs (Err e) u p = refl

abbrev cells_of : Store → FrameDef → Op → Tested (Unit {0})
cells_of s f o = cells_fit s.classes kind_of (code_at s f.row).labels f.temporaries (first_label o) (named_labels o)

-- a move, where the tests are F of the frame, the operation and the labels
moves : {C : Type 0} (k f : FrameDef) (gs : List FrameDef) (c : C) (x o : Op) (ls ms : List LabelDef) (t : Tested ℕ) (r : Result (Unit {0}) Stop) (q : Frames) (F : FrameDef → Op → List LabelDef → Tested ℕ) → k ≡ f → x ≡ o → ls ≡ ms → t ≡ F k x ls → turned r q (tt {0}) ≡ or_break f tt t (λ p. onward (moved_to f p) gs tt)
    → turned r q c ≡ hosted c (or_break f tt (F f o ms) (λ p. onward (moved_to f p) gs tt))
moves k f gs c x o ls ms t r q F top is of e b = turned_hosted r q c ∙ ap (hosted c) (b ∙ ap (λ u. or_break f tt u (λ p. onward (moved_to f p) gs tt)) (e ∙ (λ i. F (top i) (is i) (of i))))

module _ {C : Type 0} (s : Store) (reply : Reply C) (k f : FrameDef) (gs : List FrameDef) (c : C) (x : Op) (ls : List LabelDef) (t : Tested ℕ) (r : Result (Unit {0}) Stop) (q : Frames)
    (top : k ≡ f) (of : ls ≡ (code_at s f.row).labels) (b : turned r q (tt {0}) ≡ or_break f tt t (λ p. onward (moved_to f p) gs tt)) where
  pub jump_turn : (n : ℕ) → x ≡ jump n → t ≡ jump_tests s.classes k ls x (Some n) → turned r q c ≡ operate s reply f gs c (jump n)
  jump_turn n is e =
      moves k f gs c x (jump n) ls _ t r q (λ h y m. jump_tests s.classes h m y (Some n)) top is of e b
      ∙ jump_breaks c f gs (cells_of s f (jump n)) (jumps_to f (code_at s f.row).labels (Some n))

  pub jump_if_turn : (a : Operand) (n : ℕ) → x ≡ jump_if a n → t ≡ then (demand (fits s.classes (kind_of (operand_value k a)) bool_class) misfit.Condition) (λ _. jump_tests s.classes k ls x (if_not_zero (operand_value k a).number n)) → turned r q c ≡ operate s reply f gs c (jump_if a n)
  jump_if_turn a n is e =
      moves k f gs c x (jump_if a n) ls _ t r q (λ h y m. then (demand (fits s.classes (kind_of (operand_value h a)) bool_class) misfit.Condition) (λ _. jump_tests s.classes h m y (if_not_zero (operand_value h a).number n))) top is of e b
      ∙ test_breaks c f gs (demand (fits s.classes (kind_of (operand_value f a)) bool_class) misfit.Condition) (cells_of s f (jump_if a n)) (jumps_to f (code_at s f.row).labels (if_not_zero (operand_value f a).number n))

  pub jump_list_turn : (a : Operand) (ns : List ℕ) → x ≡ jump_list a ns → t ≡ then (demand (fits s.classes (kind_of (operand_value k a)) int_class) misfit.Condition) (λ _. jump_tests s.classes k ls x (chosen ns (operand_value k a).number)) → turned r q c ≡ operate s reply f gs c (jump_list a ns)
  jump_list_turn a ns is e =
      moves k f gs c x (jump_list a ns) ls _ t r q (λ h y m. then (demand (fits s.classes (kind_of (operand_value h a)) int_class) misfit.Condition) (λ _. jump_tests s.classes h m y (chosen ns (operand_value h a).number))) top is of e b
      ∙ test_breaks c f gs (demand (fits s.classes (kind_of (operand_value f a)) int_class) misfit.Condition) (cells_of s f (jump_list a ns)) (jumps_to f (code_at s f.row).labels (chosen ns (operand_value f a).number))

-- V: the row that is called, or none
entry_there : (xs : List Entry) (k : ℕ) (e : EntryDef) → k < length xs → ((d : Entry) → e ≡ entry_of (get_or xs k d)) → e ≡ get_or (map entry_of xs) k no_entry
entry_there [] k e h at = absurd (omega arith)
entry_there (x ∷ xs) k e h at = at x ∙ sym (get_or-map entry_of (x ∷ xs) k x no_entry h)

callee_found : (ps : List ℕ) (xs : List Entry) (bs : List Body) (c m : ℕ) (cs : List ℕ) (k : ℕ) → Ok k ≡ answered (λ f. f.number) (callee ps (map entry_of xs) c m cs) → callee ps (map entry_of xs) c m cs ≡ Ok (found k (entry_at (stored ps xs bs) k))
callee_found ps xs bs c m cs k e =
    let p = callee_row ps xs c m cs k e in
    let r = p.0 in
    p.1 ∙ (λ i. Ok (found (r.number i) (entry_there xs k r.row.entry r.within r.at i)))

-- a test that broke the run off
stop_breaks : {C X Y : Type 0} (f : FrameDef) (c : C) (n : X → Y) (t : Tested Y) (u : Tested X) (q : Stop) (k : X → Turn C) → Err q ≡ or_stop f t → t ≡ answered n u → ended q.ending q.row q.point c ≡ or_break f c u k
stop_breaks f c n (Ok x) u q k e a = let z : ◌≡◌ {A = ℕ} 0 1 = cc in absurd (omega arith)
stop_breaks f c n (Err x) (Ok y) q k e a = let z : ◌≡◌ {A = ℕ} 0 1 = cc in absurd (omega arith)
stop_breaks f c n (Err x) (Err y) q k e a =
    let z : q ≡ stop_at (BrokenOff (break.Misfit x)) f = cc in
    let w : x ≡ y = cc in
    ap (λ s. ended s.ending s.row s.point c) z ∙ ap (λ m. ended (BrokenOff (break.Misfit m)) f.row f.point c) w

-- and one that passed
passed : {X : Type 0} (f : FrameDef) (t : Tested X) (x : X) → Ok x ≡ or_stop f t → Ok x ≡ t
passed f (Ok y) x e = cc
passed f (Err m) x e = let z : ◌≡◌ {A = ℕ} 0 1 = cc in absurd (omega arith)

module _ {C : Type 0} (ps : List ℕ) (es : List Entry) (bs : List Body) (reply : Reply C) (k f : FrameDef) (gs : List FrameDef) (c : C)
    (d : Destination) (a : Operand) (m : ℕ) (as' : List Operand) (v : Value) (vs : List Value) (cs : List ℕ)
    (top : k ≡ f) (ve : v ≡ operand_value k a) (vse : vs ≡ map (operand_value k) as') (cse : cs ≡ map kind_of vs) where
  at_frame : {X : Type 0} (F : Value → List Value → List ℕ → X) → F v vs cs ≡ F (operand_value f a) (map (operand_value f) as') (map kind_of (map (operand_value f) as'))
  at_frame F =
      let w : v ≡ operand_value f a = ve ∙ ap (λ h. operand_value h a) top in
      let ws : vs ≡ map (operand_value f) as' = vse ∙ ap (λ h. map (operand_value h) as') top in
      λ i. F (w i) (ws i) ((cse ∙ ap (map kind_of) ws) i)

  abbrev invoked : Value → List Value → List ℕ → Turn C
  invoked w ws ks = or_break f c (callee ps (map entry_of es) (kind_of w) m ks) (λ g. called (stored ps es bs) reply f gs c d w ws g (body_at (stored ps es bs) g.number))

  pub invoke_turn : (n : ℕ) (t : Tested ℕ) (u : Turn C) → Ok n ≡ or_stop f t → t ≡ answered (λ g. g.number) (callee ps (map entry_of es) v.class m cs) → u ≡ called (stored ps es bs) reply f gs c d v vs (found n (entry_at (stored ps es bs) n)) (body_at (stored ps es bs) n) → u ≡ operate (stored ps es bs) reply f gs c (invoke d a m as')
  invoke_turn n t u o e h =
      h ∙ ap (λ u. or_break f c u (λ g. called (stored ps es bs) reply f gs c d v vs g (body_at (stored ps es bs) g.number))) (sym (callee_found ps es bs v.class m cs n (passed f t n o ∙ e))) ∙ at_frame invoked

  pub invoke_breaks : (q : Stop) (t : Tested ℕ) → Err q ≡ or_stop f t → t ≡ answered (λ g. g.number) (callee ps (map entry_of es) v.class m cs) → ended q.ending q.row q.point c ≡ operate (stored ps es bs) reply f gs c (invoke d a m as')
  invoke_breaks q t o e = stop_breaks f c (λ g. g.number) t (callee ps (map entry_of es) v.class m cs) q (λ g. called (stored ps es bs) reply f gs c d v vs g (body_at (stored ps es bs) g.number)) o e ∙ at_frame invoked
