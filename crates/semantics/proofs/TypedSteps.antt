-- One step of a typed run: it goes on typed, or it ends as it may.
use Rattle.std.proofs.Common.{◌≡◌, ℕ, ◌+◌, true, ltb, List, [], ◌∷◌, map, length, get_or, drop, set, ℤ, pos, negsuc, Some, None, Ok, Option, sym, refl, ap, ◌∙◌, subst, Err}
use Rattle.std.specs.List.{slice_get}
use Rattle.std.proofs.lemmas.List.{drop_more}
use Rattle.std.proofs.lemmas.Bool.{cond_both, eqb-true, false≢true}
use Rattle.semantics.specs.declared.ending.Break.TheVariants as break
use Rattle.semantics.specs.declared.ending.Ending.{Ending}
use Rattle.semantics.specs.declared.ending.Ending.TheVariants.{Returned, NoAnswer, FramesFull, BrokenOff}
use Rattle.semantics.specs.declared.misfit.Misfit.TheVariants as misfit
use Rattle.semantics.specs.declared.operation.Destination.{Destination}
use Rattle.semantics.specs.declared.operation.Destination.TheVariants as destination
use Rattle.semantics.specs.declared.operation.Operand.{Operand}
use Rattle.semantics.specs.declared.operation.Operand.TheVariants as operand
use Rattle.semantics.specs.declared.value.Cause.{Cause}
use Rattle.semantics.specs.declared.value.Value.{Value}
use Rattle.semantics.specs.Check.{label_at_point, point_tests, check_from}
use Rattle.semantics.specs.Entries.{EntryDef, Found, Nearest}
use Rattle.semantics.specs.Hosts.{QuestionDef, Reply, is_zero, Answer}
use Rattle.semantics.specs.Lists.{here}
use Rattle.semantics.specs.Methods.{Op, return, jump, jump_if, jump_list, invoke, MethodDef}
use Rattle.semantics.specs.Promise.{started_row, Asks, asks}
use Rattle.semantics.specs.Runs.{FrameDef, in_hand, max_frames, Turn, onward, ended, kind_of, operand_value, declared, moved_to, put_in, or_break, jumps_to, if_not_zero, chosen, jumped, received, destination_of, closed, answered, question, called, operate, step_of}
use Rattle.semantics.specs.Stores.{CodeDef, BodyDef, native, coded, Store, entry_at, body_at, code_at, op_at, method_at, no_entry}
use Rattle.semantics.specs.Tests.{Tested, bool_class, int_class, operand_class, classes_fit, callee, may_hold, put_into, own_tests, named_labels, first_label, labels_fit}
use Rattle.semantics.specs.Tree.{Up, fits}
use Rattle.semantics.proofs.CardFacts.{Checked}
use Rattle.semantics.proofs.Lookups.{lookup_nearest}
use Rattle.semantics.proofs.Lowering.{labels_lower}
use Rattle.semantics.proofs.OnlyTexts.{same_ok}
use Rattle.semantics.proofs.RowLaws.{row_decides}
use Rattle.semantics.proofs.Testing.{then_ok, demanded, demand_pass, callee_ok}
use Rattle.semantics.proofs.TreeOrder.{fits_up, up_fits, up_trans}
use Rattle.semantics.proofs.TypedCalls.{body_at_lem, fresh}
use Rattle.semantics.proofs.TypedFrames.{OnTop, Waiting, Below, Typed}
use Rattle.semantics.proofs.TypedOperations.{Here, value_fits, called_row, behind_within, rest_behind, goes_on, jumps}
use Rattle.semantics.proofs.TypedPoints.{check_passed, arrived_fits}
use Rattle.semantics.proofs.TypedRows.{kinds, at_get_d, nth_at, row_kinds, cells_kinds, arguments_fit_lem, put_fits, put_kept}

-- the host's condition after a step: as it was, or left by the answer to a question of the card
pub data Moves {C : Type 0} (s : Store) (reply : Reply C) (c : C) : C → Type 0 where
  stays : Moves s reply c c
  asking : {q : QuestionDef} → Asks s q → Moves s reply c (reply c q).1

-- how a step may end a run of the row r
pub data Stops {C : Type 0} (s : Store) (reply : Reply C) (c : C) (r : ℕ) : Ending → Type 0 where
  returns : {v : Value} → Up s.classes v.class (entry_at s r).result → Stops s reply c r (Returned v)
  unanswered : {cause : Cause} → Stops s reply c r (NoAnswer cause)
  full : Stops s reply c r FramesFull
  wrong : {q : QuestionDef} {v : Value} → Asks s q → (reply c q).0 ≡ Ok v → (Up s.classes v.class q.wanted → ⊥) → Stops s reply c r (BrokenOff break.AnswerClass)

abbrev pub Safe : {C : Type 0} → Store → Reply C → C → ℕ → Turn C → Type 0
Safe s reply c r (onward f gs d) = Typed s (in_hand f gs) × (started_row f gs ≡ r) × Moves s reply c d
Safe s reply c r (ended e q p d) = Stops s reply c r e × Moves s reply c d

-- a test that is passed
or_pass : {C X : Type 0} (f : FrameDef) (c : C) (g : X → Turn C) {t : Tested X} {x : X} → t ≡ Ok x → or_break f c t g ≡ g x
or_pass f c g e = ap (λ y. or_break f c y g) e

same_started : (f g : FrameDef) (gs : List FrameDef) → f.row ≡ g.row → started_row f gs ≡ started_row g gs
same_started f g [] e = e
same_started f g (h ∷ hs) e = refl

-- the tests of a point: its operation's own, and those of the labels
tests_parts : (ps : List ℕ) (es : List EntryDef) (m : MethodDef) (ts : List ℕ) (o : Op) {us : List ℕ} → point_tests ps es m ts o ≡ Ok us
    → (own_tests ps es m ts o ≡ Ok us) × (labels_fit ps m.labels ts (first_label o) (named_labels o) ≡ Ok tt)
tests_parts ps es m ts o e =
    let own = then_ok (own_tests ps es m ts o) _ e in
    let labels = then_ok (labels_fit ps m.labels ts (first_label o) (named_labels o)) _ own.2 in
    (own.1 ∙ labels.2, labels.1)

module _ {C : Type 0} (s : Store) (k : Checked s) (reply : Reply C) where
  -- a value that fits what a waiting frame wants is put in
  stored : (f : FrameDef) (r : ℕ) (v : Value) (to : Destination) → destination_of (op_at (code_at s f.row) f.point) ≡ to → Waiting s r f → fits s.classes (kind_of v) r ≡ true
      → (may_hold s.classes (declared (entry_at s f.row)) to (kind_of v) ≡ Ok tt) × OnTop s (put_in f to v) × ((put_in f to v).row ≡ f.row)
  stored f r v (destination.Local n) d (held, w) u =
      let ps : List ℕ = s.classes in
      let e : EntryDef = entry_at s f.row in
      let p = demanded (fits ps r (get_or (declared e) n 0)) misfit.ResultClass (Ok w.row) (ap (λ z. put_into ps (declared e) w.row z r) (sym d) ∙ w.into) in
      let fit : fits ps (kind_of v) (get_or (declared e) n 0) ≡ true = up_fits ps k.founded.tree (up_trans (fits_up ps k.founded.tree u) (fits_up ps k.founded.tree p.0)) in (
        demand_pass misfit.ResultClass fit,
        (
          held,
          record {
            row = w.next;
            locals = put_kept ps k.founded.tree f.locals (declared e) n v fit w.locals;
            temporaries = ap (classes_fit ps (kinds f.temporaries)) (sym (same_ok p.1)) ∙ w.temporaries;
            within = w.within;
            rest = w.rest;
          },
        ),
        refl,
      )
  stored f r v (destination.Temporary n) d (held, w) u =
      let ps : List ℕ = s.classes in
      let e : EntryDef = entry_at s f.row in
      let p : set w.row n r ≡ w.next = same_ok (ap (λ z. put_into ps (declared e) w.row z r) (sym d) ∙ w.into) in (
        refl,
        (
          held,
          record {
            row = w.next;
            locals = w.locals;
            temporaries = ap (classes_fit ps (kinds (set f.temporaries n v))) (sym p) ∙ put_fits ps k.founded.tree f.temporaries w.row n v r u w.temporaries;
            within = w.within;
            rest = w.rest;
          },
        ),
        refl,
      )

  received_safe : (f : FrameDef) (gs : List FrameDef) (c d : C) (to : Destination) (r : ℕ) (v : Value) → destination_of (op_at (code_at s f.row) f.point) ≡ to → Waiting s r f
      → Below s f.row gs → fits s.classes (kind_of v) r ≡ true → Moves s reply c d → Safe s reply c (started_row f gs) (received s f gs d to v)
  received_safe f gs c d to r v e w under u moved =
      let p = stored f r v to e w u in
      subst (Safe s reply c (started_row f gs)) (sym (or_pass f d _ p.0))
      ((p.1, subst (λ x. Below s x gs) (sym p.2) under), same_started (put_in f to v) f gs p.2, moved)

  closed_safe : (f : FrameDef) (gs : List FrameDef) (c : C) (v : Value) → fits s.classes (kind_of v) (entry_at s f.row).result ≡ true → Below s f.row gs
      → Safe s reply c (started_row f gs) (closed s f gs c v)
  closed_safe f [] c v u under = (returns (fits_up s.classes k.founded.tree u), stays)
  closed_safe f (g ∷ gs) c v u under = received_safe g gs c c _ (entry_at s f.row).result v refl under.0 under.1 u stays

  jumped_safe : (f : FrameDef) (gs : List FrameDef) (c : C) (o : Op) (to : Option ℕ) → Here s f o → Below s f.row gs → OnTop s (moved_to f (jumps_to f (code_at s f.row).labels to))
      → Safe s reply c (started_row f gs) (jumped s f gs c o to)
  jumped_safe f gs c o to h under top =
      subst (Safe s reply c (started_row f gs))
      (sym (or_pass f c _ (cells_kinds s.classes (code_at s f.row).labels f.temporaries (first_label o) (named_labels o)
      ∙ labels_lower s.classes k.founded.tree (code_at s f.row).labels (kinds f.temporaries) h.row (first_label o) (named_labels o) h.temporaries h.labels)))
      ((top, under), same_started (moved_to f (jumps_to f (code_at s f.row).labels to)) f gs refl, stays)

  -- where F and L go
  if_lands : (f : FrameDef) (a : Operand) (n : ℕ) (z : ℤ) → (h : Here s f (jump_if a n)) → h.next ≡ h.row → OnTop s (moved_to f (jumps_to f (code_at s f.row).labels (if_not_zero z n)))
  if_lands f a n z h e = cond_both (is_zero z) None (Some n) (λ to. OnTop s (moved_to f (jumps_to f (code_at s f.row).labels to))) (λ _. goes_on s k h refl e) (λ _. jumps s k h here)

  list_lands : (f : FrameDef) (a : Operand) (ns : List ℕ) (z : ℤ) → (h : Here s f (jump_list a ns)) → h.next ≡ h.row → OnTop s (moved_to f (jumps_to f (code_at s f.row).labels (chosen ns z)))
  list_lands f a ns (pos i) h e = go (slice_get ns i) refl
    where
      go : (to : Option ℕ) → slice_get ns i ≡ to → OnTop s (moved_to f (jumps_to f (code_at s f.row).labels to))
      go None x = goes_on s k h refl e
      go (Some n) x = jumps s k h (nth_at ns i x)
  list_lands f a ns (negsuc i) h e = goes_on s k h refl e

  -- a native row is asked
  answered_safe : (f : FrameDef) (gs : List FrameDef) (c : C) (to : Destination) (q : QuestionDef) → Asks s q → destination_of (op_at (code_at s f.row) f.point) ≡ to
      → Waiting s q.wanted f → Below s f.row gs → Safe s reply c (started_row f gs) (answered s f gs to q.wanted (reply c q))
  answered_safe f gs c to q asked e w under = go (reply c q).0 refl
    where
      go : (x : Answer) → (reply c q).0 ≡ x → Safe s reply c (started_row f gs) (answered s f gs to q.wanted (x, (reply c q).1))
      go (Err cause) x = (unanswered, asking asked)
      go (Ok v) x = cond_both (fits s.classes (kind_of v) q.wanted) _ _ (Safe s reply c (started_row f gs))
          (λ b. received_safe f gs c (reply c q).1 to q.wanted v e w under b (asking asked))
          (λ b. (wrong asked x (λ u. false≢true (sym b ∙ up_fits s.classes k.founded.tree u)), asking asked))

  called_safe : (f : FrameDef) (gs : List FrameDef) (c : C) (to : Destination) (m : ℕ) (v : Value) (vs : List Value) (g : Found) → Nearest s.classes s.entries (kind_of v) m g
      → classes_fit s.classes (kinds vs) g.entry.arguments ≡ true → destination_of (op_at (code_at s f.row) f.point) ≡ to → Waiting s g.entry.result f → Below s f.row gs
      → (b : BodyDef) → body_at s g.number ≡ b → Safe s reply c (started_row f gs) (called s reply f gs c to v vs g b)
  called_safe f gs c to m v vs g near fit e w under native is =
      answered_safe f gs c to (question g.entry v vs)
      (asks near.row (rw is at (body_at_lem s k near.row)) near.above
      ((row_decides s.classes kind_of (λ c. c) k.founded.tree vs g.entry.arguments).0 (row_kinds s.classes vs g.entry.arguments ∙ fit)))
      e w under
  called_safe f gs c to m v vs g near fit e w under (coded b) is =
      cond_both (ltb (length gs + 1) max_frames) _ _ (Safe s reply c (started_row f gs))
      (λ _. ((fresh s k g b v m vs near fit is, (subst (λ (x : EntryDef). Waiting s x.result f) (sym (at_get_d no_entry near.row)) w, under)), refl, stays))
      (λ _. (full, stays))

  operate_safe : (f : FrameDef) (gs : List FrameDef) (c : C) (o : Op) → Here s f o → Below s f.row gs → Safe s reply c (started_row f gs) (operate s reply f gs c o)
  operate_safe f gs c (return a) h under =
      let p = demanded (fits s.classes (operand_class (declared (entry_at s f.row)) h.row a) (entry_at s f.row).result) misfit.ResultClass (Ok h.row) h.own in
      let u = value_fits s k h a (entry_at s f.row).result p.0 in
      subst (Safe s reply c (started_row f gs)) (sym (or_pass f c _ (demand_pass misfit.ResultClass u))) (closed_safe f gs c (operand_value f a) u under)
  operate_safe f gs c (jump n) h under = jumped_safe f gs c (jump n) (Some n) h under (jumps s k h here)
  operate_safe f gs c (jump_if a n) h under =
      let p = demanded (fits s.classes (operand_class (declared (entry_at s f.row)) h.row a) bool_class) misfit.Condition (Ok h.row) h.own in
      subst (Safe s reply c (started_row f gs)) (sym (or_pass f c _ (demand_pass misfit.Condition (value_fits s k h a bool_class p.0))))
      (jumped_safe f gs c (jump_if a n) _ h under (if_lands f a n (operand_value f a).number h (sym (same_ok p.1))))
  operate_safe f gs c (jump_list a ns) h under =
      let p = demanded (fits s.classes (operand_class (declared (entry_at s f.row)) h.row a) int_class) misfit.Condition (Ok h.row) h.own in
      subst (Safe s reply c (started_row f gs)) (sym (or_pass f c _ (demand_pass misfit.Condition (value_fits s k h a int_class p.0))))
      (jumped_safe f gs c (jump_list a ns) _ h under (list_lands f a ns (operand_value f a).number h (sym (same_ok p.1))))
  operate_safe f gs c (invoke d a m bs) h under =
      let ls : List ℕ = declared (entry_at s f.row) in
      let p = then_ok (callee s.classes s.entries (operand_class ls h.row a) m (map (operand_class ls h.row) bs)) _ h.own in
      let g = called_row s k h a m bs p.0 p.1 in
      let t = callee_ok s.classes s.entries (kind_of (operand_value f a)) m (kinds (map (operand_value f) bs)) g.1 in
      let to : destination_of (op_at (code_at s f.row) f.point) ≡ d = ap destination_of h.stands in
      subst (Safe s reply c (started_row f gs)) (sym (or_pass f c _ g.1))
      (called_safe f gs c d m (operand_value f a) (map (operand_value f) bs) g.0 (lookup_nearest k.founded.tree t.row)
      (arguments_fit_lem s.classes 3 _ g.0.entry.arguments (eqb-true _ (length g.0.entry.arguments) t.count) t.fit) to (
        h.held,
        record {
          row = h.row;
          next = h.next;
          locals = h.locals;
          temporaries = h.temporaries;
          into = (λ i. put_into s.classes ls h.row (to i) (g.2 i)) ∙ p.2;
          within = behind_within s k h refl;
          rest = rest_behind s k h refl;
        },
      ) under (body_at s g.0.number) refl)

  pub step_safe : (f : FrameDef) (gs : List FrameDef) (c : C) → Typed s (in_hand f gs) → Safe s reply c (started_row f gs) (step_of s reply f gs c)
  step_safe f gs c (top, under) =
      let b : CodeDef = code_at s f.row in
      let w = top.1 in
      let ds : List Op = drop (f.point + 1) b.points in
      let e = ap (check_from s.classes s.entries (method_at s f.row) f.point (Some w.row)) (sym (drop_more b.points f.point (return (operand.Local 0)) w.within)) ∙ w.rest in
      let p = check_passed s.classes s.entries (method_at s f.row) f.point w.row (op_at b f.point) ds e in
      let l = arrived_fits s.classes k.founded.tree f.point f.temporaries w.row p.0 (label_at_point b.labels f.point) p.1 w.temporaries in
      let t = tests_parts s.classes s.entries (method_at s f.row) p.0 (op_at b f.point) p.2.tests in
      subst (Safe s reply c (started_row f gs)) (sym (or_pass f c _ l.0))
      (operate_safe f gs c (op_at b f.point) (record {
        held = top.0;
        row = p.0;
        next = p.2.next;
        stands = refl;
        within = w.within;
        locals = w.locals;
        temporaries = l.1;
        own = t.0;
        labels = t.1;
        rest = p.2.rest;
      }) under)
