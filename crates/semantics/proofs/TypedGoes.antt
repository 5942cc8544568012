-- A go on a typed run: how it ends, which conditions it brings the host to, and whose fault a wrong answer is.
use Rattle.std.proofs.Common.{◌≡◌, ℕ, zero, suc, ◌+◌, ◌<◌, ◌≤◌, List, sym, refl, ap, subst, arith, Ok}
use Rattle.semantics.specs.declared.ending.Break.TheVariants as break
use Rattle.semantics.specs.declared.ending.End.{End}
use Rattle.semantics.specs.declared.ending.Ending.{Ending}
use Rattle.semantics.specs.declared.ending.Ending.TheVariants.{BrokenOff, StepsTaken}
use Rattle.semantics.specs.declared.value.Value.{Value}
use Rattle.semantics.specs.Endings.{end}
use Rattle.semantics.specs.Hosts.{QuestionDef, Reply}
use Rattle.semantics.specs.Promise.{started_row, Ends, returned, no_answer, frames_full, broken_off, steps_taken, Asks, Reachable, at_first, asked, TrueTo}
use Rattle.semantics.specs.Runs.{FrameDef, idle, in_hand, Turn, onward, ended, step_of, Gone, go_from}
use Rattle.semantics.specs.Stores.{Store}
use Rattle.semantics.specs.Tree.{Up}
use Rattle.semantics.proofs.CardFacts.{Checked}
use Rattle.semantics.proofs.TypedFrames.{Typed}
use Rattle.semantics.proofs.TypedSteps.{Moves, stays, asking, Stops, returns, unanswered, full, wrong, Safe, step_safe}

module _ {C : Type 0} (s : Store) (reply : Reply C) where
  reach_on : {a b c : C} → Reachable s reply a b → Reachable s reply b c → Reachable s reply a c
  reach_on r at_first = r
  reach_on r (asked more q) = asked (reach_on r more) q

  moved : {c d : C} → Moves s reply c d → Reachable s reply c d
  moved stays = at_first
  moved (asking q) = asked at_first q

  -- from the condition c on, the host gives a value outside the wanted class
  record Wrong (c : C) : Type 0 where
    host : C
    put : QuestionDef
    value : Value
    reached : Reachable s reply c host
    asks : Asks s put
    given : (reply host put).0 ≡ Ok value
    outside : Up s.classes value.class put.wanted → ⊥

  -- what a go of at most n steps on a run of the row r comes to
  record Fine (c : C) (r n : ℕ) (g : Gone C) : Type 0 where
    ends : Ends s r n g.end g.run
    typed : Typed s g.run
    reached : Reachable s reply c g.host
    broken : (k q p : ℕ) → g.end ≡ end (BrokenOff break.AnswerClass) k q p → Wrong c

  later : {c d : C} {r n : ℕ} {g : Gone C} → Reachable s reply c d → Fine d r n g → Fine c r n g
  later m f = record {
    ends = f.ends;
    typed = f.typed;
    reached = reach_on m f.reached;
    broken = λ k q p e. let w = f.broken k q p e in
        record { host = w.host; put = w.put; value = w.value; reached = reach_on m w.reached; asks = w.asks; given = w.given; outside = w.outside };
  }

  stopped_ends : {c : C} {r n k q p : ℕ} (e : Ending) → Stops s reply c r e → 0 < k → k ≤ n → Ends s r n (end e k q p) idle
  stopped_ends e (returns u) l h = returned l h u
  stopped_ends e unanswered l h = no_answer l h
  stopped_ends e full l h = frames_full l h
  stopped_ends e (wrong a g o) l h = broken_off l h

  stopped_wrong : {c : C} {r : ℕ} (e : Ending) → Stops s reply c r e → e ≡ BrokenOff break.AnswerClass → Wrong c
  stopped_wrong e (returns u) x = let z : ◌≡◌ {A = ℕ} 0 1 = cc in absurd (omega arith)
  stopped_wrong e unanswered x = let z : ◌≡◌ {A = ℕ} 0 1 = cc in absurd (omega arith)
  stopped_wrong e full x = let z : ◌≡◌ {A = ℕ} 0 1 = cc in absurd (omega arith)
  stopped_wrong e (wrong a g o) x = record { host = _; put = _; value = _; reached = at_first; asks = a; given = g; outside = o }

  module _ (c : C) (r n : ℕ) where
    -- no step is left
    go_none : (k : ℕ) (f : FrameDef) (gs : List FrameDef) → k ≡ n → Typed s (in_hand f gs) → started_row f gs ≡ r → Fine c r n (go_from s reply 0 k (onward f gs c))
    unfolding go_from
    go_none k f gs e t row = record {
      ends = subst (λ x. Ends s r n (end StepsTaken x f.row f.point) (in_hand f gs)) (sym e) (steps_taken row);
      typed = t;
      reached = at_first;
      broken = λ i q p x. let y : StepsTaken ≡ BrokenOff break.AnswerClass = ap (λ (z : End). z.ending) x in let z : ◌≡◌ {A = ℕ} 0 1 = cc in absurd (omega arith);
    }

    -- a step is followed by i more
    go_turn : (i k : ℕ) (t : Turn C) → 0 < k → k ≤ n → Safe s reply c r t
        → ((f : FrameDef) (gs : List FrameDef) (d : C) → Typed s (in_hand f gs) → started_row f gs ≡ r → Fine d r n (go_from s reply i k (onward f gs d)))
        → Fine c r n (go_from s reply i k t)
    unfolding go_from
    go_turn i k (onward f gs d) l h (t, row, m) more = later (moved m) (more f gs d t row)
    go_turn i k (ended e q p d) l h (stop, m) more = record {
      ends = stopped_ends e stop l h;
      typed = tt;
      reached = moved m;
      broken = λ j u v x. stopped_wrong e stop (ap (λ (z : End). z.ending) x);
    }

  go_step : (i k : ℕ) (f : FrameDef) (gs : List FrameDef) (c : C) → go_from s reply (suc i) k (onward f gs c) ≡ go_from s reply i (k + 1) (step_of s reply f gs c)
  unfolding go_from
  go_step i k f gs c = refl

  go_fine : Checked s → (i k n r : ℕ) (f : FrameDef) (gs : List FrameDef) (c : C) → k + i ≡ n → Typed s (in_hand f gs) → started_row f gs ≡ r → Fine c r n (go_from s reply i k (onward f gs c))
  go_fine a zero k n r f gs c e t row = go_none c r n k f gs (omega arith) t row
  go_fine a (suc i) k n r f gs c e t row =
      subst (Fine c r n) (sym (go_step i k f gs c))
      (go_turn c r n i (k + 1) (step_of s reply f gs c) (omega arith) (omega arith) (subst (λ x. Safe s reply c x (step_of s reply f gs c)) row (step_safe s a reply f gs c t))
      (λ g hs d u w. go_fine a i (k + 1) n r g hs d (omega arith) u w))

  whole : (f : FrameDef) (gs : List FrameDef) (c : C) (n : ℕ) → Checked s → Typed s (in_hand f gs) → Fine c (started_row f gs) n (go_from s reply n 0 (onward f gs c))
  whole f gs c n a t = go_fine a n 0 n (started_row f gs) f gs c (omega arith) t refl

pub go_typed : {C : Type 0} (s : Store) (reply : Reply C) (f : FrameDef) (gs : List FrameDef) (c : C) (n : ℕ) → Checked s → Typed s (in_hand f gs)
    → Ends s (started_row f gs) n (go_from s reply n 0 (onward f gs c)).end (go_from s reply n 0 (onward f gs c)).run × Typed s (go_from s reply n 0 (onward f gs c)).run
go_typed s reply f gs c n a t = let g = whole s reply f gs c n a t in (g.ends, g.typed)

pub go_reaches : {C : Type 0} (s : Store) (reply : Reply C) (first : C) (f : FrameDef) (gs : List FrameDef) (c : C) (n : ℕ) → Checked s → Typed s (in_hand f gs)
    → Reachable s reply first c → Reachable s reply first (go_from s reply n 0 (onward f gs c)).host
go_reaches s reply first f gs c n a t r = reach_on s reply r (whole s reply f gs c n a t).reached

pub go_true : {C : Type 0} (s : Store) (reply : Reply C) (first : C) (f : FrameDef) (gs : List FrameDef) (c : C) (n : ℕ) → Checked s → Typed s (in_hand f gs)
    → Reachable s reply first c → TrueTo s reply first → (k q p : ℕ) → (go_from s reply n 0 (onward f gs c)).end ≡ end (BrokenOff break.AnswerClass) k q p → ⊥
go_true s reply first f gs c n a t r true k q p e =
    let w = (whole s reply f gs c n a t).broken k q p e in
    w.outside (true w.host w.put w.value (reach_on s reply r w.reached) w.asks w.given)
