-- A go, turn by turn: what is still to come, from the outcome of the last step and the run as it stands.
use Rattle.std.proofs.Common.{◌≡◌, ℕ, zero, suc, ◌+◌, List, Ok, Err, Result, sym, refl, ap, ◌∙◌, arith}
use Rattle.semantics.specs.declared.ending.End.{End}
use Rattle.semantics.specs.declared.ending.Ending.{Ending}
use Rattle.semantics.specs.declared.ending.Ending.TheVariants.{StepsTaken}
use Rattle.semantics.specs.declared.refusal.Refusal.{Refusal}
use Rattle.semantics.specs.declared.refusal.Refusal.TheVariants.{NoRunInHand}
use Rattle.semantics.specs.Cards.{go_run, host_after}
use Rattle.semantics.specs.Endings.{end}
use Rattle.semantics.specs.Hosts.{Reply}
use Rattle.semantics.specs.Reading.{so}
use Rattle.semantics.specs.Runs.{FrameDef, RunDef, idle, in_hand, onward, ended, step_of, Gone, gone, go_from}
use Rattle.semantics.specs.Stores.{Store}
use Rattle.machine.specs.declared.run.Frames.{Frames}
use Rattle.machine.specs.declared.run.Run.{Run}
use Rattle.machine.specs.declared.run.Run.TheVariants as run
use Rattle.machine.specs.declared.run.stop.Stop.{Stop}
use Rattle.machine.specs.Turns.{top_of, rest_of, run_of, turned, run_after}

go_ended : {C : Type 0} (s : Store) (reply : Reply C) (n k : ℕ) (e : Ending) (r p : ℕ) (c : C) → go_from s reply n k (ended e r p c) ≡ gone (end e k r p) idle c
unfolding go_from
go_ended s reply zero k e r p c = refl
go_ended s reply (suc n) k e r p c = refl

go_taken : {C : Type 0} (s : Store) (reply : Reply C) (k : ℕ) (f : FrameDef) (gs : List FrameDef) (c : C) → go_from s reply 0 k (onward f gs c) ≡ gone (end StepsTaken k f.row f.point) (in_hand f gs) c
unfolding go_from
go_taken s reply k f gs c = refl

go_step : {C : Type 0} (s : Store) (reply : Reply C) (n k : ℕ) (f : FrameDef) (gs : List FrameDef) (c : C) → go_from s reply (suc n) k (onward f gs c) ≡ go_from s reply n (k + 1) (step_of s reply f gs c)
unfolding go_from
go_step s reply n k f gs c = refl

-- what a go answers and leaves
pub record Left (C : Type 0) : Type 0 where
  pub answer : Result End Refusal
  pub run : RunDef
  pub host : C

abbrev pub left : {C : Type 0} → Result End Refusal → RunDef → C → Left C
left a r c = record { answer = a; run = r; host = c }

abbrev left_by : {C : Type 0} → Gone C → Left C
left_by g = left (Ok g.end) g.run g.host

-- the run r after k steps, of which the last answered o, with n steps to go
abbrev pub on_from : {C : Type 0} → Store → Reply C → ℕ → ℕ → Result (Unit {0}) Stop → Run → C → Left C
on_from s reply n k o run.Idle c = left (Err NoRunInHand) idle c
on_from s reply n k o (run.InHand r) c = left_by (go_from s reply n k (turned o r c))

-- the run ended
pub turn_ended : {C : Type 0} (s : Store) (reply : Reply C) (n k : ℕ) (o : Result (Unit {0}) Stop) (q : Stop) (p : Run) (r : Frames) (c : C) (all : Left C) → p ≡ run.InHand r → o ≡ Err q → on_from s reply n k o p c ≡ all → left (Ok (end q.ending k q.row q.point)) idle c ≡ all
turn_ended s reply n k o q p r c all i e inv =
    sym (ap left_by (go_ended s reply n k q.ending q.row q.point c)) ∙ (λ j. on_from s reply n k (sym e j) (sym i j) c) ∙ inv

-- the steps are taken
pub turn_taken : {C : Type 0} (s : Store) (reply : Reply C) (n k : ℕ) (o : Result (Unit {0}) Stop) (u : Unit {0}) (p : Run) (r : Frames) (c : C) (all : Left C) (x : End) → p ≡ run.InHand r → o ≡ Ok u → n ≡ 0 → x ≡ end StepsTaken k (top_of r).row (top_of r).point → on_from s reply n k o p c ≡ all → left (Ok x) (in_hand (top_of r) (rest_of r)) c ≡ all
turn_taken s reply n k o u p r c all x i e z h inv =
    (λ j. left (Ok (h j)) (in_hand (top_of r) (rest_of r)) c)
    ∙ sym (ap left_by (ap (λ m. go_from s reply m k (onward (top_of r) (rest_of r) c)) z ∙ go_taken s reply k (top_of r) (rest_of r) c))
    ∙ (λ j. on_from s reply n k (sym e j) (sym i j) c) ∙ inv

-- one step more
pub turn_step : {C : Type 0} (s : Store) (reply : Reply C) (n m k : ℕ) (o v : Result (Unit {0}) Stop) (u : Unit {0}) (p : Run) (r q : Frames) (c d : C) (all : Left C) → p ≡ run.InHand r → o ≡ Ok u → n ≡ m + 1 → turned v q d ≡ step_of s reply (top_of r) (rest_of r) c → on_from s reply n k o p c ≡ all → on_from s reply m (k + 1) v (run.InHand q) d ≡ all
turn_step s reply n m k o v u p r q c d all i e z h inv =
    ap left_by (ap (go_from s reply m (k + 1)) h ∙ sym (go_step s reply m k (top_of r) (rest_of r) c) ∙ ap (λ x. go_from s reply x k (onward (top_of r) (rest_of r) c)) (let y : suc m ≡ n = omega arith in y))
    ∙ (λ j. on_from s reply n k (sym e j) (sym i j) c) ∙ inv

-- what a whole go comes to
pub goes : {C : Type 0} (s : Store) (reply : Reply C) (n : ℕ) (p : Run) (c d : C) (a : Result End Refusal) (q : RunDef) → left a q d ≡ on_from s reply n 0 (Ok tt) p c → (a ≡ so (go_run s reply n c (run_of p)) (λ g. Ok g.end)) × (q ≡ run_after (run_of p) (go_run s reply n c (run_of p))) × (d ≡ host_after c (go_run s reply n c (run_of p)))
goes s reply n run.Idle c d a q e = (ap (λ l. l.answer) e, ap (λ l. l.run) e, ap (λ l. l.host) e)
goes s reply n (run.InHand r) c d a q e = (ap (λ l. l.answer) e, ap (λ l. l.run) e, ap (λ l. l.host) e)
