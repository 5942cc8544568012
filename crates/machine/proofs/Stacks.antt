-- A stack of frames: its top, what is below, and what a write at the top leaves.
use Rattle.std.proofs.Common.{◌≡◌, ℕ, zero, suc, ◌+◌, ◌-◌, ◌<◌, ◌≤◌, ltb, List, ◌∷◌, map, length, get_or, set, sym, refl, ap, ◌∙◌, subst, inl, inr, arith}
use Rattle.std.proofs.lemmas.Bool.{cases_Bool, ltb-true, ltb-false}
use Rattle.std.proofs.lemmas.List.{length-map, map-set, get_or-map, get_or-set_same, get_or-set_other}
use Rattle.semantics.specs.Runs.{FrameDef}
use Rattle.machine.specs.declared.frame.Frame.{Frame}
use Rattle.machine.specs.declared.run.Frames.{Frames}
use Rattle.machine.specs.Frames.{frame_of, no_frame, stacked, Waiting}
use Rattle.machine.specs.Turns.{top_of, rest_of}

-- a stack that is not empty
pub stacked_some : (fs : List FrameDef) (d : ℕ) → 0 < d → stacked fs d ≡ get_or fs (d - 1) no_frame ∷ stacked fs (d - 1)
stacked_some fs zero h = absurd (omega arith)
stacked_some fs (suc d) h = let e : d ≡ suc d - 1 = omega arith in ap (λ n. get_or fs n no_frame ∷ stacked fs n) e

pub stacked_length : (fs : List FrameDef) (d : ℕ) → length (stacked fs d) ≡ d
stacked_length fs zero = refl
stacked_length fs (suc d) = ap suc (stacked_length fs d)

-- the frame that was written
written : (xs : List Frame) (t : ℕ) (x : Frame) → t < length xs → get_or (map frame_of (set xs t x)) t no_frame ≡ frame_of x
written xs t x h = ap (λ l. get_or l t no_frame) (map-set frame_of xs t x) ∙ get_or-set_same (map frame_of xs) t (frame_of x) no_frame (omega (arith, h, length-map xs frame_of))

-- the frames below it
unwritten : (xs : List Frame) (t k : ℕ) (x : Frame) → k < t → get_or (map frame_of (set xs t x)) k no_frame ≡ get_or (map frame_of xs) k no_frame
unwritten xs t k x h = ap (λ l. get_or l k no_frame) (map-set frame_of xs t x) ∙ get_or-set_other (map frame_of xs) t k (frame_of x) no_frame (λ e. omega (arith, h, e))

below_same : (xs : List Frame) (t d : ℕ) (x : Frame) → d ≤ t → stacked (map frame_of (set xs t x)) d ≡ stacked (map frame_of xs) d
below_same xs t zero x h = refl
below_same xs t (suc d) x h = λ i. unwritten xs t d x (omega arith) i ∷ below_same xs t d x (omega arith) i

-- the frame on top as F makes it of the one that was there, and the frames below, which still wait
pub top_written : (r : Frames) (x y : Frame) (F : FrameDef → FrameDef) → frame_of x ≡ F (frame_of (get_or r.frames (r.depth - 1) y)) → get_or (map frame_of (set r.frames (r.depth - 1) x)) (r.depth - 1) no_frame ≡ F (top_of r)
top_written r x y F e =
    let h : r.depth - 1 < length r.frames = omega (arith, r.some, r.few, r.long) in
    written r.frames (r.depth - 1) x h ∙ e ∙ ap F (sym (get_or-map frame_of r.frames (r.depth - 1) y no_frame h))

pub rest_kept : (r : Frames) (x : Frame) → stacked (map frame_of (set r.frames (r.depth - 1) x)) (r.depth - 1) ≡ rest_of r
rest_kept r x = below_same r.frames (r.depth - 1) (r.depth - 1) x (omega arith)

pub rest_waits : (r : Frames) (x : Frame) → Waiting (set r.frames (r.depth - 1) x) r.depth
rest_waits r x k h = let P : ℕ → Type 0 = λ n. n < 64 in subst P (sym (ap (λ f. f.point) (unwritten r.frames (r.depth - 1) k x (omega arith)))) (r.waiting k h)

-- a frame more: the top, what is below, and that it waits
pub more_top : (r : Frames) (x : Frame) → r.depth < length r.frames → get_or (map frame_of (set r.frames r.depth x)) (r.depth + 1 - 1) no_frame ≡ frame_of x
more_top r x h = let e : r.depth + 1 - 1 ≡ r.depth = omega arith in ap (λ n. get_or (map frame_of (set r.frames r.depth x)) n no_frame) e ∙ written r.frames r.depth x h

pub more_rest : (r : Frames) (x : Frame) → stacked (map frame_of (set r.frames r.depth x)) (r.depth + 1 - 1) ≡ top_of r ∷ rest_of r
more_rest r x = let e : r.depth + 1 - 1 ≡ r.depth = omega arith in ap (stacked (map frame_of (set r.frames r.depth x))) e ∙ below_same r.frames r.depth r.depth x (omega arith) ∙ stacked_some (map frame_of r.frames) r.depth r.some

pub more_wait : (r : Frames) (x : Frame) → (top_of r).point < 64 → Waiting (set r.frames r.depth x) (r.depth + 1)
more_wait r x t k h =
    let P : ℕ → Type 0 = λ n. n < 64 in
    subst P (sym (ap (λ f. f.point) (unwritten r.frames r.depth k x (omega arith))))
    (elim (cases_Bool (ltb (k + 1) r.depth)) [
      | inl e ↦ r.waiting k (ltb-true (k + 1) r.depth e)
      | inr e ↦ let l = ltb-false (k + 1) r.depth e in let s : r.depth - 1 ≡ k = omega arith in subst P (ap (λ n. (get_or (map frame_of r.frames) n no_frame).point) s) t
    ])
