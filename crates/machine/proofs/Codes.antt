-- The operation of a point, as it was read.
use Rattle.std.proofs.Common.{◌≡◌, List, map, get_or, Option, Bor, unwrap_or, sym, ap, ◌∙◌, arith}
use Rattle.std.proofs.Math.ListN.{get_or-map}
use Rattle.std.specs.Option.{option_copied}
use Rattle.std.specs.Slice.{IsItemAt}
use Rattle.semantics.specs.declared.body.Code.{Code}
use Rattle.semantics.specs.declared.operation.Operand.TheVariants as operand
use Rattle.semantics.specs.declared.operation.Operation.{Operation}
use Rattle.semantics.specs.declared.operation.Operation.TheVariants.{Return}
use Rattle.semantics.specs.Items.{items_of}
use Rattle.semantics.specs.Methods.{return, op_of}
use Rattle.semantics.specs.Runs.{FrameDef}
use Rattle.semantics.specs.Stores.{code_of, op_at}
use Rattle.machine.specs.declared.frame.Frame.{Frame}
use Rattle.machine.specs.Frames.{frame_of}

-- what was read at the point at which a frame stands; behind the code it is a return of local 0
pub op_here : (b : Code) (xs : List Operation) (k : Frame) (f : FrameDef) (r q : Option (Bor Operation)) → xs ≡ items_of b.points → frame_of k ≡ f → IsItemAt xs k.point r → r ≡ q → op_of (unwrap_or (option_copied q) (Return (operand.Local 0))) ≡ op_at (code_of b) f.point
op_here b xs k f r q e top at is =
    ap (λ o. op_of (unwrap_or (option_copied o) (Return (operand.Local 0)))) (sym is) ∙ ap op_of (at.4 (omega arith) (Return (operand.Local 0)))
    ∙ sym (get_or-map op_of xs k.point (Return (operand.Local 0)))
    ∙ (λ i. get_or (map op_of (e i)) (top i).point (return (operand.Local 0)))
