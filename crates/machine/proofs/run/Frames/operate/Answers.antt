use Rattle.std.proofs.Common.{map, Some, None, sym, ap, ◌∙◌}
use Rattle.semantics.specs.declared.operation.Operand.TheVariants as operand
use Rattle.semantics.specs.Items.{items_of}
use Rattle.semantics.specs.Methods.{op_of, label_of}
use Rattle.semantics.specs.Runs.{operate}
use Rattle.machine.specs.Frames.{frame_of, store_of}
use Rattle.machine.specs.Turns.{top_of, rest_of}
use Rattle.machine.proofs.Codes.{op_here}
use Rattle.machine.proofs.Turning.{given_back_turn, jump_turn, jump_if_turn, jump_list_turn}
use Rattle.machine.proofs.run.Frames.operate.Goals as goal

pub returns-in_default : goal.returns-in_default
returns-in_default g c =
    let s = store_of g.T.ClassTable.listed c.args.store.now in
    let r = c.args.self.now in
    let e = g.H.Host.condition c.args.host.now in
    given_back_turn s (top_of r) (rest_of r) e (operand.Local 0) c.give_back.result c.give_back.new.self c.give_back.ensures
    ∙ ap (operate s g.H.Host.reply (top_of r) (rest_of r) e)
    (op_here c.args.code.now c.as_slice.result.now c.top-frame.result.now (top_of r) c.get.result None c.as_slice.ensures c.top-frame.ensures c.get.ensures.lookup c.in_default.is)

pub returns-in-Return : goal.returns-in-Return
returns-in-Return g c =
    let s = store_of g.T.ClassTable.listed c.args.store.now in
    let r = c.args.self.now in
    let e = g.H.Host.condition c.args.host.now in
    given_back_turn s (top_of r) (rest_of r) e c.in-Return.operand c.give_back-in-Return.result c.give_back-in-Return.new.self c.give_back-in-Return.ensures
    ∙ ap (operate s g.H.Host.reply (top_of r) (rest_of r) e)
    (sym (ap op_of c.in-Return.is) ∙ op_here c.args.code.now c.as_slice.result.now c.top-frame.result.now (top_of r) c.get.result (Some c.in-Some.operation) c.as_slice.ensures c.top-frame.ensures c.get.ensures.lookup c.in-Some.is)

pub returns-in-Jump : goal.returns-in-Jump
returns-in-Jump g c =
    let s = store_of g.T.ClassTable.listed c.args.store.now in
    let r = c.args.self.now in
    let e = g.H.Host.condition c.args.host.now in
    jump_turn s g.H.Host.reply (frame_of c.top-frame.result.now) (top_of r) (rest_of r) e (op_of c.in-Some.operation.now) (map label_of c.as_slice-2.result.now) c.to-to.result c.moved.result c.moved.new.self
    c.top-frame.ensures (ap (map label_of) c.as_slice-2.ensures ∙ sym (ap (λ b. b.labels) c.requires)) c.moved.ensures
    c.in-Jump.label (ap op_of c.in-Jump.is) c.to-to.ensures
    ∙ ap (operate s g.H.Host.reply (top_of r) (rest_of r) e)
    (sym (ap op_of c.in-Jump.is) ∙ op_here c.args.code.now c.as_slice.result.now c.top-frame.result.now (top_of r) c.get.result (Some c.in-Some.operation) c.as_slice.ensures c.top-frame.ensures c.get.ensures.lookup c.in-Some.is)

pub returns-in-JumpIf : goal.returns-in-JumpIf
returns-in-JumpIf g c =
    let s = store_of g.T.ClassTable.listed c.args.store.now in
    let r = c.args.self.now in
    let e = g.H.Host.condition c.args.host.now in
    jump_if_turn s g.H.Host.reply (frame_of c.top-frame.result.now) (top_of r) (rest_of r) e (op_of c.in-Some.operation.now) (map label_of c.as_slice-2.result.now) c.if_true-to.result c.moved-in-JumpIf.result c.moved-in-JumpIf.new.self
    c.top-frame.ensures (ap (map label_of) c.as_slice-2.ensures ∙ sym (ap (λ b. b.labels) c.requires)) c.moved-in-JumpIf.ensures
    c.in-JumpIf.condition c.in-JumpIf.label (ap op_of c.in-JumpIf.is) c.if_true-to.ensures
    ∙ ap (operate s g.H.Host.reply (top_of r) (rest_of r) e)
    (sym (ap op_of c.in-JumpIf.is) ∙ op_here c.args.code.now c.as_slice.result.now c.top-frame.result.now (top_of r) c.get.result (Some c.in-Some.operation) c.as_slice.ensures c.top-frame.ensures c.get.ensures.lookup c.in-Some.is)

pub returns-in-JumpList : goal.returns-in-JumpList
returns-in-JumpList g c =
    let s = store_of g.T.ClassTable.listed c.args.store.now in
    let r = c.args.self.now in
    let e = g.H.Host.condition c.args.host.now in
    jump_list_turn s g.H.Host.reply (frame_of c.top-frame.result.now) (top_of r) (rest_of r) e (op_of c.in-Some.operation.now) (map label_of c.as_slice-2.result.now) c.by_list-to.result c.moved-in-JumpList.result c.moved-in-JumpList.new.self
    c.top-frame.ensures (ap (map label_of) c.as_slice-2.ensures ∙ sym (ap (λ b. b.labels) c.requires)) c.moved-in-JumpList.ensures
    c.in-JumpList.selector (items_of c.in-JumpList.list) (ap op_of c.in-JumpList.is) c.by_list-to.ensures
    ∙ ap (operate s g.H.Host.reply (top_of r) (rest_of r) e)
    (sym (ap op_of c.in-JumpList.is) ∙ op_here c.args.code.now c.as_slice.result.now c.top-frame.result.now (top_of r) c.get.result (Some c.in-Some.operation) c.as_slice.ensures c.top-frame.ensures c.get.ensures.lookup c.in-Some.is)

pub returns-in-Invoke : goal.returns-in-Invoke
returns-in-Invoke g c =
    let s = store_of g.T.ClassTable.listed c.args.store.now in
    let r = c.args.self.now in
    let e = g.H.Host.condition c.args.host.now in
    c.invoke.ensures
    ∙ ap (operate s g.H.Host.reply (top_of r) (rest_of r) e)
    (sym (ap op_of c.in-Invoke.is) ∙ op_here c.args.code.now c.as_slice.result.now c.top-frame.result.now (top_of r) c.get.result (Some c.in-Some.operation) c.as_slice.ensures c.top-frame.ensures c.get.ensures.lookup c.in-Some.is)
