use Rattle.std.proofs.Common.{eqb, sym, ap, ◌∙◌, rules, tests}
use Rattle.std.proofs.lemmas.Iterator.{YieldsList-from_slice}
use Rattle.std.proofs.lemmas.Iterator.Search.{position_from_yields_List}
use Rattle.text.specs.Parts.{pieces_in}
use Rattle.text.proofs.Cuts.{cut_none, cut_some}
use Rattle.text.proofs.part.Part.split_once.Goals as goal

pub returns-in_err-n : goal.returns-in_err-n
returns-in_err-n c =
    let h = position_from_yields_List (λ x. eqb x c.args.separator) _ _ c.position.result c.position.ensures.ran (YieldsList-from_slice c.args.self.bytes.now cc) (λ x b q k. search (rules, tests)) in
    ap pieces_in c.from_residual.ensures ∙ cut_none c.args.separator c.args.self.at c.args.self.bytes.now (sym c.in_err-n.was ∙ h)

pub returns : goal.returns
returns c =
    let h = position_from_yields_List (λ x. eqb x c.args.separator) _ _ c.position.result c.position.ensures.ran (YieldsList-from_slice c.args.self.bytes.now cc) (λ x b q k. search (rules, tests)) in
    cut_some c.args.separator c.args.self.at c.in_ok-n.n c.args.self.bytes.now (sym c.in_ok-n.was ∙ h)
