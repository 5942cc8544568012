use Rattle.std.proofs.Common.{◌≡◌, eqb, length, ap, arith, rules}
use Rattle.std.specs.List.{count_by}
use Rattle.text.specs.Parts.{parts_in}
use Rattle.text.proofs.Cuts.{parted_length}
use Rattle.text.proofs.part.Parts.len.Goals as goal

pub returns-in-Some : goal.returns-in-Some
returns-in-Some c =
    let s = c.args.self.now in
    let p = c.in-Some.part in
    let e : c.count.result ≡ count_by (λ x. eqb x s.separator) p.bytes.now = search rules in
    omega (arith, e, parted_length s.separator p.at p.bytes.now, ap (λ x. length (parts_in s.separator x)) c.in-Some.is)
