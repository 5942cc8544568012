use Rattle.std.proofs.Common.{◌≡◌, [], ◌∷◌, length, ap, ◌∙◌, arith}
use Rattle.semantics.specs.Pieces.{parted}
use Rattle.text.specs.Parts.{piece_of, parts_in, parts_left}
use Rattle.text.proofs.Cuts.{next_more, next_last}
use Rattle.text.proofs.part.cuts.PartsIterator.next.Goals as goal
use Rattle.text.proofs.part.cuts.PartsIterator.next.Goals.{In-Some, In-None}

-- the parts that were left, with more behind the first and without
more : (c : In-Some) → parts_left c.args.self.now ≡ piece_of c.in-Some.first ∷ parted c.args.self.now.separator c.in-Some.behind.at c.in-Some.behind.bytes.now
more c =
    let s = c.args.self.now in
    let p = c.in_ok-part.part in
    ap (parts_in s.separator) c.in_ok-part.was ∙ next_more s.separator p.at p.bytes.now (piece_of c.in-Some.first) (piece_of c.in-Some.behind) c.in-Some.ensures

last : (c : In-None) → parts_left c.args.self.now ≡ piece_of c.in_ok-part.part ∷ []
last c =
    let s = c.args.self.now in
    let p = c.in_ok-part.part in
    ap (parts_in s.separator) c.in_ok-part.was ∙ next_last s.separator p.at p.bytes.now c.in-None.ensures

pub returns-in-Some-clause-steps : goal.returns-in-Some-clause-steps
returns-in-Some-clause-steps c = more (goal.at.returns-in-Some-clause-steps c).In-Some

pub returns-in-Some-clause-goes : goal.returns-in-Some-clause-goes
returns-in-Some-clause-goes c = record { on = λ _. (tt, tt, omega (arith, ap length (more (goal.at.returns-in-Some-clause-goes c).In-Some))); keeps = tt; rests = λ _. tt }

pub returns-in-None-clause-steps : goal.returns-in-None-clause-steps
returns-in-None-clause-steps c = last (goal.at.returns-in-None-clause-steps c).In-None

pub returns-in-None-clause-goes : goal.returns-in-None-clause-goes
returns-in-None-clause-goes c = record { on = λ _. (tt, tt, omega (arith, ap length (last (goal.at.returns-in-None-clause-goes c).In-None))); keeps = tt; rests = λ _. tt }
