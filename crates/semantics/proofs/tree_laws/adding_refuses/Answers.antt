use Rattle.std.proofs.Common.{ℕ, List, ap, inl, inr, arith}
use Rattle.semantics.specs.TreeLaws.{Refuses, refusal_number}
use Rattle.semantics.proofs.TreeGrowth.{Way, absent, full, deep, ok, way}
use Rattle.semantics.proofs.tree_laws.adding_refuses.Goals as goal

refuses : (ps : List ℕ) (p : ℕ) → Way ps p → Refuses ps p
refuses ps p (absent h e) = let n = ap refusal_number e in record {
  absent = (λ q. h, λ q. n);
  full = (λ q. absurd (omega arith), λ q. absurd (omega arith));
  accepts = (λ q. let m = ap refusal_number q in absurd (omega arith), λ q. absurd (omega arith));
}
refuses ps p (full h r e) = let n = ap refusal_number e in record {
  absent = (λ q. absurd (omega arith), λ q. absurd (omega arith));
  full = (λ q. (h, inl r), λ q. n);
  accepts = (λ q. let m = ap refusal_number q in absurd (omega arith), λ q. absurd (omega arith));
}
refuses ps p (deep h r d e) = let n = ap refusal_number e in record {
  absent = (λ q. absurd (omega arith), λ q. absurd (omega arith));
  full = (λ q. (h, inr d), λ q. n);
  accepts = (λ q. let m = ap refusal_number q in absurd (omega arith), λ q. absurd (omega arith));
}
refuses ps p (ok h r d e) = let n = ap refusal_number e in record {
  absent = (λ q. absurd (omega arith), λ q. absurd (omega arith));
  full = (λ q. absurd (omega arith), λ q. absurd (elim q.1 [ inl f ↦ omega arith | inr f ↦ omega arith ]));
  accepts = (λ q. (h, r, d), λ q. e);
}

pub returns : goal.returns
returns c = λ ps p. refuses ps p (way ps p)
