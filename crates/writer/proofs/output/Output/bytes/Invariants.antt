use Rattle.std.proofs.Common.{◌≡◌, drop}
use Rattle.writer.specs.Putting.{put}
use Rattle.writer.proofs.output.Output.bytes.Given as goal

abbrev pub invariant-loop-byte : goal.invariant-loop-byte
invariant-loop-byte l = put (drop l.byte-index l.bytes) l.self ≡ put l.bytes l.initial.self
