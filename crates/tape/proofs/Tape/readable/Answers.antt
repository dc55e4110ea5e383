-- `tape::Tape::readable` meets its contract: a readable tape is sound for the alphabet of all bytes.
use Rattle.std.proofs.Common.{sym, subst, arith}
use Rattle.tape.specs.Inner.Checks.{Readable}
use Rattle.tape.proofs.Below.{bytes_sound}
use Rattle.tape.proofs.Tape.readable.Goals as goal

pub invariant_of-result : goal.invariant_of-result
invariant_of-result c =
    bytes_sound _ (subst Readable (sym c.self.view_is) c.requires) (omega arith) c.bytes_below.ensures c.bytes_below-2.ensures
