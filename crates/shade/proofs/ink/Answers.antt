-- `shade::ink` meets its contract: the byte of a share of the range leaves room for the least ink.
use Rattle.std.proofs.Common.{ap, ◌∙◌, arith}
use lib.Ieee.{binary64, mul}
use Rattle.shade.specs.Byte.{byte_of}
use Rattle.shade.specs.Shade.{ink_of}
use Rattle.shade.proofs.Shades.{ink-most}
use Rattle.shade.proofs.ink.Goals as goal

pub overflow_add-result : goal.overflow_add-result
unfolding ink_of
overflow_add-result c =
    let byte_is = c.byte.ensures ∙ ap (λ x. byte_of (mul binary64 c.args.share x)) c.from.ensures in
    record { fits = omega (arith, byte_is, ink-most c.args.share c.requires) }
