-- `shade::tally_shade` meets its contract: a tally's share is a share, so it has an ink.
use Rattle.std.proofs.Common.{sym, ap, ◌∙◌, arith}
use Rattle.shade.specs.Share.{tally_share}
use Rattle.shade.specs.Shade.{ink_of, tally_shade}
use Rattle.shade.proofs.Shares.{tally_is_share}
use Rattle.shade.proofs.Shades.{tally-paper, shade_written}
use Rattle.shade.proofs.tally_shade.Goals as goal

pub ink-requires : goal.ink-requires
ink-requires c =
    rw c.tally_share.ensures (tally_is_share c.args.tally c.args.cells c.requires.0 (omega arith) c.requires.1)

pub returns-then-tally-eq0 : goal.returns-then-tally-eq0
returns-then-tally-eq0 c = sym ((tally-paper c.args.tally c.args.cells).1 c.if-tally-eq0.true)

pub returns-else-tally-eq0 : goal.returns-else-tally-eq0
unfolding tally_shade
returns-else-tally-eq0 c =
    let a = c.args in
    c.ink.ensures
    ∙ ap ink_of c.tally_share.ensures
    ∙ sym (shade_written a.tally (tally_share a.tally a.cells) c.if-tally-eq0.false)
