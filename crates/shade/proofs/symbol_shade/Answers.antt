-- `shade::symbol_shade` meets its contract: a symbol's share is a share, so it has an ink.
use Rattle.std.proofs.Common.{sym, ap, ◌∙◌}
use Rattle.shade.specs.Share.{symbol_share}
use Rattle.shade.specs.Shade.{ink_of, symbol_shade}
use Rattle.shade.proofs.Shares.{symbol_is_share}
use Rattle.shade.proofs.Shades.{symbol-paper, shade_written}
use Rattle.shade.proofs.symbol_shade.Goals as goal

pub ink-requires : goal.ink-requires
ink-requires c =
    rw c.symbol_share.ensures (symbol_is_share c.args.symbol c.args.symbols c.requires.0 c.requires.1)

pub returns-then-symbol-eq0 : goal.returns-then-symbol-eq0
returns-then-symbol-eq0 c = sym ((symbol-paper c.args.symbol c.args.symbols).1 c.if-symbol-eq0.true)

pub returns-else-symbol-eq0 : goal.returns-else-symbol-eq0
unfolding symbol_shade
returns-else-symbol-eq0 c =
    let a = c.args in
    c.ink.ensures
    ∙ ap ink_of c.symbol_share.ensures
    ∙ sym (shade_written a.symbol (symbol_share a.symbol a.symbols) c.if-symbol-eq0.false)
