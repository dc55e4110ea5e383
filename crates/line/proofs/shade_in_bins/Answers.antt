-- `line::shade_in_bins` meets its contract: the tallies, then their shades and their sum.
use mathlib.Core.Path.{ap, ◌∙◌}
use Rattle.columns.specs.Bins.{units_of}
use Rattle.line.proofs.Parts.{tallied_length, tallied_most, tallied_shades}
use native.Mathlib.Omega.{arith}
use Rattle.line.proofs.shade_in_bins.Goals as goal

pub shade_bins-requires : goal.shade_bins-requires
shade_bins-requires c =
    let t = c.row_tallies.ensures in
    (omega (arith, tallied_length _ _ _ _ t, c.requires.1), c.requires.0.3, tallied_most _ _ _ _ t)

pub units-requires : goal.units-requires
units-requires c =
    let t = c.row_tallies.ensures in
    (omega (arith, tallied_length _ _ _ _ t, c.requires.0.1), λ v. omega (arith, tallied_most _ _ _ _ t v, c.requires.0.3))

pub returns : goal.returns
returns c =
    let t = c.row_tallies.ensures in
    record { value = c.units.ensures ∙ ap units_of t; line_after = tallied_shades _ _ _ _ t _ _ c.shade_bins.ensures; tallies_after = t }
