-- What the probes answer: the function's own answer in its domain, 255 outside.
use Rattle.std.specs.Prelude.{ℕ, cond, eqb, ltb}
use Rattle.limits.specs.Limits.{max_symbols, max_cells}
use Rattle.shade.specs.Shade.{tally_shade, symbol_shade}

abbrev pub outside : ℕ
outside = 255

abbrev pub tally_probe : ℕ → ℕ → ℕ
tally_probe tally cells =
    cond (ltb cells tally) outside
    (cond (eqb cells 0) outside
    (cond (ltb max_cells cells) outside (tally_shade tally cells)))

abbrev pub symbol_probe : ℕ → ℕ → ℕ
symbol_probe symbol symbols =
    cond (ltb max_symbols symbols) outside
    (cond (ltb symbol symbols) (symbol_shade symbol symbols) outside)
