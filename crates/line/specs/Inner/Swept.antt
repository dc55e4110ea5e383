-- The pixels of a swept pair that may be missing.
use Rattle.std.specs.Prelude.{Option, Some, None}
use Rattle.columns.specs.declared.Columns.{Columns}
use Rattle.columns.specs.declared.Pair.{Pair}
use Rattle.columns.specs.Inner.Swept.{swept_at}

-- the pixels of a swept pair that may be missing, by the formula of the code: those that are swept (proofs/SweptPixel.antt)
abbrev pub swept_pixels : Columns → Option Pair → Option Pair
swept_pixels columns None = None
swept_pixels columns (Some p) = swept_at columns p.low p.high
