-- The share of a tally and that of a symbol lie between 0 and 1, and a share has a value.
use Rattle.std.proofs.Common.{◌≡◌, ℕ, ◌-◌, ◌^◌, ◌<◌, ◌≤◌, max, false, pos, ◌∙◌, mul-one, arith, lit<, lit≤}
use lib.Ieee.{binary64, low, round, of_int}
use lib.Ieee.Exact.{HasValue}
use lib.Ieee.Scale.{grid}
use lib.Ieee.Order.{round_mono}
use Rattle.limits.specs.Limits.{max_symbols, max_cells}
use Rattle.shade.specs.Byte.{byte_of}
use Rattle.shade.specs.Share.{share, tally_share, symbol_share}
use Rattle.shade.specs.Inner.Share.{IsShare}
use Rattle.shade.proofs.Value.{of_whole, div_value}
use Rattle.shade.proofs.Bytes.{byte_mono, rounded_value}

pub share_rounds : (a b : ℕ) → a ≤ 2 ^ 53 → 0 < b → b ≤ 2 ^ 53 → share a b ≡ round binary64 false a b
unfolding share
share_rounds a b A B C =
    div_value binary64 false false a 1 b 1 (lit< tt) (lit< tt) (of_int binary64 (pos a)) (of_int binary64 (pos b)) B (of_whole a A) (of_whole b C)
    ∙ rw (mul-one a, mul-one b)

pub is_share : (a b : ℕ) → a ≤ b → 0 < b → b ≤ 2 ^ 53 → IsShare (share a b)
unfolding of_int
is_share a b h B C =
    rw (share_rounds a b (omega arith) B C) (record {
      least = round_mono binary64 0 1 a b (lit< tt) B (omega arith);
      most = round_mono binary64 a b 1 1 B (lit< tt) (omega arith);
    })

-- its value in units of the smallest float
pub share_value : (a b : ℕ) → a ≤ b → 0 < b → b ≤ 2 ^ 53 → HasValue (share a b) false (grid binary64 a b) (2 ^ low binary64)
share_value a b h B C =
    let one : byte_of (round binary64 false 1 1) ≤ 1 = unfold round byte_of in lit≤ tt in
    let low = byte_mono (round binary64 false a b) (round binary64 false 1 1) (round_mono binary64 a b 1 1 B (lit< tt) (omega arith)) in
    rw (share_rounds a b (omega arith) B C) (rounded_value binary64 a b (omega arith))

pub tally_is_share : (tally cells : ℕ) → tally ≤ cells → 0 < cells → cells ≤ max_cells → IsShare (tally_share tally cells)
tally_is_share tally cells h C l = is_share tally cells h C (omega arith)

pub symbol_is_share : (symbol symbols : ℕ) → symbol < symbols → symbols ≤ max_symbols → IsShare (symbol_share symbol symbols)
symbol_is_share symbol symbols h l = is_share symbol (max 1 (symbols - 1)) (omega arith) (omega arith) (omega arith)
