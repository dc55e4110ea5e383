-- `slices::by_word::fill` meets its contract: at each turn the bytes before the word at hand, and before the byte at hand, are set.
use Rattle.std.proofs.Common.{◌≡◌, ℕ, ◌*◌, ◌<◌, get_or}
use Rattle.slices.proofs.by_word.fill.Given as goal

abbrev pub invariant-loop-turn : goal.invariant-loop-turn
invariant-loop-turn l = (k : ℕ) → k < 8 * l.turn → get_or l.bytes k 0 ≡ l.value

abbrev pub invariant-loop-byte : goal.invariant-loop-byte
invariant-loop-byte l = (k : ℕ) → k < l.byte-index → get_or l.byte-items k 0 ≡ l.value
