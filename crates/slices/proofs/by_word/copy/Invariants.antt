-- `slices::by_word::copy` meets its contract: at each turn the bytes before the word at hand, and before the byte at hand, are copied.
use Rattle.std.proofs.Common.{◌≡◌, ℕ, ◌*◌, ◌<◌, get_or}
use Rattle.slices.proofs.by_word.copy.Given as goal

abbrev pub invariant-loop-turn : goal.invariant-loop-turn
invariant-loop-turn l = (k : ℕ) → k < 8 * l.turn → get_or l.to k 0 ≡ get_or l.from k 0

abbrev pub invariant-loop-k : goal.invariant-loop-k
invariant-loop-k l = (k : ℕ) → k < l.k → get_or l.to k 0 ≡ get_or l.from k 0
