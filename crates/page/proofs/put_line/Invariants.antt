-- `page::put_line` meets its contract: at each turn the line stands up to pixel x, and behind it are spaces.
use Rattle.std.proofs.Common.{◌≡◌, ℕ, ◌+◌, ◌<◌, ◌≤◌, length, slice_index}
use Rattle.page.specs.Page.{line_character}
use Rattle.page.proofs.put_line.Given as goal

abbrev pub invariant-loop-x : goal.invariant-loop-x
invariant-loop-x l = record {
  done : (k : ℕ) → k < 21 + l.x → slice_index l.line k ≡ line_character l.step (length l.pixels) (slice_index l.pixels) k;
  blank : (k : ℕ) → 21 + l.x ≤ k → k < 81 → slice_index l.line k ≡ 32;
}
