-- `page::put_step` meets its contract: at each turn the places from k on stand, and the digits on them are gone from `left`.
use Rattle.std.proofs.Common.{◌≡◌, ℕ, ◌-◌, ◌/◌, ◌^◌, ◌<◌, ◌≤◌, length, slice_index}
use Rattle.page.specs.Page.{step_character}
use Rattle.page.proofs.put_step.Given as goal

abbrev pub invariant-loop-k : goal.invariant-loop-k
invariant-loop-k l = record {
  long : length l.places ≡ 20;
  rest : l.left ≡ l.step / 10 ^ (20 - l.k);
  done : (j : ℕ) → l.k ≤ j → j < 20 → slice_index l.places j ≡ step_character l.step j;
}
