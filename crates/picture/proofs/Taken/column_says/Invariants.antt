-- `picture::Taken::column_says` meets its contract: at each turn no pixel of the lines before k says no, and it is known whether one says unknown.
use Rattle.std.proofs.Common.{◌≡◌, ℕ, ◌+◌, ◌*◌, false}
use Rattle.picture.specs.declared.uprights.Verdict.{Verdict}
use Rattle.picture.specs.Upright.{pixel_says, says_no, says_unknown, any_to}
use Rattle.picture.proofs.Taken.column_says.Given as goal

abbrev pub invariant-loop-k : goal.invariant-loop-k
invariant-loop-k l =
    let says : (ℕ → Verdict) = λ j. pixel_says l.self.grid l.self.index l.self.store l.strip.column (l.strip.first * l.self.grid.row_px + j) in
    record { none_no : any_to l.k (λ j. says_no (says j)) ≡ false; known : l.unknown ≡ any_to l.k (λ j. says_unknown (says j)) }
