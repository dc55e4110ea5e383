-- What a number within a range, and a sound size, are known to be.
use Prim.Native.Nat.{ℕ, ◌≤◌}
use mathlib.Core.Path.{◌≡◌}
use mathlib.Core.Bool.{true, and-eq-true_iff}
use borrow.Author.Tests.{leb-true}
use lib.Dec.{leb}
use Rattle.limits.specs.Limits.{max_side, is_within, size_sound}

pub within_facts : (low high n : ℕ) → is_within low high n ≡ true → (low ≤ n) × (n ≤ high)
within_facts low high n e = let t = (and-eq-true_iff (leb low n) (leb n high)).0 e in (leb-true low n t.0, leb-true n high t.1)

pub size_facts : (width height : ℕ) → size_sound width height ≡ true → (1 ≤ width) × (width ≤ max_side) × (1 ≤ height) × (height ≤ max_side)
size_facts width height e =
    let t = (and-eq-true_iff (is_within 1 max_side width) (is_within 1 max_side height)).0 e in
    let w = within_facts 1 max_side width t.0 in
    let h = within_facts 1 max_side height t.1 in
    (w.0, w.1, h.0, h.1)
