-- Numbers moved across a test, and sums held to a number that no reach has.
use Prim.Native.Nat.{ℕ, ◌+◌, ◌-◌, ◌<◌, ◌≤◌, min}
use mathlib.Core.Path.{◌≡◌, refl, sym, ◌∙◌}
use mathlib.Core.Bool.{Bool, true, false, ◌&&◌}
use native.Mathlib.Omega.{arith}
use native.Mathlib.Decide.{dec_le}
use borrow.Author.Tests.{le-leb, lt-leb}
use lib.Dec.{leb}
use Rattle.limits.proofs.Facts.{within_facts}
use Rattle.position.specs.Position.{lowest, highest, in_domain, in_reach}

same_test : (a b x y : ℕ) → (a ≤ b → x ≤ y) → (b < a → y < x) → leb a b ≡ leb x y
same_test a b x y f g = by (dec_le a b)
  where
    by : Dec (a ≤ b) → leb a b ≡ leb x y
    by (yes h) = le-leb a b h ∙ sym (le-leb x y (f h))
    by (no h) = let l : b < a = omega arith in lt-leb a b l ∙ sym (lt-leb x y (g l))

pub across : (a b c : ℕ) → b ≤ c → leb a (c - b) ≡ leb (b + a) c
across a b c h = same_test a (c - b) (b + a) c (λ f. omega arith) (λ g. omega arith)

-- a side's cells are tested alike whether counted in full or held to a number that no reach has
pub reach_held : (most head left right : ℕ) → highest < most → in_reach head (min most left) (min most right) ≡ in_reach head left right
reach_held most head left right far = by (in_domain head) refl
  where
    by : (within : Bool) → in_domain head ≡ within
        → (within && leb (lowest + min most left) head && leb (head + min most right) highest) ≡ (within && leb (lowest + left) head && leb (head + right) highest)
    by false e = refl
    by true e =
        let d = within_facts lowest highest head e in
        let above : lowest ≤ head = d.0 in
        let below : head ≤ highest = d.1 in
        rw (
          same_test (lowest + min most left) head (lowest + left) head (λ h. omega arith) (λ h. omega arith),
          same_test (head + min most right) highest (head + right) highest (λ h. omega arith) (λ h. omega arith),
        )
