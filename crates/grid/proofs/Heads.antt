-- The heads of rows in their offset form, and the least pair that holds the first of them, found one head at a time.
use Rattle.std.proofs.Common.{◌≡◌, ℕ, zero, suc, ◌+◌, ◌-◌, ◌^◌, ◌<◌, ◌≤◌, Bool, ◌&&◌, List, [], ◌∷◌, map, length, get_or, take, drop, refl, sym, ap, ◌∙◌, min, max, add-one, ℤ, pos, w64, SFits, to_z, of_z, to_z-of_z, drop_of_length-le, drop-cons, arith}
use lib.Signed.{mag}
use Rattle.std.proofs.lemmas.List.{take-map, take_min}
use Rattle.position.specs.Position.{offset_of, in_domain}
use Rattle.std.specs.List.{list_all}
use Rattle.columns.specs.declared.Pair.{Pair}
use Rattle.grid.specs.Fit.{least_of, greatest_of, holding}

-- a position's offset form, as it is found from the position's bits
pub from_bits : (z : ℤ) (n : ℕ) → mag z < 2 ^ 63 → n ≡ offset_of (to_z w64 (of_z w64 z)) → n ≡ offset_of z
from_bits z n h e = let f : SFits w64 z = record { sfits = h } in e ∙ ap offset_of (to_z-of_z f)

-- std's test of each head is the test of each offset form
pub each_in_domain : (heads : List ℤ) → list_all (λ (head : ℤ). in_domain (offset_of head)) heads ≡ list_all in_domain (map offset_of heads)
each_in_domain [] = refl
each_in_domain (head ∷ heads) = ap (λ (rest : Bool). in_domain (offset_of head) && rest) (each_in_domain heads)

-- the least pair that holds low, high and a list
abbrev pub widened : ℕ → ℕ → List ℕ → Pair
widened low high xs = record { low = least_of low xs; high = greatest_of high xs }

module _ (heads : List ℤ) where
  pub widened_next : (low high head i : ℕ) → i < length heads → head ≡ offset_of (get_or heads i (pos 0))
      → widened low high (map offset_of (drop i heads)) ≡ widened (min low head) (max high head) (map offset_of (drop (i + 1) heads))
  unfolding least_of greatest_of
  widened_next low high head i h e = rw (drop-cons heads i (pos 0) h, e, add-one)

  pub widened_all : (low high i : ℕ) → length heads ≤ i → widened low high (map offset_of (drop i heads)) ≡ record { low = low; high = high }
  unfolding least_of greatest_of
  widened_all low high i h = rw (drop_of_length-le heads h)

-- the first head, widened by those behind it
pub first_widened : (heads : List ℤ) (rows shown first : ℕ) → 1 ≤ length heads → 1 ≤ rows → shown ≡ min rows (length heads) → first ≡ offset_of (get_or heads 0 (pos 0))
    → widened first first (map offset_of (take (shown - 1) (drop 1 heads))) ≡ holding (take rows (map offset_of heads))
first_widened [] rows shown first l r s e = absurd (omega arith)
first_widened (head ∷ heads) zero shown first l r s e = absurd (omega arith)
first_widened (head ∷ heads) (suc rows) shown first l r s e =
    let behind : shown - 1 ≡ min rows (length heads) = omega arith in
    rw (behind, e) (ap (λ (xs : List ℕ). widened (offset_of head) (offset_of head) xs) (ap (map offset_of) (take_min rows heads) ∙ sym (take-map offset_of rows heads)))
