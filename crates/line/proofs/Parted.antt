-- A part of a list that is written, as the list with that range altered.
use borrow.Rule.Slice.PartMut.{put_mid}
use Rattle.std.proofs.Common.{◌≡◌, ℕ, ◌-◌, ◌≤◌, ◌<◌, List, ◌++◌, length, get_or, take, drop, length-drop, replicate, map, ap, ◌∙◌, arith, rules}
use Rattle.std.proofs.lemmas.Grind.{common_steps}
use Rattle.std.proofs.lemmas.List.{places, get_or-map, length-map, length-take-le}
use Rattle.std.proofs.lemmas.Slice.{overwrites}
use Rattle.slices.specs.Inner.Filled.{altered, filled}
use Rattle.slices.proofs.Altered.{length-altered, altered_inside, altered_is}

pub altered_part : (f : ℕ → ℕ → ℕ) (from to : ℕ) (xs ys : List ℕ) → from ≤ to → to ≤ length xs → length ys ≡ to - from
    → ((k : ℕ) → from ≤ k → k < to → get_or ys (k - from) 0 ≡ f k (get_or xs k 0))
    → put_mid from (to - from) xs ys ≡ altered f from to xs
altered_part f from to xs ys l h long inside =
    altered_is f from to xs (put_mid from (to - from) xs ys) (search (rules, overwrites)) (λ k n a b. search (rules, places)) (λ k n a. search (rules, places)) (λ k n b. search (rules, places))

-- each element of the part by what it was
pub mapped_part : (f : ℕ → ℕ) (from to : ℕ) (xs ys : List ℕ) → from ≤ to → to ≤ length xs → ys ≡ map f (take (to - from) (drop from xs))
    → put_mid from (to - from) xs ys ≡ altered (λ k b. f b) from to xs
mapped_part f from to xs ys l h is =
    let long : length (take (to - from) (drop from xs)) ≡ to - from = length-take-le (to - from) (drop from xs) (omega (arith, length-drop from xs)) in
    altered_part (λ k b. f b) from to xs ys l h (ap length is ∙ length-map _ f ∙ long)
    (λ k a b.
    let same : get_or (take (to - from) (drop from xs)) (k - from) 0 ≡ get_or xs k 0 = search (rules, places) in
    ap (λ (zs : List ℕ). get_or zs (k - from) 0) is ∙ get_or-map f _ (k - from) 0 0 (omega (arith, long)) ∙ ap f same)

-- one value on the whole part
pub filled_part : (from to value : ℕ) (xs ys : List ℕ) → from ≤ to → to ≤ length xs → ys ≡ replicate (to - from) value
    → put_mid from (to - from) xs ys ≡ filled from to value xs
filled_part from to value xs ys l h is =
    altered_part (λ k b. value) from to xs ys l h (grind (arith, common_steps)) (λ k a b. grind (arith, common_steps))

-- the first elements, each by its index
pub altered_first : (f : ℕ → ℕ) (to : ℕ) (xs ys : List ℕ) → to ≤ length xs → length ys ≡ to → ((k : ℕ) → k < to → get_or ys k 0 ≡ f k)
    → ys ++ drop to xs ≡ altered (λ k b. f k) 0 to xs
altered_first f to xs ys h long each =
    altered_is (λ k b. f k) 0 to xs (ys ++ drop to xs) (search (rules, overwrites))
    (λ k n l u. let same : get_or (ys ++ drop to xs) k 0 ≡ get_or ys k 0 = search (rules, places) in same ∙ each k u)
    (λ k n l. absurd (omega arith))
    (λ k n u. search (rules, places))

-- the same of a part that is altered as a whole
pub altered_front : (f : ℕ → ℕ) (to : ℕ) (xs ys : List ℕ) → to ≤ length xs → ys ≡ altered (λ k b. f k) 0 to (take to xs) → ys ++ drop to xs ≡ altered (λ k b. f k) 0 to xs
altered_front f to xs ys h is =
    let short : length (take to xs) ≡ to = search rules in
    altered_first f to xs ys h (ap length is ∙ length-altered (λ k b. f k) 0 to (take to xs) ∙ short)
    (λ k u. ap (λ (zs : List ℕ). get_or zs k 0) is ∙ altered_inside (λ k b. f k) 0 to (take to xs) k (omega arith) u (omega (arith, short)))
