-- Lists of which a part is written: the end, and a part that is a copy of the front.
use borrow.Rule.Slice.PartMut.{put_mid}
use Rattle.std.proofs.Common.{◌≡◌, ℕ, ◌+◌, ◌-◌, ◌≤◌, ◌<◌, List, ◌++◌, length, get_or, take, drop, refl, sym, ◌∙◌, subst, arith, rules}
use Rattle.std.proofs.Math.Decide.{dec_lt}
use Rattle.std.proofs.lemmas.List.{places}
use Rattle.std.proofs.lemmas.Slice.{overwrites}
use lib.Seq.{ext_get_or}
use Rattle.slices.specs.Inner.Filled.{altered}
use Rattle.slices.proofs.Altered.{altered_is}

-- every element is known by the front and by the part
pub ended : (at : ℕ) (xs ys zs : List ℕ) → at ≤ length xs → length ys ≡ length xs - at → length zs ≡ length xs
    → ((k : ℕ) → k < at → get_or xs k 0 ≡ get_or zs k 0) → ((k : ℕ) → k < length ys → get_or ys k 0 ≡ get_or zs (at + k) 0)
    → put_mid at (length xs - at) xs ys ≡ zs
ended at xs ys zs h long same front back =
    ext_get_or 0 (put_mid at (length xs - at) xs ys) zs (all ∙ sym same)
    (λ k n. by k (subst (λ (m : ℕ). k < m) all n) (dec_lt k at))
  where
    all : length (put_mid at (length xs - at) xs ys) ≡ length xs
    all = search (rules, overwrites)

    by : (k : ℕ) → k < length xs → Dec (k < at) → get_or (put_mid at (length xs - at) xs ys) k 0 ≡ get_or zs k 0
    by k n (yes b) = let e : get_or (put_mid at (length xs - at) xs ys) k 0 ≡ get_or xs k 0 = search (rules, places) in e ∙ front k b
    by k n (no b) =
        let e : get_or (put_mid at (length xs - at) xs ys) k 0 ≡ get_or ys (k - at) 0 = search (rules, places) in
        let here : at + (k - at) ≡ k = omega arith in
        e ∙ back (k - at) (omega arith) ∙ rw here refl

pub copied : (at count : ℕ) (xs : List ℕ) → count ≤ at → at + count ≤ length xs
    → take at xs ++ (take count (take at xs) ++ drop count (drop at xs)) ≡ altered (λ k b. get_or xs (k - at) 0) at (at + count) xs
copied at count xs l h =
    altered_is (λ k b. get_or xs (k - at) 0) at (at + count) xs (take at xs ++ (take count (take at xs) ++ drop count (drop at xs))) (search (rules, overwrites))
    (λ k n a b. search (rules, places)) (λ k n a. search (rules, places)) (λ k n b. search (rules, places))
