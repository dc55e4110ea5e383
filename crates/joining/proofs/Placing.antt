-- What the slices of a side hold once its runs are joined at the front and the places after them are cleared.
use Prim.Native.Nat.{ℕ, zero, suc, ◌-◌, ◌≤◌}
use mathlib.Core.Path.{◌≡◌, refl, sym, ap, ◌∙◌}
use mathlib.Core.List.{List, [], ◌∷◌, ◌++◌, append-nil}
use native.Mathlib.Omega.{arith}
use native.Mathlib.Numerals.{add-one}
use lib.ListN.{length, get_or, take, drop, replicate, length-append, length-drop, drop_of_length-le}
use lib.Seq.{take-suc}
use borrow.Rule.Slice.PartMut.{put_mid}
use Rattle.joining.specs.Runs.{Run, run, runs_of, listed, cells_of}

pub length_runs : (s l : List ℕ) (i : ℕ) → length (runs_of s l i) ≡ i
unfolding runs_of
length_runs s l zero = refl
length_runs s l (suc i) = ap suc (length_runs s l i)

pub length-listed : (number : Run → ℕ) (runs : List Run) → length (listed number runs) ≡ length runs
unfolding listed
length-listed number [] = refl
length-listed number (r ∷ runs) = length-append (listed number runs) (number r ∷ []) ∙ add-one (length (listed number runs)) ∙ ap suc (length-listed number runs)

-- the runs of the first i places lead back to these places
pub listed_runs : (number : Run → ℕ) (s l xs : List ℕ) → ((k : ℕ) → number (run (get_or s k 0) (get_or l k 0)) ≡ get_or xs k 0)
    → (i : ℕ) → i ≤ length xs → listed number (runs_of s l i) ≡ take i xs
unfolding runs_of listed
listed_runs number s l xs at zero h = refl
listed_runs number s l xs at (suc i) h = rw (listed_runs number s l xs at i (omega arith), at i) (sym (take-suc xs i 0 h))

-- a slice whose end is made zeros
tail_back : (from : ℕ) (xs end : List ℕ) → end ≡ replicate (length xs - from) 0 → put_mid from (length xs - from) xs end ≡ take from xs ++ replicate (length xs - from) 0
tail_back from xs end zeros =
    let past : length (drop from xs) ≤ length xs - from = rw length-drop (omega arith) in
    rw (drop_of_length-le (drop from xs) past, append-nil, zeros)

-- the joined runs are at the front of the slices, which have n places
module _ (s l : List ℕ) (count n : ℕ) (runs : List Run) (joined : runs_of s l count ≡ runs) (few : count ≤ n) where
  pub freed_is : n - count ≡ n - length (listed cells_of runs)
  freed_is = ap (λ (k : ℕ). n - k) (sym (length-listed cells_of runs ∙ sym (ap length joined) ∙ length_runs s l count))

  pub rewritten_is : (number : Run → ℕ) (xs end : List ℕ) → ((k : ℕ) → number (run (get_or s k 0) (get_or l k 0)) ≡ get_or xs k 0) → length xs ≡ n
      → end ≡ replicate (length xs - count) 0
      → put_mid count (length xs - count) xs end ≡ listed number runs ++ replicate (n - length (listed cells_of runs)) 0
  rewritten_is number xs end at long e =
      tail_back count xs end e
      ∙ ap (λ (ys : List ℕ). ys ++ replicate (length xs - count) 0) (sym (listed_runs number s l xs at count (rw long few)) ∙ ap (listed number) joined)
      ∙ ap (λ (k : ℕ). listed number runs ++ replicate k 0) (ap (λ (m : ℕ). m - count) long ∙ freed_is)
