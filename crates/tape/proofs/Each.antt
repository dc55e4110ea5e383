-- Whether all of a list passes a test, one element after the other.
use Rattle.std.proofs.Common.{◌≡◌, ℕ, ◌+◌, ◌<◌, ◌≤◌, Bool, true, ◌&&◌, List, length, get_or, drop, add-one, drop-cons}
use Rattle.std.proofs.Math.ListN.{drop_of_length-le}
use Rattle.std.specs.List.{list_all}

pub each_next : (test : ℕ → Bool) (xs : List ℕ) (i : ℕ) → i < length xs → list_all test (drop i xs) ≡ (test (get_or xs i 0) && list_all test (drop (i + 1) xs))
each_next test xs i h = rw (drop-cons xs i 0 h, add-one)

-- none is left
pub each_past : (test : ℕ → Bool) (xs : List ℕ) (i : ℕ) → length xs ≤ i → list_all test (drop i xs) ≡ true
each_past test xs i h = rw (drop_of_length-le xs h)
