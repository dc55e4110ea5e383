-- A side's symbols taken from the outermost run in: what those from a place on answer.
use Prim.Native.Nat.{ℕ, ◌+◌, ◌<◌, ◌≤◌}
use mathlib.Core.Path.{◌≡◌}
use mathlib.Core.Bool.{true, not, ◌&&◌}
use mathlib.Core.List.{List}
use native.Mathlib.Numerals.{add-one}
use lib.Dec.{eqb}
use lib.ListN.{length, get_or, drop, drop_of_length-le}
use lib.Seq.{drop-cons}
use Rattle.tape.specs.Joined.{differing}

pub differing-drop : (beyond : ℕ) (xs : List ℕ) (i : ℕ) → i < length xs
    → differing beyond (drop i xs) ≡ (not (eqb (get_or xs i 0) beyond) && differing (get_or xs i 0) (drop (i + 1) xs))
unfolding differing
differing-drop beyond xs i h = rw (drop-cons xs i 0 h, add-one)

pub differing_none : (beyond : ℕ) (xs : List ℕ) (i : ℕ) → length xs ≤ i → differing beyond (drop i xs) ≡ true
unfolding differing
differing_none beyond xs i h = rw (drop_of_length-le xs h)
