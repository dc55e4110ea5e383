-- Lists that are written in place: the elements that were found altered, a line that is repeated, and new elements over old ones.
use Rattle.std.specs.Prelude.{ℕ, zero, suc, ◌+◌, List, [], ◌++◌, length, take, drop}

-- a line, h times
unfoldable pub repeated : ℕ → List ℕ → List ℕ
repeated zero line = []
repeated (suc h) line = repeated h line ++ line

-- new elements over those from `at` on
unfoldable pub overwritten : ℕ → List ℕ → List ℕ → List ℕ
overwritten at new xs = take at xs ++ (new ++ drop (at + length new) xs)
