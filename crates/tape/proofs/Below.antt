-- Every symbol of a tape that passed its checks is below the alphabet's count.
use Prim.Native.Nat.{ℕ, zero, suc, ◌-◌, ◌<◌}
use mathlib.Core.Path.{◌≡◌, refl}
use mathlib.Core.Bool.{Bool, true, false, cond, and-eq-true_iff}
use mathlib.Core.List.{List, [], ◌∷◌, ◌++◌}
use native.Mathlib.Omega.{arith}
use borrow.Author.Tests.{lt-ltb, ltb-true}
use lib.Dec.{ltb}
use lib.ListN.{get_or, replicate}
use Rattle.std.specs.List.{list_all}
use Rattle.tape.specs.Tape.{Side, Tape, cells, cell_of, symbol_at}
use Rattle.tape.specs.Checks.{side_sound, runs_sound, reach_sound}
use Rattle.tape.specs.Inner.Checks.{Readable}
use Rattle.tape.specs.Inner.Sound.{checked, IsSound}
use Rattle.tape.proofs.Accepted.{side_parts, runs_parts, readable}

module _ (count : ℕ) (some : 0 < count) where
  -- each element, and what is past the last
  Below : List ℕ → Type 0
  Below xs = (d : ℕ) → get_or xs d 0 < count

  below_append : (xs ys : List ℕ) → Below xs → Below ys → Below (xs ++ ys)
  unfolding Below
  below_append [] ys a b d = b d
  below_append (x ∷ xs) ys a b zero = a 0
  below_append (x ∷ xs) ys a b (suc d) = below_append xs ys (λ k. a (suc k)) b d

  below_replicate : (n x : ℕ) → x < count → Below (replicate n x)
  unfolding Below
  below_replicate zero x h d = some
  below_replicate (suc n) x h zero = h
  below_replicate (suc n) x h (suc d) = below_replicate n x h d

  below_cells : (symbols lengths : List ℕ) → list_all (λ s. ltb s count) symbols ≡ true → Below (cells symbols lengths)
  unfolding cells Below
  below_cells [] lengths e d = some
  below_cells (s ∷ symbols) [] e d = some
  below_cells (s ∷ symbols) (n ∷ lengths) e d =
      let b = (and-eq-true_iff (ltb s count) (list_all (λ s. ltb s count) symbols)).0 e in
      below_append (cells symbols lengths) (replicate n s) (below_cells symbols lengths b.1) (below_replicate n s (ltb-true s count b.0)) d

  below_symbols : (side : Side) → list_all (λ s. ltb s count) side.symbols ≡ true → (d : ℕ) → cell_of side d < count
  unfolding Below
  below_symbols side e = below_cells side.symbols side.lengths e

  pub below_side : (side : Side) → side_sound count side ≡ true → (d : ℕ) → cell_of side d < count
  below_side side e = below_symbols side (side_parts count side e).2

  all_below : (xs : List ℕ) → Below xs → list_all (λ s. ltb s count) xs ≡ true
  unfolding Below
  all_below [] below = refl
  all_below (x ∷ xs) below = rw (lt-ltb x count (below 0)) (all_below xs (λ d. below (suc d)))

  below_at : (t : Tape) → t.cur < count → list_all (λ s. ltb s count) t.left.symbols ≡ true → list_all (λ s. ltb s count) t.right.symbols ≡ true
      → (p : ℕ) → symbol_at t p < count
  unfolding symbol_at
  below_at t cur left right p =
      either (ltb p t.head) _ _ (below_symbols t.left left (t.head - suc p)) (either (ltb t.head p) _ _ (below_symbols t.right right (p - suc t.head)) cur)
    where
      either : (b : Bool) (x y : ℕ) → x < count → y < count → cond b x y < count
      either true x y h k = h
      either false x y h k = k

pub symbol_below : (count : ℕ) (t : Tape) → runs_sound count t ≡ true → (p : ℕ) → symbol_at t p < count
symbol_below count t e =
    let parts = runs_parts count t e in
    let cur = parts.0 in
    below_at count (omega arith) t cur (side_parts count t.left parts.1).2 (side_parts count t.right parts.2).2

-- a readable tape has bytes for symbols
pub bytes_sound : (t : Tape) → Readable t → t.cur < 256 → ((k : ℕ) → get_or t.left.symbols k 0 < 256) → ((k : ℕ) → get_or t.right.symbols k 0 < 256)
    → IsSound (checked t 256)
unfolding Below
bytes_sound t readable cur left right =
    let some : 0 < 256 = omega arith in
    record { readable = readable; below = below_at 256 some t cur (all_below 256 some t.left.symbols left) (all_below 256 some t.right.symbols right) }

pub sound : (count : ℕ) (t : Tape) → runs_sound count t ≡ true → reach_sound t ≡ true → IsSound (checked t count)
sound count t runs reach = record { readable = readable count t runs reach; below = symbol_below count t runs }
