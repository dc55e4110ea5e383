-- What the runs of a side cover: `drop i lengths` are the runs nearer to the head than run i - 1, and `total` of them is how far they reach.
use Prim.Native.Nat.{ℕ, zero, suc, ◌+◌, ◌-◌, ◌<◌, ◌≤◌}
use mathlib.Core.Path.{◌≡◌, refl, sym, ap, ◌∙◌}
use mathlib.Core.List.{List, [], ◌∷◌, ◌++◌}
use native.Mathlib.Omega.{arith}
use native.Mathlib.Nat.{not-suc-le-zero}
use native.Mathlib.Numerals.{add-one}
use lib.ListN.{length, get_or, drop, replicate, length-append, length-replicate, get_or-replicate, get_or-append, get_or-eq_default, drop_of_length-le}
use lib.Seq.{drop-cons, get_or-append-add}
use Rattle.tape.specs.Tape.{cells}
use Rattle.tape.specs.Checks.{total}

-- the runs from i on are run i and those after it
pub total-drop : (lengths : List ℕ) (i : ℕ) → i < length lengths → total (drop i lengths) ≡ get_or lengths i 0 + total (drop (i + 1) lengths)
unfolding total
total-drop lengths i h = rw (drop-cons lengths i 0 h, add-one)

-- the same, one run back
pub total_back : (lengths : List ℕ) (i : ℕ) → 0 < i → i ≤ length lengths → total (drop (i - 1) lengths) ≡ get_or lengths (i - 1) 0 + total (drop i lengths)
total_back lengths i p h =
    let e : i - 1 + 1 ≡ i = omega arith in
    rw e at (total-drop lengths (i - 1) (omega arith))

pub total_none : (lengths : List ℕ) → total (drop (length lengths) lengths) ≡ 0
unfolding total
total_none [] = refl
total_none (n ∷ lengths) = total_none lengths

pub total_past : (lengths : List ℕ) (i : ℕ) → length lengths ≤ i → total (drop i lengths) ≡ 0
unfolding total
total_past lengths i h = rw (drop_of_length-le lengths h)

pub total_part : (lengths : List ℕ) (i : ℕ) → total (drop i lengths) ≤ total lengths
unfolding total
total_part lengths zero = omega arith
total_part [] (suc i) = omega arith
total_part (n ∷ lengths) (suc i) = omega (arith, total_part lengths i)

length-cells : (symbols lengths : List ℕ) → length symbols ≡ length lengths → length (cells symbols lengths) ≡ total lengths
unfolding cells total
length-cells [] [] e = refl
length-cells [] (n ∷ lengths) e = absurd (omega arith)
length-cells (s ∷ symbols) [] e = absurd (omega arith)
length-cells (s ∷ symbols) (n ∷ lengths) e = rw (length-append, length-replicate, length-cells symbols lengths (omega arith)) (omega arith)

-- outside all runs is blank
pub blank-past : (symbols lengths : List ℕ) (d : ℕ) → length symbols ≡ length lengths → total lengths ≤ d → get_or (cells symbols lengths) d 0 ≡ 0
blank-past symbols lengths d e h = get_or-eq_default (cells symbols lengths) 0 (rw (length-cells symbols lengths e) h)

-- run i covers the cells from where the runs before it end up to where it ends
covered_at : (symbols lengths : List ℕ) (i d : ℕ) → length symbols ≡ length lengths → i < length lengths → total (drop (suc i) lengths) ≤ d → d < total (drop i lengths)
    → get_or (cells symbols lengths) d 0 ≡ get_or symbols i 0
unfolding cells total
covered_at symbols [] i d e h l u = absurd (not-suc-le-zero h)
covered_at [] (n ∷ lengths) i d e h l u = absurd (omega arith)
covered_at (s ∷ symbols) (n ∷ lengths) zero d e h l u =
    let k : length (cells symbols lengths) ≡ total lengths = length-cells symbols lengths (omega arith) in
    let f : length (cells symbols lengths) + (d - total lengths) ≡ d = omega arith in
    ap (λ (m : ℕ). get_or (cells symbols lengths ++ replicate n s) m 0) (sym f) ∙ get_or-append-add (cells symbols lengths) (replicate n s) (d - total lengths) 0
    ∙ get_or-replicate n (d - total lengths) s 0 (omega arith)
covered_at (s ∷ symbols) (n ∷ lengths) (suc i) d e h l u =
    let k : d < length (cells symbols lengths) = rw (length-cells symbols lengths (omega arith)) (omega (arith, total_part lengths i)) in
    get_or-append (cells symbols lengths) (replicate n s) 0 d k ∙ covered_at symbols lengths i d (omega arith) (omega arith) l u

pub covered : (symbols lengths : List ℕ) (i d : ℕ) → length symbols ≡ length lengths → 0 < i → i ≤ length lengths
    → total (drop i lengths) ≤ d → d < total (drop (i - 1) lengths)
    → get_or (cells symbols lengths) d 0 ≡ get_or symbols (i - 1) 0
covered symbols lengths i d e p h l u =
    let f : suc (i - 1) ≡ i = omega arith in
    covered_at symbols lengths (i - 1) d e (omega arith) (rw f l) u
