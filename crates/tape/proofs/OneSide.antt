-- The part of a window on one side of the head as it is written, one more run at a time.
use Prim.Native.Nat.{ℕ, suc, ◌+◌, ◌-◌, ◌<◌, ◌≤◌, min, max}
use mathlib.Core.Path.{◌≡◌, refl, sym, ◌∙◌}
use mathlib.Core.Logic.{◌⊎◌, inl, inr}
use mathlib.Core.Bool.{Bool, true, false, ◌&&◌, and-false}
use mathlib.Core.List.{List}
use native.Mathlib.Omega.{arith}
use native.Mathlib.Decide.{dec_lt}
use borrow.Author.Tests.{lt-ltb, le-ltb, ltb-true}
use lib.Dec.{ltb}
use lib.ListN.{length, get_or, drop}
use Rattle.slices.specs.Inner.Filled.{filled}
use Rattle.tape.specs.Checks.{total}
use Rattle.tape.specs.Inner.Sides.{on_side, cell_at, edge, SideFits, side_symbol}
use Rattle.tape.specs.Inner.Windows.{overlaid, outermost}
use Rattle.tape.proofs.Runs.{total_back, total_part, covered, blank-past}
use Rattle.tape.proofs.Overlay.{overlaid_none, overlaid-same, overlaid_more}

-- p is one of the side's first n cells
abbrev pub is_passed : Bool → ℕ → ℕ → ℕ → Bool
is_passed leftward head n p = on_side leftward head p && ltb (cell_at leftward head p) n

-- fewer cells fit too
pub fewer_fit : (leftward : Bool) (head m n : ℕ) → m ≤ n → SideFits leftward head n → SideFits leftward head m
fewer_fit true head m n h f = omega arith
fewer_fit false head m n h f = omega arith

-- the runs passed are among all runs, and so they are with the next one
module _ (leftward : Bool) (head passed i : ℕ) (lengths : List ℕ) (is : passed ≡ total (drop i lengths)) (fits : SideFits leftward head (total lengths)) where
  pub passed-fit : SideFits leftward head passed
  passed-fit = let few : passed ≤ total lengths = omega (arith, total_part lengths i) in fewer_fit leftward head passed (total lengths) few fits

  pub next_fit : 0 < i → i ≤ length lengths → SideFits leftward head (passed + get_or lengths (i - 1) 0)
  next_fit p h =
      let few : passed + get_or lengths (i - 1) 0 ≤ total lengths = omega (arith, total_back lengths i p h, total_part lengths (i - 1)) in
      fewer_fit leftward head (passed + get_or lengths (i - 1) 0) (total lengths) few fits

-- the edges of a side go one way
pub edges : (leftward : Bool) (head near far : ℕ) → near ≤ far → SideFits leftward head far
    → ((edge leftward head far ≤ edge leftward head near) × (edge leftward head near ≤ edge leftward head 0))
    ⊎ ((edge leftward head 0 ≤ edge leftward head near) × (edge leftward head near ≤ edge leftward head far))
edges true head near far h f = inl (omega arith, omega arith)
edges false head near far h f = inr (omega arith, omega arith)

-- which of a side's positions are passed, where none is, or all are
none_passed : (on : Bool) (cell n : ℕ) → n ≤ cell → (on && ltb cell n) ≡ false
none_passed on cell n h = rw (le-ltb cell n h, and-false)

all-passed : (on : Bool) (cell n : ℕ) → (on ≡ true → cell < n) → (on && ltb cell n) ≡ on
all-passed true cell n h = lt-ltb cell n (h refl)
all-passed false cell n h = refl

module _ (head near far p : ℕ) (h : near ≤ far) where
  -- what lies between two edges are the cells between them
  pub between : (leftward : Bool) → SideFits leftward head far
      → min (edge leftward head near) (edge leftward head far) ≤ p → p < max (edge leftward head near) (edge leftward head far)
      → (on_side leftward head p ≡ true) × (near ≤ cell_at leftward head p) × (cell_at leftward head p < far)
  between true f l u = (lt-ltb p head (omega arith), omega arith, omega arith)
  between false f l u = (lt-ltb head p (omega arith), omega arith, omega arith)

  -- and what lies beside them is passed by both or by neither
  below : (leftward : Bool) → SideFits leftward head far → p < min (edge leftward head near) (edge leftward head far)
      → is_passed leftward head near p ≡ is_passed leftward head far p
  below true f l = none_passed (ltb p head) (head - suc p) near (omega arith) ∙ sym (none_passed (ltb p head) (head - suc p) far (omega arith))
  below false f l =
      all-passed (ltb head p) (p - suc head) near (λ o. omega (arith, ltb-true head p o))
      ∙ sym (all-passed (ltb head p) (p - suc head) far (λ o. omega (arith, ltb-true head p o)))

  above : (leftward : Bool) → SideFits leftward head far → max (edge leftward head near) (edge leftward head far) ≤ p
      → is_passed leftward head near p ≡ is_passed leftward head far p
  above false f l = none_passed (ltb head p) (p - suc head) near (omega arith) ∙ sym (none_passed (ltb head p) (p - suc head) far (omega arith))
  above true f l =
      all-passed (ltb p head) (head - suc p) near (λ o. omega (arith, ltb-true p head o))
      ∙ sym (all-passed (ltb p head) (head - suc p) far (λ o. omega (arith, ltb-true p head o)))

-- two numbers in order, and their places in the window
pub in_order : (a b : ℕ) → a ≤ b → (min a b ≡ a) × (max a b ≡ b)
in_order a b h = (omega arith, omega arith)

pub reversed : (a b : ℕ) → b ≤ a → (min a b ≡ b) × (max a b ≡ a)
reversed a b h = (omega arith, omega arith)

held_order : (n from x y : ℕ) → x ≤ y → min n (x - from) ≤ min n (y - from)
held_order n from x y h = omega arith

places : (n from x y a b : ℕ) → a ≡ min n (x - from) → b ≡ min n (y - from)
    → (min a b ≡ min n (min x y - from)) × (max a b ≡ min n (max x y - from))
places n from x y a b e f = by (dec_lt x y)
  where
    by : Dec (x < y) → (min a b ≡ min n (min x y - from)) × (max a b ≡ min n (max x y - from))
    by (yes h) =
        let l : x ≤ y = omega arith in
        let o = in_order x y l in
        rw (e, f, o.0, o.1) (in_order _ _ (held_order n from x y l))
    by (no h) =
        let l : y ≤ x = omega arith in
        let o = reversed x y l in
        rw (e, f, o.0, o.1) (reversed _ _ (held_order n from y x l))

-- where the side's first n cells end in the window that starts at `from`
abbrev pub IsPlace : ℕ → ℕ → List ℕ → Bool → ℕ → ℕ → Type 0
IsPlace from head xs leftward n place = place ≡ min (length xs) (edge leftward head n - from)

-- the window, of which the side's first n cells are written
abbrev pub Begun : ℕ → ℕ → List ℕ → List ℕ → List ℕ → Bool → ℕ → List ℕ → Type 0
Begun from head symbols lengths xs leftward n out = out ≡ overlaid from (is_passed leftward head n) (side_symbol leftward head symbols lengths) xs

-- and the whole side
abbrev Written : ℕ → ℕ → List ℕ → List ℕ → List ℕ → Bool → List ℕ → Type 0
Written from head symbols lengths xs leftward out = out ≡ overlaid from (on_side leftward head) (side_symbol leftward head symbols lengths) xs

module _ (from head : ℕ) (symbols lengths xs : List ℕ) (paired : length symbols ≡ length lengths) where
  pub none_begun : (leftward : Bool) → Begun from head symbols lengths xs leftward 0 xs
  none_begun leftward = overlaid_none from (is_passed leftward head 0) _ xs (λ p. none_passed (on_side leftward head p) (cell_at leftward head p) 0 (omega arith))

  -- run i - 1, between two edges
  pub more_begun : (leftward : Bool) (i passed near far : ℕ) (out : List ℕ) → 0 < i → i ≤ length lengths → passed ≡ total (drop i lengths)
      → SideFits leftward head (passed + get_or lengths (i - 1) 0)
      → IsPlace from head xs leftward passed near
      → IsPlace from head xs leftward (passed + get_or lengths (i - 1) 0) far
      → Begun from head symbols lengths xs leftward passed out
      → Begun from head symbols lengths xs leftward (passed + get_or lengths (i - 1) 0) (filled (min near far) (max near far) (get_or symbols (i - 1) 0) out)
  more_begun leftward i passed near far out p h is fits e f begun =
      let n = passed + get_or lengths (i - 1) 0 in
      let t = total_back lengths i p h in
      let more : passed ≤ n = omega arith in
      let s = places (length xs) from (edge leftward head passed) (edge leftward head n) near far e f in
      overlaid_more from (min (edge leftward head passed) (edge leftward head n)) (max (edge leftward head passed) (edge leftward head n)) (min near far) (max near far)
      (get_or symbols (i - 1) 0) (is_passed leftward head passed) (is_passed leftward head n) (side_symbol leftward head symbols lengths) xs out begun s.0 s.1
      (λ q l u.
      let b = between head passed n q more leftward fits l u in
      (rw b.0 (lt-ltb _ n b.2), covered symbols lengths i (cell_at leftward head q) paired p h (omega (arith, b.1)) (omega (arith, b.2))))
      (λ q l. below head passed n q more leftward fits l)
      (λ q l u. above head passed n q more leftward fits l)

  -- the window's outermost place is reached
  pub all_begun : (leftward : Bool) (passed near : ℕ) (out : List ℕ) → SideFits leftward head passed → IsPlace from head xs leftward passed near
      → near ≡ outermost leftward (length xs)
      → Begun from head symbols lengths xs leftward passed out
      → Written from head symbols lengths xs leftward out
  all_begun true passed near out fits e met begun =
      begun ∙ overlaid-same from (is_passed true head passed) _ xs (on_side true head)
      (λ p l u. all-passed (ltb p head) (head - suc p) passed (λ o. omega (arith, ltb-true p head o)))
  all_begun false passed near out fits e met begun =
      begun ∙ overlaid-same from (is_passed false head passed) _ xs (on_side false head)
      (λ p l u. all-passed (ltb head p) (p - suc head) passed (λ o. omega (arith, ltb-true head p o)))

  -- no run is left, and what lies further out is blank
  pub blank_begun : (leftward : Bool) (passed near : ℕ) (out : List ℕ) → passed ≡ total lengths → SideFits leftward head passed
      → IsPlace from head xs leftward passed near
      → Begun from head symbols lengths xs leftward passed out
      → Written from head symbols lengths xs leftward (filled (min near (outermost leftward (length xs))) (max near (outermost leftward (length xs))) 0 out)
  blank_begun true passed near out is fits e begun =
      let o = reversed near 0 (omega arith) in
      rw (o.0, o.1)
      (overlaid_more from 0 (head - passed) 0 near 0 (is_passed true head passed) (on_side true head) (side_symbol true head symbols lengths) xs out begun (omega arith) e
      (λ q l u. (lt-ltb q head (omega arith), blank-past symbols lengths (head - suc q) paired (omega arith)))
      (λ q l. absurd (omega arith))
      (λ q l u. all-passed (ltb q head) (head - suc q) passed (λ o. omega (arith, ltb-true q head o))))
  blank_begun false passed near out is fits e begun =
      let o = in_order near (length xs) (omega arith) in
      rw (o.0, o.1)
      (overlaid_more from (head + 1 + passed) (from + length xs) near (length xs) 0 (is_passed false head passed) (on_side false head) (side_symbol false head symbols lengths) xs out begun e (omega arith)
      (λ q l u. (lt-ltb head q (omega arith), blank-past symbols lengths (q - suc head) paired (omega arith)))
      (λ q l. all-passed (ltb head q) (q - suc head) passed (λ o. omega (arith, ltb-true head q o)))
      (λ q l u. absurd (omega arith)))
