-- The places of a lent index: where a pixel's byte stands, and tests of places one by one.
use Rattle.std.proofs.Common.{◌≡◌, ℕ, zero, suc, ◌+◌, ◌-◌, ◌*◌, ◌≤◌, ◌<◌, Bool, true, false, ◌||◌, sym, ap, ◌∙◌, arith, add-mul, one-mul, mul-le-mul_right}
use Rattle.std.proofs.Math.Bool.{or-false, or-true}
use Rattle.std.proofs.Math.Decide.{dec_lt}
use Rattle.std.proofs.Math.Nat.{mul_comm}
use native.Mathlib.Numerals.{add-one}
use Rattle.grid.specs.declared.Grid.{Grid}
use Rattle.grid.specs.Soundness.{grid_sound}
use Rattle.grid.proofs.Sound.{Sound, sound_facts}
use Rattle.picture.specs.declared.uprights.Verdict.{Verdict}
use Rattle.picture.specs.declared.uprights.Verdict.TheVariants.{Yes, Unknown}
use Rattle.picture.specs.Upright.{says_no, says_unknown, any_to}

pub pixel_place : (w h x y : ℕ) → x < w → y < h → y * w + x < w * h
pixel_place w h x y l m =
    let lines : (y + 1) * w ≤ h * w = mul-le-mul_right w (omega arith) in
    omega (arith, rw (add-mul, one-mul) at lines, mul_comm w h)

-- one more place is tested
pub any_more : (n : ℕ) (test : ℕ → Bool) → any_to (n + 1) test ≡ (any_to n test || test n)
unfolding any_to
any_more n test = rw add-one

pub any_finds : (n : ℕ) (test : ℕ → Bool) (k : ℕ) → k < n → test k ≡ true → any_to n test ≡ true
unfolding any_to
any_finds zero test k h e = absurd (omega arith)
any_finds (suc n) test k h e = by (λ l. any_finds n test k l e) (dec_lt k n)
  where
    by : (k < n → any_to n test ≡ true) → Dec (k < n) → (any_to n test || test n) ≡ true
    by rest (yes l) = rw (rest l)
    by rest (no l) = let last : n ≡ k = omega arith in rw (last, e, or-true)

-- one more verdict, of those before of which none says no
module _ (says : ℕ → Verdict) (k : ℕ) (unknown : Bool) (none : any_to k (λ j. says_no (says j)) ≡ false) (known : unknown ≡ any_to k (λ j. says_unknown (says j))) where
  pub yes_more : says k ≡ Yes → (any_to (k + 1) (λ j. says_no (says j)) ≡ false) × (unknown ≡ any_to (k + 1) (λ j. says_unknown (says j)))
  yes_more e =
      (any_more k (λ j. says_no (says j)) ∙ rw (none, e), rw known (sym (any_more k (λ j. says_unknown (says j)) ∙ rw e (or-false _))))

  pub unknown_more : says k ≡ Unknown → (any_to (k + 1) (λ j. says_no (says j)) ≡ false) × (true ≡ any_to (k + 1) (λ j. says_unknown (says j)))
  unknown_more e =
      (any_more k (λ j. says_no (says j)) ∙ rw (none, e), sym (any_more k (λ j. says_unknown (says j)) ∙ rw e (or-true _)))

-- the lines of drawn rows are lines of the picture
pub lines_drawn : (g : Grid) → Sound g → (a b : ℕ) → a ≤ b → b < g.progress.done → a * g.row_px + (b + 1 - a) * g.row_px ≤ g.height
lines_drawn g s a b h l =
    let whole : a + (b + 1 - a) ≡ b + 1 = omega arith in
    let m : (b + 1) * g.row_px ≤ g.rows * g.row_px = mul-le-mul_right g.row_px (omega (arith, s.done_most)) in
    let sum : a * g.row_px + (b + 1 - a) * g.row_px ≡ (b + 1) * g.row_px = sym (add-mul a (b + 1 - a) g.row_px) ∙ ap (λ (n : ℕ). n * g.row_px) whole in
    omega (arith, m, sum, s.rows_within)

-- the lines of the rows of a question are lines of the picture that is asked
pub asked_lines : (g h : Grid) → grid_sound g ≡ true → g ≡ h → (a b : ℕ) → a ≤ b → b < h.progress.done → a * g.row_px + (b + 1 - a) * g.row_px ≤ g.height
asked_lines g h s e a b m l = lines_drawn g (sound_facts g s) a b m (rw e l)
