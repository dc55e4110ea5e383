-- The ready table: bytes that pass one computed test of LIGHT's rule in whole numbers have LIGHT's colours.
use Rattle.std.proofs.Common.{◌≡◌, ℕ, zero, suc, ◌+◌, ◌*◌, ◌<◌, ◌≤◌, Bool, true, false, cond, ◌&&◌, eqb, ltb, leb, T, List, length, get_or, refl, sym, ◌∙◌, not-suc-le-zero, eqb→eq, lit<, ltb-true, leb-true, arith}
use Rattle.std.proofs.Math.Decide.{dec_lt}
use lib.Ieee.Fits.{and_l, and_r}
use Rattle.shade.specs.Index.{background, ink_max}
use Rattle.colours.specs.declared.Rgb.{Rgb}
use Rattle.colours.specs.Palettes.{light}
use Rattle.colours.specs.Meanings.{colour_at}
use Rattle.colours.specs.LightRule.{LightRule}
use Rattle.colours.specs.Inner.Table.{colours_of, entry_of}
use Rattle.colours.proofs.Equal.{rgb_equal}
use Rattle.colours.proofs.Pixels.{entries_all}
use Rattle.colours.proofs.Whole.{Bytes, whole_rgb, ink-whole}

-- a test passes at each number below n
unfoldable pub below : (ℕ → Bool) → ℕ → Bool
below test zero = true
below test (suc n) = test n && below test n

below_at : (test : ℕ → Bool) (n : ℕ) → T (below test n) → (k : ℕ) → k < n → T (test k)
unfolding below
below_at test zero t k h = absurd (not-suc-le-zero h)
below_at test (suc n) t k h = by (dec_lt k n) (below_at test n (and_r (test n) (below test n) t) k)
  where
    by : Dec (k < n) → (k < n → T (test k)) → T (test k)
    by (yes l) before = before l
    by (no l) before = let e : k ≡ n = omega arith in rw e (and_l (test n) (below test n) t)

-- LIGHT's colours, inks in whole numbers
abbrev pub rule_at : ℕ → Rgb
rule_at i = cond (ltb background i && leb i ink_max) (whole_rgb light.background light.ink i) (colour_at light i)

light_inks : (i : ℕ) → background < i → i ≤ ink_max → colour_at light i ≡ whole_rgb light.background light.ink i
light_inks i low high =
    let paper : Bytes light.background = record { red = lit< tt; green = lit< tt; blue = lit< tt } in
    let ink : Bytes light.ink = record { red = lit< tt; green = lit< tt; blue = lit< tt } in
    ink-whole light i paper ink low high

pub light_rule : LightRule
light_rule i low high = light_inks i low high

rule_is : (i : ℕ) → rule_at i ≡ colour_at light i
rule_is i = go (ltb background i) (leb i ink_max) (ltb-true background i) (leb-true i ink_max)
  where
    go : (p q : Bool) → (p ≡ true → background < i) → (q ≡ true → i ≤ ink_max) → cond (p && q) (whole_rgb light.background light.ink i) (colour_at light i) ≡ colour_at light i
    go true true f g = sym (light_inks i (f refl) (g refl))
    go true false f g = refl
    go false q f g = refl

-- a list's three bytes for an index byte are a colour
abbrev entry_is : List ℕ → Rgb → ℕ → Bool
entry_is colours c i = eqb (get_or colours (i * 3) 0) c.red && (eqb (get_or colours (i * 3 + 1) 0) c.green && eqb (get_or colours (i * 3 + 2) 0) c.blue)

entry_is_lem : (colours : List ℕ) (c : Rgb) (i : ℕ) → T (entry_is colours c i) → entry_of colours i ≡ c
unfolding entry_of
entry_is_lem colours c i t =
    let r = eqb (get_or colours (i * 3) 0) c.red in
    let g = eqb (get_or colours (i * 3 + 1) 0) c.green in
    let b = eqb (get_or colours (i * 3 + 2) 0) c.blue in
    rgb_equal (entry_of colours i) c (eqb→eq _ _ (and_l r (g && b) t)) (eqb→eq _ _ (and_l g b (and_r r (g && b) t))) (eqb→eq _ _ (and_r g b (and_r r (g && b) t)))

-- the test
abbrev pub is_light_table : List ℕ → Bool
is_light_table colours = below (λ i. entry_is colours (rule_at i) i) 256

pub follows : (colours : List ℕ) → length colours ≡ 768 → T (is_light_table colours) → colours ≡ colours_of (colour_at light)
follows colours e t =
    entries_all (colour_at light) colours e (λ i h. entry_is_lem colours (rule_at i) i (below_at (λ k. entry_is colours (rule_at k) k) 256 t i h) ∙ rule_is i)
