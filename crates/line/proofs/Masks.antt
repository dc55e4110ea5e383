-- The masks of `line::marks::mark_word`, byte by byte: what they make of each of the 256 bytes is computed.
use Rattle.std.proofs.Common.{ℕ, ◌-◌, ◌*◌, ◌/◌, ◌%◌, ◌^◌, ◌≤◌, ◌<◌, ◌≡◌, refl, sym, ap, ap₂, ◌∙◌, map, arith, lit<, w64, mod-eq_of_lt}
use Rattle.std.specs.Int.{to_le_bytes}
use Rattle.std.specs.Int.Bits.{bit_and, bit_or, or_add_and}
use Rattle.std.proofs.Math.Nat.{mul-div_cancel}
use Rattle.std.proofs.lemmas.Nat.{and_le_l}
use Rattle.line.specs.Line.{swept_over}
use Rattle.line.proofs.Bytewise.{bytewise, word-made, equal_at, less_at, bytewise-same, bytewise-self, bytewise-fits, and-bytewise, or-bytewise, sub-bytewise, mul-bytewise}

abbrev highs : ℕ
highs = 0x8080_8080_8080_8080

abbrev ones : ℕ
ones = 0x0101_0101_0101_0101

-- what the code makes of a word
abbrev lows : ℕ → ℕ
lows w = bit_or w highs - ones

abbrev papers : ℕ → ℕ
papers w = bit_and (2 ^ 64 - 1 - bit_or (lows w) w) highs

-- and of a byte
abbrev low : ℕ → ℕ
low b = bit_or b 128 - 1

abbrev either : ℕ → ℕ
either b = bit_or (low b) b

abbrev paper : ℕ → ℕ
paper b = bit_and (255 - either b) 128

abbrev lowest : ℕ → ℕ
lowest b = paper b / 128

abbrev over : ℕ → ℕ
over b = (paper b - lowest b) * 2

own : (b : ℕ) → b < 256 → b < 256
own b h = h

-- each byte has its highest bit, so 1 can be taken from it
pub no_borrow : (w m n : ℕ) → n ≤ m → n ≤ bit_or w m
no_borrow w m n h = omega (arith, or_add_and w m, and_le_l w m)

module _ (w : ℕ) (h : w < 2 ^ 64) where
  self : w ≡ bytewise (λ b. b) 8 w
  self = sym (bytewise-self 8 w h)

  lows_are : lows w ≡ bytewise low 8 w
  unfolding bytewise
  lows_are =
      ap (λ (x : ℕ). bit_or x highs - ones) self
      ∙ ap (λ (x : ℕ). x - ones) (or-bytewise (λ b. b) (λ b. 128) 8 w own (λ b l. lit< tt))
      ∙ sub-bytewise (λ b. bit_or b 128) (λ b. 1) 8 w (less_at (λ b. 0) (λ b. bit_or b 128) refl)

  papers_are : papers w ≡ bytewise paper 8 w
  unfolding bytewise
  papers_are =
      ap₂ (λ (x y : ℕ). bit_and (2 ^ 64 - 1 - bit_or x y) highs) lows_are self
      ∙ ap (λ (x : ℕ). bit_and (2 ^ 64 - 1 - x) highs) (or-bytewise low (λ b. b) 8 w (less_at low (λ b. 256) refl) own)
      ∙ ap (λ (x : ℕ). bit_and x highs) (sub-bytewise (λ b. 255) either 8 w (λ b l. omega (arith, less_at either (λ b. 256) refl b l)))
      ∙ and-bytewise (λ b. 255 - either b) (λ b. 128) 8 w (less_at (λ b. 255 - either b) (λ b. 256) refl) (λ b l. lit< tt)

  -- of their bytes only the highest bit may be set, so a shift by seven stays within the byte
  lowest_are : papers w / 2 ^ 7 ≡ bytewise lowest 8 w
  lowest_are =
      ap (λ (x : ℕ). x / 2 ^ 7)
      (papers_are
      ∙ bytewise-same paper (λ b. lowest b * 128) 8 w (equal_at paper (λ b. lowest b * 128) refl)
      ∙ sym (mul-bytewise lowest 128 8 w))
      ∙ mul-div_cancel (bytewise lowest 8 w) (lit< tt)

  over_are : (papers w - papers w / 2 ^ 7) * 2 ^ 1 % 2 ^ 64 ≡ bytewise over 8 w
  over_are =
      ap₂ (λ (x y : ℕ). (x - y) * 2 ^ 1 % 2 ^ 64) papers_are lowest_are
      ∙ ap (λ (x : ℕ). x % 2 ^ 64)
      (ap (λ (x : ℕ). x * 2) (sub-bytewise paper lowest 8 w (λ b l. omega arith)) ∙ mul-bytewise (λ b. paper b - lowest b) 2 8 w)
      ∙ mod-eq_of_lt (bytewise-fits over 8 w (less_at over (λ b. 256) refl))

  pub marked_word : to_le_bytes w64 (bit_or w ((papers w - papers w / 2 ^ 7) * 2 ^ 1 % 2 ^ 64)) ≡ map (λ b. swept_over b) (to_le_bytes w64 w)
  marked_word =
      ap (λ (x : ℕ). to_le_bytes w64 x)
      (ap₂ (λ (x y : ℕ). bit_or x y) self over_are
      ∙ or-bytewise (λ b. b) over 8 w own (less_at over (λ b. 256) refl)
      ∙ bytewise-same (λ b. bit_or b (over b)) (λ b. swept_over b) 8 w (equal_at (λ b. bit_or b (over b)) (λ b. swept_over b) refl))
      ∙ word-made (λ b. swept_over b) w (less_at (λ b. swept_over b) (λ b. 256) refl)
