-- A word whose bytes are made one by one from those of another: what and, or, differences and multiples of such words are.
use Rattle.std.proofs.Common.{ℕ, zero, suc, ◌+◌, ◌-◌, ◌*◌, ◌/◌, ◌%◌, ◌^◌, ◌≤◌, ◌<◌, ◌≡◌, refl, sym, ap, ap₂, ◌∙◌, true, eqb, ltb, List, [], ◌∷◌, map, arith, lit<, w64}
use Rattle.std.specs.Int.{to_le_bytes}
use Rattle.std.specs.Int.Bits.{bit_and, bit_or}
use Rattle.std.proofs.Math.Nat.{add-mul, mul_assoc, mul_comm, pow-suc, div-div-eq-div-mul}
use Rattle.std.proofs.Math.Arith.{digits_mod, digits_div}
use Rattle.std.proofs.lemmas.Nat.{and_block, or_block}
use Rattle.std.proofs.lemmas.Bool.{agree_below, agree_below_at, ltb-true, eqb-true}

-- the word of n bytes, each made by f from the byte of w at its place
unfoldable pub bytewise : (ℕ → ℕ) → ℕ → ℕ → ℕ
bytewise f zero w = 0
bytewise f (suc n) w = bytewise f n (w / 256) * 256 + f (w % 256)

-- the n lowest bytes of a number
unfoldable bytes_of : ℕ → ℕ → List ℕ
bytes_of zero w = []
bytes_of (suc n) w = w % 256 ∷ bytes_of n (w / 256)

eight_bytes : (w : ℕ) → to_le_bytes w64 w ≡ bytes_of 8 w
unfolding bytes_of
eight_bytes w = simp div-div-eq-div-mul

-- f makes bytes of bytes
abbrev pub Byte : (ℕ → ℕ) → Type 0
Byte f = (b : ℕ) → b < 256 → f b < 256

low_byte : (w : ℕ) → w % 256 < 256
low_byte w = omega arith

bytes-made : (f : ℕ → ℕ) (n w : ℕ) → Byte f → bytes_of n (bytewise f n w) ≡ map f (bytes_of n w)
unfolding bytewise bytes_of
bytes-made f zero w h = refl
bytes-made f (suc n) w h =
    let l : f (w % 256) < 256 = h (w % 256) (low_byte w) in
    rw (digits_mod (bytewise f n (w / 256)) l, digits_div (bytewise f n (w / 256)) l, bytes-made f n (w / 256) h)

pub word-made : (f : ℕ → ℕ) (w : ℕ) → Byte f → to_le_bytes w64 (bytewise f 8 w) ≡ map f (to_le_bytes w64 w)
word-made f w h = eight_bytes (bytewise f 8 w) ∙ bytes-made f 8 w h ∙ ap (map f) (sym (eight_bytes w))

-- what is computed of each of the 256 bytes
pub equal_at : (f g : ℕ → ℕ) → agree_below (λ b. eqb (f b) (g b)) (λ b. true) 256 ≡ true → (b : ℕ) → b < 256 → f b ≡ g b
equal_at f g t b h = eqb-true (f b) (g b) (agree_below_at (λ k. eqb (f k) (g k)) (λ k. true) 256 b t h)

pub less_at : (f g : ℕ → ℕ) → agree_below (λ b. ltb (f b) (g b)) (λ b. true) 256 ≡ true → (b : ℕ) → b < 256 → f b < g b
less_at f g t b h = ltb-true (f b) (g b) (agree_below_at (λ k. ltb (f k) (g k)) (λ k. true) 256 b t h)

pub bytewise-same : (f g : ℕ → ℕ) (n w : ℕ) → ((b : ℕ) → b < 256 → f b ≡ g b) → bytewise f n w ≡ bytewise g n w
unfolding bytewise
bytewise-same f g zero w e = refl
bytewise-same f g (suc n) w e = ap₂ (λ (x y : ℕ). x * 256 + y) (bytewise-same f g n (w / 256) e) (e (w % 256) (low_byte w))

pub bytewise-self : (n w : ℕ) → w < 256 ^ n → bytewise (λ b. b) n w ≡ w
unfolding bytewise
bytewise-self zero w h = omega arith
bytewise-self (suc n) w h =
    let l : w < 256 ^ n * 256 = rw pow-suc at h in
    omega (arith, bytewise-self n (w / 256) (omega (arith, l)))

pub bytewise-fits : (f : ℕ → ℕ) (n w : ℕ) → Byte f → bytewise f n w < 256 ^ n
unfolding bytewise
bytewise-fits f zero w h = lit< tt
bytewise-fits f (suc n) w h = rw pow-suc (omega (arith, bytewise-fits f n (w / 256) h, h (w % 256) (low_byte w)))

module _ (f g : ℕ → ℕ) where
  pub and-bytewise : (n w : ℕ) → Byte f → Byte g → bit_and (bytewise f n w) (bytewise g n w) ≡ bytewise (λ b. bit_and (f b) (g b)) n w
  unfolding bytewise
  and-bytewise zero w hf hg = refl
  and-bytewise (suc n) w hf hg =
      and_block 8 (bytewise f n (w / 256)) (bytewise g n (w / 256)) (f (w % 256)) (g (w % 256)) (hf _ (low_byte w)) (hg _ (low_byte w))
      ∙ ap (λ (x : ℕ). x * 256 + bit_and (f (w % 256)) (g (w % 256))) (and-bytewise n (w / 256) hf hg)

  pub or-bytewise : (n w : ℕ) → Byte f → Byte g → bit_or (bytewise f n w) (bytewise g n w) ≡ bytewise (λ b. bit_or (f b) (g b)) n w
  unfolding bytewise
  or-bytewise zero w hf hg = refl
  or-bytewise (suc n) w hf hg =
      or_block 8 (bytewise f n (w / 256)) (bytewise g n (w / 256)) (f (w % 256)) (g (w % 256)) (hf _ (low_byte w)) (hg _ (low_byte w))
      ∙ ap (λ (x : ℕ). x * 256 + bit_or (f (w % 256)) (g (w % 256))) (or-bytewise n (w / 256) hf hg)

  add-bytewise : (n w : ℕ) → bytewise f n w + bytewise g n w ≡ bytewise (λ b. f b + g b) n w
  unfolding bytewise
  add-bytewise zero w = refl
  add-bytewise (suc n) w = omega (arith, add-bytewise n (w / 256))

-- no byte borrows from the next
pub sub-bytewise : (f g : ℕ → ℕ) (n w : ℕ) → ((b : ℕ) → b < 256 → g b ≤ f b) → bytewise f n w - bytewise g n w ≡ bytewise (λ b. f b - g b) n w
sub-bytewise f g n w h =
    let e = add-bytewise g (λ b. f b - g b) n w ∙ bytewise-same (λ b. g b + (f b - g b)) f n w (λ b l. omega (arith, h b l)) in
    omega arith

pub mul-bytewise : (f : ℕ → ℕ) (m n w : ℕ) → bytewise f n w * m ≡ bytewise (λ b. f b * m) n w
unfolding bytewise
mul-bytewise f m zero w = omega arith
mul-bytewise f m (suc n) w =
    let rest = bytewise f n (w / 256) in
    add-mul (rest * 256) (f (w % 256)) m
    ∙ ap (λ (x : ℕ). x + f (w % 256) * m) (mul_assoc rest 256 m ∙ ap (λ (x : ℕ). rest * x) (mul_comm 256 m) ∙ sym (mul_assoc rest m 256))
    ∙ ap (λ (x : ℕ). x * 256 + f (w % 256) * m) (mul-bytewise f m n (w / 256))
