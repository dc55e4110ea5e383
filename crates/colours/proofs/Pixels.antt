-- A list of the colours of all index bytes, three bytes to a colour, has the colours that it is made of.
use Rattle.std.proofs.Common.{◌≡◌, ℕ, zero, suc, ◌+◌, ◌*◌, ◌/◌, ◌%◌, ◌<◌, List, length, get_or, refl, sym, ap, ◌∙◌, add-zero, div-add-mod', div-lt_iff_lt-mul, mod-lt, lit<, ext_get_or, arith}
use Rattle.colours.specs.declared.Rgb.{Rgb}
use Rattle.colours.specs.Inner.Table.{triple, colours_of, entry_of}
use Rattle.colours.proofs.Blocks.{blocks-length, blocks_read}
use Rattle.colours.proofs.Equal.{rgb_equal}

module _ (colour : ℕ → Rgb) where
  channel_read : (i j : ℕ) → i < 256 → j < 3 → get_or (colours_of colour) (i * 3 + j) 0 ≡ get_or (triple (colour i)) j 0
  channel_read i j = blocks_read (λ k. triple (colour k)) 3 (λ k. refl) 256 i j

  pub entry_read : (i : ℕ) → i < 256 → entry_of (colours_of colour) i ≡ colour i
  unfolding entry_of
  entry_read i h =
      rgb_equal (entry_of (colours_of colour) i) (colour i) (rw (← add-zero (i * 3)) (channel_read i 0 h (lit< tt))) (channel_read i 1 h (lit< tt)) (channel_read i 2 h (lit< tt))

  pub entries_all : (colours : List ℕ) → length colours ≡ 768 → ((i : ℕ) → i < 256 → entry_of colours i ≡ colour i) → colours ≡ colours_of colour
  unfolding entry_of
  entries_all colours e at =
      ext_get_or 0 colours (colours_of colour) (e ∙ sym (blocks-length (λ k. triple (colour k)) 3 (λ k. refl) 256))
      (λ k h. rw (← div-add-mod' k 3) (here (k / 3) (k % 3) ((div-lt_iff_lt-mul (lit< tt)).1 (omega arith)) (mod-lt k (lit< tt))))
    where
      here : (i j : ℕ) → i < 256 → j < 3 → get_or colours (i * 3 + j) 0 ≡ get_or (colours_of colour) (i * 3 + j) 0
      here i zero h l = rw (add-zero (i * 3)) (ap (λ (c : Rgb). c.red) (at i h ∙ sym (entry_read i h)))
      here i (suc zero) h l = ap (λ (c : Rgb). c.green) (at i h ∙ sym (entry_read i h))
      here i (suc (suc zero)) h l = ap (λ (c : Rgb). c.blue) (at i h ∙ sym (entry_read i h))
      here i (suc (suc (suc j))) h l = absurd (omega arith)
