-- `colours::meaning_of` meets its contract: ink has its share, and swept paper its tint.
use Rattle.std.proofs.Common.{◌≡◌, ◌≤◌, [], ◌∷◌, Float, refl, sym, ap, le_refl, ne_eqb, le-leb, arith}
use Rattle.shade.specs.Share.{share}
use Rattle.colours.specs.declared.Meaning.TheVariants.{Swept}
use Rattle.colours.proofs.Cases.{tint_bits}
use Rattle.colours.proofs.meaning_of.Goals as goal

pub returns-in-254 : goal.returns-in-254
returns-in-254 c =
    let tint = sym tint_bits in
    rw c.in-254.is (ap Swept tint, le_refl 254, le_refl 254, ap (λ (t : Float). t ∷ []) tint)

pub returns-in-1-to-64 : goal.returns-in-1-to-64
unfolding share
returns-in-1-to-64 c =
    let i = c.args.index in
    let low : 1 ≤ i = omega arith in
    let high : i ≤ 64 = omega arith in
    simp (c.from.ensures, c.from-in-1-to-64.ensures, ne_eqb i 0 (λ (e : i ≡ 0). omega arith), le-leb i 64 high) (refl, low, high, refl)
