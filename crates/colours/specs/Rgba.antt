-- Colouring (RULES, Colours): the answer, and the output afterwards.
use Rattle.std.specs.Prelude.{ℕ, ◌*◌, Option, List, [], ◌∷◌, eqb, length}
use Rattle.refusal.specs.declared.Refusal.{Refusal}
use Rattle.refusal.specs.declared.Refusal.TheVariants.{OutputLength}
use Rattle.refusal.specs.Checks.{first_failed, kept_if}
use Rattle.colours.specs.declared.Palette.{Palette}
use Rattle.colours.specs.Meanings.{colour_at}
use Rattle.colours.specs.Table.{pixel, painted}

-- the output is four bytes to an index byte
abbrev pub output_refusal : ℕ → ℕ → Option Refusal
output_refusal index out = first_failed ((eqb out (4 * index), OutputLength) ∷ [])

-- the pixels of the index bytes, or what the output held
abbrev pub rgba_out : Palette → List ℕ → List ℕ → List ℕ
rgba_out p index out = kept_if (output_refusal (length index) (length out)) out (painted (λ i. pixel (colour_at p i)) index)
