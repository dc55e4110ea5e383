-- What an index byte means, and its colour (RULES, Colours).
use Rattle.std.specs.Prelude.{ℕ, Bool, true, false, cond, List, [], ◌∷◌, eqb, leb, Float}
use Rattle.shade.specs.Index.{background, ink_max, head_range, head}
use Rattle.shade.specs.Share.{share}
use Rattle.colours.specs.declared.Rgb.{Rgb}
use Rattle.colours.specs.declared.Palette.{Palette}
use Rattle.colours.specs.declared.Meaning.{Meaning}
use Rattle.colours.specs.declared.Meaning.TheVariants.{Paper, Ink, Spare, Swept, Head}
use Rattle.colours.specs.Mix.{mix_of, tint}

abbrev pub pick : Bool → Meaning → Meaning → Meaning
pick true a b = a
pick false a b = b

-- 0 paper, 1..64 ink with its share i / 64, 254 swept, 255 head, the others spare
abbrev pub meaning_of : ℕ → Meaning
meaning_of i =
    pick (eqb i background) Paper
    (pick (leb i ink_max) (Ink (share i ink_max))
    (pick (eqb i head_range) (Swept tint)
    (pick (eqb i head) Head Spare)))

-- the index bytes that each case stands for, from the first to the last, and its values: the share of ink, the tint of swept paper
abbrev pub meaning_said : Meaning → ℕ × ℕ × List Float
meaning_said Paper = (0, 0, [])
meaning_said (Ink s) = (1, 64, s ∷ [])
meaning_said Spare = (65, 253, [])
meaning_said (Swept t) = (254, 254, t ∷ [])
meaning_said Head = (255, 255, [])

-- what an index byte has to say beside its meaning: i / 64 for ink, the tint for swept paper, else nothing
abbrev pub meaning_values : ℕ → List Float
meaning_values i = cond (eqb i 0) [] (cond (leb i 64) (share i 64 ∷ []) (cond (eqb i 254) (tint ∷ []) []))

-- spare is coloured as ink
abbrev pub colour_of : Palette → Meaning → Rgb
colour_of p Paper = p.background
colour_of p (Ink s) = mix_of p.background p.ink s
colour_of p Spare = p.ink
colour_of p (Swept t) = mix_of p.background p.accent t
colour_of p Head = p.accent

-- the colour of an index byte
unfoldable pub colour_at : Palette → ℕ → Rgb
colour_at p i = colour_of p (meaning_of i)
