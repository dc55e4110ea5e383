-- When a tape is refused (RULES, Refusals, 2, 11 and 12).
use Rattle.std.specs.Prelude.{ℕ, ◌+◌, Bool, ◌&&◌, Option, List, [], ◌∷◌, ltb, eqb, length}
use Rattle.limits.specs.Limits.{symbols_sound}
use Rattle.refusal.specs.declared.Refusal.{Refusal}
use Rattle.refusal.specs.declared.Refusal.TheVariants.{Symbols, Runs, Reach}
use Rattle.refusal.specs.Checks.{first_failed}
use Rattle.std.specs.List.{list_all}
use Rattle.position.specs.Position.{in_reach}
use Rattle.tape.specs.Tape.{Side, Tape}

-- the cells that runs of these lengths have
unfoldable pub total : List ℕ → ℕ
total [] = 0
total (n ∷ lengths) = n + total lengths

-- the two lists are of one length, no run is empty, each symbol is below the alphabet's count
abbrev pub side_sound : ℕ → Side → Bool
side_sound count side =
    eqb (length side.symbols) (length side.lengths) && list_all (ltb 0) side.lengths && list_all (λ s. ltb s count) side.symbols

-- 11
abbrev pub runs_sound : ℕ → Tape → Bool
runs_sound count t = ltb t.cur count && side_sound count t.left && side_sound count t.right

-- 12
abbrev pub reach_sound : Tape → Bool
reach_sound t = in_reach t.head (total t.left.lengths) (total t.right.lengths)

-- the checks of a call on a tape alone
abbrev pub tape_checks : ℕ → Tape → List (Bool × Refusal)
tape_checks count t = (symbols_sound count, Symbols) ∷ (runs_sound count t, Runs) ∷ (reach_sound t, Reach) ∷ []

unfoldable pub tape_refusal : ℕ → Tape → Option Refusal
tape_refusal count t = first_failed (tape_checks count t)
