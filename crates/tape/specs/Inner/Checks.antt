-- A tape whose alphabet was checked before, and one that passed its checks.
use Rattle.std.specs.Prelude.{ℕ, ◌+◌, ◌^◌, ◌≤◌, ◌<◌, ◌≡◌, Bool, Option, List, [], ◌∷◌, length}
use Rattle.refusal.specs.declared.Refusal.{Refusal}
use Rattle.refusal.specs.declared.Refusal.TheVariants.{Runs, Unjoined, Reach}
use Rattle.refusal.specs.Checks.{first_failed}
use Rattle.tape.specs.Tape.{Tape}
use Rattle.tape.specs.Checks.{total, runs_sound, reach_sound}

-- 11, 19 and 12, where 19 goes by a test that a call may leave out
abbrev pub run_checks : ℕ → Bool → Tape → List (Bool × Refusal)
run_checks count joined t = (runs_sound count t, Runs) ∷ (joined, Unjoined) ∷ (reach_sound t, Reach) ∷ []

unfoldable pub runs_refusal : ℕ → Bool → Tape → Option Refusal
runs_refusal count joined t = first_failed (run_checks count joined t)

-- what is left of the checks for whoever reads a tape that passed them
pub record Readable (t : Tape) : Type 0 where
  pub left_paired : length t.left.symbols ≡ length t.left.lengths
  pub right_paired : length t.right.symbols ≡ length t.right.lengths
  pub left_room : total t.left.lengths ≤ t.head
  pub right_room : t.head + total t.right.lengths + 1 < 2 ^ 64
