-- What is known of an order where fitting answers a grid.
use Rattle.std.proofs.Common.{◌≡◌, Bool, true, List, [], ◌∷◌, ◌++◌, Result, Ok, None, sym}
use Rattle.refusal.specs.declared.Refusal.{Refusal}
use Rattle.refusal.specs.declared.Refusal.TheVariants.{Cells}
use Rattle.refusal.specs.Checks.{first_failed, answer_by}
use Rattle.refusal.proofs.Kept.{accepted}
use Rattle.refusal.proofs.Passed.{passed, both-passed}
use Rattle.grid.specs.declared.Grid.{Grid}

abbrev answer : List (Bool × Refusal) → Bool → Grid → Result Grid Refusal
answer checks few g = answer_by (first_failed (checks ++ ((few, Cells) ∷ []))) g

module _ (checks : List (Bool × Refusal)) (few : Bool) (g : Grid) where
  -- where a grid is the answer, all checks passed, and it is the grid that was to be fitted
  pub was_fitted : (fitted : Grid) → answer checks few g ≡ Ok fitted → (first_failed checks ≡ None) × (few ≡ true) × (g ≡ fitted)
  was_fitted fitted e =
      let a = accepted _ _ e in
      let p = both-passed checks ((few, Cells) ∷ []) a.0 in
      (p.0, (passed ((few, Cells) ∷ []) p.1).0, sym a.1)
