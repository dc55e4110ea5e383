-- The number and the values that a fit's answer and a row's lines stand for.
use Rattle.std.proofs.Common.{◌≡◌, ℕ, Bool, true, false, cond, [], ◌∷◌, refl, ap, ◌∙◌, ltb, Option, None, Some, Result}
use Rattle.refusal.specs.declared.Refusal.{Refusal}
use Rattle.refusal.specs.Checks.{said_by}
use Rattle.refusal.proofs.Kept.{said_answer}
use Rattle.grid.specs.declared.Grid.{Grid}
use Rattle.grid.specs.declared.asking.Lines.{Lines}
use Rattle.grid.specs.Soundness.{record_refusal}
use Rattle.grid.specs.Orders.{Exact}
use Rattle.grid.specs.Fit.{exact_refusal, exact_grid, fit_exact, fit_said}
use Rattle.grid.specs.Asking.{lines_of, row_lines_call, line_values, found_values, lines_said}

pub exact_said : (o : Exact) {r : Result Grid Refusal} → r ≡ fit_exact o → (r ≡ fit_exact o) × (fit_said r ≡ said_by (exact_refusal o) [] (exact_grid o ∷ []))
unfolding fit_exact
exact_said o e = (e, ap fit_said e ∙ said_answer [] (λ g. g ∷ []) (exact_refusal o) (exact_grid o))

pub lines_said_lem : (g : Grid) (k : ℕ) {r : Result (Option Lines) Refusal} → r ≡ row_lines_call g k
    → (r ≡ row_lines_call g k) × (lines_said r ≡ said_by (record_refusal g) [] (line_values g k))
unfolding row_lines_call
lines_said_lem g k e =
    (e, ap lines_said e ∙ said_answer [] found_values (record_refusal g) _ ∙ ap (said_by (record_refusal g) []) (by (ltb k g.rows)))
  where
    by : (inside : Bool) → found_values (cond inside (Some (lines_of g k)) None) ≡ cond inside (found_values (Some (lines_of g k))) (0 ∷ 0 ∷ 0 ∷ 0 ∷ [])
    by true = refl
    by false = refl
