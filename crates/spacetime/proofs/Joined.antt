-- A row call answers 19 for no tape that is joined: of its checks one alone has that refusal, and it passes. What `join` leaves is joined on both sides.
use Rattle.std.proofs.Common.{◌≡◌, Bool, true, false, cond, List, [], ◌∷◌, Some, length, ap, ◌∙◌}
use mathlib.Core.Bool.{false≢true}
use Rattle.refusal.specs.declared.Refusal.{Refusal}
use Rattle.refusal.specs.declared.Refusal.TheVariants.{Unjoined}
use Rattle.refusal.specs.Checks.{first_failed}
use Rattle.refusal.proofs.Kept.{refused}
use Rattle.tape.specs.Joined.{tape_joined}
use Rattle.joining.proofs.Claim.{joins}
use Rattle.rows.specs.RowCall.{row_checks, row_refusal, row_call}
use Rattle.spacetime.specs.Joined.{JoinedTaken, RemainingTaken}

-- each check of this refusal passes
abbrev Passes : Refusal → List (Bool × Refusal) → Type 0
Passes refusal [] = Unit
Passes refusal (check ∷ checks) = (check.1 ≡ refusal → check.0 ≡ true) × Passes refusal checks

not_first : (refusal : Refusal) (checks : List (Bool × Refusal)) → Passes refusal checks → first_failed checks ≡ Some refusal → ⊥
not_first refusal [] p e = absurd cc
not_first refusal (check ∷ checks) p e = by check.0 p.0 (not_first refusal checks p.1) e
  where
    by : (b : Bool) → (check.1 ≡ refusal → b ≡ true) → (first_failed checks ≡ Some refusal → ⊥) → cond b (first_failed checks) (Some check.1) ≡ Some refusal → ⊥
    by true q rest e = rest e
    by false q rest e = false≢true (q cc)

pub joined_taken : JoinedTaken
unfolding row_call row_refusal
joined_taken call joined e =
    not_first Unjoined (row_checks call.grid (length call.index) (length call.store) (length call.tallies) call.tape call.swept)
    (λ n. absurd cc, (λ n. absurd cc, (λ n. absurd cc, (λ n. absurd cc, (λ n. absurd cc, (λ n. absurd cc, (λ n. joined, (λ n. absurd cc, (λ n. absurd cc, tt)))))))))
    (refused _ _ e)

pub remaining_taken : RemainingTaken
remaining_taken join accepted call e =
    let j = (joins join accepted).joins in
    joined_taken call (ap tape_joined e ∙ rw ((j true).joined, (j false).joined))
