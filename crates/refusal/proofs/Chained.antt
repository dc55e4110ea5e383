-- Checks made one after the other answer the first failed one's refusal, and so do two lists of checks made in turn.
use Rattle.std.proofs.Common.{◌≡◌, refl, Bool, true, false, cond, List, [], ◌∷◌, ◌++◌, None, Some, Ok, Err}
use Rattle.refusal.specs.declared.Refusal.{Refusal}
use Rattle.refusal.specs.Checks.{first_failed, allowed_by}
use Rattle.refusal.specs.Inner.Chained.{or_else, next_of, chained}

from_first : (test : Bool) (refusal : Refusal) (checks : List (Bool × Refusal)) → chained checks ≡ allowed_by (first_failed checks)
    → next_of (cond test (Ok tt) (Err refusal)) (chained checks) ≡ allowed_by (cond test (first_failed checks) (Some refusal))
from_first true refusal checks rest = rest
from_first false refusal checks rest = refl

pub chained_is : (checks : List (Bool × Refusal)) → chained checks ≡ allowed_by (first_failed checks)
chained_is [] = refl
chained_is (check ∷ checks) = from_first check.0 check.1 checks (chained_is checks)

pub appended : (xs ys : List (Bool × Refusal)) → first_failed (xs ++ ys) ≡ or_else (first_failed xs) (first_failed ys)
appended [] ys = refl
appended (check ∷ checks) ys = by check.0 (appended checks ys)
  where
    by : (b : Bool) → first_failed (checks ++ ys) ≡ or_else (first_failed checks) (first_failed ys)
        → cond b (first_failed (checks ++ ys)) (Some check.1) ≡ or_else (cond b (first_failed checks) (Some check.1)) (first_failed ys)
    by true rest = rest
    by false rest = refl
