-- Every test is true of a list of checks that refuses nothing, and of a list of tests that holds; and two lists of checks made in turn.
use Rattle.std.proofs.Common.{◌≡◌, refl, Bool, true, false, ◌&&◌, cond, List, [], ◌∷◌, ◌++◌, None, Some}
use mathlib.Core.Bool.{false≢true}
use Rattle.refusal.specs.declared.Refusal.{Refusal}
use Rattle.refusal.specs.Checks.{first_failed, all_of}

-- all tests are true
abbrev pub Passed : List (Bool × Refusal) → Type 0
Passed [] = Unit
Passed (check ∷ checks) = (check.0 ≡ true) × Passed checks

passed_first : (test : Bool) (refusal : Refusal) (checks : List (Bool × Refusal)) → (first_failed checks ≡ None → Passed checks)
    → cond test (first_failed checks) (Some refusal) ≡ None
    → (test ≡ true) × Passed checks
passed_first true refusal checks rest e = (refl, rest e)
passed_first false refusal checks rest e = absurd cc

pub passed : (checks : List (Bool × Refusal)) → first_failed checks ≡ None → Passed checks
passed [] e = tt
passed (check ∷ checks) e = passed_first check.0 check.1 checks (passed checks) e

-- a test that fails among the first checks is the first of all
pub first_refused : (xs ys : List (Bool × Refusal)) {refusal : Refusal} → first_failed xs ≡ Some refusal → first_failed (xs ++ ys) ≡ Some refusal
first_refused [] ys e = absurd cc
first_refused (check ∷ checks) ys {refusal} e = by check.0 (first_refused checks ys) e
  where
    by : (b : Bool) → (first_failed checks ≡ Some refusal → first_failed (checks ++ ys) ≡ Some refusal)
        → cond b (first_failed checks) (Some check.1) ≡ Some refusal
        → cond b (first_failed (checks ++ ys)) (Some check.1) ≡ Some refusal
    by true rest e = rest e
    by false rest e = e

-- where none of the first checks fails, the others decide
pub first-passed : (xs ys : List (Bool × Refusal)) → first_failed xs ≡ None → first_failed (xs ++ ys) ≡ first_failed ys
first-passed [] ys e = refl
first-passed (check ∷ checks) ys e = by check.0 (first-passed checks ys) e
  where
    by : (b : Bool) → (first_failed checks ≡ None → first_failed (checks ++ ys) ≡ first_failed ys) → cond b (first_failed checks) (Some check.1) ≡ None
        → cond b (first_failed (checks ++ ys)) (Some check.1) ≡ first_failed ys
    by true rest e = rest e
    by false rest e = absurd cc

-- where all of two lists of checks passed, each did
pub both-passed : (xs ys : List (Bool × Refusal)) → first_failed (xs ++ ys) ≡ None → (first_failed xs ≡ None) × (first_failed ys ≡ None)
both-passed [] ys e = (refl, e)
both-passed (check ∷ checks) ys e = by check.0 (both-passed checks ys) e
  where
    by : (b : Bool) → (first_failed (checks ++ ys) ≡ None → (first_failed checks ≡ None) × (first_failed ys ≡ None)) → cond b (first_failed (checks ++ ys)) (Some check.1) ≡ None
        → (cond b (first_failed checks) (Some check.1) ≡ None) × (first_failed ys ≡ None)
    by true rest e = rest e
    by false rest e = absurd cc

abbrev pub AllTrue : List Bool → Type 0
AllTrue [] = Unit
AllTrue (test ∷ tests) = (test ≡ true) × AllTrue tests

all_first : (test : Bool) (tests : List Bool) → (all_of tests ≡ true → AllTrue tests) → (test && all_of tests) ≡ true → (test ≡ true) × AllTrue tests
all_first true tests rest e = (refl, rest e)
all_first false tests rest e = absurd (false≢true e)

pub all_true : (tests : List Bool) → all_of tests ≡ true → AllTrue tests
all_true [] e = tt
all_true (test ∷ tests) e = all_first test tests (all_true tests) e
