-- A call's checks are a list of tests, each with its refusal, in the order in which they are made.
use Rattle.std.specs.Prelude.{ℕ, Bool, true, ◌&&◌, cond, List, [], ◌∷◌, Option, None, Some, Result, Ok, Err}
use Rattle.refusal.specs.declared.Refusal.{Refusal}
use Rattle.refusal.specs.Numbers.{number_of, said_number}

-- the refusal of the first test that fails, if one does
abbrev pub first_failed : List (Bool × Refusal) → Option Refusal
first_failed [] = None
first_failed (check ∷ checks) = cond check.0 (first_failed checks) (Some check.1)

-- whether every test of a list is true
abbrev pub all_of : List Bool → Bool
all_of [] = true
all_of (test ∷ tests) = test && all_of tests

-- what a call answers: what it gives where nothing refuses, else the refusal
abbrev pub answer_by : {A : Type 0} → Option Refusal → A → Result A Refusal
answer_by None given = Ok given
answer_by (Some refusal) given = Err refusal

-- what checks alone answer
abbrev pub allowed_by : Option Refusal → Result Unit Refusal
allowed_by refusal = answer_by refusal tt

-- what a slice holds after a call: what it held where the call is refused
abbrev pub kept_if : {A : Type 0} → Option Refusal → A → A → A
kept_if None old new = new
kept_if (Some refusal) old new = old

-- a number and the values that a call gives with it: none of them where the call is refused
abbrev pub said_by : {A : Type 0} → Option Refusal → A → A → ℕ × A
said_by refusal none values = (said_number refusal, kept_if refusal none values)

-- the number and the values that an answer stands for: 0 and the values of what is given, or the refusal's number alone
abbrev pub said : {A V : Type 0} → V → (A → V) → Result A Refusal → ℕ × V
said none values (Ok given) = (0, values given)
said none values (Err refusal) = (number_of refusal, none)
