-- Checks that are made one after the other.
use Rattle.std.specs.Prelude.{Bool, cond, List, [], ◌∷◌, Option, None, Some, Result, Ok, Err}
use Rattle.refusal.specs.declared.Refusal.{Refusal}

-- the first of two that refuses
abbrev pub or_else : Option Refusal → Option Refusal → Option Refusal
or_else None other = other
or_else (Some refusal) other = Some refusal

-- what comes after `?`: the rest, or the refusal
abbrev pub next_of : Result Unit Refusal → Result Unit Refusal → Result Unit Refusal
next_of (Ok u) rest = rest
next_of (Err refusal) rest = Err refusal

-- the answer of a list of checks that are made one after the other, each by `require` with `?`
abbrev pub chained : List (Bool × Refusal) → Result Unit Refusal
chained [] = Ok tt
chained (check ∷ checks) = next_of (cond check.0 (Ok tt) (Err check.1)) (chained checks)
