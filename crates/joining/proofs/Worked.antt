-- The worked tape follows from the definitions.
use mathlib.Core.Path.{refl}
use Rattle.tape.specs.Checks.{total, tape_refusal}
use Rattle.joining.specs.Runs.{runs_of, listed, pushed, joined_of}
use Rattle.joining.specs.Calls.{join_call}
use Rattle.joining.specs.Worked.{Worked}

pub worked : Worked
unfolding total tape_refusal runs_of listed pushed joined_of join_call
worked old = refl
