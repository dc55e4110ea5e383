-- What joining a tape answers, and what the lent slices then hold (RULES, Joining and Refusals).
use Rattle.std.specs.Prelude.{ℕ, ◌-◌, Option, List, [], ◌∷◌, ◌++◌, length, replicate}
use Rattle.refusal.specs.declared.Refusal.{Refusal}
use Rattle.refusal.specs.Checks.{kept_if}
use Rattle.tape.specs.Tape.{Side, Tape, side_of}
use Rattle.tape.specs.Checks.{tape_refusal}
use Rattle.joining.specs.Runs.{joined_side}

-- the alphabet's count, the tape, and what the two words for the answer hold
pub record JoinInput : Type 0 where
  pub symbols : ℕ
  pub tape : Tape
  pub freed : List ℕ

pub record JoinOutput : Type 0 where
  pub refusal : Option Refusal
  pub tape : Tape
  pub freed : List ℕ

abbrev pub join_input : ℕ → Tape → List ℕ → JoinInput
join_input symbols t freed = record { symbols = symbols; tape = t; freed = freed }

-- the places of a side that come free: the old count less the new
abbrev pub freed_of : Side → ℕ
freed_of side = length side.lengths - length (joined_side side).lengths

-- the slices of a side that is joined within them: the runs that remain stand at the front, and 0 in the places that came free
abbrev pub rewritten : Side → Side
rewritten side = side_of ((joined_side side).symbols ++ replicate (freed_of side) 0) ((joined_side side).lengths ++ replicate (freed_of side) 0)

-- a tape with other sides
abbrev pub with_sides : Tape → Side → Side → Tape
with_sides t left right = record { head = t.head; cur = t.cur; left = left; right = right }

unfoldable pub join_call : JoinInput → JoinOutput
join_call call =
    let t = call.tape in
    let refusal = tape_refusal call.symbols t in
    record {
      refusal = refusal;
      tape = kept_if refusal t (with_sides t (rewritten t.left) (rewritten t.right));
      freed = kept_if refusal call.freed (freed_of t.left ∷ freed_of t.right ∷ []);
    }
