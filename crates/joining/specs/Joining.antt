-- The claim about joining (RULES, Joining). `Joins` says what an accepted call does, `Once` and `SameRuns` that there is one way to do it,
-- `Keeps` that a refused call does nothing. They are proved of `join_call`, which the contract of `spacetime_join` cites: `Once` in proofs/Sides.antt, the
-- others in proofs/Claim.antt.
use Rattle.std.specs.Prelude.{ℕ, ◌+◌, ◌-◌, ◌≡◌, Bool, true, false, List, [], ◌∷◌, ◌++◌, ltb, length, get_or, take, replicate, None}
use Rattle.std.specs.List.{list_all}
use Rattle.tape.specs.Tape.{Side, Tape, side_of, cell_of, symbol_at}
use Rattle.tape.specs.Joined.{side_joined}
use Rattle.joining.specs.Calls.{JoinInput, JoinOutput, join_input, join_call, with_sides}

-- the same symbol at every distance from the head
abbrev pub SameSymbols : Side → Side → Type 0
SameSymbols a b = (d : ℕ) → cell_of a d ≡ cell_of b d

-- `runs` is what a side joins to: the side's symbols, in runs that are joined and of which none is empty
pub record JoinsTo (side runs : Side) : Type 0 where
  pub same : SameSymbols runs side
  pub paired : length runs.symbols ≡ length runs.lengths
  pub full : list_all (ltb 0) runs.lengths ≡ true
  pub joined : side_joined runs ≡ true

-- a side joins to one list of runs
abbrev pub Once : Type 0
Once = (side a b : Side) → JoinsTo side a → JoinsTo side b → a ≡ b

-- the left side or the right, and the word for its freed places
abbrev pub side_in : Bool → Tape → Side
side_in true t = t.left
side_in false t = t.right

abbrev pub freed_in : Bool → List ℕ → ℕ
freed_in true freed = get_or freed 0 0
freed_in false freed = get_or freed 1 0

-- a side without its last places, as many as came free
abbrev pub without : ℕ → Side → Side
without freed side = side_of (take (length side.symbols - freed) side.symbols) (take (length side.lengths - freed) side.lengths)

-- the tape that a call leaves, without the places that came free
abbrev pub remaining : JoinOutput → Tape
remaining out =
    with_sides out.tape (without (freed_in true out.freed) out.tape.left) (without (freed_in false out.freed) out.tape.right)

-- what an accepted call does
pub record CallJoins (call : JoinInput) : Type 0 where
  -- what remains of a side is what the side joins to
  pub joins : (left : Bool) → JoinsTo (side_in left call.tape) (side_in left (remaining (join_call call)))
  -- 1. the same symbol at every position
  pub same_symbols : (p : ℕ) → symbol_at (remaining (join_call call)) p ≡ symbol_at call.tape p
  -- 3. joining what remains again changes nothing
  pub again : (old : List ℕ)
      → join_call (join_input call.symbols (remaining (join_call call)) old) ≡ record { refusal = None; tape = remaining (join_call call); freed = 0 ∷ 0 ∷ [] }
  -- 4. the places that came free are the old count less the new
  pub freed : (left : Bool) (runs : Side) → JoinsTo (side_in left call.tape) runs
      → freed_in left (join_call call).freed + length runs.lengths ≡ length (side_in left call.tape).lengths
  -- 5. they stand behind what remains, and hold symbol 0 and length 0
  pub cleared : (left : Bool) →
      let zeros : List ℕ = replicate (freed_in left (join_call call).freed) 0 in
      ((side_in left (join_call call).tape).symbols ≡ (side_in left (remaining (join_call call))).symbols ++ zeros)
      × ((side_in left (join_call call).tape).lengths ≡ (side_in left (remaining (join_call call))).lengths ++ zeros)

abbrev pub Accepted : JoinInput → Type 0
Accepted call = (join_call call).refusal ≡ None

abbrev pub Joins : Type 0
Joins = (call : JoinInput) → Accepted call → CallJoins call

-- 2. two sides with the same symbols join to the same runs
abbrev pub SameRuns : Type 0
SameRuns =
    (a b : JoinInput) → Accepted a → Accepted b → (of-a of-b : Bool) → SameSymbols (side_in of-a a.tape) (side_in of-b b.tape)
    → side_in of-a (remaining (join_call a)) ≡ side_in of-b (remaining (join_call b))

-- a refused call leaves the tape's sides and the words as they were
abbrev pub Keeps : Type 0
Keeps = (call : JoinInput) → (Accepted call → ⊥) → ((join_call call).tape ≡ call.tape) × ((join_call call).freed ≡ call.freed)
