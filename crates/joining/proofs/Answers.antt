-- What the call that joins a tape answers, once it is known whether the checks refuse it.
use Rattle.std.proofs.Common.{ℕ, ◌^◌, ◌<◌, ◌≡◌, None, Some, List, [], ◌∷◌, length, arith}
use Rattle.refusal.specs.declared.Refusal.{Refusal}
use Rattle.tape.specs.Tape.{Side, Tape}
use Rattle.tape.specs.Checks.{total, tape_refusal}
use Rattle.tape.proofs.Accepted.{readable, tape-passed}
use Rattle.joining.specs.Calls.{JoinOutput, freed_of, rewritten, with_sides, join_input, join_call}

-- what of its checks a side needs to be joined
abbrev pub Joinable : Side → Type 0
Joinable side = (length side.symbols ≡ length side.lengths) × (total side.lengths < 2 ^ 64)

pub joinable : (count : ℕ) (t : Tape) → tape_refusal count t ≡ None → Joinable t.left × Joinable t.right
joinable count t e =
    let p = tape-passed count t e in
    let r = readable count t p.0 p.1 in
    let a = r.left_room in
    let b = r.right_room in
    ((r.left_paired, omega arith), (r.right_paired, omega arith))

module _ (count : ℕ) (t : Tape) (old : List ℕ) where
  abbrev pub out : JoinOutput
  out = join_call (join_input count t old)

  -- an accepted call
  pub refusal_is : tape_refusal count t ≡ None → out.refusal ≡ None
  unfolding join_call
  refusal_is e = e

  pub after-tape : tape_refusal count t ≡ None → out.tape ≡ with_sides t (rewritten t.left) (rewritten t.right)
  unfolding join_call
  after-tape e = rw e

  pub after-freed : tape_refusal count t ≡ None → out.freed ≡ freed_of t.left ∷ freed_of t.right ∷ []
  unfolding join_call
  after-freed e = rw e

  -- a refused one
  pub kept_tape : (refusal : Refusal) → tape_refusal count t ≡ Some refusal → out.tape ≡ t
  unfolding join_call
  kept_tape refusal e = rw e

  pub kept_freed : (refusal : Refusal) → tape_refusal count t ≡ Some refusal → out.freed ≡ old
  unfolding join_call
  kept_freed refusal e = rw e
