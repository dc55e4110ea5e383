-- The claim about joining: every accepted call joins both sides, in the one way there is, and a refused call keeps them.
use Rattle.std.proofs.Common.{Option, None, Some}
use Rattle.refusal.specs.declared.Refusal.{Refusal}
use Prim.Native.Nat.{ℕ, suc, ◌+◌, ◌-◌}
use mathlib.Core.Path.{◌≡◌, refl, sym, ap, ◌∙◌}
use mathlib.Core.Bool.{Bool, true, false}
use mathlib.Core.List.{List, [], ◌∷◌, ◌++◌, append-nil}
use native.Mathlib.Omega.{arith}
use lib.ListN.{length, take, replicate, length-append, length-replicate}
use lib.Seq.{take_at}
use Rattle.tape.specs.Tape.{Side, Tape, side_of, symbol_at}
use Rattle.tape.specs.Checks.{side_sound, tape_refusal}
use Rattle.tape.proofs.Accepted.{side_parts, runs_parts, tape-passed}
use Rattle.joining.specs.Runs.{runs_in, joined_of, joined_side, side_with}
use Rattle.joining.specs.Calls.{JoinInput, JoinOutput, join_input, join_call, freed_of, rewritten, with_sides}
use Rattle.joining.specs.Joining.{JoinsTo, side_in, freed_in, without, remaining, CallJoins, Joins, SameRuns, Keeps}
use Rattle.joining.proofs.Canonical.{joined-joined, joined_stays}
use Rattle.joining.proofs.Sides.{runs_with, runs_full, joins_to, once}
use Rattle.joining.proofs.Answers.{refusal_is, after-tape, after-freed, kept_tape, kept_freed}
use Rattle.joining.proofs.Passing.{fewer_runs, joined-accepted}

abbrev joined_tape : Tape → Tape
joined_tape t = with_sides t (joined_side t.left) (joined_side t.right)

-- the places behind what remains
front : (xs : List ℕ) (n : ℕ) → take (length (xs ++ replicate n 0) - n) (xs ++ replicate n 0) ≡ xs
front xs n =
    let e : length xs ≡ length (xs ++ replicate n 0) - n = rw (length-append, length-replicate) (omega arith) in
    take_at xs (replicate n 0) (length (xs ++ replicate n 0) - n) e

front_side : (side : Side) → without (freed_of side) (rewritten side) ≡ joined_side side
front_side side =
    ap (λ (xs : List ℕ). side_of xs (without (freed_of side) (rewritten side)).lengths) (front (joined_side side).symbols (freed_of side))
    ∙ ap (side_of (joined_side side).symbols) (front (joined_side side).lengths (freed_of side))

-- a side that is joined already
module _ (count : ℕ) (side : Side) (sound : side_sound count side ≡ true) where
  joins_side : JoinsTo side (joined_side side)
  joins_side = let p = side_parts count side sound in joins_to side p.0 p.1

  stays : joined_side (joined_side side) ≡ joined_side side
  stays =
      let p = side_parts count side sound in
      ap (λ runs. side_with (joined_of runs)) (runs_with (joined_of (runs_in side)))
      ∙ ap side_with (joined_stays (joined_of (runs_in side)) (joined-joined (runs_in side) (runs_full side p.0 p.1)))

  none_freed : freed_of (joined_side side) ≡ 0
  none_freed = omega (arith, ap (λ (x : Side). length x.lengths) stays)

  same_slices : rewritten (joined_side side) ≡ joined_side side
  same_slices = rw (none_freed, append-nil, append-nil) stays

  all-freed : (runs : Side) → JoinsTo side runs → freed_of side + length runs.lengths ≡ length side.lengths
  all-freed runs j =
      let e : length runs.lengths ≡ length (joined_side side).lengths = ap (λ (x : Side). length x.lengths) (once side runs (joined_side side) j joins_side) in
      omega (arith, e, fewer_runs count side sound)

module _ (call : JoinInput) (accepted : tape_refusal call.symbols call.tape ≡ None) where
  abbrev t : Tape
  t = call.tape

  abbrev left_sound : side_sound call.symbols t.left ≡ true
  left_sound = (runs_parts call.symbols t (tape-passed call.symbols t accepted).0).1

  abbrev right_sound : side_sound call.symbols t.right ≡ true
  right_sound = (runs_parts call.symbols t (tape-passed call.symbols t accepted).0).2

  side_sound_lem : (left : Bool) → side_sound call.symbols (side_in left t) ≡ true
  side_sound_lem true = left_sound
  side_sound_lem false = right_sound

  abbrev out : JoinOutput
  out = join_call call

  tape_is : out.tape ≡ with_sides t (rewritten t.left) (rewritten t.right)
  tape_is = after-tape call.symbols t call.freed accepted

  freed_is : out.freed ≡ freed_of t.left ∷ freed_of t.right ∷ []
  freed_is = after-freed call.symbols t call.freed accepted

  -- what the call leaves, side by side
  side_is : (left : Bool) → side_in left out.tape ≡ rewritten (side_in left t)
  side_is true = ap (λ (u : Tape). u.left) tape_is
  side_is false = ap (λ (u : Tape). u.right) tape_is

  freed_in_lem : (left : Bool) → freed_in left out.freed ≡ freed_of (side_in left t)
  freed_in_lem true = ap (freed_in true) freed_is
  freed_in_lem false = ap (freed_in false) freed_is

  remaining_is : remaining out ≡ joined_tape t
  remaining_is =
      ap (λ (u : Tape). with_sides u (without (freed_in true out.freed) u.left) (without (freed_in false out.freed) u.right)) tape_is
      ∙ ap (λ (f : List ℕ). with_sides t (without (freed_in true f) (rewritten t.left)) (without (freed_in false f) (rewritten t.right))) freed_is
      ∙ ap (λ (x : Side). with_sides t x (without (freed_of t.right) (rewritten t.right))) (front_side t.left)
      ∙ ap (with_sides t (joined_side t.left)) (front_side t.right)

  remaining_side : (left : Bool) → side_in left (remaining out) ≡ joined_side (side_in left t)
  remaining_side true = ap (λ (u : Tape). u.left) remaining_is
  remaining_side false = ap (λ (u : Tape). u.right) remaining_is

  symbols_stay : (p : ℕ) → symbol_at (joined_tape t) p ≡ symbol_at t p
  unfolding symbol_at
  symbols_stay p = rw ((joins_side call.symbols t.left left_sound).same (t.head - suc p), (joins_side call.symbols t.right right_sound).same (p - suc t.head))

  again : (old : List ℕ) → join_call (join_input call.symbols (joined_tape t) old) ≡ record { refusal = None; tape = joined_tape t; freed = 0 ∷ 0 ∷ [] }
  again old =
      let z = joined-accepted call.symbols t accepted in
      let left = same_slices call.symbols t.left left_sound in
      let right = same_slices call.symbols t.right right_sound in
      let tape-stays : (join_call (join_input call.symbols (joined_tape t) old)).tape ≡ joined_tape t =
      after-tape call.symbols (joined_tape t) old z ∙ ap (λ (x : Side). with_sides t x (rewritten (joined_side t.right))) left ∙ ap (with_sides t (joined_side t.left)) right in
      let freed-none : (join_call (join_input call.symbols (joined_tape t) old)).freed ≡ 0 ∷ 0 ∷ [] =
      after-freed call.symbols (joined_tape t) old z
      ∙ rw (none_freed call.symbols t.left left_sound, none_freed call.symbols t.right right_sound) in
      λ i. record { refusal = refusal_is call.symbols (joined_tape t) old z i; tape = tape-stays i; freed = freed-none i }

  all_holds : CallJoins call
  all_holds = record {
    joins = λ left. rw (remaining_side left) (joins_side call.symbols (side_in left t) (side_sound_lem left));
    same_symbols = λ p. rw remaining_is (symbols_stay p);
    again = λ old. rw remaining_is (again old);
    freed = λ left runs j. rw (freed_in_lem left) (all-freed call.symbols (side_in left t) (side_sound_lem left) runs j);
    cleared = λ left. rw (side_is left, remaining_side left, freed_in_lem left) (refl, refl);
  }

pub joins : Joins
unfolding join_call
joins call accepted = all_holds call accepted

pub same_runs : SameRuns
unfolding join_call
same_runs a b e f of-a of-b same =
    let j = joins_side a.symbols (side_in of-a a.tape) (side_sound_lem a e of-a) in
    let k = joins_side b.symbols (side_in of-b b.tape) (side_sound_lem b f of-b) in
    let l : JoinsTo (side_in of-a a.tape) (joined_side (side_in of-b b.tape)) =
    record { same = λ d. k.same d ∙ sym (same d); paired = k.paired; full = k.full; joined = k.joined } in
    remaining_side a e of-a ∙ once (side_in of-a a.tape) (joined_side (side_in of-a a.tape)) (joined_side (side_in of-b b.tape)) j l ∙ sym (remaining_side b f of-b)

pub keeps : Keeps
unfolding join_call
keeps call refused = by (tape_refusal call.symbols call.tape) refl
  where
    by : (r : Option Refusal) → tape_refusal call.symbols call.tape ≡ r → ((join_call call).tape ≡ call.tape) × ((join_call call).freed ≡ call.freed)
    by None e = absurd (refused e)
    by (Some refusal) e = (kept_tape call.symbols call.tape call.freed refusal e, kept_freed call.symbols call.tape call.freed refusal e)
