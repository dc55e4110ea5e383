-- The checks by the sums of both sides are the tape's, and where they pass, the lent slices have one place a run.
use Rattle.std.proofs.Common.{◌≡◌, refl, sym, ◌∙◌, ℕ, ◌+◌, min, Bool, true, false, ◌&&◌, ltb, eqb, Option, None, List, [], ◌∷◌, map, ℤ, length, arith}
use mathlib.Core.Bool.{and-eq-true_iff}
use borrow.Author.Tests.{eq-eqb, eqb-true}
use lib.Dec.{lit<}
use lib.ListN.{length-map}
use Rattle.refusal.specs.declared.Refusal.TheVariants.{Runs, Unjoined, Reach}
use Rattle.refusal.specs.Checks.{first_failed}
use Rattle.refusal.proofs.Passed.{passed}
use Rattle.position.specs.Position.{offset_of, in_reach}
use Rattle.position.proofs.Reach.{reach_held}
use Rattle.tape.specs.Tape.{Tape, side_of}
use Rattle.tape.specs.Checks.{total, side_sound, runs_sound, reach_sound, tape_refusal}
use Rattle.tape.specs.Joined.{tape_joined}
use Rattle.tape.specs.Inner.Checks.{runs_refusal}
use Rattle.tape.proofs.Accepted.{tape-passed}
use Rattle.columns.specs.declared.Pair.{Pair}
use Rattle.grid.specs.declared.Grid.{Grid}
use Rattle.rows.specs.RowCall.{row_checks, row_refusal}
use Rattle.runs.specs.declared.Run.{Run}
use Rattle.runs.specs.declared.checking.Said.{Said}
use Rattle.runs.specs.Runs.{symbol_of, length_of, one_place_each, side_of_runs, tape_of_runs}
use Rattle.runs.specs.Inner.Sums.{sound_runs, sum_of, said_by_sums}

-- a side that is paired is sound where its runs are
paired_sound : (count : ℕ) (runs : List Run) → side_sound count (side_of (map symbol_of runs) (map length_of runs)) ≡ sound_runs count runs
paired_sound count runs = rw (eq-eqb (length (map symbol_of runs)) (length (map length_of runs)) (length-map runs symbol_of ∙ sym (length-map runs length_of)))

-- 11 by the sums is 11 by the sides
sides_are : (c fits : Bool) (count : ℕ) (left right : List Run)
    → (c && fits && sound_runs count left && sound_runs count right) ≡ (c && side_sound count (side_of_runs fits left) && side_sound count (side_of_runs fits right))
sides_are true true count left right = rw (paired_sound count left, paired_sound count right)
sides_are true false count left right = refl
sides_are false fits count left right = refl

fits_where_sound : (c fits a b : Bool) → (c && fits && a && b) ≡ true → fits ≡ true
fits_where_sound true true a b e = refl
fits_where_sound true false a b e = e
fits_where_sound false fits a b e = absurd cc

-- a total that the sum does not count is beyond reach
abbrev most : ℕ
most = 0xffff_ffff_ffff_ffff

held : (h a b : ℕ) → in_reach h (min a most) (min b most) ≡ in_reach h a b
held h a b =
    let left : min a most ≡ min most a = omega arith in
    let right : min b most ≡ min most b = omega arith in
    rw (left, right) (reach_held most h a b (lit< tt))

-- a check counts only where those before it pass
first_decides : (c d x y p q : Bool) → c ≡ d → (c ≡ true → x ≡ y) → (c ≡ true → p ≡ q)
    → first_failed ((c, Runs) ∷ (x, Unjoined) ∷ (p, Reach) ∷ []) ≡ first_failed ((d, Runs) ∷ (y, Unjoined) ∷ (q, Reach) ∷ [])
first_decides true d x y p q e f g = rw (← e, ← f refl, ← g refl)
first_decides false d x y p q e f g = rw (← e)

module _ (count : ℕ) (head : ℤ) (cur : ℕ) (left right : List Run) (s l : ℕ) where
  abbrev fits : Bool
  fits = one_place_each (length left) (length right) s l

  abbrev tape : Tape
  tape = tape_of_runs head cur left right s l

  abbrev said : Said
  said = said_by_sums count head cur fits (sum_of count left) (sum_of count right)

  -- what the sums refuse is what the tape is refused by, where 19 goes by tests that agree if the lent slices have one place a run
  refusal_is : (x y : Bool) → (fits ≡ true → x ≡ y) → first_failed ((said.sound, Runs) ∷ (x, Unjoined) ∷ (said.reach, Reach) ∷ []) ≡ runs_refusal count y tape
  unfolding runs_refusal
  refusal_is x y agree =
      let known = λ (t : said.sound ≡ true). fits_where_sound (ltb cur count) fits (sound_runs count left) (sound_runs count right) t in
      first_decides said.sound _ _ _ _ _ (sides_are (ltb cur count) fits count left right) (λ t. agree (known t))
      (λ t. rw (known t) (held (offset_of head) (total (map length_of left)) (total (map length_of right))))

  pub alone_refusal_is : first_failed ((runs_sound count tape, Runs) ∷ (reach_sound tape, Reach) ∷ []) ≡ first_failed ((said.sound, Runs) ∷ (said.reach, Reach) ∷ [])
  unfolding runs_refusal
  alone_refusal_is = sym (refusal_is true true (λ f. refl))

  pub joined_refusal_is : runs_refusal count (tape_joined tape) tape ≡ first_failed ((said.sound, Runs) ∷ (said.joined, Unjoined) ∷ (said.reach, Reach) ∷ [])
  joined_refusal_is = sym (refusal_is _ _ (λ f. rw f))

-- where a side is sound, the lent slices have one place a run
room : (count : ℕ) (head : ℤ) (cur : ℕ) (left right : List Run) (s l : ℕ) → runs_sound count (tape_of_runs head cur left right s l) ≡ true
    → one_place_each (length left) (length right) s l ≡ true
room count head cur left right s l e =
    let f : Bool = one_place_each (length left) (length right) s l in
    fits_where_sound (ltb cur count) f (sound_runs count left) (sound_runs count right) (sides_are (ltb cur count) f count left right ∙ e)

places : (left right s l : ℕ) → one_place_each left right s l ≡ true → (s ≡ left + right) × (l ≡ left + right)
places left right s l e =
    let q = (and-eq-true_iff (eqb s (left + right)) (eqb l (left + right))).0 e in
    (eqb-true s (left + right) q.0, eqb-true l (left + right) q.1)

-- where a call on a tape alone is not refused, the lent slices have one place a run
pub alone_places : (count : ℕ) (head : ℤ) (cur : ℕ) (left right : List Run) (s l : ℕ) → tape_refusal count (tape_of_runs head cur left right s l) ≡ None
    → (s ≡ length left + length right) × (l ≡ length left + length right)
alone_places count head cur left right s l none =
    let t = tape_of_runs head cur left right s l in
    places (length left) (length right) s l (room count head cur left right s l (tape-passed count t none).0)

-- the same of a row call
pub row_places : (g : Grid) (index store tallies : ℕ) (swept : Option Pair) (head : ℤ) (cur : ℕ) (left right : List Run) (s l : ℕ)
    → row_refusal g index store tallies (tape_of_runs head cur left right s l) swept ≡ None
    → (s ≡ length left + length right) × (l ≡ length left + length right)
unfolding row_refusal
row_places g index store tallies swept head cur left right s l none =
    let t = tape_of_runs head cur left right s l in
    places (length left) (length right) s l (room g.symbols head cur left right s l (passed (row_checks g index store tallies t swept) none).1.1.1.1.1.0)
