-- What is compared of two pictures: what a picture that is not refused gives, and the tests one after the other.
use Rattle.std.proofs.Common.{◌≡◌, ℕ, ◌*◌, ◌≤◌, Bool, true, false, ◌&&◌, List, [], ◌∷◌, None, length, eqb, refl, sym, ap, ◌∙◌, mul-le-mul_right, eqb-true, eq-eqb}
use Rattle.std.proofs.Math.Bool.{and-false, and-true, and-eq-true_iff}
use Rattle.std.specs.Cmp.Lexicographic.{pointwise}
use Rattle.refusal.proofs.Passed.{passed, first-passed, both-passed}
use Rattle.slices.specs.Same.{same}
use Rattle.slices.specs.Tabulate.{tabulate}
use Rattle.grid.specs.declared.Grid.{Grid}
use Rattle.grid.specs.Soundness.{grid_sound, step_of}
use Rattle.grid.specs.Memory.{stored_cells}
use Rattle.grid.proofs.Sound.{sound_facts}
use Rattle.picture.specs.Calls.{State}
use Rattle.picture.specs.Equal.{lent_checks, equal_refusal, same_window, drawn_steps, drawn_symbols, alike}
use Rattle.picture.specs.EqualMeaning.{Taken}

-- a picture that is not refused has a sound grid, and index and store of its lengths
pub record Whole (s : State) : Type 0 where
  pub sound : grid_sound s.grid ≡ true
  pub index_long : length s.index ≡ s.grid.width * s.grid.height
  pub store_long : length s.store ≡ s.grid.rows * stored_cells s.grid.columns

pub taken_whole : (s : State) → Taken s → Whole s
taken_whole s e =
    let p = passed (lent_checks s) e in
    record { sound = p.0; index_long = eqb-true _ _ p.1.0; store_long = eqb-true _ _ p.1.1.0 }

pub whole_taken : (s : State) → Whole s → Taken s
whole_taken s w = rw (w.sound, eq-eqb _ _ w.index_long, eq-eqb _ _ w.store_long)

-- the symbols of the drawn rows are among those of the store
pub drawn_within : (g : Grid) → grid_sound g ≡ true → g.progress.done * stored_cells g.columns ≤ g.rows * stored_cells g.columns
drawn_within g e = mul-le-mul_right (stored_cells g.columns) (sound_facts g e).done_most

-- two are not refused exactly if neither is
pub both_taken : (s t : State) → equal_refusal s t ≡ None → Taken s × Taken t
unfolding equal_refusal
both_taken s t e = both-passed (lent_checks s) (lent_checks t) e

pub taken_both : (s t : State) → Taken s → Taken t → equal_refusal s t ≡ None
unfolding equal_refusal
taken_both s t e f = first-passed (lent_checks s) (lent_checks t) e ∙ f

-- the tests of a definition, in the order in which the code makes them
in_turn : (size bytes window rows steps symbols : Bool)
    → ((size && bytes) && (window && (rows && (steps && (symbols && true))))) ≡ ((size && (window && rows)) && (steps && (bytes && symbols)))
in_turn false bytes window rows steps symbols = refl
in_turn true false window rows steps symbols = rw (and-false steps, and-false (window && rows))
in_turn true true false rows steps symbols = refl
in_turn true true true false steps symbols = refl
in_turn true true true true false symbols = refl
in_turn true true true true true symbols = and-true symbols

-- std's comparison of two lists of numbers
pub same_pointwise : (xs ys : List ℕ) → pointwise eqb xs ys ≡ same xs ys
unfolding same
same_pointwise [] [] = refl
same_pointwise [] (y ∷ ys) = refl
same_pointwise (x ∷ xs) [] = refl
same_pointwise (x ∷ xs) (y ∷ ys) = ap (λ (rest : Bool). eqb x y && rest) (same_pointwise xs ys)

pub same_itself : (xs : List ℕ) → same xs xs ≡ true
unfolding same
same_itself [] = refl
same_itself (x ∷ xs) = rw (eq-eqb x x refl, same_itself xs)

-- the tests of two pictures in turn: size, window and number of rows, then the steps, the bytes, the symbols
module _ (s t : State) where
  abbrev size : Bool
  size = eqb s.grid.width t.grid.width && eqb s.grid.height t.grid.height

  abbrev window : Bool
  window = same_window s.grid.columns t.grid.columns

  abbrev rows : Bool
  rows = eqb s.grid.progress.done t.grid.progress.done

  abbrev pub symbols : Bool
  symbols = same (drawn_symbols s.grid s.store) (drawn_symbols t.grid t.store)

  by_turns : alike s t ≡ ((size && (window && rows)) && (same (drawn_steps s.grid) (drawn_steps t.grid) && (same s.index t.index && symbols)))
  unfolding alike
  by_turns = in_turn size (same s.index t.index) window rows (same (drawn_steps s.grid) (drawn_steps t.grid)) symbols

  rows_equal : (size && (window && rows)) ≡ true → s.grid.progress.done ≡ t.grid.progress.done
  rows_equal e = eqb-true _ _ ((and-eq-true_iff window rows).0 ((and-eq-true_iff size (window && rows)).0 e).1).1

  frame_passed : (size && (window && rows)) ≡ true
      → alike s t ≡ (same (drawn_steps s.grid) (tabulate (step_of t.grid) s.grid.progress.done) && (same s.index t.index && symbols))
  frame_passed e =
      by_turns
      ∙ ap (λ (frame : Bool). frame && (same (drawn_steps s.grid) (drawn_steps t.grid) && (same s.index t.index && symbols))) e
      ∙ ap (λ (n : ℕ). same (drawn_steps s.grid) (tabulate (step_of t.grid) n) && (same s.index t.index && symbols)) (sym (rows_equal e))

  abbrev pub steps : Bool
  steps = same (drawn_steps s.grid) (tabulate (step_of t.grid) s.grid.progress.done)

  -- the tests as the code makes them, with as many of the second picture's rows as the first one has
  pub decided : ((((size && (window && rows)) && steps) && same s.index t.index) && symbols) ≡ alike s t
  decided = by (size && (window && rows)) refl
    where
      by : (frame : Bool) → (size && (window && rows)) ≡ frame → ((((size && (window && rows)) && steps) && same s.index t.index) && symbols) ≡ alike s t
      by true e = rw e (rest steps (same s.index t.index) ∙ sym (frame_passed e))
        where
          rest : (a b : Bool) → ((a && b) && symbols) ≡ (a && (b && symbols))
          rest true b = refl
          rest false b = refl
      by false e = rw e (sym (by_turns ∙ rw e))

  -- the same by what each test gave
  pub turns : (frame steps-too bytes-too : Bool) → frame ≡ (size && (window && rows)) → steps-too ≡ (frame && steps) → bytes-too ≡ (steps-too && same s.index t.index)
      → (bytes-too && symbols) ≡ alike s t
  turns frame steps-too bytes-too a b c = rw (c, b, a) decided

  pub steps_by : (frame : Bool) (g h : Grid) → frame ≡ true → g ≡ s.grid → h ≡ t.grid
      → same (tabulate (step_of g) g.progress.done) (tabulate (step_of h) g.progress.done) ≡ (frame && steps)
  steps_by frame g h e a b = rw (e, a, b)

  pub bytes_by : (before : Bool) (xs ys : List ℕ) → before ≡ true → xs ≡ s.index → ys ≡ t.index → pointwise eqb xs ys ≡ (before && same s.index t.index)
  bytes_by before xs ys e a b = rw (e, a, b) (same_pointwise s.index t.index)

  pub symbols_by : (before : Bool) (xs ys : List ℕ) → before ≡ true → xs ≡ drawn_symbols s.grid s.store → ys ≡ drawn_symbols t.grid t.store
      → (before && symbols) ≡ alike s t
      → pointwise eqb xs ys ≡ alike s t
  symbols_by before xs ys e a b all = rw (a, b) (same_pointwise _ _) ∙ (rw e at all)
