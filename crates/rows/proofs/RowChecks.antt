-- The checks of a row call: the first that fails, and what is known once none does.
use Rattle.std.proofs.Common.{Option, Some, None, Result, refl, sym, ap, ℕ, ◌+◌, ◌*◌, ◌≤◌, ◌<◌, ◌≡◌, ◌∙◌, Bool, true, cond, ◌&&◌, List, [], ◌∷◌, ◌++◌, arith, le_trans, ltb, leb, length, ltb-true, leb-true, eqb-true}
use Rattle.std.proofs.Math.Bool.{and-eq-true_iff}
use Rattle.refusal.specs.declared.Refusal.{Refusal}
use Rattle.refusal.specs.declared.Refusal.TheVariants.{Swept}
use Rattle.refusal.specs.Checks.{first_failed, said_by}
use Rattle.refusal.specs.Inner.Chained.{or_else}
use Rattle.refusal.proofs.Chained.{appended}
use Rattle.refusal.proofs.Kept.{said_answer}
use Rattle.refusal.proofs.Passed.{passed, first_refused, first-passed}
use Rattle.tape.specs.Tape.{Tape, symbol_at}
use Rattle.position.specs.Position.{lowest, highest, in_domain}
use Rattle.tape.specs.Checks.{total, reach_sound}
use Rattle.tape.specs.Joined.{tape_joined}
use Rattle.tape.specs.Inner.Checks.{Readable, run_checks, runs_refusal}
use Rattle.tape.proofs.Below.{sound}
use Rattle.columns.specs.declared.Pair.{Pair}
use Rattle.columns.specs.Window.{first_of, cells_in}
use Rattle.grid.specs.declared.Grid.{Grid}
use Rattle.grid.specs.Soundness.{most_on_tape, grid_sound}
use Rattle.grid.specs.Memory.{stored_cells}
use Rattle.grid.proofs.Sound.{progress_by, sound_with}
use Rattle.line.specs.Line.{tallies_in, cells_on, row_units}
use Rattle.line.proofs.Accounts.{where_few}
use Rattle.rows.specs.RowCall.{RowInput, memory_checks, swept_sound, row_checks, row_refusal, row_input_refusal, progressed, advanced, row_call, row_said}
use Rattle.rows.specs.declared.Drawn.{Drawn}
use Rattle.rows.specs.Inner.Memory.{memory_refusal}

-- the checks of memory, of the tape and of the swept pair, in turn
module _ (g : Grid) (index store tallies : ℕ) (t : Tape) (swept : Option Pair) where
  abbrev last : List (Bool × Refusal)
  last = (swept_sound g.exact swept, Swept) ∷ []

  pub by_memory : {refusal : Refusal} → memory_refusal g index store tallies ≡ Some refusal → row_refusal g index store tallies t swept ≡ Some refusal
  unfolding memory_refusal row_refusal
  by_memory e = first_refused (memory_checks g index store tallies) (run_checks g.symbols (tape_joined t) t ++ last) e

  pub by_tape : {refusal : Refusal} → memory_refusal g index store tallies ≡ None → runs_refusal g.symbols (tape_joined t) t ≡ Some refusal
      → row_refusal g index store tallies t swept ≡ Some refusal
  unfolding memory_refusal runs_refusal row_refusal
  by_tape m e =
      first-passed (memory_checks g index store tallies) (run_checks g.symbols (tape_joined t) t ++ last) m
      ∙ first_refused (run_checks g.symbols (tape_joined t) t) last e

  pub by_swept : memory_refusal g index store tallies ≡ None → runs_refusal g.symbols (tape_joined t) t ≡ None
      → row_refusal g index store tallies t swept ≡ cond (swept_sound g.exact swept) None (Some Swept)
  unfolding memory_refusal runs_refusal row_refusal
  by_swept m r =
      first-passed (memory_checks g index store tallies) (run_checks g.symbols (tape_joined t) t ++ last) m
      ∙ first-passed (run_checks g.symbols (tape_joined t) t) last r

-- so a row call's checks are those of memory, of the tape and of the swept pair, in turn
pub in_turn : (g : Grid) (index store tallies : ℕ) (t : Tape) (swept : Option Pair)
    → or_else (or_else (memory_refusal g index store tallies) (runs_refusal g.symbols (tape_joined t) t)) (cond (swept_sound g.exact swept) None (Some Swept))
    ≡ row_refusal g index store tallies t swept
unfolding memory_refusal runs_refusal row_refusal
in_turn g index store tallies t swept =
    sym
    (appended (memory_checks g index store tallies) (run_checks g.symbols (tape_joined t) t ++ (swept_sound g.exact swept, Swept) ∷ [])
    ∙ ap (or_else (first_failed (memory_checks g index store tallies))) (appended (run_checks g.symbols (tape_joined t) t) ((swept_sound g.exact swept, Swept) ∷ []))
    ∙ in_three (first_failed (memory_checks g index store tallies)) (first_failed (run_checks g.symbols (tape_joined t) t)) _)
  where
    in_three : (a b c : Option Refusal) → or_else a (or_else b c) ≡ or_else (or_else a b) c
    in_three None b c = refl
    in_three (Some a) b c = refl

-- an answer with the number and the units that it stands for
pub row_said_lem : (i : RowInput) {r : Result Drawn Refusal} → r ≡ (row_call i).answer
    → (r ≡ (row_call i).answer) × (row_said r ≡ said_by (row_input_refusal i) 0 (row_units i.grid.columns i.tape))
unfolding row_call
row_said_lem i e = (e, ap row_said e ∙ said_answer 0 (λ (drawn : Drawn). drawn.units) (row_input_refusal i) _)

-- a tape within ±L has few cells
reach_few : (t : Tape) → reach_sound t ≡ true → cells_on t ≤ most_on_tape
reach_few t e =
    let r = (and-eq-true_iff (in_domain t.head && leb (lowest + total t.left.lengths) t.head) (leb (t.head + total t.right.lengths) highest)).0 e in
    let l = leb-true (lowest + total t.left.lengths) t.head ((and-eq-true_iff (in_domain t.head) (leb (lowest + total t.left.lengths) t.head)).0 r.0).1 in
    let h = leb-true (t.head + total t.right.lengths) highest r.1 in
    omega arith

-- what is known of a row call that is not refused
pub record Known (i : RowInput) : Type 0 where
  pub sound : grid_sound i.grid ≡ true
  pub left : i.grid.progress.done < i.grid.rows
  pub index_long : length i.index ≡ i.grid.width * i.grid.height
  pub store_long : length i.store ≡ i.grid.rows * stored_cells i.grid.columns
  pub tallies_long : length i.tallies ≡ tallies_in i.grid.columns
  pub readable : Readable i.tape
  pub few : cells_on i.tape ≤ most_on_tape
  pub below : (p : ℕ) → symbol_at i.tape p < i.grid.symbols

pub not_refused : (i : RowInput) → row_input_refusal i ≡ None → Known i
unfolding row_refusal
not_refused i e =
    let g = i.grid in
    let p = passed (row_checks g (length i.index) (length i.store) (length i.tallies) i.tape i.swept) e in
    let later = p.1.1.1.1.1 in
    let s = sound g.symbols i.tape later.0 later.1.1.0 in
    record {
      sound = p.0;
      left = ltb-true _ _ p.1.0;
      index_long = eqb-true _ _ p.1.1.0;
      store_long = eqb-true _ _ p.1.1.1.0;
      tallies_long = eqb-true _ _ p.1.1.1.1.0;
      readable = s.readable;
      few = reach_few i.tape later.1.1.0;
      below = s.below;
    }

-- the grid that it answers is sound
pub advanced_sound : (i : RowInput) → Known i → grid_sound (advanced i.grid i.tape) ≡ true
advanced_sound i k =
    let columns = i.grid.columns in
    let made = progressed i.grid i.tape in
    sound_with i.grid made k.sound
    (progress_by made i.grid.rows (omega (arith, k.left)) (le_trans (where_few i.tape (λ p. ltb p (first_of columns))) k.few)
    (le_trans (where_few i.tape (λ p. leb (first_of columns + cells_in columns) p)) k.few))
