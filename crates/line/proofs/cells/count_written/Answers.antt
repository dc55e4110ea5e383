-- `line::cells::count_written` meets its contract: a symbol counts for one at most.
use Rattle.std.proofs.Common.{◌≡◌, ◌≤◌, ℕ, Bool, true, false, cond, ltb, get_or, refl, add-one, arith}
use mir.Val.{bool_byte}
use Rattle.columns.specs.Bins.{sum_to, written_in}
use Rattle.line.proofs.cells.count_written.Goals as goal

one : (n : ℕ) (b : Bool) → n ≡ bool_byte b → (n ≤ 1) × (n ≡ cond b 1 0)
one n true e = (omega arith, e)
one n false e = (omega arith, e)

pub loop-symbol-init : goal.loop-symbol-init
unfolding written_in sum_to
loop-symbol-init c = record { few = omega arith; counted = refl }

pub loop-symbol-preserved : goal.loop-symbol-preserved
unfolding written_in sum_to
loop-symbol-preserved c =
    let l = c.loop-symbol in
    let e = one c.from-sum.result (ltb 0 (get_or c.args.symbols.now l.symbol-index 0)) c.from-sum.ensures in
    record { few = omega (arith, e.0); counted = rw (add-one, ← l.invariant.counted, ← e.1) }
