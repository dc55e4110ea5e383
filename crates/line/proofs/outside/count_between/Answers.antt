-- `line::outside::count_between` meets its contract: the head's cell, the left runs and the right runs.
use Prim.Native.Nat.{ℕ, ◌+◌, ◌≤◌}
use mathlib.Core.Path.{sym, ap, subst, ◌∙◌}
use mathlib.Core.Bool.{true, false}
use native.Mathlib.Omega.{arith}
use native.Mathlib.Nat.{le_trans, zero-add}
use Rattle.tape.specs.Tape.{tape_at}
use Rattle.tape.specs.Checks.{total}
use Rattle.tape.specs.Inner.Checks.{Readable}
use Rattle.tape.specs.Inner.Sides.{side_symbol}
use Rattle.tape.specs.Inner.Sound.{Checked}
use Rattle.line.proofs.Tallying.{counting}
use Rattle.line.proofs.Walk.{row_added}
use Rattle.line.proofs.Counted.{counted_few, side_few}
use Rattle.line.proofs.outside.count_between.Goals as goal
use Rattle.line.proofs.outside.count_between.Goals.{After-count_side-right}

-- no more are counted than there are cells
few : (c : After-count_side-right) →
    let t = c.args.tape.now.tape in
    Readable t → (c.count_run-here.result ≤ 1) × (c.count_side-left.result ≤ total t.left.lengths) × (c.count_side-right.result ≤ total t.right.lengths)
few c r =
    let a = c.args in
    let t = a.tape.now.tape in
    let at = c.tape.inside.head.position in (
      rw c.count_run-here.ensures (le_trans (counted_few a.from a.to at _ (λ p. c.tape.inside.head.symbol)) (omega arith)),
      rw (c.count_side-left.ensures, c.left.ensures) (side_few a.from a.to true t.head (total t.left.lengths) (side_symbol true t.head t.left.symbols t.left.lengths) r.left_room),
      rw (c.count_side-right.ensures, c.right.ensures) (side_few a.from a.to false t.head (total t.right.lengths) (side_symbol false t.head t.right.symbols t.right.lengths) r.right_room),
    )

pub overflow_add-result : goal.overflow_add-result
overflow_add-result c =
    let r = subst (λ (t : Checked). Readable t.tape) c.tape.view_is c.tape.invariant.readable in
    let f = few (goal.at.overflow_add-result c).After-count_side-right r in
    record { fits = omega (arith, f, r.left_room, r.right_room) }

pub overflow_add-result-2 : goal.overflow_add-result-2
overflow_add-result-2 c =
    let r = subst (λ (t : Checked). Readable t.tape) c.tape.view_is c.tape.invariant.readable in
    let f = few (goal.at.overflow_add-result-2 c).After-count_side-right r in
    record { fits = omega (arith, f, r.left_room, r.right_room) }

pub returns-clause-value : goal.returns-clause-value
returns-clause-value c =
    let a = c.args in
    let here = c.count_run-here in
    let left = c.count_side-left in
    let i = c.tape.inside in
    rw (← c.tape.view_is)
    (row_added (tape_at i.head i.left.symbols.now i.left.lengths.now i.right.symbols.now i.right.lengths.now) c.tape.invariant.readable _ _ (counting a.from a.to) 0
    here.result (here.result + left.result) _ (here.ensures ∙ sym (zero-add _)) (ap (λ (n : ℕ). here.result + n) (left.ensures ∙ rw (c.left.ensures, ← c.tape.view_is)))
    (ap (λ (n : ℕ). here.result + left.result + n) (c.count_side-right.ensures ∙ rw (c.right.ensures, ← c.tape.view_is)))
    ∙ zero-add _)
