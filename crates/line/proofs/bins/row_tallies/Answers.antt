-- `line::bins::row_tallies` meets its contract: none, then the head's cell, the left runs and the right runs.
use Rattle.std.proofs.Common.{◌≡◌, ℕ, ◌+◌, ◌^◌, Bool, List, length, ◌∙◌, arith, rules}
use Rattle.slices.specs.Inner.Filled.{cleared}
use Rattle.slices.proofs.Filling.{zeros-cleared}
use Rattle.tape.specs.Tape.{tape_at}
use Rattle.columns.specs.declared.Columns.{Columns}
use Rattle.columns.specs.Inner.Adding.{Takes, added}
use Rattle.columns.specs.Inner.Usable.{Usable}
use Rattle.columns.proofs.Added.{added_zeros, takes_cleared, takes_more, takes_room}
use Rattle.line.specs.Line.{written}
use Rattle.line.proofs.Tallying.{tallied}
use Rattle.line.proofs.Walk.{row_added}
use Rattle.line.proofs.bins.row_tallies.Goals as goal
use Rattle.line.proofs.bins.row_tallies.Goals.{After-fill}

zeros : (c : After-fill) → c.fill.new.self ≡ cleared c.args.tallies.now
zeros c = search rules ∙ zeros-cleared c.args.tallies.now

-- there is room for a side on the head's cell, and for the other side on these
module _ (first cells : ℕ) (ts none head : List ℕ) (f : ℕ → Bool) (u : Usable (Columns.Bins first cells (length ts))) (z : none ≡ cleared ts) (h : head ≡ added first cells f none) where
  one : Takes first cells (1 + cells) head
  one = takes_more first cells 1 f none head h (takes_cleared first cells ts none z u.1 (omega (arith, u)) u.3 u.4)

  head_room : Takes first cells (2 ^ 62) head
  head_room = takes_room first cells (1 + cells) (2 ^ 62) head (omega (arith, u)) one

  side_room : (side : List ℕ) (g : ℕ → Bool) → side ≡ added first cells g head → Takes first cells (2 ^ 62) side
  side_room side g s = takes_room first cells (1 + cells + cells) (2 ^ 62) side (omega (arith, u)) (takes_more first cells (1 + cells) g head side s one)

pub add_side-requires-clause-takes : goal.add_side-requires-clause-takes
add_side-requires-clause-takes c = head_room _ _ _ _ _ _ c.requires (zeros (goal.at.add_side-requires-clause-takes c).After-fill) c.add_written.ensures

pub add_side-requires-2-clause-takes : goal.add_side-requires-2-clause-takes
add_side-requires-2-clause-takes c =
    side_room _ _ _ _ _ _ c.requires (zeros (goal.at.add_side-requires-2-clause-takes c).After-fill) c.add_written.ensures _ _ c.add_side.ensures

pub returns : goal.returns
returns c =
    let a = c.args in
    let i = c.tape.inside in
    let t = tape_at i.head i.left.symbols.now i.left.lengths.now i.right.symbols.now i.right.lengths.now in
    rw (← c.tape.view_is)
    (row_added t c.tape.invariant.readable _ _ (tallied a.first a.cells) _ _ _ _ c.add_written.ensures c.add_side.ensures c.add_side-2.ensures
    ∙ rw (zeros (goal.at.returns c).After-fill) (added_zeros a.first (length a.tallies.now) a.cells (written t)))
