-- `tape::SoundSide::fill_side` meets its contract: at each turn the cells of the runs passed are written.
use Prim.Native.Nat.{◌+◌, ◌-◌}
use mathlib.Core.Path.{◌≡◌, sym, ◌∙◌}
use lib.ListN.{get_or}
use native.Mathlib.Omega.{arith}
use Rattle.tape.specs.Inner.Sides.{SideFits}
use Rattle.tape.proofs.Runs.{total_back, total_none, total_part}
use Rattle.tape.proofs.OneSide.{passed-fit, next_fit, IsPlace, none_begun, more_begun, all_begun, blank_begun}
use Rattle.tape.proofs.SoundSide.fill_side.Goals as goal
use Rattle.tape.proofs.SoundSide.fill_side.Goals.{At-loop-i, In-loop-i}

-- the runs passed and the run at hand are among all runs
fits : (c : In-loop-i) →
    let s = c.self.inside in
    SideFits s.leftward s.head (c.loop-i.passed + get_or s.runs.lengths.now (c.loop-i.i - 1) 0)
fits c =
    let l = c.loop-i in
    next_fit c.self.inside.leftward c.self.inside.head l.passed l.i c.self.inside.runs.lengths.now l.invariant.1 c.self.invariant.fits c.loop-i-test.true l.invariant.0

pub loop-i-init : goal.loop-i-init
loop-i-init c =
    let s = c.self.inside in (
      omega arith,
      sym (total_none s.runs.lengths.now),
      c.place-near.ensures ∙ rw c.edge.ensures,
      none_begun c.args.from s.head s.runs.symbols.now s.runs.lengths.now c.args.out.now c.self.invariant.paired s.leftward,
    )

-- the runs passed
fits_yet : (c : At-loop-i) →
    let s = c.self.inside in
    SideFits s.leftward s.head c.loop-i.passed
fits_yet c =
    passed-fit c.self.inside.leftward c.self.inside.head c.loop-i.passed c.loop-i.i c.self.inside.runs.lengths.now c.loop-i.invariant.1 c.self.invariant.fits

pub returns-then-near-last : goal.returns-then-near-last
returns-then-near-last c =
    let l = c.loop-i in
    let a = c.args in
    let s = c.self.inside in
    rw (← c.self.view_is)
    (all_begun a.from s.head s.runs.symbols.now s.runs.lengths.now a.out.now c.self.invariant.paired s.leftward l.passed l.near _ (fits_yet (goal.at.returns-then-near-last c).At-loop-i)
    l.invariant.2 (c.if-near-last.true ∙ c.outermost-last.ensures) l.invariant.3)

pub overflow_add-passed : goal.overflow_add-passed
overflow_add-passed c =
    let l = c.loop-i in
    let lengths = c.self.inside.runs.lengths.now in
    record { fits = omega (arith, total_back lengths l.i c.loop-i-test.true l.invariant.0, total_part lengths (l.i - 1), c.self.invariant.number) }

pub loop-i-preserved : goal.loop-i-preserved
loop-i-preserved c =
    let l = c.loop-i in
    let a = c.args in
    let s = c.self.inside in
    let lengths = s.runs.lengths.now in
    let t = total_back lengths l.i c.loop-i-test.true l.invariant.0 in
    let e : IsPlace a.from s.head a.out.now s.leftward (l.passed + get_or lengths (l.i - 1) 0) c.place-far.result =
    c.place-far.ensures ∙ rw c.edge-in-loop-i.ensures in (
      omega arith,
      omega arith,
      e,
      c.fill_between.ensures
          ∙ more_begun a.from s.head s.runs.symbols.now lengths a.out.now c.self.invariant.paired s.leftward l.i l.passed l.near _ l.out
          c.loop-i-test.true l.invariant.0 l.invariant.1 (fits (goal.at.loop-i-preserved c).In-loop-i) l.invariant.2 e l.invariant.3,
    )

pub returns : goal.returns
returns c =
    let l = c.loop-i in
    let a = c.args in
    let s = c.self.inside in
    let e : l.i ≡ 0 = omega arith in
    let filled = blank_begun a.from s.head s.runs.symbols.now s.runs.lengths.now a.out.now c.self.invariant.paired s.leftward l.passed l.near l.out
    (rw e at l.invariant.1) (fits_yet (goal.at.returns c).At-loop-i) l.invariant.2 l.invariant.3 in
    rw (← c.self.view_is) (c.fill_between-2.ensures ∙ rw c.outermost-last.ensures filled)

pub edge-requires-in-loop-i : goal.edge-requires-in-loop-i
edge-requires-in-loop-i c = fits (goal.at.edge-requires-in-loop-i c).In-loop-i
