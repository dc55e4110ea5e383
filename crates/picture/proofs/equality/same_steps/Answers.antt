-- `picture::equality::same_steps` meets its contract: no rows have the same steps, and of some the first two and the last tell.
use Rattle.std.proofs.Common.{sym, ◌∙◌, refl, rules}
use Rattle.slices.specs.Same.{same}
use Rattle.slices.specs.Tabulate.{tabulate}
use Rattle.picture.proofs.Steps.{steps_asked}
use Rattle.picture.proofs.equality.same_steps.Goals as goal
use Rattle.picture.proofs.equality.same_steps.Goals.{then-same_step, else-same_step}

pub returns-then-rows-eq0 : goal.returns-then-rows-eq0
unfolding same tabulate
returns-then-rows-eq0 c = rw c.if-rows-eq0.true refl

pub returns-then-same_step-2 : goal.returns-then-same_step-2
returns-then-same_step-2 c =
    let a = c.args in
    elim c.if-same_step.branch [
      | then-same_step w ↦ rw (w.if-same_step.true, sym w.value-is ∙ c.if-same_step-2.true) at
          (steps_asked a.grid a.other a.rows _ _ _ _ c.if-rows-eq0.false w.min.ensures c.same_step.ensures w.same_step-then-same_step.ensures c.same_step-then-same_step-2.ensures)
      | else-same_step w ↦ search rules
    ]

pub returns-else-same_step-2 : goal.returns-else-same_step-2
returns-else-same_step-2 c =
    let a = c.args in
    elim c.if-same_step.branch [
      | then-same_step w ↦ c.if-same_step-2.false ∙ (rw (w.if-same_step.true, sym w.value-is ∙ c.if-same_step-2.false) at
          (steps_asked a.grid a.other a.rows _ _ _ _ c.if-rows-eq0.false w.min.ensures c.same_step.ensures w.same_step-then-same_step.ensures refl))
      | else-same_step w ↦ c.if-same_step-2.false ∙ (rw w.if-same_step.false at
          (steps_asked a.grid a.other a.rows _ _ _ _ c.if-rows-eq0.false refl c.same_step.ensures refl refl))
    ]
