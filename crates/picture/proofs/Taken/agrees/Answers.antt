-- `picture::Taken::agrees` meets its contract: the tests in turn, and the first that fails decides.
use Rattle.std.proofs.Common.{◌≡◌, ◌&&◌, ap, ◌∙◌}
use Rattle.slices.specs.Same.{same}
use Rattle.picture.specs.Calls.{State}
use Rattle.picture.specs.Equal.{alike}
use Rattle.picture.proofs.Compared.{steps, symbols, turns, steps_by, bytes_by, symbols_by}
use Rattle.picture.proofs.Taken.agrees.Goals as goal
use Rattle.picture.proofs.Taken.agrees.Goals.{Joined-same_steps, then-same_frame, else-same_frame, then-same_steps, else-same_steps}

-- what the first tests say together, and then the bytes too
module _ (c : Joined-same_steps) where
  frame : c.if-same_frame.value ≡ (c.same_frame.result && steps c.args.self.now c.args.other.now)
  frame = elim c.if-same_frame.branch [
    | then-same_frame w ↦ w.value-is ∙ w.same_steps.ensures ∙ steps_by c.args.self.now c.args.other.now _ _ _ w.if-same_frame.true (c.grid.view_is ∙ ap (λ (s : State). s.grid) c.self.view_is) (c.with.view_is ∙ ap (λ (s : State). s.grid) c.other.view_is)
    | else-same_frame w ↦ w.value-is ∙ rw w.if-same_frame.false
  ]

  bytes : c.if-same_steps.value ≡ (c.if-same_frame.value && same c.args.self.now.index c.args.other.now.index)
  bytes = elim c.if-same_steps.branch [
    | then-same_steps w ↦ w.value-is ∙ w.eq.ensures ∙ bytes_by c.args.self.now c.args.other.now _ _ _ w.if-same_steps.true (ap (λ (s : State). s.index) c.self.view_is) (ap (λ (s : State). s.index) c.other.view_is)
    | else-same_steps w ↦ w.value-is ∙ rw w.if-same_steps.false
  ]

  all : (c.if-same_steps.value && symbols c.args.self.now c.args.other.now) ≡ alike c.args.self.now c.args.other.now
  all = turns c.args.self.now c.args.other.now _ _ _ c.same_frame.ensures frame bytes

pub returns-then-eq : goal.returns-then-eq
returns-then-eq c =
    c.eq-then-eq.ensures ∙ symbols_by c.args.self.now c.args.other.now _ _ _ c.if-eq.true c.drawn_symbols.ensures c.drawn_symbols-then-eq.ensures (all (goal.at.returns-then-eq c).Joined-same_steps)

pub returns-else-eq : goal.returns-else-eq
returns-else-eq c = c.if-eq.false ∙ (rw c.if-eq.false at (all (goal.at.returns-else-eq c).Joined-same_steps))
