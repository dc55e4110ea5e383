-- `tape::Tape::window` meets its contract: what the checks answer, and the window where they refuse nothing.
use Rattle.std.proofs.Common.{sym, ◌∙◌}
use Rattle.refusal.proofs.Kept.{refused, accepted}
use Rattle.tape.specs.Calls.{window_call}
use Rattle.tape.proofs.Tape.window.Goals as goal

pub returns-in_err-check-clause-out_after : goal.returns-in_err-check-clause-out_after
unfolding window_call
returns-in_err-check-clause-out_after c = rw (refused _ _ (sym c.check.ensures ∙ c.in_err-check.was))

pub returns-clause-out_after : goal.returns-clause-out_after
unfolding window_call
returns-clause-out_after c = let t = accepted _ _ (sym c.check.ensures ∙ c.in_ok-check.was) in rw (t.0, c.fill_window.ensures, t.1)
