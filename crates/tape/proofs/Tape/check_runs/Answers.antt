-- `tape::Tape::check_runs` meets its contract: what passed the checks is sound.
use Rattle.std.proofs.Common.{sym, ◌∙◌, subst}
use Rattle.refusal.proofs.Kept.{required}
use Rattle.tape.specs.Tape.{Tape}
use Rattle.tape.specs.Inner.Sound.{checked, IsSound}
use Rattle.tape.proofs.Below.{sound}
use Rattle.tape.proofs.Tape.check_runs.Goals as goal

pub invariant_of-result : goal.invariant_of-result
invariant_of-result c =
    let runs = sym c.runs_sound.ensures ∙ required c.runs_sound.result _ (sym c.require.ensures ∙ c.in_ok-require.was) in
    let reach = sym c.reach_sound.ensures ∙ required c.reach_sound.result _ (sym c.require-3.ensures ∙ c.in_ok-require-3.was) in
    subst (λ (t : Tape). IsSound (checked t c.args.count)) (sym c.self.view_is) (sound c.args.count c.args.self.now runs reach)
