-- `probe::across::window` meets its contract: numbers can be worked out of sound columns.
use Rattle.std.proofs.Common.{arith, sym, ◌∙◌}
use Rattle.std.proofs.lemmas.Grind.{common_steps}
use Rattle.columns.proofs.Soundness.{sound_usable}
use Rattle.probe.proofs.across.window.Goals as goal

pub invariant_of-result : goal.invariant_of-result
invariant_of-result c =
    let a = c.args in
    record { usable = sound_usable a.width a.columns (grind (arith, common_steps)) (grind (arith, common_steps)) (sym c.is_sound.ensures ∙ c.if-is_sound.true) }
