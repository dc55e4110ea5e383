-- `page::check` meets its contract: the bytes of a sound grid's page are few.
use Rattle.std.proofs.Common.{sym, ◌∙◌, [], ◌∷◌, arith}
use Rattle.refusal.specs.declared.Refusal.TheVariants.{Record}
use Rattle.refusal.proofs.Kept.{accepted}
use Rattle.refusal.proofs.Passed.{passed}
use Rattle.grid.specs.Soundness.{grid_sound}
use Rattle.grid.proofs.Sound.{sound_facts, rows_most}
use Rattle.page.proofs.check.Goals as goal

pub overflow_mul-bytes : goal.overflow_mul-bytes
overflow_mul-bytes c =
    let s = sound_facts c.args.grid (passed ((grid_sound c.args.grid, Record) ∷ []) (accepted _ _ (sym c.checked.ensures ∙ c.in_ok-sound.was)).0).0 in
    omega (arith, s.done_most, rows_most c.args.grid s)
