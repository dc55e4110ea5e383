-- `runs::RunTape::check_row` meets its contract: what the memory or the tape is refused by refuses the call.
use Rattle.std.proofs.Common.{sym, ◌∙◌}
use Rattle.std.proofs.lemmas.Result.{err_from_is_err_and}
use Rattle.refusal.proofs.Kept.{refused, accepted}
use Rattle.rows.proofs.RowChecks.{by_memory, by_tape}
use Rattle.runs.specs.Runs.{tape_in}
use Rattle.runs.proofs.RunTape.check_row.Goals as goal

pub returns-in_err-check_memory : goal.returns-in_err-check_memory
returns-in_err-check_memory c =
    let a = c.args in
    let p = err_from_is_err_and c.from_residual.result c.from_residual.ensures.1 in
    let t = tape_in a.self.now a.symbols a.lengths in
    rw (p.1, p.2, by_memory a.grid a.index a.store a.tallies t a.swept (refused _ _ (sym c.check_memory.ensures ∙ c.in_err-check_memory.was)))

pub returns-in_err-check_joined : goal.returns-in_err-check_joined
returns-in_err-check_joined c =
    let a = c.args in
    let p = err_from_is_err_and c.from_residual-in_err-check_joined.result c.from_residual-in_err-check_joined.ensures.1 in
    let t = tape_in a.self.now a.symbols a.lengths in
    let m = accepted _ _ (sym c.check_memory.ensures ∙ c.in_ok-check_memory.was) in
    rw (p.1, p.2, by_tape a.grid a.index a.store a.tallies t a.swept m.0 (refused _ _ (sym c.check_joined.ensures ∙ c.in_err-check_joined.was)))
