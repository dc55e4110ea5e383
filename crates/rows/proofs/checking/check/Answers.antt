-- `rows::checking::check` meets its contract: the checks of memory, of the tape and of the swept pair, in turn.
use Rattle.std.proofs.Common.{sym, ◌∙◌}
use Rattle.std.proofs.lemmas.Result.{err_from_is_err_and}
use Rattle.refusal.proofs.Kept.{refused, accepted, required, not_required}
use Rattle.rows.proofs.RowChecks.{by_memory, by_tape, by_swept}
use Rattle.rows.proofs.checking.check.Goals as goal

pub returns-in_err-sound : goal.returns-in_err-sound
returns-in_err-sound c =
    let a = c.args in
    let p = err_from_is_err_and c.from_residual.result c.from_residual.ensures.1 in
    rw (p.1, p.2, by_memory a.grid a.index a.store a.tallies a.tape.now a.swept (refused _ _ (sym c.check_memory.ensures ∙ c.in_err-sound.was)))

pub returns-in_err-tape : goal.returns-in_err-tape
returns-in_err-tape c =
    let a = c.args in
    let p = err_from_is_err_and c.from_residual-in_err-tape.result c.from_residual-in_err-tape.ensures.1 in
    let m = accepted _ _ (sym c.check_memory.ensures ∙ c.in_ok-sound.was) in
    rw (p.1, p.2, by_tape a.grid a.index a.store a.tallies a.tape.now a.swept m.0 (refused _ _ (sym c.check_joined.ensures ∙ c.in_err-tape.was)))

pub returns-in_err-require : goal.returns-in_err-require
returns-in_err-require c =
    let a = c.args in
    let p = err_from_is_err_and c.from_residual-in_err-require.result c.from_residual-in_err-require.ensures.1 in
    let m = accepted _ _ (sym c.check_memory.ensures ∙ c.in_ok-sound.was) in
    let t = accepted _ _ (sym c.check_joined.ensures ∙ c.in_ok-tape.was) in
    let s = not_required c.swept_sound.result _ (sym c.require.ensures ∙ c.in_err-require.was) in
    rw (p.1, p.2, by_swept a.grid a.index a.store a.tallies a.tape.now a.swept m.0 t.0, sym c.swept_sound.ensures ∙ s.0, s.1)

pub returns : goal.returns
returns c =
    let a = c.args in
    let m = accepted _ _ (sym c.check_memory.ensures ∙ c.in_ok-sound.was) in
    let t = accepted _ _ (sym c.check_joined.ensures ∙ c.in_ok-tape.was) in
    let s = sym c.swept_sound.ensures ∙ required c.swept_sound.result _ (sym c.require.ensures ∙ c.in_ok-require.was) in
    rw (by_swept a.grid a.index a.store a.tallies a.tape.now a.swept m.0 t.0, s, m.1, t.1)
