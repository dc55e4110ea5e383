-- `rows::advancing::progress_after` meets its contract: the written cells below the window's first position, and those above its last.
use Rattle.std.proofs.Common.{◌+◌, ◌≡◌, ap, ◌∙◌, arith}
use Rattle.columns.specs.declared.Pair.{Pair}
use Rattle.columns.specs.Window.{first_of, cells_in, window_of}
use Rattle.columns.proofs.Soundness.{usable_window}
use Rattle.grid.proofs.Sound.{sound_facts}
use Rattle.line.specs.Line.{written, written_left, written_right}
use Rattle.line.specs.Inner.Counting.{counted}
use Rattle.line.proofs.Accounts.{left-counted, right-counted}
use Rattle.rows.proofs.advancing.progress_after.Goals as goal

pub returns : goal.returns
returns c =
    let g = c.sound.inside.grid in
    let t = c.args.tape.now.tape in
    let usable = (sound_facts g c.sound.invariant).usable in
    let ends : c.range-window.result ≡ window_of g.columns = c.range-window.ensures ∙ rw (c.window.ensures, ← c.sound.view_is) in
    let past : c.range-window.result.high + 1 ≡ first_of g.columns + cells_in g.columns = omega (arith, ap (λ (w : Pair). w.high) ends, usable_window g.columns usable) in
    let r = c.count_between.ensures.readable in
    let left : c.count_between.result ≡ written_left g.columns t = c.count_between.ensures.value ∙ ap (λ (w : Pair). counted 0 w.low (written t)) ends ∙ left-counted t r g.columns in
    let right : c.count_between-2.result ≡ written_right g.columns t = c.count_between-2.ensures.value ∙ rw past (right-counted t r g.columns usable) in
    rw (← c.sound.view_is) (λ i. record { done = g.progress.done + 1; left = left i; right = right i })
