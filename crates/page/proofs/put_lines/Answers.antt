-- `page::put_lines` meets its contract: at each turn the lines of the rows before `row` stand.
use Rattle.std.proofs.Common.{◌≡◌, ℕ, ◌+◌, ◌-◌, ◌*◌, ◌<◌, ◌≤◌, length, get_or, take, drop, refl, ap, ◌∙◌, length-take, length-drop, get_or-take, get_or-drop, arith}
use Rattle.grid.proofs.Sound.{sound_facts}
use Rattle.slices.specs.Tabulate.{tabulate}
use Rattle.page.specs.Page.{line_character}
use Rattle.page.proofs.Rows.{band_few, band_within, one_more, whole_page}
use Rattle.page.proofs.put_lines.Goals as goal
use Rattle.page.proofs.put_lines.Goals.{In-loop-row}

-- the first line of the row's band stands in the index
placed : (c : In-loop-row) → let g = c.sound.inside.grid in c.loop-row.row * (g.row_px * g.width) + g.width ≤ length c.args.index.now
placed c = rw (c.requires.whole, ← c.sound.view_is) (band_within _ (sound_facts _ c.sound.invariant) _ c.loop-row-test.true)

pub overflow_mul-band : goal.overflow_mul-band
overflow_mul-band c = omega (arith, band_few _ (sound_facts _ c.sound.invariant))

pub overflow_mul-from : goal.overflow_mul-from
overflow_mul-from c = omega (arith, placed c)

pub overflow_add-pixels : goal.overflow_add-pixels
overflow_add-pixels c = omega (arith, placed (goal.at.overflow_add-pixels c).In-loop-row)

pub slice_bounds-pixels-end : goal.slice_bounds-pixels-end
slice_bounds-pixels-end c = omega (arith, placed (goal.at.slice_bounds-pixels-end c).In-loop-row)

pub loop-row-preserved : goal.loop-row-preserved
loop-row-preserved c =
    let g = c.sound.inside.grid in
    let index = c.args.index.now in
    let l = c.loop-row in
    let from = l.row * (g.row_px * g.width) in
    let n = from + g.width - from in
    let wide : n ≡ g.width = omega arith in
    let there : from + g.width ≤ length index = placed (goal.at.loop-row-preserved c).In-loop-row in
    let long : length (take n (drop from index)) ≡ g.width = simp (length-take, length-drop) (omega arith) in
    let read : (x : ℕ) → x < g.width → get_or (take n (drop from index)) x 0 ≡ get_or index (from + x) 0 =
    λ x h. let few : x < n = omega arith in rw (get_or-take, get_or-drop) in
    let stands = c.put_line.ensures ∙ ap (λ (s : ℕ). tabulate (line_character s (length (take n (drop from index))) (λ x. get_or (take n (drop from index)) x 0)) 81) c.step-step.ensures in
    one_more g index l.page c.put_line.new.line (take n (drop from index)) _ l.row from refl (omega (arith, rw (← c.sound.view_is) at c.requires.narrow.1)) l.invariant long read stands

pub returns : goal.returns
returns c =
    rw (← c.sound.view_is) (whole_page c.sound.inside.grid c.args.index.now c.loop-row.page c.loop-row.row (c.loop-row.auto.page ∙ (rw (← c.sound.view_is) at c.requires.narrow.1)) (omega arith) c.loop-row.invariant)
