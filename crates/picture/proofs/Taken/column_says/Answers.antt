-- `picture::Taken::column_says` meets its contract: a pixel that says no decides, and else whether one says unknown.
use Rattle.std.proofs.Common.{◌≡◌, ℕ, ◌+◌, ◌-◌, ◌*◌, ◌≤◌, ◌<◌, true, refl, sym, ap, ◌∙◌, arith}
use Rattle.grid.specs.declared.Grid.{Grid}
use Rattle.grid.proofs.Sound.{sound_facts}
use Rattle.picture.specs.declared.uprights.Verdict.{Verdict}
use Rattle.picture.specs.Upright.{pixel_says, says_no, any_to, column_says}
use Rattle.picture.specs.Calls.{State}
use Rattle.picture.proofs.Indexed.{any_finds, yes_more, unknown_more, asked_lines}
use Rattle.picture.proofs.Taken.column_says.Goals as goal
use Rattle.picture.proofs.Taken.column_says.Goals.{Start, In-loop-k, in-Yes, in-Unknown}

-- what the pixel on line j of the rows says
abbrev says : (c : Start) → ℕ → Verdict
says c j = let p = c.args.self.now in pixel_says p.grid p.index p.store c.args.strip.column (c.args.strip.first * p.grid.row_px + j)

pub overflow_mul-from : goal.overflow_mul-from
overflow_mul-from c =
    let asked = asked_lines _ _ c.grid.invariant (c.grid.view_is ∙ ap (λ (p : State). p.grid) c.self.view_is) c.args.strip.first c.args.strip.last c.requires.1 c.requires.2 in
    record { fits = omega (arith, asked, (sound_facts _ c.grid.invariant).height_most) }

pub overflow_mul-lines : goal.overflow_mul-lines
overflow_mul-lines c =
    let asked = asked_lines _ _ c.grid.invariant (c.grid.view_is ∙ ap (λ (p : State). p.grid) c.self.view_is) c.args.strip.first c.args.strip.last c.requires.1 c.requires.2 in
    record { fits = omega (arith, asked, (sound_facts _ c.grid.invariant).height_most) }

module _ (c : In-loop-k) where
  grid_is : c.grid.inside.grid ≡ c.args.self.now.grid
  grid_is = c.grid.view_is ∙ ap (λ (p : State). p.grid) c.self.view_is

  -- the rows' lines are lines of the picture
  drawn : let g = c.grid.inside.grid in c.args.strip.first * g.row_px + (c.args.strip.last + 1 - c.args.strip.first) * g.row_px ≤ g.height
  drawn = asked_lines _ _ c.grid.invariant grid_is c.args.strip.first c.args.strip.last c.requires.1 c.requires.2

  line : let p = c.args.self.now in
      pixel_says p.grid p.index p.store c.args.strip.column (c.args.strip.first * c.grid.inside.grid.row_px + c.loop-k.k)
      ≡ pixel_says p.grid p.index p.store c.args.strip.column (c.args.strip.first * p.grid.row_px + c.loop-k.k)
  line = let p = c.args.self.now in ap (λ (g : Grid). pixel_says p.grid p.index p.store c.args.strip.column (c.args.strip.first * g.row_px + c.loop-k.k)) grid_is

pub overflow_add-from : goal.overflow_add-from
overflow_add-from c =
    record { fits = omega (arith, drawn (goal.at.overflow_add-from c).In-loop-k, (sound_facts _ c.grid.invariant).height_most) }

pub pixel_says-requires : goal.pixel_says-requires
pixel_says-requires c =
    let within : c.args.strip.first * c.grid.inside.grid.row_px + c.loop-k.k < c.grid.inside.grid.height = omega (arith, drawn (goal.at.pixel_says-requires c).In-loop-k, c.loop-k-test.true) in
    (c.requires.0, omega (arith, within, ap (λ (g : Grid). g.height) (grid_is (goal.at.pixel_says-requires c).In-loop-k)))

pub returns-in-No : goal.returns-in-No
unfolding column_says
returns-in-No c =
    let says : ℕ → Verdict = says (goal.at.returns-in-No c).Start in
    let loop = (goal.at.returns-in-No c).In-loop-k in
    let lines : c.loop-k.k < (c.args.strip.last + 1 - c.args.strip.first) * c.args.self.now.grid.row_px =
    omega (arith, c.loop-k-test.true, ap (λ (g : Grid). (c.args.strip.last + 1 - c.args.strip.first) * g.row_px) (grid_is loop)) in
    let found : says_no (says c.loop-k.k) ≡ true = ap says_no (sym (line loop) ∙ sym c.pixel_says.ensures ∙ c.in-No.is) in
    rw (any_finds _ (λ j. says_no (says j)) c.loop-k.k lines found)

pub loop-k-preserved : goal.loop-k-preserved
loop-k-preserved c =
    let says : ℕ → Verdict = says (goal.at.loop-k-preserved c).Start in
    let said = sym (line (goal.at.loop-k-preserved c).In-loop-k) ∙ sym c.pixel_says.ensures in
    let inv = c.loop-k.invariant in
    elim c.match-pixel_says.branch [
      | in-Yes w ↦
          let m = yes_more says c.loop-k.k _ inv.none_no inv.known (said ∙ w.in-Yes.is) in
          record { none_no = m.0; known = w.unknown-is ∙ m.1 }
      | in-Unknown w ↦
          let m = unknown_more says c.loop-k.k _ inv.none_no inv.known (said ∙ w.in-Unknown.is) in
          record { none_no = m.0; known = w.unknown-is ∙ m.1 }
    ]

pub loop-k-init : goal.loop-k-init
unfolding any_to
loop-k-init c = record { none_no = refl; known = refl }

-- as many lines as are passed, by the record that the question is put to
lines_end : (rows k : ℕ) (g h : Grid) → g ≡ h → rows * g.row_px ≡ k → rows * h.row_px ≡ k
lines_end rows k g h e end = rw (← e) end

pub returns-then-unknown : goal.returns-then-unknown
unfolding column_says
returns-then-unknown c =
    let a = c.args in
    let l = c.loop-k in
    let end = lines_end (a.strip.last + 1 - a.strip.first) l.k _ _ (c.grid.view_is ∙ ap (λ (p : State). p.grid) c.self.view_is) (omega arith) in
    rw (end, l.invariant.none_no, sym l.invariant.known ∙ c.if-unknown.true)

pub returns-else-unknown : goal.returns-else-unknown
unfolding column_says
returns-else-unknown c =
    let a = c.args in
    let l = c.loop-k in
    let end = lines_end (a.strip.last + 1 - a.strip.first) l.k _ _ (c.grid.view_is ∙ ap (λ (p : State). p.grid) c.self.view_is) (omega arith) in
    rw (end, l.invariant.none_no, sym l.invariant.known ∙ c.if-unknown.false)
