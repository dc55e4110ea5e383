-- `page::put_line` meets its contract: at each turn the line stands up to pixel x, and behind it are spaces.
use Rattle.std.proofs.Common.{◌≡◌, ℕ, ◌+◌, ◌-◌, ◌<◌, ◌≤◌, ◌≢◌, List, ◌++◌, length, get_or, drop, set, replicate, sym, ap, ◌∙◌, length-append, length-drop, length-set, get_or-drop, get_or-set_same, get_or-set_other, rules, arith}
use Rattle.std.proofs.lemmas.List.{get_or-replicate, get_or-append_right}
use Rattle.std.proofs.Math.ListN.{get_or-append}
use Rattle.std.proofs.Math.Decide.{dec_lt}
use Rattle.slices.specs.Tabulate.{tabulate}
use Rattle.slices.proofs.Tabulated.{length-tabulate, get_or-tabulate, tabulate_is}
use Rattle.page.specs.Page.{character_of, step_character, line_character}
use Rattle.page.proofs.Lines.{in_step, at-pixel, at_end, before_pixels, after_pixels}
use Rattle.page.proofs.put_line.Goals as goal
use Rattle.page.proofs.put_line.Goals.{After-put_step, At-loop-x}

module _ (step width : ℕ) (pixel : ℕ → ℕ) where
  -- a line of a step in front of spaces
  module _ (marks blank : List ℕ) (stands : marks ≡ tabulate (step_character step) 20) (spaces : blank ≡ replicate 81 32) where
    long : length marks ≡ 20
    long = ap length stands ∙ length-tabulate (step_character step) 20

    spaced : (k : ℕ) → 20 ≤ k → k < 81 → get_or (marks ++ drop 20 blank) k 0 ≡ 32
    spaced k low high =
        let there : 20 + (k - 20) ≡ k = omega arith in
        get_or-append_right marks (drop 20 blank) 20 k 0 long low ∙ rw (get_or-drop, there, spaces) (get_or-replicate 81 k 32 0 high)

    stepped : (k : ℕ) → k < 21 → get_or (marks ++ drop 20 blank) k 0 ≡ line_character step width pixel k
    stepped k h = by (dec_lt k 20)
      where
        by : Dec (k < 20) → get_or (marks ++ drop 20 blank) k 0 ≡ line_character step width pixel k
        by (yes l) =
            get_or-append marks (drop 20 blank) 0 k (omega (arith, long)) ∙ rw stands (get_or-tabulate (step_character step) 20 k 0 l) ∙ sym (in_step step width pixel k l)
        by (no l) = spaced k (omega arith) (omega arith) ∙ sym (before_pixels step width pixel k (omega arith))

  -- one pixel more
  one_more : (line : List ℕ) (x place : ℕ) → 21 + x < length line → x < width → ((k : ℕ) → k < 21 + x → get_or line k 0 ≡ line_character step width pixel k) → place ≡ character_of (pixel x)
      → (k : ℕ) → k < 21 + (x + 1) → get_or (set line (21 + x) place) k 0 ≡ line_character step width pixel k
  one_more line x place room few done is k h = by (dec_lt k (21 + x))
    where
      by : Dec (k < 21 + x) → get_or (set line (21 + x) place) k 0 ≡ line_character step width pixel k
      by (yes l) = let apart : k ≢ 21 + x = omega arith in rw get_or-set_other (done k l)
      by (no l) =
          let here : k ≡ 21 + x = omega arith in
          let there : k - 21 ≡ x = omega arith in
          rw (at-pixel step width pixel k (omega arith) (omega arith), there, ← is, here, get_or-set_same)

  -- the line feed behind the spaces
  ended : (line : List ℕ) → length line ≡ 81 → width ≤ 59 → ((k : ℕ) → k < 21 + width → get_or line k 0 ≡ line_character step width pixel k) → ((k : ℕ) → 21 + width ≤ k → k < 81 → get_or line k 0 ≡ 32)
      → set line 80 10 ≡ tabulate (line_character step width pixel) 81
  ended line e w done blank = tabulate_is (set line 80 10) (line_character step width pixel) 81 (rw length-set e) (λ k h. by k h (dec_lt k 80) (dec_lt k (21 + width)))
    where
      by : (k : ℕ) → k < 81 → Dec (k < 80) → Dec (k < 21 + width) → get_or (set line 80 10) k 0 ≡ line_character step width pixel k
      by k h (yes l) (yes m) = let apart : k ≢ 80 = omega arith in rw get_or-set_other (done k m)
      by k h (yes l) (no m) = let apart : k ≢ 80 = omega arith in rw get_or-set_other (blank k (omega arith) h ∙ sym (after_pixels step width pixel k (omega arith) apart))
      by k h (no l) m =
          let here : k ≡ 80 = omega arith in
          let room : 80 < length line = omega arith in
          rw (at_end step width pixel k w here, here, get_or-set_same)

spaces : (c : After-put_step) → c.fill.new.self ≡ replicate 81 32
spaces c = c.fill.ensures.after (search rules) ∙ ap (λ (n : ℕ). replicate n 32) c.requires.long

pub loop-x-init : goal.loop-x-init
loop-x-init c =
    let a = c.args in
    let s = spaces (goal.at.loop-x-init c).After-put_step in record {
      done = stepped a.step (length a.pixels.now) (λ x. get_or a.pixels.now x 0) _ _ c.put_step.ensures s;
      blank = λ k low high. spaced a.step (length a.pixels.now) (λ x. get_or a.pixels.now x 0) _ _ c.put_step.ensures s k (omega arith) high;
    }

-- the line keeps its length
long_at : (c : At-loop-x) → length c.loop-x.line ≡ 81
long_at c =
    c.loop-x.auto.line ∙ length-append c.put_step.new.places (drop 20 c.fill.new.self)
    ∙ omega (arith, ap length c.put_step.ensures, length-tabulate (step_character c.args.step) 20, length-drop 20 c.fill.new.self, c.fill.ensures.len, c.requires.long)

pub loop-x-preserved : goal.loop-x-preserved
loop-x-preserved c =
    let a = c.args in
    let l = c.loop-x in
    let e = long_at (goal.at.loop-x-preserved c).At-loop-x in record {
      done = one_more a.step (length a.pixels.now) (λ x. get_or a.pixels.now x 0) l.line l.x c.character.result (omega arith) c.loop-x-test.true l.invariant.done c.character.ensures;
      blank = λ k low high. let apart : k ≢ 21 + l.x = omega arith in rw get_or-set_other (l.invariant.blank k (omega arith) high);
    }

pub returns : goal.returns
returns c =
    let a = c.args in
    let l = c.loop-x in
    ended a.step (length a.pixels.now) (λ x. get_or a.pixels.now x 0) l.line (long_at (goal.at.returns c).At-loop-x) c.requires.narrow (λ k h. l.invariant.done k (omega arith)) (λ k low high. l.invariant.blank k (omega arith) high)
