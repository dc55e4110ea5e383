-- `page::put_step` meets its contract: at each turn the places from k on stand, and the digits on them are gone from `left`.
use Rattle.std.proofs.Common.{◌≡◌, ℕ, ◌+◌, ◌-◌, ◌/◌, ◌^◌, ◌<◌, ◌≤◌, ◌≢◌, List, length, get_or, set, ap, ◌∙◌, get_or-set_same, get_or-set_other, length-set, arith}
use Rattle.std.proofs.Math.Decide.{dec_lt}
use Rattle.slices.proofs.Tabulated.{tabulate_is}
use Rattle.page.specs.Page.{step_character}
use Rattle.page.proofs.Digits.{one_less, digit_is}
use Rattle.page.proofs.put_step.Goals as goal

-- one place more in front of those that stand
one_more : (f : ℕ → ℕ) (places : List ℕ) (k next n : ℕ) → next ≡ k + 1 → n ≡ length places → k < n → ((j : ℕ) → next ≤ j → j < n → get_or places j 0 ≡ f j) → (place : ℕ) → place ≡ f k
    → (j : ℕ) → k ≤ j → j < n → get_or (set places k place) j 0 ≡ f j
one_more f places k next n e long h done place is j low high = by (dec_lt k j)
  where
    by : Dec (k < j) → get_or (set places k place) j 0 ≡ f j
    by (yes l) = let apart : j ≢ k = omega arith in rw get_or-set_other (done j (omega arith) high)
    by (no l) =
        let here : j ≡ k = omega arith in
        let room : k < length places = omega arith in
        rw (here, is, get_or-set_same)

pub loop-k-preserved : goal.loop-k-preserved
loop-k-preserved c =
    let l = c.loop-k in
    let step = c.args.step in
    let power : 20 - l.k ≡ 19 - (l.k - 1) = omega arith in
    let digit = c.digit.ensures ∙ digit_is step l.left (l.k - 1) (omega arith) (l.invariant.rest ∙ ap (λ (m : ℕ). step / 10 ^ m) power) in record {
      long = rw length-set l.invariant.long;
      rest = ap (λ (m : ℕ). m / 10) l.invariant.rest ∙ one_less step l.k (omega arith) (omega arith);
      done = one_more (step_character step) l.places (l.k - 1) l.k 20 (omega arith) (omega arith) (omega arith) l.invariant.done c.digit.result digit;
    }

pub returns : goal.returns
returns c = tabulate_is _ _ 20 c.loop-k.invariant.long (λ j high. c.loop-k.invariant.done j (omega arith) high)
