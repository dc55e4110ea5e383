-- The digits of a number in decimal, from the last to the first: what is left of it after each, and the character that stands for it.
use Rattle.std.proofs.Common.{◌≡◌, ℕ, suc, ◌+◌, ◌-◌, ◌/◌, ◌%◌, ◌^◌, ◌<◌, ◌≤◌, cond, ◌&&◌, eqb, ltb, sym, ap, ◌∙◌, pow-suc, le-div_iff_mul-le, one-mul, eq-eqb, ne_eqb, lt-ltb, le-ltb, le-leb, arith}
use Rattle.std.proofs.Math.Bool.{and-false}
use Rattle.std.proofs.Math.Decide.{dec_lt}
use Rattle.std.proofs.Math.Nat.{div-div-eq-div-mul, div-eq_of_lt, one-le-pow}
use Rattle.std.proofs.lemmas.Bool.{lt-leb}
use Rattle.page.specs.Page.{step_character}

-- without one digit more
pub one_less : (step k : ℕ) → 0 < k → k ≤ 20 → step / 10 ^ (20 - k) / 10 ≡ step / 10 ^ (20 - (k - 1))
one_less step k l h =
    let e : 20 - (k - 1) ≡ suc (20 - k) = omega arith in
    div-div-eq-div-mul step (10 ^ (20 - k)) 10 ∙ ap (λ (m : ℕ). step / m) (sym (ap (λ (m : ℕ). 10 ^ m) e ∙ pow-suc 10 (20 - k)))

pub digit_is : (step left k : ℕ) → k < 20 → left ≡ step / 10 ^ (19 - k) → cond (eqb left 0 && ltb k 19) 32 (48 + left % 10) ≡ step_character step k
digit_is step left k h e = by (dec_lt k 19) (dec_lt step (10 ^ (19 - k)))
  where
    by : Dec (k < 19) → Dec (step < 10 ^ (19 - k)) → cond (eqb left 0 && ltb k 19) 32 (48 + left % 10) ≡ step_character step k
    by (yes l) (yes s) = rw (ne_eqb k 19 (λ q. omega arith), lt-leb (10 ^ (19 - k)) step s, lt-ltb k 19 l, eq-eqb left 0 (e ∙ div-eq_of_lt s))
    by (yes l) (no s) =
        let some : 1 ≤ step / 10 ^ (19 - k) = (le-div_iff_mul-le (one-le-pow (19 - k) 10 (omega arith))).1 (rw one-mul (omega arith)) in
        rw (ne_eqb k 19 (λ q. omega arith), le-leb (10 ^ (19 - k)) step (omega arith), ne_eqb left 0 (λ q. omega arith), e)
    by (no l) s = rw (eq-eqb k 19 (omega arith), le-ltb k 19 (omega arith), and-false, e)
