-- What the calls on a tape alone answer.
use Rattle.std.specs.Prelude.{ℕ, List, length, Result}
use Rattle.refusal.specs.declared.Refusal.{Refusal}
use Rattle.refusal.specs.Checks.{answer_by, kept_if, said}
use Rattle.tape.specs.Tape.{Tape, symbol_at, symbols_from}
use Rattle.tape.specs.Checks.{tape_refusal}

unfoldable pub get_call : ℕ → Tape → ℕ → Result ℕ Refusal
get_call count t p = answer_by (tape_refusal count t) (symbol_at t p)

-- the number and the value that an answer stands for: 0 and the symbol, or the refusal alone
abbrev pub get_said : Result ℕ Refusal → ℕ × ℕ
get_said = said 0 (λ symbol. symbol)

-- what the lent slice then holds
unfoldable pub window_call : ℕ → Tape → ℕ → List ℕ → List ℕ
window_call count t from out = kept_if (tape_refusal count t) out (symbols_from t from (length out))
