-- The number and the symbol that an answer about a position stands for.
use Rattle.std.proofs.Common.{◌≡◌, ℕ, ap, ◌∙◌, Result}
use Rattle.refusal.specs.declared.Refusal.{Refusal}
use Rattle.refusal.specs.Checks.{said_by}
use Rattle.refusal.proofs.Kept.{said_answer}
use Rattle.tape.specs.Tape.{Tape, symbol_at}
use Rattle.tape.specs.Checks.{tape_refusal}
use Rattle.tape.specs.Calls.{get_call, get_said}

pub get_said_lem : (count : ℕ) (t : Tape) (p : ℕ) {r : Result ℕ Refusal} → r ≡ get_call count t p
    → (r ≡ get_call count t p) × (get_said r ≡ said_by (tape_refusal count t) 0 (symbol_at t p))
unfolding get_call
get_said_lem count t p e = (e, ap get_said e ∙ said_answer 0 (λ symbol. symbol) (tape_refusal count t) (symbol_at t p))
