-- `tape::Tape::get` meets its contract: the checks' refusal, or the symbol of a tape that passed.
use Rattle.std.specs.Prelude.{ℕ, ◌≡◌, Result}
use Rattle.std.proofs.Common.{sym, ◌∙◌, ap}
use Rattle.std.proofs.lemmas.Result.{err_from_is_err_and}
use Rattle.refusal.specs.declared.Refusal.{Refusal}
use Rattle.refusal.specs.Checks.{said_by}
use Rattle.refusal.proofs.Kept.{refused, accepted, said_answer}
use Rattle.tape.specs.Tape.{Tape, symbol_at}
use Rattle.tape.specs.Checks.{tape_refusal}
use Rattle.tape.specs.Calls.{get_call, get_said}
use Rattle.tape.proofs.Tape.get.Goals as goal

both : (count : ℕ) (t : Tape) (p : ℕ) {r : Result ℕ Refusal} → r ≡ get_call count t p → (r ≡ get_call count t p) × (get_said r ≡ said_by (tape_refusal count t) 0 (symbol_at t p))
unfolding get_call
both count t p e = (e, ap get_said e ∙ said_answer 0 _ (tape_refusal count t) (symbol_at t p))

pub returns-in_err-check : goal.returns-in_err-check
unfolding get_call
returns-in_err-check c =
    let p = err_from_is_err_and c.from_residual.result c.from_residual.ensures.1 in
    both _ _ _ (rw (p.1, p.2, refused _ _ (sym c.check.ensures ∙ c.in_err-check.was)))

pub returns : goal.returns
unfolding get_call
returns c = let t = accepted _ _ (sym c.check.ensures ∙ c.in_ok-check.was) in both _ _ _ (rw (t.0, c.symbol_at.ensures, t.1))
