-- `picture::Lent::upright` meets its contract: what refuses the picture refuses the call.
use Rattle.std.proofs.Common.{refl, sym, ◌∙◌}
use Rattle.std.proofs.lemmas.Result.{err_from_is_err_and}
use Rattle.refusal.proofs.Kept.{refused}
use Rattle.refusal.proofs.Passed.{first_refused}
use Rattle.picture.specs.Equal.{lent_checks}
use Rattle.picture.specs.Upright.{upright_refusal, upright_call}
use Rattle.picture.proofs.Lent.upright.Goals as goal

pub returns-in_err-taken : goal.returns-in_err-taken
unfolding upright_refusal upright_call
returns-in_err-taken c =
    let p = err_from_is_err_and c.from_residual.result c.from_residual.ensures.1 in
    rw (p.1, p.2, first_refused (lent_checks c.args.self.now) _ (refused _ _ (sym c.check.ensures ∙ c.in_err-taken.was))) (refl, refl)
