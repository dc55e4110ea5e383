-- `picture::Lent::check` meets its contract: an opening's checks, and the lengths that they give.
use Rattle.std.proofs.Common.{◌≡◌, Some, length, sym, ◌∙◌}
use Rattle.std.proofs.lemmas.Result.{err_from_is_err_and}
use Rattle.refusal.proofs.Kept.{refused, accepted}
use Rattle.grid.specs.Opening.{open_refusal}
use Rattle.picture.specs.Equal.{lent}
use Rattle.picture.proofs.Compared.{taken_whole}
use Rattle.picture.proofs.Lent.check.Goals as goal

pub returns-in_err-grid : goal.returns-in_err-grid
unfolding open_refusal
returns-in_err-grid c =
    let p = err_from_is_err_and c.from_residual.result c.from_residual.ensures.1 in
    let fields = c.self.inside in
    let refusal : open_refusal fields.grid (length fields.index.now) (length fields.store.now) ≡ Some c.in_err-grid.field-0.0 = refused _ _ (sym c.check.ensures ∙ c.in_err-grid.was) in
    rw (← c.self.view_is, p.1, p.2, refusal)

pub invariant_of-result : goal.invariant_of-result
unfolding open_refusal
invariant_of-result c =
    let p = c.self.inside in
    let a = accepted _ _ (sym c.check.ensures ∙ c.in_ok-grid.was) in
    let whole = taken_whole (lent p.grid p.index.now p.store.now) a.0 in
    rw a.1 (whole.index_long, whole.store_long)

pub returns : goal.returns
unfolding open_refusal
returns c = let a = accepted _ _ (sym c.check.ensures ∙ c.in_ok-grid.was) in rw (← c.self.view_is, a.0, a.1)
