-- `grid::exact::fit` meets its contract: a layout's rows are at least a line high, and a check that refuses the order is the first of all.
use Rattle.std.proofs.Common.{map, sym, ◌∙◌, [], ◌∷◌}
use Rattle.std.proofs.lemmas.Result.{err_from_is_err_and}
use Rattle.refusal.specs.declared.Refusal.TheVariants.{Cells}
use Rattle.refusal.proofs.Kept.{refused}
use Rattle.refusal.proofs.Passed.{first_refused}
use Rattle.position.specs.Position.{offset_of}
use Rattle.grid.specs.Orders.{exact_order_checks}
use Rattle.grid.specs.Inner.Orders.{exact_of}
use Rattle.grid.specs.Fit.{few_cells, layout_of, fit_exact, exact_refusal}
use Rattle.grid.proofs.Sizes.{row_least}
use Rattle.grid.proofs.exact.fit.Goals as goal

pub returns-in_err-check : goal.returns-in_err-check
unfolding fit_exact exact_refusal
returns-in_err-check c =
    let o = exact_of c.args.order (map offset_of c.args.heads.now) in
    let p = err_from_is_err_and c.from_residual.result c.from_residual.ensures.1 in
    rw (p.1, p.2, first_refused (exact_order_checks o) ((few_cells (layout_of o).columns, Cells) ∷ []) (refused _ _ (sym c.check.ensures ∙ c.in_err-check.was)))

pub nonzero_div-order : goal.nonzero_div-order
nonzero_div-order c = rw c.layout-columns.ensures (row_least (exact_of c.args.order (map offset_of c.args.heads.now)))
