-- An exact order with its heads, and the checks of an order before it is laid out.
use Rattle.std.specs.Prelude.{ℕ, List, Option}
use Rattle.refusal.specs.declared.Refusal.{Refusal}
use Rattle.refusal.specs.Checks.{first_failed}
use Rattle.grid.specs.declared.exact.ExactOrder.{ExactOrder}
use Rattle.grid.specs.declared.overview.Overview.{Overview}
use Rattle.grid.specs.Orders.{Exact, exact_order_checks, overview_order_checks}

-- an order with its heads
abbrev pub exact_of : ExactOrder → List ℕ → Exact
exact_of o heads =
    record {
      width = o.width;
      height = o.height;
      symbols = o.symbols;
      first_step = o.first_step;
      size = o.size;
      heads = heads;
      written = o.written;
      halted = o.halted;
    }

-- the refusal of the first that fails, if one does
abbrev pub exact_order_refusal : Exact → Option Refusal
exact_order_refusal o = first_failed (exact_order_checks o)

abbrev pub overview_order_refusal : Overview → Option Refusal
overview_order_refusal o = first_failed (overview_order_checks o)
