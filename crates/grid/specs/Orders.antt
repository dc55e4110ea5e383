-- The orders that a picture is fitted to, and their checks 1 to 5 (RULES, Fit and Refusals). Positions are in
-- their offset form.
use Rattle.std.specs.Prelude.{ℕ, ◌/◌, min, max, Bool, true, false, ◌&&◌, List, [], ◌∷◌, map, leb, length, ℤ, Option, Some, None}
use Rattle.limits.specs.Limits.{is_within, size_sound, symbols_sound}
use Rattle.position.specs.Position.{offset_of, in_domain}
use Rattle.std.specs.List.{list_all}
use Rattle.refusal.specs.declared.Refusal.{Refusal}
use Rattle.refusal.specs.declared.Refusal.TheVariants as refusal
use Rattle.columns.specs.declared.Pair.{Pair}
use Rattle.columns.specs.Found.{pair}
use Rattle.grid.specs.declared.overview.Overview.{Overview}

pub record Exact : Type 0 where
  pub width : ℕ
  pub height : ℕ
  pub symbols : ℕ
  pub first_step : ℕ
  pub size : Option ℕ
  pub heads : List ℕ
  pub written : Option Pair
  pub halted : Bool

-- a given size held to 1..min(width, height)
abbrev pub held_px : ℕ → ℕ → ℕ → ℕ
held_px width height px = max 1 (min px (min width height))

-- how many heads there may be: the height, or the height div the given size
abbrev pub row_limit : ℕ → ℕ → Option ℕ → ℕ
row_limit width height None = height
row_limit width height (Some px) = height / held_px width height px

-- both ends of a pair that may be missing are within ±L
abbrev pub pair_in_domain : Option Pair → Bool
pair_in_domain None = true
pair_in_domain (Some p) = in_domain p.low && in_domain p.high

-- a pair that may be missing is not reversed
abbrev pub pair_ordered : Option Pair → Bool
pair_ordered None = true
pair_ordered (Some p) = leb p.low p.high

-- 1 to 5 for an exact picture
abbrev pub exact_order_checks : Exact → List (Bool × Refusal)
exact_order_checks o =
    (size_sound o.width o.height, refusal.Size) ∷ (symbols_sound o.symbols, refusal.Symbols)
    ∷ (list_all in_domain o.heads && pair_in_domain o.written, refusal.Position) ∷ (pair_ordered o.written, refusal.Reversed)
    ∷ (is_within 1 (row_limit o.width o.height o.size) (length o.heads), refusal.Heads) ∷ []

-- 1 to 4 for an overview, which has no heads
abbrev pub overview_order_checks : Overview → List (Bool × Refusal)
overview_order_checks o =
    (size_sound o.width o.height, refusal.Size) ∷ (symbols_sound o.symbols, refusal.Symbols)
    ∷ (in_domain o.extent.low && in_domain o.extent.high, refusal.Position) ∷ (leb o.extent.low o.extent.high, refusal.Reversed) ∷ []

-- a size that may be missing
abbrev pub size_of : Bool → ℕ → Option ℕ
size_of true px = Some px
size_of false px = None

-- a pair that may be missing
abbrev pub pair_of : Bool → ℤ → ℤ → Option Pair
pair_of true low high = Some (pair (offset_of low) (offset_of high))
pair_of false low high = None

-- the orders, from the arguments of the calls
abbrev pub exact_order : ℕ → ℕ → ℕ → ℕ → Option ℕ → List ℤ → Option Pair → Bool → Exact
exact_order width height symbols first_step size heads written halted =
    record {
      width = width;
      height = height;
      symbols = symbols;
      first_step = first_step;
      size = size;
      heads = map offset_of heads;
      written = written;
      halted = halted;
    }

abbrev pub overview_order : ℕ → ℕ → ℕ → ℕ → ℤ → ℤ → Overview
overview_order width height symbols total low high =
    record { width = width; height = height; symbols = symbols; total = total; extent = pair (offset_of low) (offset_of high) }
