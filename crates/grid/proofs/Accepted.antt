-- The facts that an order gives where it passes its checks.
use Rattle.std.proofs.Common.{◌≡◌, ℕ, ◌≤◌, true, None, length, leb-true}
use Rattle.std.proofs.Math.Bool.{and-eq-true_iff}
use Rattle.limits.specs.Limits.{max_side, size_sound, symbols_sound}
use Rattle.limits.proofs.Facts.{within_facts, size_facts}
use Rattle.refusal.proofs.Passed.{passed}
use Rattle.position.specs.Position.{lowest, highest, in_domain}
use Rattle.std.specs.List.{list_all}
use Rattle.grid.specs.declared.overview.Overview.{Overview}
use Rattle.grid.specs.Orders.{Exact, row_limit, pair_in_domain, pair_ordered, exact_order_checks, overview_order_checks}
use Rattle.grid.specs.Inner.Orders.{exact_order_refusal, overview_order_refusal}

pub record Sides (width height : ℕ) : Type 0 where
  pub width_least : 1 ≤ width
  pub width_most : width ≤ max_side
  pub height_least : 1 ≤ height

sides : (width height : ℕ) → size_sound width height ≡ true → Sides width height
sides width height e = let t = size_facts width height e in record { width_least = t.0; width_most = t.1; height_least = t.2 }

pub domain : (n : ℕ) → in_domain n ≡ true → (lowest ≤ n) × (n ≤ highest)
domain = within_facts lowest highest

pub record ExactFacts (o : Exact) : Type 0 where
  pub size : size_sound o.width o.height ≡ true
  pub sides : Sides o.width o.height
  pub symbols : symbols_sound o.symbols ≡ true
  pub heads_within : list_all in_domain o.heads ≡ true
  pub ends_within : pair_in_domain o.written ≡ true
  pub ordered : pair_ordered o.written ≡ true
  pub heads_least : 1 ≤ length o.heads
  pub heads_most : length o.heads ≤ row_limit o.width o.height o.size

pub exact-accepted : (o : Exact) → exact_order_refusal o ≡ None → ExactFacts o
exact-accepted o z =
    let p = passed (exact_order_checks o) z in
    let limit = row_limit o.width o.height o.size in
    let positions = (and-eq-true_iff (list_all in_domain o.heads) (pair_in_domain o.written)).0 p.1.1.0 in
    let count = within_facts 1 limit (length o.heads) p.1.1.1.1.0 in
    record {
      size = p.0;
      sides = sides o.width o.height p.0;
      symbols = p.1.0;
      heads_within = positions.0;
      ends_within = positions.1;
      ordered = p.1.1.1.0;
      heads_least = count.0;
      heads_most = count.1;
    }

pub record OverviewFacts (o : Overview) : Type 0 where
  pub size : size_sound o.width o.height ≡ true
  pub sides : Sides o.width o.height
  pub symbols : symbols_sound o.symbols ≡ true
  pub low_least : lowest ≤ o.extent.low
  pub ordered : o.extent.low ≤ o.extent.high
  pub high_most : o.extent.high ≤ highest

pub overview-accepted : (o : Overview) → overview_order_refusal o ≡ None → OverviewFacts o
overview-accepted o z =
    let p = passed (overview_order_checks o) z in
    let ends = (and-eq-true_iff (in_domain o.extent.low) (in_domain o.extent.high)).0 p.1.1.0 in
    record {
      size = p.0;
      sides = sides o.width o.height p.0;
      symbols = p.1.0;
      low_least = (domain o.extent.low ends.0).0;
      ordered = leb-true o.extent.low o.extent.high p.1.1.1.0;
      high_most = (domain o.extent.high ends.1).1;
    }
