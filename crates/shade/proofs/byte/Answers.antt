-- `shade::byte` meets its contract: by the tests x is 0 at most, 255 at least, or between, where half of the cut double and one is its byte.
use Rattle.std.proofs.Common.{◌≡◌, ℕ, ◌+◌, ◌/◌, T, sym, ap, ◌∙◌, subst, arith}
use lib.Ieee.{of_bits}
use Rattle.shade.specs.Byte.{byte_of}
use Rattle.shade.proofs.Bytes.{byte_small}
use Rattle.shade.proofs.Halves.{Between, byte_low, byte_high, byte_between}
use Rattle.shade.proofs.byte.Goals as goal
use Rattle.shade.proofs.byte.Goals.{After-truncating_f64_to_u64-twice, Then-x-2}

between : (c : Then-x-2) → Between c.args.x
unfolding of_bits
between c = byte_between c.args.x (subst T (sym c.well_formed.0.1) tt) c.if-x.true c.if-x-2.true

pub truncating_f64_to_u64-twice-requires : goal.truncating_f64_to_u64-twice-requires
unfolding of_bits
truncating_f64_to_u64-twice-requires c = record { lower_bound = (between c).above; upper_bound = (between c).below }

is_byte : (c : After-truncating_f64_to_u64-twice) → (c.truncating_f64_to_u64-twice.result + 1) / 2 ≡ byte_of c.args.x
unfolding of_bits
is_byte c = ap (λ (k : ℕ). (k + 1) / 2) c.truncating_f64_to_u64-twice.ensures ∙ (between c.before).is_byte

pub overflow_add-result : goal.overflow_add-result
overflow_add-result c = record { fits = omega (arith, is_byte c, byte_small c.args.x) }

pub overflow_cast-result : goal.overflow_cast-result
overflow_cast-result c = record { fits = omega (arith, is_byte c, byte_small c.args.x) }

pub returns-then-x-2 : goal.returns-then-x-2
returns-then-x-2 c = is_byte c

pub returns-else-x-2 : goal.returns-else-x-2
unfolding of_bits
returns-else-x-2 c = sym (byte_high c.args.x c.if-x.true c.if-x-2.false)

pub returns-else-x : goal.returns-else-x
unfolding of_bits
returns-else-x c = sym (byte_low c.args.x c.if-x.false)
