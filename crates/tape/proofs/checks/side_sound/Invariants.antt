-- `tape::checks::side_sound` meets its contract: the runs passed are sound, so those that are left decide.
use Rattle.std.proofs.Common.{◌≡◌, ltb, drop}
use Rattle.std.specs.List.{list_all}
use Rattle.tape.proofs.checks.side_sound.Given as goal

abbrev pub invariant-loop-i : goal.invariant-loop-i
invariant-loop-i l = record {
  full : list_all (ltb 0) (drop l.i l.lengths) ≡ list_all (ltb 0) l.lengths;
  below : list_all (λ s. ltb s l.count) (drop l.i l.symbols) ≡ list_all (λ s. ltb s l.count) l.symbols;
}
