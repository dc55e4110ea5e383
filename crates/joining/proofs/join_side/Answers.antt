-- `joining::join_side` meets its contract: the joined runs stand at the front, and the places after them are cleared.
use Rattle.std.proofs.Common.{◌≡◌, ℕ, ◌-◌, length, replicate, refl, ap, ◌∙◌, rules}
use Rattle.joining.specs.Runs.{runs_of, joined_of, symbol_of, cells_of}
use Rattle.joining.proofs.Placing.{freed_is, rewritten_is}
use Rattle.joining.proofs.join_side.Goals as goal

pub returns : goal.returns
returns c =
    let g = c.gather-count in
    let a = c.args in
    let s = g.new.symbols in
    let l = g.new.lengths in
    let n = length a.lengths.now in
    let runs = joined_of (runs_of a.symbols.now a.lengths.now n) in
    let e = g.ensures in
    let long = e.as_long in
    let symbols : c.fill.new.self ≡ replicate (length s - g.result) 0 = search rules in
    let lengths : c.fill-2.new.self ≡ replicate (length l - g.result) 0 = search rules in
    record {
      value = ap (λ (m : ℕ). m - g.result) long.1 ∙ freed_is s l g.result n runs e.value e.within;
      symbols_after = rewritten_is s l g.result n runs e.value e.within symbol_of s _ (λ k. refl) long.0 symbols;
      lengths_after = rewritten_is s l g.result n runs e.value e.within cells_of l _ (λ k. refl) long.1 lengths;
    }
