-- `slices::by_word::fill` meets its contract: whole words are set, and the bytes behind them.
use Rattle.std.proofs.Common.{◌*◌, ◌/◌, arith, rules, length, replicate, ◌∙◌, sym}
use lib.ListN.{length-replicate, get_or-replicate}
use Rattle.slices.proofs.Parts.{ended}
use Rattle.slices.proofs.by_word.fill.Goals as goal

pub returns : goal.returns
returns c =
    let n = length c.args.bytes.now in
    let v = c.args.value in
    ended (8 * (n / 8)) c.loop-turn.bytes c.loop-byte.byte-items (replicate n v) (omega arith) (search rules) (omega (arith, length-replicate n v))
    (λ k h. c.loop-turn.invariant k (omega arith) ∙ sym (get_or-replicate n k v 0 (omega arith)))
    (λ k h. c.loop-byte.invariant k (omega arith) ∙ sym (get_or-replicate n _ v 0 (omega arith)))
