-- `line::marks::mark_swept` meets its contract: a word more is marked, and at the end the bytes behind the words.
use Rattle.std.proofs.Common.{◌≡◌, ◌+◌, ◌-◌, ◌*◌, ◌/◌, length, get_or, take, drop, map, sym, ap, ◌∙◌, arith, rules}
use Rattle.std.proofs.lemmas.List.{places, get_or-map, length-map}
use Rattle.line.specs.Line.{swept_over}
use Rattle.slices.specs.Inner.Filled.{altered}
use Rattle.slices.proofs.Altered.{altered_inside, altered_above, altered_none, altered_more}
use Rattle.slices.proofs.Parts.{ended}
use Rattle.line.proofs.Parted.{mapped_part}
use Rattle.line.proofs.marks.mark_swept.Goals as goal

pub loop-turn-init : goal.loop-turn-init
loop-turn-init c = altered_none (λ k b. swept_over b) 0 c.args.pixels.now

pub loop-turn-preserved : goal.loop-turn-preserved
loop-turn-preserved c =
    let l = c.loop-turn in
    let at = 8 * l.turn in
    let next : at + 8 ≡ 8 * (l.turn + 1) = omega arith in
    mapped_part (λ b. swept_over b) at (at + 8) l.pixels c.store.new.bytes (omega arith) (omega arith)
    (c.store.ensures ∙ c.mark_word.ensures ∙ ap (map (λ b. swept_over b)) c.read.ensures)
    ∙ altered_more (λ k b. swept_over b) 0 at (at + 8) c.args.pixels.now l.pixels (omega arith) (omega arith) l.invariant
    ∙ ap (λ to. altered (λ k b. swept_over b) 0 to c.args.pixels.now) next

pub returns : goal.returns
returns c =
    let xs = c.args.pixels.now in
    let at = 8 * (length xs / 8) in
    let l = c.loop-turn in
    let marked = length-map xs (λ b. swept_over b) in
    ended at l.pixels c.loop-byte.byte-items (map (λ b. swept_over b) xs) (omega arith) (search rules) (omega (arith, marked))
    (λ k h. ap (λ ys. get_or ys k 0) l.invariant ∙ altered_inside _ 0 (8 * l.turn) xs k (omega arith) (omega arith) (omega arith)
    ∙ sym (get_or-map (λ b. swept_over b) xs k 0 0 (omega arith)))
    (λ k h.
    let here : get_or (take (length l.pixels - at) (drop at l.pixels)) k 0 ≡ get_or l.pixels (at + k) 0 = search (rules, places) in
    c.loop-byte.invariant.done k (omega arith)
    ∙ ap (λ b. swept_over b) (here ∙ ap (λ ys. get_or ys (at + k) 0) l.invariant ∙ altered_above _ 0 (8 * l.turn) xs (at + k) (omega arith) (omega arith))
    ∙ sym (get_or-map (λ b. swept_over b) xs (at + k) 0 0 (omega arith)))
