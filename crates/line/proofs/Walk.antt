-- The runs of a side, added one at a time from the head outwards, to tallies or to a count, and all that a tape adds out of its parts.
use Rattle.std.proofs.Common.{Some, ℕ, ◌+◌, ◌-◌, ◌≤◌, ◌<◌, min, max, ◌≡◌, sym, ◌∙◌, ◌⊎◌, inl, inr, Bool, true, false, List, arith, le_trans, lt-ltb, le-ltb, le-leb}
use Rattle.std.proofs.Math.Bool.{and-true, and-false}
use Rattle.std.proofs.Math.Decide.{dec_lt}
use borrow.Author.Tests.{lt-leb}
use Rattle.slices.specs.Filled.{within}
use Rattle.slices.proofs.Within.{within_none, within_above}
use Rattle.tape.specs.Tape.{Tape, symbol_at}
use Rattle.tape.specs.Checks.{total}
use Rattle.tape.specs.Inner.Checks.{Readable}
use Rattle.tape.specs.Inner.Sides.{cell_at, edge, SideFits, side_symbol}
use Rattle.tape.proofs.OneSide.{fewer_fit, in_order, reversed, between, edges}
use Rattle.tape.proofs.Symbols.{head_cell, left_cell, right_cell, blank-left, blank-right}
use Rattle.columns.specs.Found.{pair, among}
use Rattle.columns.specs.Inner.Adding.{added, with_positions}
use Rattle.columns.proofs.Added.{added_none, added-same}
use Rattle.line.specs.Inner.Tallying.{written_within, written_side}
use Rattle.line.specs.Line.{written, leftmost}
use Rattle.line.proofs.Passing.{Run}
use Rattle.line.proofs.Tallying.{Adds, added_below, added_above, within_same}

-- positions that all have one symbol
module _ (symbol from to : ℕ) where
  pub none_blank : symbol ≡ 0 → (p : ℕ) → written_within from to (λ p. symbol) p ≡ false
  none_blank e p = rw (e, and-false)

  pub none_empty : to ≤ from → (p : ℕ) → written_within from to (λ p. symbol) p ≡ false
  none_empty h p = by (dec_lt p from)
    where
      by : Dec (p < from) → written_within from to (λ p. symbol) p ≡ false
      by (yes b) = rw (lt-leb from p b)
      by (no b) = rw (within_above from to p (omega arith))

  -- a written symbol leaves the range alone
  pub run-within : (symbol ≡ 0 → ⊥) → (p : ℕ) → written_within from to (λ p. symbol) p ≡ within from to p
  run-within n p = let some : 0 < symbol = omega arith in rw (lt-ltb 0 symbol some, and-true)

  pub added_run : (first c : ℕ) (ts : List ℕ) → (symbol ≡ 0 → ⊥) → from < to
      → with_positions first c from (to - 1) ts ≡ added first c (written_within from to (λ p. symbol)) ts
  added_run first c ts n h = added-same first c ts _ _ (λ p. same p (dec_lt p to) ∙ sym (run-within n p))
    where
      same : (p : ℕ) → Dec (p < to) → among (Some (pair from (to - 1))) p ≡ within from to p
      same p (yes u) = rw (lt-ltb p to u, le-leb p (to - 1) (omega arith))
      same p (no u) = rw (le-ltb p to (omega arith), lt-leb p (to - 1) (omega arith))

  pub added_blank : (first c : ℕ) (ts : List ℕ) → symbol ≡ 0 → ts ≡ added first c (written_within from to (λ p. symbol)) ts
  added_blank first c ts e = added_none first c ts _ (none_blank e)

  pub added_empty : (first c : ℕ) (ts : List ℕ) → to ≤ from → ts ≡ added first c (written_within from to (λ p. symbol)) ts
  added_empty first c ts h = added_none first c ts _ (none_empty h)

-- parts of a side make one, whichever way it goes
joined : (A : Type 0) (add : (ℕ → Bool) → A → A) → Adds A add → (at near far : ℕ) (symbol : ℕ → ℕ) (a : A) → ((far ≤ near) × (near ≤ at)) ⊎ ((at ≤ near) × (near ≤ far))
    → add (written_within (min near far) (max near far) symbol) (add (written_within (min at near) (max at near) symbol) a)
    ≡ add (written_within (min at far) (max at far) symbol) a
joined A add adds at near far symbol a (inl o) =
    let x = reversed near far o.0 in
    let y = reversed at near o.1 in
    let z = reversed at far (le_trans o.0 o.1) in
    rw (x.0, x.1, y.0, y.1, z.0, z.1) (added_below A add adds far near at symbol a o.0 o.1)
joined A add adds at near far symbol a (inr o) =
    let x = in_order near far o.1 in
    let y = in_order at near o.0 in
    let z = in_order at far (le_trans o.0 o.1) in
    rw (x.0, x.1, y.0, y.1, z.0, z.1) (added_above A add adds at near far symbol a o.0 o.1)

module _ (A : Type 0) (add : (ℕ → Bool) → A → A) (adds : Adds A add) (leftward : Bool) (head : ℕ) (symbols lengths : List ℕ) (a : A) where
  -- nothing is added yet
  pub none_added : a ≡ add (written_side leftward head 0 (side_symbol leftward head symbols lengths)) a
  none_added =
      let e = in_order (edge leftward head 0) (edge leftward head 0) (omega arith) in
      rw (e.0, e.1) (adds.none _ a (λ p. rw (within_none (edge leftward head 0) p)))

  -- one more run, between two edges
  pub side_added : (passed symbol n low high : ℕ) (before after : A) → Run symbols lengths passed symbol n → SideFits leftward head (total lengths)
      → low ≡ min (edge leftward head passed) (edge leftward head (passed + n)) → high ≡ max (edge leftward head passed) (edge leftward head (passed + n))
      → before ≡ add (written_side leftward head passed (side_symbol leftward head symbols lengths)) a
      → after ≡ add (written_within low high (λ p. symbol)) before
      → after ≡ add (written_side leftward head (passed + n) (side_symbol leftward head symbols lengths)) a
  side_added passed symbol n low high before after run room low-is high-is was is =
      let far = passed + n in
      let more : passed ≤ far = omega arith in
      let fits = fewer_fit leftward head far (total lengths) run.among room in
      let side = side_symbol leftward head symbols lengths in
      (rw (low-is, high-is) at is)
      ∙ adds.same _ _ before
      (within_same _ _ _ side (λ q l u. let b = between head passed far q more leftward fits l u in sym (run.covers (cell_at leftward head q) (omega (arith, b.1)) (omega (arith, b.2)))))
      ∙ rw was (joined A add adds (edge leftward head 0) (edge leftward head passed) (edge leftward head far) side a (edges leftward head passed far more fits))

-- the head's cell, the runs left of it and the runs right of it are all that is written
module _ (t : Tape) (r : Readable t) where
  high : ℕ
  high = t.head + 1 + total t.right.lengths

  pub outside : (p : ℕ) → written_within (leftmost t) (t.head + 1 + total t.right.lengths) (symbol_at t) p ≡ written t p
  unfolding high
  outside p = by (dec_lt p (leftmost t)) (dec_lt p high)
    where
      by : Dec (p < leftmost t) → Dec (p < high) → written_within (leftmost t) high (symbol_at t) p ≡ written t p
      by (yes b) u = rw (lt-leb (leftmost t) p b, blank-left t p r.left_paired (omega arith))
      by (no b) (yes u) = rw (le-leb (leftmost t) p (omega arith), lt-ltb p high u)
      by (no b) (no u) = rw (within_above (leftmost t) high p (omega arith), blank-right t p r.right_paired (omega arith))

  pub row_added : (A : Type 0) (add : (ℕ → Bool) → A → A) → Adds A add → (none head left right : A)
      → head ≡ add (written_within t.head (t.head + 1) (λ p. t.cur)) none
      → left ≡ add (written_side true t.head (total t.left.lengths) (side_symbol true t.head t.left.symbols t.left.lengths)) head
      → right ≡ add (written_side false t.head (total t.right.lengths) (side_symbol false t.head t.right.symbols t.right.lengths)) left
      → right ≡ add (written t) none
  unfolding high
  row_added A add adds none head left right h l e =
      let low = leftmost t in
      let middle : head ≡ add (written_within t.head (t.head + 1) (symbol_at t)) none =
      h ∙ adds.same _ _ none (within_same t.head (t.head + 1) _ (symbol_at t) (λ p a b. sym (head_cell t p (omega arith)))) in
      let x = reversed (t.head - 0) low (omega arith) in
      let y = in_order (t.head + 1 + 0) high (omega arith) in
      let start : t.head - 0 ≡ t.head = omega arith in
      let next : t.head + 1 + 0 ≡ t.head + 1 = omega arith in
      let leftward : left ≡ add (written_within low (t.head + 1) (symbol_at t)) none =
      (rw (x.0, x.1, start) at l) ∙ adds.same _ _ head (within_same low t.head _ (symbol_at t) (λ p a b. sym (left_cell t p b)))
      ∙ rw middle (added_below A add adds low t.head (t.head + 1) (symbol_at t) none (omega arith) (omega arith)) in
      (rw (y.0, y.1, next) at e) ∙ adds.same _ _ left (within_same (t.head + 1) high _ (symbol_at t) (λ p a b. sym (right_cell t p (omega arith))))
      ∙ rw leftward (added_above A add adds low (t.head + 1) high (symbol_at t) none (omega arith) (omega arith))
      ∙ adds.same _ _ none outside
