-- The pixels that the code marks as swept are those that overlap a swept cell.
use Rattle.std.proofs.Common.{Option, Some, None, ℕ, ◌≤◌, min, max, ◌≡◌, refl, sym, ◌∙◌, Bool, true, false, arith, le-leb, leb-true}
use Rattle.std.proofs.Math.Bool.{false≢true}
use Rattle.columns.specs.declared.Columns.{Columns}
use Rattle.columns.specs.declared.Pair.{Pair}
use Rattle.columns.specs.Found.{pair, among, meets}
use Rattle.columns.specs.Inner.Usable.{Usable}
use Rattle.columns.specs.Pixels.{located}
use Rattle.columns.specs.Inner.Swept.{swept_at}
use Rattle.columns.proofs.Laws.{swept-located, located-swept}
use Rattle.columns.proofs.Tested.{among_facts, facts_among}
use Rattle.line.specs.Line.{is_swept}
use Rattle.line.specs.Inner.Swept.{swept_pixels}

-- a number among both makes two ranges meet, and ranges that meet have one
met_by : (f : Option Pair) (low high p : ℕ) → among f p ≡ true → low ≤ p → p ≤ high → meets f (Some (pair low high)) ≡ true
met_by (Some q) low high p e l h = let f = among_facts q.low q.high p e in le-leb (max q.low low) (min q.high high) (omega arith)
met_by None low high p e l h = absurd (false≢true e)

met_at : (f : Option Pair) (low high : ℕ) → meets f (Some (pair low high)) ≡ true → (p : ℕ) × (among f p ≡ true) × (low ≤ p) × (p ≤ high)
met_at (Some q) low high e =
    let h = leb-true (max q.low low) (min q.high high) e in
    (max q.low low, facts_among q.low q.high (max q.low low) (omega arith) (omega arith), omega arith, omega arith)
met_at None low high e = absurd (false≢true e)

meets_nothing : (f : Option Pair) → meets f None ≡ false
meets_nothing (Some q) = refl
meets_nothing None = refl

pub swept_is : (columns : Columns) (swept : Option Pair) (x : ℕ) → Usable columns → among (swept_pixels columns swept) x ≡ is_swept columns swept x
swept_is columns None x u = sym (meets_nothing (located columns x))
swept_is columns (Some s) x u = by (among (swept_at columns s.low s.high) x) (meets (located columns x) (Some s)) refl refl
  where
    by : (a b : Bool) → among (swept_at columns s.low s.high) x ≡ a → meets (located columns x) (Some s) ≡ b → a ≡ b
    by true true e f = refl
    by true false e f =
        let on = swept-located columns u s.low s.high x e in
        absurd (false≢true (sym f ∙ met_by (located columns x) s.low s.high on.0 on.3 on.1 on.2))
    by false true e f =
        let m = met_at (located columns x) s.low s.high f in
        absurd (false≢true (sym e ∙ located-swept columns u s.low s.high x m.0 m.1 m.2 m.3))
    by false false e f = refl
