-- When a pixel of a row is paper (RULES, Rows): exactly if nothing that it locates to is written or swept, and the head is not
-- drawn there.
use Rattle.std.proofs.Common.{Option, Some, None, ℕ, ◌+◌, ◌-◌, ◌/◌, ◌≡◌, refl, sym, ap, ◌∙◌, Bool, true, false, cond, ◌↔◌, arith, ltb, eqb, ltb-false, le-ltb}
use Rattle.std.proofs.Math.Bool.{false≢true}
use borrow.Author.Tests.{eqb-false}
use Rattle.shade.specs.Index as byte
use Rattle.shade.specs.Shade.{symbol_shade}
use Rattle.shade.proofs.Shades.{tally-paper, symbol-paper}
use Rattle.tape.specs.Tape.{Tape, symbol_at}
use Rattle.columns.specs.declared.Columns.{Columns}
use Rattle.columns.specs.declared.Columns.TheVariants.{Cells, Bins}
use Rattle.columns.specs.declared.Pair.{Pair}
use Rattle.columns.specs.Found.{pair, among}
use Rattle.columns.specs.Inner.Usable.{Usable}
use Rattle.columns.specs.Pixels.{beside, located, head_at}
use Rattle.columns.specs.Inner.Swept.{swept_at}
use Rattle.columns.proofs.Laws.{tally-blank, swept-located, located-swept, head-located}
use Rattle.columns.proofs.Tested.{beside_facts, among_facts, facts_among}
use Rattle.grid.specs.declared.Grid.{Grid}
use Rattle.line.specs.Line.{written, shade_at, is_swept, swept_over, pixel_at}
use Rattle.line.specs.Inner.Swept.{swept_pixels}
use Rattle.line.proofs.SweptPixel.{swept_is}

blank-symbol : (n : ℕ) → (n ≡ 0) ↔ (ltb 0 n ≡ false)
blank-symbol n = (λ z. le-ltb 0 n (omega arith), λ e. let l = ltb-false 0 n e in omega arith)

-- nothing that pixel x locates to passes a test
abbrev pub NoneAt : Columns → ℕ → (ℕ → Bool) → Type 0
NoneAt columns x test = (p : ℕ) → among (located columns x) p ≡ true → test p ≡ false

-- before anything goes over it a pixel is paper exactly if nothing is written there
pub shade_blank : (columns : Columns) (symbols : ℕ) (t : Tape) (x : ℕ) → Usable columns → beside columns x ≡ false
    → (shade_at columns symbols t x ≡ byte.background) ↔ NoneAt columns x (written t)
unfolding shade_at
shade_blank (Cells first count px x0) symbols t x u e = (there, back)
  where
    p : ℕ
    p = first + (x - x0) / px

    alone : (k : ℕ) → among (Some (pair p p)) k ≡ true → p ≡ k
    alone k a = let f = among_facts p p k a in omega arith

    there : cond (beside (Cells first count px x0) x) byte.background (symbol_shade (symbol_at t p) symbols) ≡ byte.background → NoneAt (Cells first count px x0) x (written t)
    there z k a =
        let zero : symbol_at t p ≡ 0 = (symbol-paper (symbol_at t p) symbols).0 (rw e at z) in
        let same : p ≡ k = alone k (rw e at a) in
        ap (written t) (sym same) ∙ (blank-symbol (symbol_at t p)).0 zero

    back : NoneAt (Cells first count px x0) x (written t) → cond (beside (Cells first count px x0) x) byte.background (symbol_shade (symbol_at t p) symbols) ≡ byte.background
    back none =
        let zero : symbol_at t p ≡ 0 = (blank-symbol (symbol_at t p)).1 (none p (rw e (facts_among p p p (omega arith) (omega arith)))) in
        rw e ((symbol-paper (symbol_at t p) symbols).1 zero)
shade_blank (Bins first cells width) symbols t x u e =
    let blank = tally-blank first cells width u (written t) x (beside_facts (Bins first cells width) x e).1 in
    let paper = tally-paper _ cells in
    (λ z. blank.0 (paper.0 z), λ none. paper.1 (blank.1 none))

-- a swept pair that may be missing is drawn at a pixel exactly if it has a cell that the pixel locates to
swept_none : (columns : Columns) (swept : Option Pair) (x : ℕ) → Usable columns → (among (swept_pixels columns swept) x ≡ false) ↔ NoneAt columns x (among swept)
swept_none columns None x u = (λ e p a. refl, λ none. refl)
swept_none columns (Some s) x u = (λ e p a. there e p a (among (Some s) p) refl, λ none. back none (among (swept_at columns s.low s.high) x) refl)
  where
    there : among (swept_at columns s.low s.high) x ≡ false → (p : ℕ) → among (located columns x) p ≡ true → (b : Bool) → among (Some s) p ≡ b → b ≡ false
    there e p a true q = let f = among_facts s.low s.high p q in absurd (false≢true (sym e ∙ located-swept columns u s.low s.high x p a f.0 f.1))
    there e p a false q = refl

    back : NoneAt columns x (among (Some s)) → (b : Bool) → among (swept_at columns s.low s.high) x ≡ b → b ≡ false
    back none true q =
        let on = swept-located columns u s.low s.high x q in
        absurd (false≢true (sym (none on.0 on.3) ∙ facts_among s.low s.high on.0 on.1 on.2))
    back none false q = refl

swept-blank : (columns : Columns) (swept : Option Pair) (x : ℕ) → Usable columns → (is_swept columns swept x ≡ false) ↔ NoneAt columns x (among swept)
swept-blank columns swept x u =
    let s = swept_is columns swept x u in
    let n = swept_none columns swept x u in
    (λ e. n.0 (s ∙ e), λ none. sym s ∙ n.1 none)

-- swept changes only paper
pub swept_inks : (b : ℕ) → swept_over b ≡ byte.background → ⊥
swept_inks b e = by (eqb b byte.background) refl e
  where
    by : (c : Bool) → eqb b byte.background ≡ c → cond c byte.head_range b ≡ byte.background → ⊥
    by true q e = omega arith
    by false q e = eqb-false b byte.background q e

pub pixel-paper : (g : Grid) (t : Tape) (swept : Option Pair) (x : ℕ) → Usable g.columns → beside g.columns x ≡ false
    → (pixel_at g t swept x ≡ byte.background)
    ↔ (((p : ℕ) → among (located g.columns x) p ≡ true → (written t p ≡ false) × (among swept p ≡ false)) × (among (head_at g.columns t.head) x ≡ false))
pixel-paper g t swept x u e = (there (among (head_at columns t.head) x) (is_swept columns swept x) refl refl, back)
  where
    columns : Columns
    columns = g.columns

    shade : ℕ
    shade = shade_at g.columns g.symbols t x

    there : (head on : Bool) → among (head_at columns t.head) x ≡ head → is_swept columns swept x ≡ on
        → cond head byte.head (cond on (swept_over shade) shade) ≡ byte.background
        → ((p : ℕ) → among (located columns x) p ≡ true → (written t p ≡ false) × (among swept p ≡ false)) × (head ≡ false)
    there true on h s z = absurd (omega arith)
    there false true h s z = absurd (swept_inks shade z)
    there false false h s z =
        let blank = (shade_blank columns g.symbols t x u e).0 z in
        let clear = (swept-blank columns swept x u).0 s in
        (λ p a. (blank p a, clear p a), refl)

    back : ((p : ℕ) → among (located columns x) p ≡ true → (written t p ≡ false) × (among swept p ≡ false)) × (among (head_at columns t.head) x ≡ false)
        → pixel_at g t swept x ≡ byte.background
    back n =
        let clear = (swept-blank columns swept x u).1 (λ p a. (n.0 p a).1) in
        rw (n.1, clear) ((shade_blank columns g.symbols t x u e).1 (λ p a. (n.0 p a).0))

-- a pixel in a margin of cells is paper
pub pixel_margin : (g : Grid) (t : Tape) (swept : Option Pair) (x : ℕ) → Usable g.columns → beside g.columns x ≡ true
    → shade_at g.columns g.symbols t x ≡ byte.background
    → pixel_at g t swept x ≡ byte.background
pixel_margin g t swept x u e shade =
    rw (head (among (head_at g.columns t.head) x) refl, (swept-blank g.columns swept x u).1 (λ p a. absurd (none p a))) shade
  where
    none : (p : ℕ) → among (located g.columns x) p ≡ true → ⊥
    none p a = false≢true (rw e at a)

    head : (b : Bool) → among (head_at g.columns t.head) x ≡ b → b ≡ false
    head true q = absurd (none t.head (head-located g.columns u t.head x q))
    head false q = refl

pub shade_margin : (first count px x0 symbols : ℕ) (t : Tape) (x : ℕ) → beside (Cells first count px x0) x ≡ true
    → shade_at (Cells first count px x0) symbols t x ≡ byte.background
unfolding shade_at
shade_margin first count px x0 symbols t x e = rw e
