-- What the checks of a tape leave once it has passed them.
use Rattle.std.proofs.Common.{◌≡◌, ℕ, ◌+◌, ◌<◌, Bool, true, ◌&&◌, None, length, eqb, leb, ltb, arith}
use Rattle.std.specs.List.{list_all}
use mathlib.Core.Bool.{and-eq-true_iff}
use borrow.Author.Tests.{eqb-true, leb-true, ltb-true}
use Rattle.position.specs.Position.{lowest, highest, in_domain}
use Rattle.tape.specs.Tape.{Side, Tape}
use Rattle.refusal.proofs.Passed.{passed}
use Rattle.tape.specs.Checks.{total, side_sound, runs_sound, reach_sound, tape_checks, tape_refusal}
use Rattle.tape.specs.Inner.Checks.{Readable}

-- both of two tests that hold together
both : (a b : Bool) → (a && b) ≡ true → (a ≡ true) × (b ≡ true)
both a b = (and-eq-true_iff a b).0

-- the parts of a side's test
pub side_parts : (count : ℕ) (side : Side) → side_sound count side ≡ true
    → (length side.symbols ≡ length side.lengths) × (list_all (ltb 0) side.lengths ≡ true) × (list_all (λ s. ltb s count) side.symbols ≡ true)
side_parts count side e =
    let p = both (eqb (length side.symbols) (length side.lengths) && list_all (ltb 0) side.lengths) (list_all (λ s. ltb s count) side.symbols) e in
    let q = both (eqb (length side.symbols) (length side.lengths)) (list_all (ltb 0) side.lengths) p.0 in
    (eqb-true _ _ q.0, q.1, p.1)

-- the parts of 11
pub runs_parts : (count : ℕ) (t : Tape) → runs_sound count t ≡ true → (t.cur < count) × (side_sound count t.left ≡ true) × (side_sound count t.right ≡ true)
runs_parts count t e =
    let s = both (ltb t.cur count && side_sound count t.left) (side_sound count t.right) e in
    let l = both (ltb t.cur count) (side_sound count t.left) s.0 in
    (ltb-true t.cur count l.0, l.1, s.1)

pub readable : (count : ℕ) (t : Tape) → runs_sound count t ≡ true → reach_sound t ≡ true → Readable t
readable count t runs reach =
    let s = runs_parts count t runs in
    let r = both (in_domain t.head && leb (lowest + total t.left.lengths) t.head) (leb (t.head + total t.right.lengths) highest) reach in
    let l = leb-true (lowest + total t.left.lengths) t.head (both (in_domain t.head) _ r.0).1 in
    let h = leb-true (t.head + total t.right.lengths) highest r.1 in
    record {
      left_paired = (side_parts count t.left s.1).0;
      right_paired = (side_parts count t.right s.2).0;
      left_room = omega arith;
      right_room = omega arith;
    }

-- what a tape passed where nothing refuses it
pub tape-passed : (count : ℕ) (t : Tape) → tape_refusal count t ≡ None → (runs_sound count t ≡ true) × (reach_sound t ≡ true)
unfolding tape_refusal
tape-passed count t e = let p = passed (tape_checks count t) e in (p.1.0, p.1.1.0)
