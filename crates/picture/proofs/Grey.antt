-- How true a grey is, after every list of row calls (specs/Grey.antt): from the shade of one bin, by the bytes of a picture that stands as a plain one does.
use Prim.Native.Nat.{ℕ, ◌≤◌, ◌<◌}
use mathlib.Core.Path.{◌≡◌, refl, sym, ap, ◌∙◌, subst}
use mathlib.Core.Bool.{false, ◌||◌}
use mathlib.Core.List.{List, [], ◌∷◌}
use native.Mathlib.Omega.{arith}
use lib.Dec.{leb}
use borrow.Author.Tests.{lt-leb}
use Rattle.limits.specs.Limits.{max_cells}
use Rattle.shade.specs.Shade.{tally_shade}
use Rattle.shade.proofs.Shades.{tally-least, tally-most}
use Rattle.shade.proofs.Grey.{true_greys, ordered_greys}
use Rattle.columns.specs.declared.Columns.{Columns}
use Rattle.columns.specs.declared.Columns.TheVariants.{Bins}
use Rattle.columns.specs.Inner.Usable.{Usable}
use Rattle.columns.specs.Pixels.{beside}
use Rattle.columns.proofs.Tally.{tally-most as bin-most}
use Rattle.columns.proofs.Tested.{beside_facts}
use Rattle.grid.specs.declared.Grid.{Grid}
use Rattle.line.specs.Line.{pixel_at}
use Rattle.line.proofs.InkPixel.{pixel-ink, ink-pixel}
use Rattle.rows.specs.RowCall.{RowInput}
use Rattle.picture.specs.Calls.{State}
use Rattle.picture.specs.Plain.{Plain, plain_of, plain_row, plain_after, in_margin}
use Rattle.picture.specs.Demand3.{byte_at}
use Rattle.picture.specs.Grey.{tally_in, LiesIn, ShowsInk, Greys, GreysDrawn}
use Rattle.picture.proofs.Step.{Stands}
use Rattle.picture.proofs.Seen.{sound, out, byte_drawn}
use Rattle.picture.proofs.Accounts.{row_grid}
use Rattle.picture.proofs.Demand3.{fitted, list_ran}

module _ (s : State) (q : Plain) (st : Stands s q) (first cells width : ℕ) (bins : q.grid.columns ≡ Bins first cells width) where
  few : cells ≤ max_cells
  few = let u : Usable (Bins first cells width) = subst Usable bins (sound s q st).usable in u.3

  within : (x y i : ℕ) → LiesIn q x y i → x < width
  within x y i l =
      let on : beside (Bins first cells width) x ≡ false = sym (subst (λ (c : Columns). (leb q.grid.width x || in_margin c x) ≡ beside c x) bins (out s q st x)) ∙ rw (lt-leb q.grid.width x l.0) in
      (beside_facts (Bins first cells width) x on).1

  tally-within : (x y i : ℕ) → LiesIn q x y i → tally_in q first cells width i x ≤ cells
  tally-within x y i l = bin-most width cells _ x (within x y i l)

  drawn : (x y i : ℕ) → LiesIn q x y i → byte_at s x y ≡ pixel_at q.grid (q.tapes i) (q.swept i) x
  drawn x y i l = byte_drawn s q st x y i l.0 l.1 l.2

  shown : (x y i : ℕ) → LiesIn q x y i → ShowsInk q first cells width i x → byte_at s x y ≡ tally_shade (tally_in q first cells width i x) cells
  shown x y i l v = drawn x y i l ∙ pixel-ink q.grid (q.tapes i) (q.swept i) first cells width x bins v.0 v.1

  greys : Greys q first cells width s
  greys =
      record {
        ink_true = λ x y i l v. rw (shown x y i l v) (true_greys _ cells v.0 (tally-within x y i l) few);
        in_order = λ x y i u v j l a m b h. rw (shown x y i l a, shown u v j m b) (ordered_greys _ _ cells h (tally-within u v j m) few);
        ink_seen = λ x y i l. (
          λ h. ink-pixel q.grid (q.tapes i) (q.swept i) first cells width x bins (rw (drawn x y i l) at h.0) (rw (drawn x y i l) at h.1),
          λ v. rw (shown x y i l v) (tally-least _ cells v.0, tally-most _ cells (tally-within x y i l) (omega (arith, v.0, tally-within x y i l)) few),
        );
      }

-- row calls keep a plain picture's grid
grid_kept : (calls : List RowInput) (q : Plain) → (plain_after q calls).0.grid ≡ q.grid
unfolding plain_after
grid_kept [] q = refl
grid_kept (call ∷ calls) q = grid_kept calls (plain_row q call).0 ∙ row_grid q call

pub greys_drawn : GreysDrawn
greys_drawn o g fits index store start opens calls allowed first cells width bins =
    let same : (plain_after (plain_of o) calls).0.grid ≡ g = grid_kept calls (plain_of o) ∙ (fitted o g fits).1 in
    greys _ _ (list_ran o g fits index store start opens calls allowed).stands first cells width (ap (λ (h : Grid). h.columns) same ∙ bins)
