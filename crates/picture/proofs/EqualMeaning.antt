-- What the answer about two pictures means, and what holds of it (specs/EqualMeaning.antt).
use Rattle.std.proofs.Common.{ℕ, zero, suc, ◌+◌, ◌*◌, ◌/◌, ◌%◌, ◌≤◌, ◌<◌, ◌≡◌, refl, sym, ap, ◌∙◌, subst, Bool, true, false, cond, List, [], ◌∷◌, ◌⊎◌, inl, inr, arith, mul-le-mul_right, div-le_self, div-add-mod', div-lt_iff_lt-mul, mod-lt, eqb, length, get_or, ext_get_or, get_or-take, length-take-le, eqb-true, eq-eqb, ltb-true, Option, None, Some, Result, Ok}
use Rattle.std.proofs.Math.Bool.{and-eq-true_iff}
use Rattle.refusal.proofs.Kept.{accepted as answered}
use Rattle.refusal.proofs.Passed.{all_true}
use Rattle.slices.specs.Same.{same}
use Rattle.slices.specs.Tabulate.{tabulate}
use Rattle.slices.proofs.Same.{same_equal}
use Rattle.slices.proofs.Tabulated.{get_or-tabulate, tabulate-same}
use Rattle.tape.specs.Tape.{Tape}
use Rattle.columns.specs.declared.Columns.{Columns}
use Rattle.columns.specs.declared.Columns.TheVariants.{Cells, Bins}
use Rattle.columns.specs.declared.Pair.{Pair}
use Rattle.columns.specs.Inner.Usable.{Usable}
use Rattle.columns.specs.Window.{window_of, cells_tests, bins_tests, sound_in}
use Rattle.grid.specs.declared.Grid.{Grid}
use Rattle.grid.specs.Soundness.{grid_sound, step_of}
use Rattle.grid.specs.Memory.{stored_cells}
use Rattle.grid.proofs.Sound.{sound_facts, sound_columns}
use Rattle.rows.specs.RowCall.{RowInput, row_input, row_input_refusal, row_call}
use Rattle.refusal.specs.declared.Refusal.{Refusal}
use Rattle.picture.specs.Calls.{State, accepted}
use Rattle.picture.specs.Plain.{Plain, plain_of, with_row, plain_row, plain_after}
use Rattle.picture.specs.Equal.{looks_equal, same_window, drawn_steps, drawn_symbols, alike, equal_call}
use Rattle.picture.specs.EqualMeaning.{Taken, stored_at, Agree, rows_in, Equalities}
use Rattle.picture.proofs.Clicking.{place_within}
use Rattle.picture.proofs.Compared.{Whole, taken_whole, whole_taken, both_taken, taken_both, same_itself}
use Rattle.picture.proofs.RowCalls.{row_refused, row_drawn}
use Rattle.picture.proofs.Step.{Stands, refusal_is}
use Rattle.picture.proofs.Demand3.{list_ran}

-- what is the same in two pictures that are alike, steps and symbols as lists
record Alike (s t : State) : Type 0 where
  width : s.grid.width ≡ t.grid.width
  height : s.grid.height ≡ t.grid.height
  bytes : s.index ≡ t.index
  low : (window_of s.grid.columns).low ≡ (window_of t.grid.columns).low
  high : (window_of s.grid.columns).high ≡ (window_of t.grid.columns).high
  rows : s.grid.progress.done ≡ t.grid.progress.done
  steps : drawn_steps s.grid ≡ drawn_steps t.grid
  symbols : drawn_symbols s.grid s.store ≡ drawn_symbols t.grid t.store

looks_facts : (s t : State) → looks_equal s t ≡ true → (s.grid.width ≡ t.grid.width) × (s.grid.height ≡ t.grid.height) × (s.index ≡ t.index)
looks_facts s t e =
    let l = (and-eq-true_iff _ (same s.index t.index)).0 e in
    let size = (and-eq-true_iff (eqb s.grid.width t.grid.width) _).0 l.0 in
    (eqb-true _ _ size.0, eqb-true _ _ size.1, same_equal _ _ l.1)

looks_holds : (s t : State) → s.grid.width ≡ t.grid.width → s.grid.height ≡ t.grid.height → s.index ≡ t.index → looks_equal s t ≡ true
looks_holds s t width height bytes =
    rw (eq-eqb s.grid.width t.grid.width width, eq-eqb s.grid.height t.grid.height height, bytes, same_itself t.index)

module _ (s t : State) where
  alike_facts : alike s t ≡ true → Alike s t
  unfolding alike
  alike_facts e =
      let p =
      all_true
      (looks_equal s t ∷ same_window s.grid.columns t.grid.columns ∷ eqb s.grid.progress.done t.grid.progress.done
      ∷ same (drawn_steps s.grid) (drawn_steps t.grid) ∷ same (drawn_symbols s.grid s.store) (drawn_symbols t.grid t.store) ∷ [])
      e in
      let looks = looks_facts s t p.0 in
      let ends = (and-eq-true_iff (eqb (window_of s.grid.columns).low (window_of t.grid.columns).low) _).0 p.1.0 in
      record {
        width = looks.0;
        height = looks.1;
        bytes = looks.2;
        low = eqb-true _ _ ends.0;
        high = eqb-true _ _ ends.1;
        rows = eqb-true _ _ p.1.1.0;
        steps = same_equal _ _ p.1.1.1.0;
        symbols = same_equal _ _ p.1.1.1.1.0;
      }

  alike_holds : Alike s t → alike s t ≡ true
  unfolding alike
  alike_holds a =
      rw (
        looks_holds s t a.width a.height a.bytes,
        eq-eqb (window_of s.grid.columns).low (window_of t.grid.columns).low a.low,
        eq-eqb (window_of s.grid.columns).high (window_of t.grid.columns).high a.high,
        eq-eqb s.grid.progress.done t.grid.progress.done a.rows,
        a.steps,
        a.symbols,
        same_itself (drawn_steps t.grid),
        same_itself (drawn_symbols t.grid t.store),
      )

  -- the answer is equal exactly if neither picture is refused and they are alike
  equal_facts : equal_call s t ≡ Ok true → (Taken s × Taken t) × Alike s t
  unfolding equal_call
  equal_facts e = let a = answered _ _ e in (both_taken s t a.0, alike_facts (sym a.1))

  equal_holds : Taken s → Taken t → Alike s t → equal_call s t ≡ Ok true
  unfolding equal_call
  equal_holds p q a = rw (taken_both s t p q, alike_holds a)

  either : Taken s → Taken t → (equal_call s t ≡ Ok true) ⊎ (equal_call s t ≡ Ok false)
  unfolding equal_call
  either p q = rw (taken_both s t p q) (by (alike s t))
    where
      by : (is : Bool) → (◌≡◌ {A = Result Bool Refusal} (Ok is) (Ok true)) ⊎ (◌≡◌ {A = Result Bool Refusal} (Ok is) (Ok false))
      by true = inl refl
      by false = inr refl

-- it is an equivalence
itself : (s : State) → Alike s s
itself s = record { width = refl; height = refl; bytes = refl; low = refl; high = refl; rows = refl; steps = refl; symbols = refl }

turned : (s t : State) → Alike s t → Alike t s
turned s t a =
    record {
      width = sym a.width;
      height = sym a.height;
      bytes = sym a.bytes;
      low = sym a.low;
      high = sym a.high;
      rows = sym a.rows;
      steps = sym a.steps;
      symbols = sym a.symbols;
    }

joined : (s t u : State) → Alike s t → Alike t u → Alike s u
joined s t u a b =
    record {
      width = a.width ∙ b.width;
      height = a.height ∙ b.height;
      bytes = a.bytes ∙ b.bytes;
      low = a.low ∙ b.low;
      high = a.high ∙ b.high;
      rows = a.rows ∙ b.rows;
      steps = a.steps ∙ b.steps;
      symbols = a.symbols ∙ b.symbols;
    }

-- sound cells are no more than the pixels, and sound bins more
few : (w first count px x0 : ℕ) → sound_in w (Cells first count px x0) ≡ true → count ≤ w
unfolding sound_in
few w first count px x0 e =
    let many : count ≡ w / px = eqb-true _ _ (all_true (cells_tests w first count px x0) e).1.1.0 in
    omega (arith, many, div-le_self w px)

more : (w first cells width : ℕ) → sound_in w (Bins first cells width) ≡ true → w < cells
unfolding sound_in
more w first cells width e = ltb-true _ _ (all_true (bins_tests w first cells width) e).1.0

-- so columns with one window, in pictures of one width, store as many cells a row
stored_alike : (w : ℕ) (a b : Columns) → sound_in w a ≡ true → sound_in w b ≡ true → Usable a → Usable b
    → (window_of a).low ≡ (window_of b).low → (window_of a).high ≡ (window_of b).high → stored_cells a ≡ stored_cells b
stored_alike w (Cells first count px x0) (Cells first2 count2 px2 x02) p q u v low high = let n = u.1 in let m = v.1 in omega arith
stored_alike w (Cells first count px x0) (Bins first2 cells2 width2) p q u v low high =
    let n = few w first count px x0 p in
    let m = more w first2 cells2 width2 q in
    absurd (omega arith)
stored_alike w (Bins first cells width) (Cells first2 count2 px2 x02) p q u v low high =
    let n = few w first2 count2 px2 x02 q in
    let m = more w first cells width p in
    absurd (omega arith)
stored_alike w (Bins first cells width) (Bins first2 cells2 width2) p q u v low high = refl

module _ (s t : State) (p : Whole s) (q : Whole t) where
  count_alike : s.grid.width ≡ t.grid.width → (window_of s.grid.columns).low ≡ (window_of t.grid.columns).low
      → (window_of s.grid.columns).high ≡ (window_of t.grid.columns).high → stored_cells s.grid.columns ≡ stored_cells t.grid.columns
  count_alike width =
      stored_alike s.grid.width s.grid.columns t.grid.columns (sound_columns s.grid p.sound)
      (subst (λ (w : ℕ). sound_in w t.grid.columns ≡ true) (sym width) (sound_columns t.grid q.sound))
      (sound_facts s.grid p.sound).usable (sound_facts t.grid q.sound).usable

-- the drawn symbols are within the store
within-store : (s : State) → Whole s → s.grid.progress.done * stored_cells s.grid.columns ≤ length s.store
within-store s p = rw p.store_long (mul-le-mul_right (stored_cells s.grid.columns) (sound_facts s.grid p.sound).done_most)

-- the symbol of a cell of a drawn row, as one of the list
symbol-at : (s : State) (k j : ℕ) → k < s.grid.progress.done → j < stored_cells s.grid.columns
    → get_or (drawn_symbols s.grid s.store) (k * stored_cells s.grid.columns + j) 0 ≡ stored_at s k j
symbol-at s k j h l = get_or-take _ s.store _ 0 (place_within k s.grid.progress.done (stored_cells s.grid.columns) j h l)

module _ (s t : State) (p : Whole s) (q : Whole t) where
  alike_agree : Alike s t → Agree s t
  alike_agree a =
      let count = count_alike s t p q a.width a.low a.high in
      record {
        same_width = a.width;
        same_height = a.height;
        same_bytes = a.bytes;
        same_low = a.low;
        same_high = a.high;
        same_rows = a.rows;
        same_steps = λ k h.
            sym (get_or-tabulate (step_of s.grid) _ k 0 h) ∙ ap (λ (l : List ℕ). get_or l k 0) a.steps
            ∙ get_or-tabulate (step_of t.grid) _ k 0 (subst (λ (n : ℕ). k < n) a.rows h);
        same_symbols = λ k j h l.
            sym (symbol-at s k j h l) ∙ ap (λ (symbols : List ℕ). get_or symbols (k * stored_cells s.grid.columns + j) 0) a.symbols
            ∙ ap (λ (n : ℕ). get_or (drawn_symbols t.grid t.store) (k * n + j) 0) count
            ∙ symbol-at t k j (subst (λ (n : ℕ). k < n) a.rows h) (subst (λ (n : ℕ). j < n) count l);
      }

  agree_alike : Agree s t → Alike s t
  agree_alike a =
      record {
        width = a.same_width;
        height = a.same_height;
        bytes = a.same_bytes;
        low = a.same_low;
        high = a.same_high;
        rows = a.same_rows;
        steps = tabulate-same (step_of s.grid) (step_of t.grid) s.grid.progress.done a.same_steps ∙ ap (tabulate (step_of t.grid)) a.same_rows;
        symbols =
            ext_get_or 0 (drawn_symbols s.grid s.store) (drawn_symbols t.grid t.store) (long ∙ drawn ∙ sym other_long)
            (λ k h. each k (subst (λ (n : ℕ). k < n) long h));
      }
    where
      n : ℕ
      n = s.grid.progress.done

      count : ℕ
      count = stored_cells s.grid.columns

      as_many : count ≡ stored_cells t.grid.columns
      as_many = count_alike s t p q a.same_width a.same_low a.same_high

      drawn : n * count ≡ t.grid.progress.done * stored_cells t.grid.columns
      drawn = rw (a.same_rows, as_many)

      long : length (drawn_symbols s.grid s.store) ≡ n * count
      long = length-take-le _ s.store (within-store s p)

      other_long : length (drawn_symbols t.grid t.store) ≡ t.grid.progress.done * stored_cells t.grid.columns
      other_long = length-take-le _ t.store (within-store t q)

      at_cell : (i j : ℕ) → i < n → j < count → get_or (drawn_symbols s.grid s.store) (i * count + j) 0 ≡ get_or (drawn_symbols t.grid t.store) (i * count + j) 0
      at_cell i j h l =
          symbol-at s i j h l ∙ a.same_symbols i j h l ∙ sym (symbol-at t i j (subst (λ (m : ℕ). i < m) a.same_rows h) (subst (λ (m : ℕ). j < m) as_many l))
          ∙ ap (λ (m : ℕ). get_or (drawn_symbols t.grid t.store) (i * m + j) 0) (sym as_many)

      some : (k c : ℕ) → k < n * c → 0 < c
      some k zero h = absurd (omega (arith, h))
      some k (suc c) h = omega arith

      each : (k : ℕ) → k < n * count → get_or (drawn_symbols s.grid s.store) k 0 ≡ get_or (drawn_symbols t.grid t.store) k 0
      each k h =
          let c = some k count h in
          subst (λ (m : ℕ). get_or (drawn_symbols s.grid s.store) m 0 ≡ get_or (drawn_symbols t.grid t.store) m 0) (div-add-mod' k count)
          (at_cell (k / count) (k % count) ((div-lt_iff_lt-mul c).1 h) (mod-lt k c))

-- the plain picture after some rows, each by its tape and swept pair
drawn : Plain → List (Tape × Option Pair) → Plain
drawn q [] = q
drawn q (row ∷ rows) = drawn (with_row q (row_input q.grid [] [] [] row.0 row.1)) rows

plain_drawn : (q : Plain) (calls : List RowInput) → (plain_after q calls).0 ≡ drawn q (rows_in calls)
unfolding plain_after rows_in plain_row drawn
plain_drawn q [] = refl
plain_drawn q (call ∷ calls) = by (λ r. plain_drawn r calls) (row_input_refusal call) refl
  where
    by : ((r : Plain) → (plain_after r calls).0 ≡ drawn r (rows_in calls)) → (refusal : Option Refusal) → row_input_refusal call ≡ refusal
        → (plain_after (plain_row q call).0 calls).0 ≡ drawn q (cond (accepted (row_call call).answer) ((call.tape, call.swept) ∷ rows_in calls) (rows_in calls))
    by rest None e = rw (refusal_is q call, row_drawn call e, e) (rest (with_row q call))
    by rest (Some refusal) e = rw (refusal_is q call, row_refused call e, e) (rest q)

-- a picture that stands as a plain one is not refused, and two that stand as the same one are equal
stands_whole : (s : State) (q : Plain) → Stands s q → Whole s
stands_whole s q st =
    record {
      sound = ap grid_sound st.same_record ∙ st.sound;
      index_long = ap length st.same_index ∙ st.index_long ∙ ap (λ (g : Grid). g.width * g.height) (sym st.same_record);
      store_long = ap length st.same_store ∙ st.store_long ∙ ap (λ (g : Grid). g.rows * stored_cells g.columns) (sym st.same_record);
    }

stand_alike : (s t : State) (q : Plain) → Stands s q → Stands t q → equal_call s t ≡ Ok true
stand_alike s t q st su =
    let same-state : s ≡ t =
    λ i.
    record {
      grid = (st.same_record ∙ sym su.same_record) i;
      index = (st.same_index ∙ sym su.same_index) i;
      store = (st.same_store ∙ sym su.same_store) i;
    } in
    let taken = whole_taken s (stands_whole s q st) in
    subst (λ (u : State). equal_call s u ≡ Ok true) same-state (equal_holds s s taken taken (itself s))

pub equalities : Equalities
equalities =
    record {
      means = λ s t. (
        λ e. let f = equal_facts s t e in
            (f.0.0, f.0.1, alike_agree s t (taken_whole s f.0.0) (taken_whole t f.0.1) f.1),
        λ f. equal_holds s t f.0 f.1 (agree_alike s t (taken_whole s f.0) (taken_whole t f.1) f.2),
      );
      answered = either;
      implies_looks_equal = λ s t e. let a = (equal_facts s t e).1 in looks_holds s t a.width a.height a.bytes;
      reflexive = λ s p. equal_holds s s p p (itself s);
      symmetric = λ s t e. let f = equal_facts s t e in equal_holds t s f.0.1 f.0.0 (turned s t f.1);
      transitive = λ s t u e f.
          let a = equal_facts s t e in
          let b = equal_facts t u f in
          equal_holds s u a.0.0 b.0.1 (joined s t u a.1 b.1);
      made_alike = λ o g fits index store start opens other-index other-store other-start other-opens calls other-calls allowed other-allowed rows.
          let one = (list_ran o g fits index store start opens calls allowed).stands in
          let other = (list_ran o g fits other-index other-store other-start other-opens other-calls other-allowed).stands in
          let plain : (plain_after (plain_of o) calls).0 ≡ (plain_after (plain_of o) other-calls).0 =
          plain_drawn (plain_of o) calls ∙ ap (drawn (plain_of o)) rows ∙ sym (plain_drawn (plain_of o) other-calls) in
          stand_alike _ _ _ one (subst (Stands _) (sym plain) other);
    }
