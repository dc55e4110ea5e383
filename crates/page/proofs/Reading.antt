-- A page can be read back: a step from its digits, and what its characters tell of the pixels.
use Rattle.std.proofs.Common.{◌≡◌, ℕ, zero, suc, ◌+◌, ◌-◌, ◌*◌, ◌/◌, ◌%◌, ◌^◌, ◌<◌, ◌≤◌, Bool, true, false, cond, ◌||◌, eqb, leb, List, length, refl, sym, ap, ◌∙◌, subst, div-one, div-lt_iff_lt-mul, mod-lt, pow-suc, eq-eqb, ne_eqb, le-leb, arith}
use Rattle.std.proofs.Math.Bool.{or-true}
use Rattle.std.proofs.Math.Decide.{dec_lt}
use Rattle.std.proofs.Math.Nat.{div-add-mod, div-eq_of_lt, div-eq_of_lt-le, div-div-eq-div-mul, mod-eq-sub-div-mul, pow-le-pow_right, add-sub_cancel_left, min-le_right}
use Rattle.std.proofs.lemmas.Bool.{lt-leb}
use Rattle.slices.proofs.Tabulated.{length-tabulate, get_or-tabulate}
use Rattle.grid.specs.declared.Grid.{Grid}
use Rattle.grid.specs.Soundness.{step_of}
use Rattle.page.specs.Page.{character_of, step_character, line_character, first_line, row_character, page_of}
use Rattle.page.specs.Reading.{number_of, StepRead, RightAligned, character_at, Lines, PixelRead, Alike, Tells}
use Rattle.page.proofs.Lines.{in_step, at-pixel, at_end, before_pixels, after_pixels}

-- a digit stands where the number reaches its power of ten, and on the last place
digit_at : (step k : ℕ) → 10 ^ (19 - k) ≤ step → step_character step k ≡ 48 + step / 10 ^ (19 - k) % 10
digit_at step k h = rw (le-leb (10 ^ (19 - k)) step h, or-true)

last_digit : (step k : ℕ) → k ≡ 19 → step_character step k ≡ 48 + step / 10 ^ (19 - k) % 10
last_digit step k e = rw (eq-eqb k 19 e)

space_at : (step k : ℕ) → k < 19 → step < 10 ^ (19 - k) → step_character step k ≡ 32
space_at step k l h = rw (ne_eqb k 19 (λ q. omega arith), lt-leb (10 ^ (19 - k)) step h)

-- what a character adds to the number before it
value_at : (step k : ℕ) → k < 20 → step_character step k - 48 ≡ step / 10 ^ (19 - k) % 10
value_at step k h = by (dec_lt k 19) (dec_lt step (10 ^ (19 - k)))
  where
    of_digit : step_character step k ≡ 48 + step / 10 ^ (19 - k) % 10 → step_character step k - 48 ≡ step / 10 ^ (19 - k) % 10
    of_digit e = ap (λ (m : ℕ). m - 48) e ∙ add-sub_cancel_left 48 (step / 10 ^ (19 - k) % 10)

    by : Dec (k < 19) → Dec (step < 10 ^ (19 - k)) → step_character step k - 48 ≡ step / 10 ^ (19 - k) % 10
    by (no l) s = of_digit (last_digit step k (omega arith))
    by (yes l) (yes s) = ap (λ (m : ℕ). m - 48) (space_at step k l s) ∙ sym (ap (λ (m : ℕ). m % 10) (div-eq_of_lt s))
    by (yes l) (no s) = of_digit (digit_at step k (omega arith))

read_to : (step n : ℕ) → step < 10 ^ 20 → n ≤ 20 → number_of (step_character step) n ≡ step / 10 ^ (20 - n)
unfolding number_of
read_to step zero small h = sym (div-eq_of_lt small)
read_to step (suc n) small h =
    let rest = step / 10 ^ (19 - n) in
    let e : 20 - n ≡ suc (19 - n) = omega arith in
    let f : 20 - suc n ≡ 19 - n = omega arith in
    let before : step / 10 ^ (20 - n) ≡ rest / 10 = ap (λ (m : ℕ). step / m) (ap (λ (m : ℕ). 10 ^ m) e ∙ pow-suc 10 (19 - n)) ∙ sym (div-div-eq-div-mul step (10 ^ (19 - n)) 10) in
    ap (λ (m : ℕ). 10 * m + (step_character step n - 48)) (read_to step n small (omega arith) ∙ before)
    ∙ ap (λ (m : ℕ). 10 * (rest / 10) + m) (value_at step n (omega arith))
    ∙ div-add-mod rest 10
    ∙ ap (λ (m : ℕ). step / 10 ^ m) (sym f)

pub step_read : StepRead
step_read step small = read_to step 20 small (omega arith) ∙ div-one step

pub right_aligned : RightAligned
right_aligned step n k (one, least, most) h = (spaces, λ l. digits l (dec_lt k 19))
  where
    spaces : k + n < 20 → step_character step k ≡ 32
    spaces l =
        let few : n ≤ 19 - k = omega arith in
        let less : 10 ^ n ≤ 10 ^ (19 - k) = pow-le-pow_right (omega arith) few in
        space_at step k (omega arith) (omega arith)

    digit : (m : ℕ) → step_character step k ≡ 48 + m % 10 → (48 ≤ step_character step k) × (step_character step k ≤ 57)
    digit m e = let r : m % 10 < 10 = mod-lt m (omega arith) in rw e (omega arith, omega arith)

    digits : 20 ≤ k + n → Dec (k < 19) → (48 ≤ step_character step k) × (step_character step k ≤ 57)
    digits l (no last) = digit _ (last_digit step k (omega arith))
    digits l (yes before) =
        let some : 1 ≤ 19 - k = omega arith in
        let ten : 10 ^ 1 ≤ 10 ^ (19 - k) = pow-le-pow_right (omega arith) some in
        let few : 19 - k ≤ n - 1 = omega arith in
        let less : 10 ^ (19 - k) ≤ 10 ^ (n - 1) = pow-le-pow_right (omega arith) few in
        digit _ (digit_at step k (omega arith))

-- what an index byte's character tells
abbrev Read : ℕ → Type 0
Read i = (eqb (character_of i) 46 ≡ eqb i 0) × (eqb (character_of i) 45 ≡ eqb i 254) × (eqb (character_of i) 64 ≡ eqb i 255)

-- the characters of marks are the digits 1 to 4
of_mark : (i character : ℕ) → character_of i ≡ character → 49 ≤ character → character ≤ 52 → 0 < i → (i ≡ 254 → ⊥) → (i ≡ 255 → ⊥) → Read i
of_mark i character e least most some swept head = (
  ap (λ (c : ℕ). eqb c 46) e ∙ ne_eqb character 46 (λ q. omega arith) ∙ sym (ne_eqb i 0 (λ q. omega arith)),
  ap (λ (c : ℕ). eqb c 45) e ∙ ne_eqb character 45 (λ q. omega arith) ∙ sym (ne_eqb i 254 swept),
  ap (λ (c : ℕ). eqb c 64) e ∙ ne_eqb character 64 (λ q. omega arith) ∙ sym (ne_eqb i 255 head),
)

pub pixel_read : PixelRead
pixel_read i = by (dec_lt 0 i) (dec_lt 64 i) (dec_lt i 254) (dec_lt 254 i) (dec_lt 255 i)
  where
    spare : 64 < i → (i ≡ 254 → ⊥) → (i ≡ 255 → ⊥) → Read i
    spare l swept head = of_mark i 52 (rw (ne_eqb i 0 (λ q. omega arith), lt-leb i 64 l, ne_eqb i 254 swept, ne_eqb i 255 head)) (omega arith) (omega arith) (omega arith) swept head

    by : Dec (0 < i) → Dec (64 < i) → Dec (i < 254) → Dec (254 < i) → Dec (255 < i) → Read i
    by (no z) t u v x = let e : 0 ≡ i = omega arith in subst Read e (refl, refl, refl)
    by (yes z) (no t) u v x =
        let least : i - 1 < 4 * 16 = omega arith in
        let few : (i - 1) / 16 < 4 = (div-lt_iff_lt-mul {k = 16} (omega arith)).1 least in
        of_mark i (48 + ((i - 1) / 16 + 1)) (rw (ne_eqb i 0 (λ q. omega arith), le-leb i 64 (omega arith))) (omega arith) (omega arith) z (λ q. omega arith) (λ q. omega arith)
    by (yes z) (yes t) (yes u) v x = spare t (λ q. omega arith) (λ q. omega arith)
    by (yes z) (yes t) (no u) (no v) x = let e : 254 ≡ i = omega arith in subst Read e (refl, refl, refl)
    by (yes z) (yes t) (no u) (yes v) (no x) = let e : 255 ≡ i = omega arith in subst Read e (refl, refl, refl)
    by (yes z) (yes t) (no u) (yes v) (yes x) = spare t (λ q. omega arith) (λ q. omega arith)

-- no character but the last is a line feed
step_feeds_not : (step k : ℕ) → step_character step k ≡ 10 → ⊥
step_feeds_not step k = by (eqb k 19 || leb (10 ^ (19 - k)) step)
  where
    by : (b : Bool) → cond b (48 + step / 10 ^ (19 - k) % 10) 32 ≡ 10 → ⊥
    by true e = omega arith
    by false e = omega arith

pixel_feeds_not : (i : ℕ) → character_of i ≡ 10 → ⊥
pixel_feeds_not i = by (eqb i 0) (leb i 64) (eqb i 254) (eqb i 255)
  where
    by : (a b c d : Bool) → cond a 46 (cond b (48 + ((i - 1) / 16 + 1)) (cond c 45 (cond d 64 52))) ≡ 10 → ⊥
    by true b c d e = omega arith
    by false true c d e = omega arith
    by false false true d e = omega arith
    by false false false true e = omega arith
    by false false false false e = omega arith

line_feed : (step width : ℕ) (pixel : ℕ → ℕ) (k : ℕ) → k < 81 → line_character step width pixel k ≡ 10 → k ≡ 80
line_feed step width pixel k h e = by (dec_lt k 20) (dec_lt k 21) (dec_lt k (21 + width)) (dec_lt k 80)
  where
    by : Dec (k < 20) → Dec (k < 21) → Dec (k < 21 + width) → Dec (k < 80) → k ≡ 80
    by (yes s) t u v = absurd (step_feeds_not step k (sym (in_step step width pixel k s) ∙ e))
    by (no s) (yes t) u v = let bad : ◌≡◌ {A = ℕ} 32 10 = sym (before_pixels step width pixel k (omega arith)) ∙ e in absurd (omega arith)
    by (no s) (no t) (yes u) v = absurd (pixel_feeds_not (pixel (k - 21)) (sym (at-pixel step width pixel k (omega arith) u) ∙ e))
    by (no s) (no t) (no u) (yes v) = let bad : ◌≡◌ {A = ℕ} 32 10 = sym (after_pixels step width pixel k (omega arith) (λ q. omega arith)) ∙ e in absurd (omega arith)
    by (no s) (no t) (no u) (no v) = omega arith

-- a page's characters are those of its rows
page_at : (g : Grid) (index : List ℕ) (row k : ℕ) → row < g.progress.done → k < 81 → character_at (page_of g index) row k ≡ row_character g index row k
unfolding page_of
page_at g index row k r h =
    let at : (81 * row + k) / 81 ≡ row = div-eq_of_lt-le 81 (omega arith) (omega arith) in
    let cancel : 81 * row + k - row * 81 ≡ k = omega arith in
    let rest : (81 * row + k) % 81 ≡ k = mod-eq-sub-div-mul (81 * row + k) 81 ∙ ap (λ (r : ℕ). 81 * row + k - r * 81) at ∙ cancel in
    get_or-tabulate _ (81 * g.progress.done) (81 * row + k) 0 (omega arith)
    ∙ ap (λ (r : ℕ). row_character g index r ((81 * row + k) % 81)) at ∙ ap (row_character g index row) rest

page_long : (g : Grid) (index : List ℕ) → length (page_of g index) ≡ 81 * g.progress.done
unfolding page_of
page_long g index = length-tabulate _ (81 * g.progress.done)

pub lines : Lines
lines g index w = (
  page_long g index,
  λ row k r h. (
    λ e. line_feed (step_of g row) g.width (first_line g index row) k h (sym (page_at g index row k r h) ∙ e),
    λ e. page_at g index row k r h ∙ at_end (step_of g row) g.width (first_line g index row) k w e,
  ),
)

number_same : (f g : ℕ → ℕ) (n : ℕ) → ((k : ℕ) → k < n → f k ≡ g k) → number_of f n ≡ number_of g n
unfolding number_of
number_same f g zero same = refl
number_same f g (suc n) same = rw (number_same f g n (λ k l. same k (omega arith)), same n (omega arith))

alike : (i j : ℕ) → character_of i ≡ character_of j → Alike i j
alike i j e =
    let p = pixel_read i in
    let q = pixel_read j in (
      sym p.0 ∙ ap (λ (c : ℕ). eqb c 46) e ∙ q.0,
      sym p.1 ∙ ap (λ (c : ℕ). eqb c 45) e ∙ q.1,
      sym p.2 ∙ ap (λ (c : ℕ). eqb c 64) e ∙ q.2,
    )

pub tells : Tells
tells g h a b width done w small small' same row r = (steps, pixels)
  where
    characters : (k : ℕ) → k < 81 → row_character g a row k ≡ row_character h b row k
    characters k l = sym (page_at g a row k r l) ∙ ap (λ (page : List ℕ). character_at page row k) same ∙ page_at h b row k (omega arith) l

    read_back : (i : Grid) → i.last < 10 ^ 20 → number_of (step_character (step_of i row)) 20 ≡ step_of i row
    read_back i s = step_read (step_of i row) (omega (arith, min-le_right (i.first + i.stride * row) i.last))

    steps : step_of g row ≡ step_of h row
    steps =
        sym (read_back g small)
        ∙ number_same (step_character (step_of g row)) (step_character (step_of h row)) 20
        (λ k l. sym (in_step _ _ (first_line g a row) k l) ∙ characters k (omega arith) ∙ in_step _ _ (first_line h b row) k l)
        ∙ read_back h small'

    pixel : (i : Grid) (index : List ℕ) (x : ℕ) → x < i.width → row_character i index row (21 + x) ≡ character_of (first_line i index row x)
    pixel i index x l =
        at-pixel (step_of i row) i.width (first_line i index row) (21 + x) (omega arith) (omega arith)
        ∙ ap (λ (y : ℕ). character_of (first_line i index row y)) (add-sub_cancel_left 21 x)

    pixels : (x : ℕ) → x < g.width → Alike (first_line g a row x) (first_line h b row x)
    pixels x l =
        alike (first_line g a row x) (first_line h b row x) (sym (pixel g a x l) ∙ characters (21 + x) (omega arith) ∙ pixel h b x (omega arith))
