-- How true a grey is, after every list of row calls (RULES, Greys): a claim beside `Demand3`, over the same calls, about pictures in
-- bins. It is what can be measured off a picture; proofs/Grey.antt shows it.
use Rattle.std.specs.Prelude.{ℕ, ◌+◌, ◌≤◌, ◌<◌, ◌≡◌, true, false, List, ◌↔◌, Ok}
use Rattle.shade.specs.Index as byte
use Rattle.shade.specs.Grey.{TrueTo}
use Rattle.columns.specs.declared.Columns.TheVariants.{Bins}
use Rattle.columns.specs.Found.{among}
use Rattle.columns.specs.Bins.{tally}
use Rattle.columns.specs.Pixels.{head_at}
use Rattle.grid.specs.declared.Grid.{Grid}
use Rattle.grid.specs.Opening.{open_input, open_call}
use Rattle.line.specs.Line.{written}
use Rattle.rows.specs.RowCall.{RowInput}
use Rattle.picture.specs.Calls.{Order, fit, State, opened, after, Allowed}
use Rattle.picture.specs.Plain.{Plain, plain_of, in_band, plain_after}
use Rattle.picture.specs.Demand3.{byte_at}

-- pixel (x, y) lies in the drawn band i
abbrev pub LiesIn : Plain → ℕ → ℕ → ℕ → Type 0
LiesIn q x y i = (x < q.grid.width) × (i < q.n) × (in_band q.grid i y ≡ true)

-- a picture whose window has `cells` cells from `first` on, in `width` bins
module _ (q : Plain) (first cells width : ℕ) where
  -- the tally of bin x on the tape of band i
  abbrev pub tally_in : ℕ → ℕ → ℕ
  tally_in i x = tally width cells (λ k. written (q.tapes i) (first + k)) x

  -- pixel x of band i shows its bin's ink: something there is written, and the head is not drawn over it; swept goes over paper alone
  abbrev pub ShowsInk : ℕ → ℕ → Type 0
  ShowsInk i x = (1 ≤ tally_in i x) × (among (head_at q.grid.columns (q.tapes i).head) x ≡ false)

  pub record Greys (s : State) : Type 0 where
    -- such a pixel's byte is true to the tally
    pub ink_true : (x y i : ℕ) → LiesIn q x y i → ShowsInk i x → TrueTo (tally_in i x) cells (byte_at s x y)
    -- of two such pixels, in one band or in two, the one with the larger tally never has the smaller byte
    pub in_order : (x y i u v j : ℕ) → LiesIn q x y i → ShowsInk i x → LiesIn q u v j → ShowsInk j u → tally_in i x ≤ tally_in j u → byte_at s x y ≤ byte_at s u v
    -- and the picture itself tells which they are: those with an ink's byte
    pub ink_seen : (x y i : ℕ) → LiesIn q x y i → ((byte.ink_min ≤ byte_at s x y) × (byte_at s x y ≤ byte.ink_max)) ↔ ShowsInk i x

-- for every list of calls that `Demand3` speaks of, where the picture is in bins
abbrev pub GreysDrawn : Type 0
GreysDrawn =
    (o : Order) (g : Grid) → fit o ≡ Ok g
    → (index store : List ℕ) (start : Grid) → (open_call (open_input g index store)).answer ≡ Ok start
    → (calls : List RowInput)
    → Allowed (opened start (open_call (open_input g index store))) calls
    → (first cells width : ℕ) → g.columns ≡ Bins first cells width
    → Greys (plain_after (plain_of o) calls).0 first cells width (after (opened start (open_call (open_input g index store))) calls).0
