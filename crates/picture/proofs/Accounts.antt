-- The claim about what a picture leaves out (specs/Accounts.antt): from the law of one row, call by call.
use Rattle.std.proofs.Common.{Option, None, Some}
use mathlib.Core.Path.{◌≡◌, refl, ap, ◌∙◌, subst}
use mathlib.Core.Bool.{true}
use mathlib.Core.List.{List, [], ◌∷◌}
use Rattle.columns.specs.declared.Columns.{Columns}
use Rattle.grid.specs.declared.Grid.{Grid}
use Rattle.grid.proofs.Sound.{sound_facts}
use Rattle.line.proofs.Accounts.{row_accounted}
use Rattle.refusal.specs.declared.Refusal.{Refusal}
use Rattle.rows.specs.RowCall.{RowInput, row_input_refusal, row_call}
use Rattle.rows.proofs.RowChecks.{not_refused}
use Rattle.picture.specs.Calls.{State, after_call, accepted, Handed, Allowed}
use Rattle.picture.specs.Plain.{Plain, plain_of, plain_refusal, plain_by, plain_row}
use Rattle.picture.specs.Accounts.{Accounted, EachAccounted, AllAccounted}
use Rattle.picture.proofs.RowCalls.{row_refused, row_drawn}
use Rattle.picture.proofs.Step.{Stands, one_call}
use Rattle.picture.proofs.Demand3.{begins}

-- a call keeps the plain picture's grid
pub row_grid : (q : Plain) (call : RowInput) → (plain_row q call).0.grid ≡ q.grid
unfolding plain_row
row_grid q call = by (plain_refusal q call)
  where
    by : (refusal : Option Refusal) → (plain_by refusal q call).0.grid ≡ q.grid
    by None = refl
    by (Some refusal) = refl

-- one call
accounted : (s : State) (q : Plain) → Stands s q → (call : RowInput) → (accepted (row_call call).answer ≡ true → Handed s call)
    → Accounted q.grid.columns call (row_call call).answer
accounted s q st call allowed = by (row_input_refusal call) refl
  where
    by : (refusal : Option Refusal) → row_input_refusal call ≡ refusal → Accounted q.grid.columns call (row_call call).answer
    by None e =
        let known = not_refused call e in
        let columns : call.grid.columns ≡ q.grid.columns = ap (λ (g : Grid). g.columns) ((allowed (rw (row_drawn call e))).0 ∙ st.same_record) in
        subst (λ (cs : Columns). Accounted cs call (row_call call).answer) columns
        (rw (row_drawn call e) (row_accounted call.grid.columns call.tape (sound_facts call.grid known.sound).usable known.readable))
    by (Some refusal) e = rw (row_refused call e) tt

-- all calls
accounts : (calls : List RowInput) (s : State) (q : Plain) → Stands s q → Allowed s calls → EachAccounted q.grid.columns calls
unfolding Allowed EachAccounted
accounts [] s q st allowed = tt
accounts (call ∷ calls) s q st allowed =
    let one = one_call s q st call allowed.0 in
    let rest = accounts calls (after_call s call) (plain_row q call).0 one.stands allowed.1 in
    (accounted s q st call allowed.0, subst (λ (g : Grid). EachAccounted g.columns calls) (row_grid q call) rest)

pub all_accounted : AllAccounted
all_accounted o g fits index store start opens calls allowed = accounts calls _ (plain_of o) (begins o g fits index store start opens) allowed
