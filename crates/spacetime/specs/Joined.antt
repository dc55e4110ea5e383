-- What joining and the row call have to do with each other (RULES, Joining and Refusals): a row call answers 19 for no tape that is joined, and so for
-- none that an accepted `join` leaves. Both are proved in proofs/Joined.antt.
use Rattle.std.specs.Prelude.{◌≡◌, true, Err}
use Rattle.tape.specs.Joined.{tape_joined}
use Rattle.joining.specs.Calls.{JoinInput, join_call}
use Rattle.joining.specs.Joining.{Accepted, remaining}
use Rattle.refusal.specs.declared.Refusal.TheVariants.{Unjoined}
use Rattle.rows.specs.RowCall.{RowInput, row_call}

abbrev pub NotBy19 : RowInput → Type 0
NotBy19 call = (row_call call).answer ≡ Err Unjoined → ⊥

abbrev pub JoinedTaken : Type 0
JoinedTaken = (call : RowInput) → tape_joined call.tape ≡ true → NotBy19 call

abbrev pub RemainingTaken : Type 0
RemainingTaken = (join : JoinInput) → Accepted join → (call : RowInput) → call.tape ≡ remaining (join_call join) → NotBy19 call
