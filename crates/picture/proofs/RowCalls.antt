-- What a row call answers and leaves, where its checks refuse and where they do not.
use Rattle.std.proofs.Common.{◌≡◌, None, Some, Ok, Err}
use Rattle.refusal.specs.declared.Refusal.{Refusal}
use Rattle.line.specs.Line.{row_tallies, row_units}
use Rattle.rows.specs.RowCall.{RowInput, RowOutput, row_input_refusal, advanced, drawn_index, drawn_store, row_call}

-- the refusal, and all that was lent as it was
abbrev pub refused_output : RowInput → Refusal → RowOutput
refused_output i refusal = record { answer = Err refusal; index = i.index; store = i.store; tallies = i.tallies }

-- one more row
abbrev pub drawn_output : RowInput → RowOutput
drawn_output i =
    record {
      answer = Ok (record { grid = advanced i.grid i.tape; units = row_units i.grid.columns i.tape });
      index = drawn_index i.grid i.tape i.swept i.index;
      store = drawn_store i.grid i.tape i.store;
      tallies = row_tallies i.grid.columns i.tape;
    }

pub row_refused : (i : RowInput) {refusal : Refusal} → row_input_refusal i ≡ Some refusal → row_call i ≡ refused_output i refusal
unfolding row_call
row_refused i e = rw e

pub row_drawn : (i : RowInput) → row_input_refusal i ≡ None → row_call i ≡ drawn_output i
unfolding row_call
row_drawn i e = rw e
