-- `line::bins::add_written` meets its contract: nothing is added for a blank or for no position.
use Rattle.std.proofs.Common.{inl, inr}
use Rattle.line.proofs.Walk.{added_blank, added_empty}
use Rattle.line.proofs.bins.add_written.Goals as goal

pub returns-else-symbol-ne0 : goal.returns-else-symbol-ne0
returns-else-symbol-ne0 c =
    elim c.else-symbol-ne0.either [ inl h ↦ added_empty _ _ _ _ _ _ h.1 | inr e ↦ added_blank _ _ _ _ _ _ e ]
