-- A tape that is joined (RULES, Joining): a statement, proved in proofs/Worked.antt.
use Rattle.std.specs.Prelude.{ℕ, ◌≡◌, List, [], ◌∷◌, pos, None}
use Rattle.tape.specs.Tape.{tape_of}
use Rattle.joining.specs.Calls.{join_input, join_call}

-- on the left two blank runs at the outer end go, two of symbol 1 become one, and the blank one between stays; on the right all is blank
abbrev pub Worked : Type 0
Worked =
    (old : List ℕ)
    → join_call (join_input 3 (tape_of (pos 0) 1 (0 ∷ 0 ∷ 1 ∷ 1 ∷ 0 ∷ 2 ∷ []) (3 ∷ 4 ∷ 5 ∷ 6 ∷ 7 ∷ 8 ∷ []) (0 ∷ 0 ∷ []) (1 ∷ 2 ∷ [])) old)
    ≡ record {
      refusal = None;
      tape = tape_of (pos 0) 1 (1 ∷ 0 ∷ 2 ∷ 0 ∷ 0 ∷ 0 ∷ []) (11 ∷ 7 ∷ 8 ∷ 0 ∷ 0 ∷ 0 ∷ []) (0 ∷ 0 ∷ []) (0 ∷ 0 ∷ []);
      freed = 3 ∷ 2 ∷ [];
    }
