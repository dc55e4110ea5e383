-- The sum of a side's runs, one run after the other: what is left decides with what is known.
use Rattle.std.proofs.Common.{◌≡◌, ℕ, suc, ◌+◌, ◌<◌, ◌≤◌, Bool, true, false, not, ◌&&◌, ltb, eqb, List, length, get_or, map, drop, refl, add-one, drop-cons}
use Rattle.std.proofs.Math.ListN.{drop_of_length-le}
use Rattle.std.specs.List.{list_all}
use Rattle.tape.specs.Checks.{total}
use Rattle.tape.specs.Joined.{differing}
use Rattle.runs.specs.declared.Run.{Run}
use Rattle.runs.specs.Runs.{symbol_of, length_of}
use Rattle.runs.specs.Inner.Sums.{sound_runs}

-- what an index past the runs would read
abbrev pub no_run : Run
no_run = record { symbol = 0; length = 0 }

in_pairs : (a b c d : Bool) → ((a && b) && (c && d)) ≡ ((a && c) && (b && d))
in_pairs true true c d = refl
in_pairs true false true d = refl
in_pairs true false false d = refl
in_pairs false b c d = refl

module _ (runs : List Run) (i : ℕ) (h : i < length runs) where
  pub sound_next : (count : ℕ) → let r = get_or runs i no_run in sound_runs count (drop i runs) ≡ ((ltb 0 r.length && ltb r.symbol count) && sound_runs count (drop (i + 1) runs))
  sound_next count =
      let r = get_or runs i no_run in
      let rest = drop (suc i) runs in
      rw (drop-cons runs i no_run h, add-one) (in_pairs (ltb 0 r.length) (list_all (ltb 0) (map length_of rest)) (ltb r.symbol count) (list_all (λ s. ltb s count) (map symbol_of rest)))

  pub joined_next : (beyond : ℕ) → let r = get_or runs i no_run in
      differing beyond (map symbol_of (drop i runs)) ≡ (not (eqb r.symbol beyond) && differing r.symbol (map symbol_of (drop (i + 1) runs)))
  unfolding differing
  joined_next beyond = rw (drop-cons runs i no_run h, add-one)

  pub total_next : total (map length_of (drop i runs)) ≡ (get_or runs i no_run).length + total (map length_of (drop (i + 1) runs))
  unfolding total
  total_next = rw (drop-cons runs i no_run h, add-one)

-- none is left
pub none_left : (count beyond : ℕ) (runs : List Run) (i : ℕ) → length runs ≤ i
    → (sound_runs count (drop i runs) ≡ true) × (differing beyond (map symbol_of (drop i runs)) ≡ true) × (total (map length_of (drop i runs)) ≡ 0)
unfolding differing total
none_left count beyond runs i h = rw (drop_of_length-le runs h) (refl, refl, refl)
