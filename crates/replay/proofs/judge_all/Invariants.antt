-- What `replay::judge_all` holds of the list fits in its room.
use Rattle.std.proofs.Common.{◌≤◌}
use Rattle.replay.proofs.judge_all.Given as goal

abbrev pub invariant-loop : goal.invariant-loop
invariant-loop l = l.held ≤ 65552
