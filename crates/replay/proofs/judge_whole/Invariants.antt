-- `replay::judge_whole` ends: what is left of the part gets shorter.
use Rattle.std.proofs.Common.{◌≤◌, length}
use Rattle.replay.proofs.judge_whole.Given as goal

abbrev pub invariant-loop-head : goal.invariant-loop-head
invariant-loop-head l = length l.rest ≤ length l.part

abbrev pub decreases-loop-head : goal.decreases-loop-head
decreases-loop-head l = length l.rest
