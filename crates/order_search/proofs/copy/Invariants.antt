-- The words before the one at hand are copied, and the room behind them is as it was.
use Rattle.std.proofs.Common.{◌≡◌, ◌++◌, take, drop}
use Rattle.order_search.proofs.copy.Given as goal

abbrev pub invariant-loop-i : goal.invariant-loop-i
invariant-loop-i l = l.dst ≡ take l.i l.src ++ drop l.i l.fn.dst
