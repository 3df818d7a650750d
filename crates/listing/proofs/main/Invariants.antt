-- So many towns as were counted came before this one.
use Rattle.std.proofs.Common.{◌≡◌, ◌+◌}
use Rattle.listing.proofs.main.Given as goal

abbrev pub invariant-loop-i : goal.invariant-loop-i
invariant-loop-i l = l.planned + l.tied + l.refused ≡ l.i
