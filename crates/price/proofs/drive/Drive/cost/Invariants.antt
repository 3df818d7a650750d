-- Invariant: `driving` is the sum of the drive costs so far.
use Prim.Native.Nat.{◌≤◌, ◌*◌}
use mathlib.Core.Path.{◌≡◌}
use lib.ListN.{get_or}
use Rattle.rules.specs.Limits.{closed}
use Rattle.rules.specs.Network.{drive}
use Rattle.rules.specs.Routes.{sum}
use Rattle.price.proofs.drive.Drive.cost.Given as goal

abbrev pub invariant-loop-link : goal.invariant-loop-link
invariant-loop-link l =
    (l.driving ≡ sum l.link-index (λ e. drive l.self.job.now.network (get_or l.self.links.now e 0))) × (l.driving ≤ closed * l.link-index)
