use native.Mathlib.Omega.{arith}
use Rattle.search.proofs.StepLaws.{next_met, some_drive, next_driven}
use Rattle.search.proofs.bus.Bus.next_move.Goals as goal

pub returns-in-Some : goal.returns-in-Some
returns-in-Some c = next_met c.args.self.now c.requires c.in-Some.ensures

pub next_drive-requires : goal.next_drive-requires
next_drive-requires c = some_drive c.args.self.now c.requires c.in-None.ensures (omega arith)

pub returns-in-None : goal.returns-in-None
returns-in-None c = next_driven c.args.self.now c.requires c.in-None.ensures c.next_drive.ensures
