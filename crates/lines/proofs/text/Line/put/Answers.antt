use Rattle.std.proofs.Common.{subst}
use Rattle.lines.proofs.TextLaws.{put_reads, reads_itself}
use Rattle.lines.specs.Text.{Reads}
use Rattle.lines.proofs.text.Line.put.Goals as goal
use Rattle.lines.proofs.text.Line.put.Goals.{After-copy_from_slice}

reads : (c : After-copy_from_slice) → Reads c.self.inside c.args.self.now
reads c = subst (Reads c.self.inside) c.self.view_is c.self.invariant

pub invariant_of-self : goal.invariant_of-self
invariant_of-self c = rw c.copy_from_slice.ensures.after (reads_itself (put_reads (reads (goal.at.invariant_of-self c).After-copy_from_slice) c.args.front.now c.requires))

pub returns : goal.returns
returns c = rw c.copy_from_slice.ensures.after ((put_reads (reads c) c.args.front.now c.requires).says)
