-- Nothing is claimed of the paths but that they end: fewer legs are left to go on by.
use Rattle.listing.proofs.paths.Path.+list.Given as goal

abbrev pub decreases-list : goal.decreases-list
decreases-list g l = l.most
