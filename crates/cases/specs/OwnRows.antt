-- Cases of our own. Each has a result that some wrong planner misses which gets all of A to K right; only the opened wall is there to
-- compare case B with.
use Rattle.std.specs.Prelude.{List, [], ◌∷◌, ◌++◌}
use Rattle.rules.specs.Limits.{closed, pack}
use Rattle.rules.specs.Walks.{no_distance}
use Rattle.rules.specs.Rooms.{no_finish}
use Rattle.rules.specs.Network.{network_record}
use Rattle.rules.specs.Town.{link, request, rider}
use Rattle.cases.specs.Cases.{plan, none, Case}

-- The rider can be met only by driving on from the target and coming back.
abbrev pub beyond_target : Case
beyond_target =
    record {
      network = network_record 3 (link 0 1 1 closed ++ link 1 2 1 closed ++ link 2 1 1 closed);
      request = request 0 1 1 (rider 2 1);
      result = plan 3 (8 ∷ 9 ∷ 0 ∷ 10 ∷ []);
      distances = no_distance ∷ no_distance ∷ 0 ∷ [];
      table = pack 1 1 ∷ 0 ∷ pack 1 1 ∷ pack 3 4 ∷ pack 2 3 ∷ pack 1 2 ∷ [];
    }

-- Two links of the same cost lead from the source to the target: the lower number comes first.
abbrev pub two_links : Case
two_links =
    record {
      network = network_record 2 (link 0 1 1 1 ++ link 0 1 1 1);
      request = request 0 1 1 [];
      result = plan 1 (8 ∷ []);
      distances = [];
      table = pack 1 1 ∷ 0 ∷ [];
    }

-- The rider is as near to the source as to the next node, and is met before the bus drives.
abbrev pub near_twice : Case
near_twice =
    record {
      network = network_record 3 (link 0 1 1 closed ++ link 2 0 closed 1 ++ link 2 1 closed 1);
      request = request 0 1 1 (rider 2 1);
      result = plan 2 (0 ∷ 8 ∷ []);
      distances = 1 ∷ 1 ∷ 0 ∷ [];
      table = pack 1 1 ∷ 0 ∷ no_finish ∷ pack 2 2 ∷ pack 1 1 ∷ no_finish ∷ [];
    }

-- One link costs as much as two links of lower numbers: fewer steps come first.
abbrev pub one_for_two : Case
one_for_two =
    record {
      network = network_record 3 (link 0 1 1 1 ++ link 1 2 1 1 ++ link 0 2 2 2);
      request = request 0 2 1 [];
      result = plan 2 (10 ∷ []);
      distances = [];
      table = pack 2 1 ∷ pack 1 1 ∷ 0 ∷ [];
    }

-- The bus can't reach the rider's own node, and the rider walks to the target.
abbrev pub off_the_road : Case
off_the_road =
    record {
      network = network_record 3 (link 0 1 1 closed ++ link 2 1 closed 1);
      request = request 0 1 1 (rider 2 1);
      result = plan 2 (8 ∷ 0 ∷ []);
      distances = no_distance ∷ 1 ∷ 0 ∷ [];
      table = pack 1 1 ∷ 0 ∷ no_finish ∷ pack 2 2 ∷ pack 1 1 ∷ no_finish ∷ [];
    }

-- Twice 50,000 has more than 16 bits, and two links of 20,000 each are cheaper.
abbrev pub wide_costs : Case
wide_costs =
    record {
      network = network_record 3 (link 0 1 50000 closed ++ link 0 2 20000 closed ++ link 2 1 20000 closed);
      request = request 0 1 2 [];
      result = plan 80000 (9 ∷ 10 ∷ []);
      distances = [];
      table = pack 80000 2 ∷ 0 ∷ pack 40000 1 ∷ [];
    }

-- The only link from the rider's node is closed to walkers.
abbrev pub closed_walk : Case
closed_walk =
    record {
      network = network_record 2 (link 1 0 closed closed);
      request = request 0 0 1 (rider 1 1);
      result = none;
      distances = no_distance ∷ 0 ∷ [];
      table = 0 ∷ no_finish ∷ no_finish ∷ no_finish ∷ [];
    }

-- Case B where links 4 and 6 are open to the bus at their walking cost.
abbrev pub wall_opened : Case
wall_opened =
    record {
      network =
          network_record 5
          (link 0 1 3 9
          ++ link 1 3 3 9
          ++ link 0 2 5 closed
          ++ link 2 3 4 9
          ++ link 4 1 2 2
          ++ link 4 2 1 6
          ++ link 1 4 2 2
          ++ link 2 4 1 6);
      request = request 0 3 1 (rider 4 10);
      result = plan 10 (8 ∷ 14 ∷ 0 ∷ 12 ∷ 9 ∷ []);
      distances = 11 ∷ 2 ∷ 6 ∷ 11 ∷ 0 ∷ [];
      table = pack 6 2 ∷ pack 3 1 ∷ pack 4 1 ∷ 0 ∷ pack 5 2 ∷ pack 10 5 ∷ pack 7 4 ∷ pack 6 4 ∷ pack 110 1 ∷ pack 5 3 ∷ [];
    }

-- Links that cost nothing, in a circle: who takes 0 for closed finds no plan or no free walk, and who counts no steps may drive round.
abbrev pub free_circle : Case
free_circle =
    record {
      network = network_record 3 (link 0 1 0 0 ++ link 1 0 0 0 ++ link 1 2 0 closed);
      request = request 0 2 1 (rider 1 1);
      result = plan 0 (0 ∷ 8 ∷ 10 ∷ []);
      distances = 0 ∷ 0 ∷ no_distance ∷ [];
      table = pack 0 2 ∷ pack 0 1 ∷ 0 ∷ pack 0 3 ∷ pack 0 2 ∷ no_finish ∷ [];
    }

-- A link from a node to itself, free to the bus and dear to walkers: it is no part of a plan, and no walk to where one stands.
abbrev pub self_link : Case
self_link =
    record {
      network = network_record 2 (link 0 0 0 5 ++ link 0 1 1 closed);
      request = request 0 1 1 (rider 0 1);
      result = plan 1 (0 ∷ 9 ∷ []);
      distances = 0 ∷ no_distance ∷ [];
      table = pack 1 1 ∷ 0 ∷ pack 1 2 ∷ no_finish ∷ [];
    }

-- Two links that differ in cost lead from the source to the target, and two from the rider's node there. The cheaper has the higher
-- number each time: who looks at one link between two nodes pays for the dearer.
abbrev pub cheaper_second : Case
cheaper_second =
    record {
      network = network_record 3 (link 0 1 5 closed ++ link 0 1 2 closed ++ link 2 1 closed 7 ++ link 2 1 closed 4);
      request = request 0 1 1 (rider 2 1);
      result = plan 6 (9 ∷ 0 ∷ []);
      distances = no_distance ∷ 4 ∷ 0 ∷ [];
      table = pack 2 1 ∷ 0 ∷ no_finish ∷ pack 6 2 ∷ pack 4 1 ∷ no_finish ∷ [];
    }

-- To where the bus comes by the rider walks up one street for less than down the other: who walks up a street only where no walk leads
-- down pays for the longer one.
abbrev pub up_the_street : Case
up_the_street =
    record {
      network = network_record 3 (link 0 1 1 closed ++ link 1 2 closed 1 ++ link 2 1 closed 5);
      request = request 0 1 1 (rider 2 1);
      result = plan 2 (8 ∷ 0 ∷ []);
      distances = no_distance ∷ 1 ∷ 0 ∷ [];
      table = pack 1 1 ∷ 0 ∷ no_finish ∷ pack 2 2 ∷ pack 1 1 ∷ no_finish ∷ [];
    }

-- The rider walks up a street, down the next and up a third: a walk that is wholly up or wholly down leads to no bus.
abbrev pub up_and_down : Case
up_and_down =
    record {
      network = network_record 4 (link 1 0 1 2 ++ link 1 2 1 3 ++ link 3 2 1 4);
      request = request 3 3 1 (rider 0 1);
      result = plan 9 (0 ∷ []);
      distances = 0 ∷ 2 ∷ 5 ∷ 9 ∷ [];
      table = no_finish ∷ no_finish ∷ no_finish ∷ 0 ∷ no_finish ∷ no_finish ∷ no_finish ∷ pack 9 1 ∷ [];
    }

abbrev pub own_rows : List Case
own_rows =
    beyond_target
    ∷ two_links
    ∷ near_twice
    ∷ one_for_two
    ∷ off_the_road
    ∷ wide_costs
    ∷ closed_walk
    ∷ wall_opened
    ∷ free_circle
    ∷ self_link
    ∷ cheaper_second
    ∷ up_the_street
    ∷ up_and_down
    ∷ []
