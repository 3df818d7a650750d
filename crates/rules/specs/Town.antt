-- The depot's small town (5.1), as records.
use Rattle.std.specs.Prelude.{ℕ, ◌+◌, ◌*◌, ◌/◌, List, [], ◌∷◌, ◌++◌, length, get_or}
use Rattle.rules.specs.Limits.{closed}
use Rattle.rules.specs.Network.{network_record}
use Rattle.rules.specs.Request.{seven_places, request_record}

-- the four numbers of a link
abbrev pub link : ℕ → ℕ → ℕ → ℕ → List ℕ
link start end drive walk = start ∷ end ∷ drive ∷ walk ∷ []

abbrev pub town : List ℕ
town =
    network_record 5
    (link 0 1 3 9
    ++ link 1 3 3 9
    ++ link 0 2 5 closed
    ++ link 2 3 4 9
    ++ link 4 1 closed 2
    ++ link 4 2 1 6
    ++ link 1 4 closed 2
    ++ link 2 4 1 6)

-- the two numbers of a rider
abbrev pub rider : ℕ → ℕ → List ℕ
rider node weight = node ∷ weight ∷ []

-- a request with the numbers of its riders
abbrev pub request : ℕ → ℕ → ℕ → List ℕ → List ℕ
request source target weight riders =
    request_record (
    record {
      source = source;
      target = target;
      bus_weight = weight;
      rider_count = length riders / 2;
      nodes = seven_places (λ j. get_or riders (2 * j) 0) (length riders / 2);
      weights = seven_places (λ j. get_or riders (2 * j + 1) 0) (length riders / 2);
    }
    )

-- case A: one rider, at 4, of weight 1
abbrev pub case_a : List ℕ
case_a = request 0 3 1 (rider 4 1)
