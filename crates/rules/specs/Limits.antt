-- The rules' numbers that have a name.
use Rattle.std.specs.Prelude.{ℕ, ◌+◌, ◌*◌, ◌^◌}

-- how many nodes and links a network may have (1.3)
abbrev pub most_nodes : ℕ
most_nodes = 512

abbrev pub most_links : ℕ
most_links = 2048

-- the cost of a link that is closed to a use (1.4)
abbrev pub closed : ℕ
closed = 65535

-- how many riders a request may have, and how much the bus or a rider may weigh (1.6)
abbrev pub most_riders : ℕ
most_riders = 7

abbrev pub most_weight : ℕ
most_weight = 100

-- the step that drives link 0; lower steps meet riders (2.8)
abbrev pub first_drive : ℕ
first_drive = 8

-- In a place of the work table the cost counts for so much, and a step for 1 (3.3).
abbrev pub step_range : ℕ
step_range = 4096

abbrev pub pack : ℕ → ℕ → ℕ
pack cost steps = step_range * cost + steps

-- one step that costs so much
abbrev pub packed_step : ℕ → ℕ
packed_step cost = pack cost 1

-- how many links a route that is priced may have (4.5)
abbrev pub longest_route : ℕ
longest_route = 4095

-- A host gets a refusal as this number or more (4.10).
abbrev pub first_refusal : ℕ
first_refusal = 2 ^ 63
