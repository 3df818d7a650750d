-- Steps that the bus can take from where it stands.
use Rattle.std.specs.Prelude.{ℕ, ◌+◌, ◌-◌, ◌^◌, ◌≤◌, ◌<◌, ◌≡◌, List}
use Rattle.rules.specs.Limits.{first_drive, most_riders}
use Rattle.rules.specs.Network.{SoundNetwork, node_count, link_count}
use Rattle.rules.specs.Plans.{Finish}
use Rattle.rules.specs.declared.Request.{Request}
use Rattle.lines.specs.declared.step.Step.{Step}
use Rattle.lines.specs.declared.step.Step.TheVariants.{Meet, Drive}

-- The number stands for the step in a plan.
abbrev pub IsNumbered : ℕ → Step → Type 0
IsNumbered number (Meet rider) = (rider ≡ number) × (rider < first_drive)
IsNumbered number (Drive link) = first_drive + link ≡ number

-- The bus stands at v and takes a step that is one.
pub record Takes (network : List ℕ) (v step : ℕ) : Type 0 where
  pub sound : SoundNetwork network
  pub node : v < node_count network
  pub meets : step < first_drive → step < most_riders
  pub drives : first_drive ≤ step → step - first_drive < link_count network

-- The bus stands at v, and the steps are a finish from there for some of as many riders as there may be.
pub record Rides (network : List ℕ) (v : ℕ) (steps : List ℕ) : Type 0 where
  pub sound : SoundNetwork network
  pub node : v < node_count network
  pub request : Request
  pub riders : ℕ
  pub cost : ℕ
  pub few : riders < 2 ^ most_riders
  pub finish : Finish network request riders v steps cost
