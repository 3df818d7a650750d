-- The filled tables, and the answer that they give.
use Prim.Native.Nat.{ℕ, ◌/◌, ◌%◌, ◌≤◌}
use native.Mathlib.Omega.{arith}
use mathlib.Core.Path.{◌≡◌, refl, sym, subst, ap, ◌∙◌}
use mathlib.Core.Logic.{⊎_elim}
use mathlib.Core.List.{List, [], ◌∷◌}
use lib.ListN.{length}
use Rattle.rules.specs.Checks.{Accepted}
use Rattle.rules.specs.Limits.{step_range}
use Rattle.rules.specs.Network.{SoundNetwork, node_count}
use Rattle.rules.specs.Request.{SoundValue, rider_count_of}
use Rattle.rules.specs.declared.Request.{Request}
use Rattle.rules.specs.Plans.{NoPlan}
use Rattle.rules.specs.Rooms.{no_finish, step_places, Distances, Table, lent}
use Rattle.rules.specs.Answers.{gives, refuses, Searching, hopeless, planned}
use Rattle.rules.proofs.PlanLaws.{all_riders_below}
use Rattle.finish.proofs.Bounds.{holds_least, unpacks}
use Rattle.right.specs.Reading.{plan_value}
use Rattle.table.specs.Places.{value_at}
use Rattle.table.specs.declared.tables.Tables.{Tables}
use Rattle.search.specs.Known.{Known, best_in, value_in}
use Rattle.search.specs.Steps.{here, AtSource, Planning, PlanWritten}
use Rattle.search.specs.declared.bus.Bus.{Bus}

-- Where the table has no value for the plans, there is none.
pub answer_24 : {network : List ℕ} {q : Request} {d₀ t₀ s₀ d t : List ℕ} → SoundNetwork network → SoundValue (node_count network) q
    → Distances network q d₀ d → Table network q t₀ t → plan_value q (value_at network t) ≡ no_finish
    → Searching Accepted network q (lent d₀ t₀ s₀) (lent d t s₀) (refuses 24 0)
answer_24 {network} {q} sound fits walked table none =
    let below = all_riders_below q in
    let no_plan : NoPlan network q =
    ⊎_elim
    (λ has. absurd (omega (arith, (unpacks sound fits below fits.starts has.best has.packs).below)))
    (λ no. no.0)
    (table.holds _ _ below fits.starts) in
    hopeless refl walked table no_plan refl refl

-- What the bus at the source asks, and what it tells.
module _ {tables : Tables} {bus : Bus} (from : AtSource tables bus) {d₀ t₀ : List ℕ} (s₀ : List ℕ)
    (walked : Distances tables.job.now.network tables.job.now.request d₀ tables.distances.now)
    (table : Table tables.job.now.network tables.job.now.request t₀ tables.table.now) where
  pub known : Known tables
  known =
      let job = tables.job.now in
      record {
        walks = λ j v small h. walked.holds j v small h;
        filled = λ R v small h. holds_least job.sound job.fits small h (table.holds R v small h);
      }

  pub ready : step_places (node_count tables.job.now.network) (rider_count_of tables.job.now.request) ≤ length s₀ → Planning bus s₀
  ready room =
      let (all, there, places) =
      subst
      (λ (t : Tables). Known t × AtSource t bus × (step_places (node_count t.job.now.network) (rider_count_of t.job.now.request) ≤ length s₀))
      (sym from.same) (known, from, room) in
      record { known = all; from = there; room = places }

  pub answer_plan : {s : List ℕ} {best : ℕ} → PlanWritten bus.tables.now s₀ s → best ≡ here bus
      → Searching Accepted tables.job.now.network tables.job.now.request (lent d₀ t₀ s₀) (lent tables.distances.now tables.table.now s)
      (gives (best / step_range ∷ best % step_range ∷ []))
  answer_plan {best = best} written reads =
      let so = rw from.same at written in
      let told : best ≡ best_in tables =
      reads ∙ ap (λ (t : Tables). value_in t bus.riders bus.node) from.same ∙ rw (from.all, from.source) in
      planned so.plan _ refl walked table so.right (rw (told, so.count)) so.written
