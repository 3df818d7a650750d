-- The claim of every case whose certificate passes its test.
use Prim.Native.Nat.{ℕ, zero, suc, ◌^◌, ◌<◌}
use mathlib.Core.Path.{◌≡◌, refl}
use mathlib.Core.Logic.{inl, inr}
use mathlib.Core.Bool.{true, false≢true}
use mathlib.Core.List.{List, [], ◌∷◌, map}
use native.Mathlib.Omega.{arith}
use Rattle.rules.specs.Network.{node_count, SoundNetwork}
use Rattle.rules.specs.Request.{SoundValue, rider_count_of}
use Rattle.rules.specs.Routes.{Price}
use Rattle.rules.specs.Plans.{all_riders}
use Rattle.rules.specs.Rooms.{HoldsFinish}
use Rattle.rules.specs.declared.Request.{Request}
use Rattle.rules.proofs.SoundRequestLaws.{records_sound, value_sound}
use Rattle.rules.proofs.RiderLaws.{rider_held}
use Rattle.rules.proofs.PlanLaws.{all_riders_below}
use Rattle.finish.proofs.Bounds.{least_holds, unpacks}
use Rattle.right.proofs.Reading.{reading_start}
use Rattle.cases.proofs.Tests.{Says, passes}
use Rattle.cases.proofs.Certificate.{table_test, price_test, accepts, result_test, case_test, records_pass, certified, priced_at}
use Rattle.cases.specs.Cases.{Result, plan, none, Case, asked, row_distance, Right, Holds, AtRow}
use Rattle.cases.proofs.TestLaws.{and_both, decides}
use Rattle.cases.proofs.DistanceLaws.{distances_hold}
use Rattle.cases.proofs.MoveLaws.{DistancesHold}
use Rattle.cases.proofs.TableLaws.{tabled, reads_right}
use Rattle.cases.proofs.PriceLaws.{tested_price}
use Rattle.rules.specs.Checks.{Verdict, Accepted}
use Rattle.std.specs.Prelude.{Ok, Err}

accepts_true : (v : Verdict) → accepts v ≡ true → v ≡ Accepted
accepts_true (Ok _) e = refl
accepts_true (Err r) e = absurd (false≢true e)

module _ {network : List ℕ} {q : Request} {D T : ℕ → ℕ → ℕ}
    (sound : SoundNetwork network) (value : SoundValue (node_count network) q) (walking : DistancesHold network q D)
    (tested : Says (table_test network q D T)) where
  values_hold : (R v : ℕ) → R < 2 ^ rider_count_of q → v < node_count network → HoldsFinish network q R v (T R v)
  values_hold R v small h = least_holds sound value small h (tabled sound value walking tested R v small h)

  result_right : (result : Result) → Says (result_test network q D T result) → Right network q result
  result_right (plan cost steps) ((finite, costs), read) =
      rw (← costs) (reads_right sound value walking tested steps (reading_start sound value (tabled sound value walking tested) finite) read)
  result_right none e = elim (values_hold (all_riders q) q.source (all_riders_below q) value.starts) [
    | inl f ↦ absurd (omega (arith, e, (unpacks sound value (all_riders_below q) value.starts f.best f.packs).below))
    | inr f ↦ f.0
  ]

certified_holds : (c : Case) → certified c ≡ true → Holds c
unfolding certified records_pass
certified_holds c e =
    let (read, rest) = (and_both (records_pass c) (passes (case_test c))).0 e in
    let accepted = accepts_true _ read in
    let ((distance_size, table_size), (walks, (table, result))) = (decides (case_test c)).0 rest in
    let (sound, request) = records_sound c.network c.request accepted in
    let value = value_sound (node_count c.network) c.request request in
    let walking : DistancesHold c.network (asked c) (row_distance c) = λ j v h g. rider_held (distances_hold sound (walks j h) g) in
    record {
      accepted = accepted;
      distance_size = distance_size;
      table_size = table_size;
      distances = walking;
      table = values_hold sound value walking table;
      result = result_right sound value walking table c.result result;
    }

-- a whole table at once
pub every_holds : (cs : List Case) → map certified cs ≡ map (λ c. true) cs → (i : ℕ) → AtRow Holds cs i
every_holds [] e i = tt
every_holds (c ∷ cs) e zero = certified_holds c (cc)
every_holds (c ∷ cs) e (suc i) = every_holds cs (cc) i

-- A route whose price passes its test, by the distances of a case.
pub case_priced : {c : Case} → Holds c → (route meetings : List ℕ) {price : ℕ} → priced_at c route meetings price ≡ true
    → Price c.network (asked c) route meetings price
unfolding priced_at
case_priced {c} so route meetings e =
    let (sound, request) = records_sound c.network c.request so.accepted in
    let value = value_sound (node_count c.network) c.request request in
    tested_price sound value so.distances route meetings ((decides (price_test c.network (asked c) (row_distance c) route meetings _)).0 e)
