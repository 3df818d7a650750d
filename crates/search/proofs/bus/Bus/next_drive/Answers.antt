use Prim.Native.Nat.{ℕ, min}
use native.Mathlib.Omega.{arith}
use mathlib.Core.Path.{◌≡◌, refl, ap}
use Rattle.std.proofs.Common.{rules, tests}
use Rattle.std.proofs.lemmas.Iterator.{first_from_Range}
use Rattle.rules.specs.Rooms.{no_finish}
use Rattle.records.specs.Accepted.{AcceptedPair}
use Rattle.search.specs.Steps.{network_of, drive_value}
use Rattle.search.proofs.StepLaws.{LowestLink, link_there, link_lowest}
use Rattle.search.proofs.bus.Bus.next_drive.Goals as goal
use Rattle.search.proofs.bus.Bus.next_drive.Goals.{After-find}

network : (c : After-find) → c.job.inside.network.now.bytes ≡ network_of c.args.self.now
network c = ap (λ (job : AcceptedPair). job.network) c.job.view_is

lowest : (c : After-find) → LowestLink c.args.self.now c.find.result
lowest c =
    let makes = λ (k : ℕ). min (drive_value c.args.self.now k) no_finish ≡ c.value-here.result in
    let first = first_from_Range _ _ _ _ makes (λ k. makes k → ⊥) c.find.ensures.ran (λ x q k. search (rules, tests)) (λ x q k. search (rules, tests)) in
    rw (c.link_count.ensures.value, network c, c.value-here.ensures) at first

pub unwrap-k-requires : goal.unwrap-k-requires
unwrap-k-requires c = link_there c.args.self.now c.requires.0 c.requires.1 _ (lowest c)

pub to-requires : goal.to-requires
to-requires c =
    let found = link_lowest c.args.self.now _ c.unwrap-k.ensures (lowest (goal.at.to-requires c).After-find) in
    rw (network (goal.at.to-requires c).After-find) found.0.0

pub overflow_add-step : goal.overflow_add-step
overflow_add-step c =
    let found = link_lowest c.args.self.now _ c.unwrap-k.ensures (lowest (goal.at.overflow_add-step c).After-find) in
    omega (arith, found.0.0, c.args.self.now.tables.now.job.now.sound.links)

pub returns : goal.returns
returns c =
    let at = (goal.at.returns c).After-find in
    let found = link_lowest c.args.self.now _ c.unwrap-k.ensures (lowest at) in
    record {
      link = c.unwrap-k.result;
      is = refl;
      drives = found.0;
      lowest = found.1;
      stay = refl;
      ends = rw (← network at) c.to.ensures.value;
      same = refl;
    }
