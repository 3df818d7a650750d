use Prim.Native.Nat.{◌*◌, ◌^◌}
use mathlib.Core.Path.{◌≡◌, ◌∙◌, ap}
use native.Mathlib.Omega.{arith}
use lib.ListN.{length, take}
use Rattle.std.proofs.lemmas.List.{length-take-le}
use Rattle.rules.specs.Network.{node_count}
use Rattle.rules.specs.Request.{rider_count_of}
use Rattle.rules.specs.Rooms.{no_finish}
use Rattle.least.specs.Least.{Least}
use Rattle.finish.specs.Packed.{Packed}
use Rattle.table.proofs.RowLaws.{Turn, rows_front, part_fits, rows_more}
use Rattle.table.proofs.TableLaws.{filled_all}
use Rattle.table.proofs.rows.fill_table.Goals as goal
use Rattle.table.proofs.rows.fill_table.Goals.{After-split_at_mut-below}

read-n : (c : After-split_at_mut-below) → c.node_count-n.result ≡ node_count c.args.job.now.network
read-n c = rw (← c.job.view_is) c.node_count-n.ensures.value

turn : (c : After-split_at_mut-below) →
    let (below, rest) = c.split_at_mut-below.result in
    let job = c.args.job.now in
    Turn (λ S v. Least no_finish (Packed job.network job.request S v)) (node_count job.network) (2 ^ rider_count_of job.request)
    c.loop-riders.riders c.args.table.now below.now rest.now
turn c =
    record {
      row = rw (← c.job.view_is) (omega (arith, c.rider_bit-riders-end.ensures));
      places = c.requires.1;
      starts = c.split_at_mut-below.ensures.front_len ∙ ap (λ n. c.loop-riders.riders * n) (read-n c);
      so = rw c.split_at_mut-below.ensures.value at c.loop-riders.invariant;
    }

long : (c : After-split_at_mut-below) → length (take c.node_count-n.result c.split_at_mut-below.result.1.now) ≡ node_count c.args.job.now.network
long c = rw (read-n c) (length-take-le _ c.split_at_mut-below.result.1.now (part_fits (turn c)))

pub fill_row-requires : goal.fill_row-requires
fill_row-requires c =
    let so = (goal.at.fill_row-requires c).After-split_at_mut-below in
    (record { walks = c.requires.0.walks; set = (turn so).row; rows = omega (arith, (turn so).starts); below = rows_front (turn so) }, long so)

pub loop-riders-preserved : goal.loop-riders-preserved
loop-riders-preserved c =
    let so = (goal.at.loop-riders-preserved c).After-split_at_mut-below in
    rw (read-n so) (rows_more (turn so) c.fill_row.new.row (c.fill_row.auto.row ∙ long so) c.fill_row.ensures)

pub returns : goal.returns
returns c =
    let all : c.loop-riders.riders ≡ 2 ^ rider_count_of c.args.job.now.request = rw (← c.job.view_is) (omega (arith, c.rider_bit-riders-end.ensures)) in
    filled_all c.args.job.now.sound c.args.job.now.fits (rw all at c.loop-riders.invariant)
