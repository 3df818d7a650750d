-- The refusals of walking, of pricing and of writing are small too: a route that is priced has a limited number of links.
use Prim.Native.Nat.{ℕ, ◌+◌, ◌<◌}
use native.Mathlib.Omega.{arith}
use mathlib.Core.Logic.{⊎_elim}
use mathlib.Core.List.{List, [], ◌∷◌, ◌++◌}
use lib.ListN.{length}
use borrow.Author.Tests.{ltb-false}
use Rattle.rules.specs.Checks.{Check, each}
use Rattle.rules.specs.Network.{network_checks}
use Rattle.rules.specs.Request.{record_checks}
use Rattle.rules.specs.Routes.{route_link_checks, route_checks}
use Rattle.rules.specs.Answers.{walk_checks, price_checks}
use Rattle.rules.specs.Writing.{room_check, network_number_checks, network_write_checks, value_of, request_number_checks, request_write_checks, value_list_checks}
use Rattle.rules.specs.declared.refusal.Refusal.{Refusal}
use Rattle.rules.specs.declared.Request.{Request}
use Rattle.rules.proofs.WriterLaws.{NumberRefused}
use Rattle.rules.proofs.RoundTrips.{network_refusals, request_refusals}
use Rattle.rules.proofs.Refusals.{Gives, none_given, then_given, append_given, each_given, Small, check_small, network_small, records_small}
use Rattle.rules.specs.Limits.{longest_route}
use Rattle.desk.specs.Numbers.{short_range}

pub walk_small : (network : List ℕ) (start room : ℕ) → Gives (Small short_range) (walk_checks network start room)
walk_small network start room =
    append_given (network_checks network) (network_small short_range (omega arith) network)
    (λ read. check_small _ (omega arith) (omega arith) (check_small _ (omega arith) (omega arith) none_given))

route_small : (network : List ℕ) (q : Request) (route : List ℕ) → Gives (Small short_range) (route_checks network q route)
unfolding route_checks
route_small network q route =
    then_given _ (record { number = omega arith; place = omega arith })
    (λ short. append_given (each (route_link_checks network q route) (length route) 0)
    (each_given (route_link_checks network q route) (length route) 0
    (λ i h. let near : 0 + i < short_range = omega (arith, ltb-false longest_route (length route) short) in check_small _
    (omega arith) near (check_small _ (omega arith) near (check_small _ (omega arith) near none_given))))
    (λ drives. check_small _ (omega arith) (omega arith) none_given))

pub price_small : (network request route : List ℕ) (room : ℕ) → Gives (Small short_range) (price_checks network request route room)
price_small network request route room =
    append_given (record_checks network request) (records_small short_range (omega arith) network request)
    (λ read. check_small _ (omega arith) (omega arith) (route_small network _ route))

number_small : (r : Refusal) → NumberRefused r → Small short_range r
number_small r =
    ⊎_elim (λ e. rw e (record { number = omega arith; place = omega arith })) (λ e. rw e (record { number = omega arith; place = omega arith }))

written_small : (checks : List Check) (size room : ℕ) → Gives NumberRefused checks → Gives (Small short_range) (checks ++ room_check size room ∷ [])
written_small checks size room so =
    append_given checks (record { given = λ r e. number_small r (so.given r e) })
    (λ passed. check_small _ (omega arith) (omega arith) none_given)

pub network_written_small : (n : ℕ) (numbers : List ℕ) (room : ℕ) → Gives (Small short_range) (network_write_checks n numbers room)
network_written_small n numbers room = written_small (network_number_checks n numbers) _ room (network_refusals n numbers)

pub request_written_small : (n : ℕ) (q : Request) (room : ℕ) → Gives (Small short_range) (request_write_checks n q room)
request_written_small n q room = written_small (request_number_checks n q) _ room (request_refusals n q)

pub list_written_small : (n : ℕ) (numbers : List ℕ) (room : ℕ) → Gives (Small short_range) (value_list_checks n numbers room)
list_written_small n numbers room = check_small _ (omega arith) (omega arith) (request_written_small n (value_of numbers) room)
