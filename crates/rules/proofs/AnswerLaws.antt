-- Each entry's answer, and what it leaves in the rooms that it is lent, are settled by its input.
use Prim.Native.Nat.{ℕ, ◌<◌}
use mathlib.Core.Path.{◌≡◌, refl, sym, ap, ◌∙◌}
use mathlib.Core.List.{List}
use native.Mathlib.Omega.{arith}
use denote.Ref.{Bor}
use Rattle.rules.specs.Network.{Part}
use Rattle.rules.specs.Answers.{Outcome, refuses, verdict_outcome, number_outcome, planned_outcome, Walking, Walked, Pricing, refused, stranded}
use Rattle.rules.specs.Answers.{priced, PricedRoute, Tablet, tablet_number, Searching, hopeless, planned, Searched}
use Rattle.rules.specs.declared.refusal.Refusal.{Refusal}
use Rattle.rules.specs.declared.Plan.{Plan}
use Rattle.rules.proofs.FaultLaws.{fault_told_apart}
use Rattle.rules.specs.declared.Request.{Request}
use Rattle.rules.proofs.WalkLaws.{holds_distance_unique}
use Rattle.rules.proofs.RiderLaws.{meeting_reaches}
use Rattle.rules.proofs.PriceLaws.{price_unique}
use Rattle.rules.proofs.PlanLaws.{right_plan_unique}
use Rattle.rules.proofs.RoomLaws.{kept_unique, distances_unique, table_unique, lent_same}
use Rattle.rules.specs.Rooms.{Lent}
use Rattle.rules.specs.Writing.{Writing}
use Rattle.rules.specs.Checks.{number_of, Verdict}
use Rattle.std.specs.Prelude.{Result, Ok, Err}

-- A link's part of the network record is one place in memory with one content.
pub part_unique : {whole a b : Bor (List ℕ)} {start size : ℕ} → Part whole start size a → Part whole start size b
    → (a.ref_ptr ≡ b.ref_ptr) × (a.now ≡ b.now)
part_unique p r =
    let block = p.memory ∙ sym r.memory in
    let offset = p.place ∙ sym r.place in
    (λ i. (block i, offset i), cc)

-- Two refusals that are one outcome have one number and one place.
pub refuses_same : {number other place elsewhere : ℕ} → refuses number place ≡ refuses other elsewhere → (number ≡ other) × (place ≡ elsewhere)
refuses_same e = (cc, cc)

-- What an answer is in the rules' terms tells which answer it is.
refusal_same : {r s : Refusal} → number_of r.fault ≡ number_of s.fault → r.place ≡ s.place → r ≡ s
refusal_same {r} {s} e f = let same : r.fault ≡ s.fault = fault_told_apart r.fault s.fault e in λ i. record { fault = same i; place = f i }

pub verdict_told_apart : (x y : Verdict) → verdict_outcome x ≡ verdict_outcome y → x ≡ y
verdict_told_apart (Ok _) (Ok _) e = refl
verdict_told_apart (Ok _) (Err s) e = cc
verdict_told_apart (Err r) (Ok _) e = cc
verdict_told_apart (Err r) (Err s) e = ap Err (refusal_same (cc) (cc))

pub number_told_apart : (x y : Result ℕ Refusal) → number_outcome x ≡ number_outcome y → x ≡ y
number_told_apart (Ok p) (Ok q) e = cc
number_told_apart (Ok p) (Err s) e = cc
number_told_apart (Err r) (Ok q) e = cc
number_told_apart (Err r) (Err s) e = ap Err (refusal_same (cc) (cc))

pub planned_told_apart : (x y : Result Plan Refusal) → planned_outcome x ≡ planned_outcome y → x ≡ y
planned_told_apart (Ok p) (Ok q) e =
    let cost : p.cost ≡ q.cost = cc in
    let count : p.count ≡ q.count = cc in
    ap Ok (λ i. record { cost = cost i; count = count i })
planned_told_apart (Ok p) (Err s) e = cc
planned_told_apart (Err r) (Ok q) e = cc
planned_told_apart (Err r) (Err s) e = ap Err (refusal_same (cc) (cc))

-- The walking entry has one answer and leaves one content.
walking_unique : (verdict : Verdict) {network : List ℕ} {start : ℕ} {before a b : List ℕ} {x y : Outcome}
    → Walking verdict network start before a x → Walking verdict network start before b y → (a ≡ b) × (x ≡ y)
walking_unique (Ok _) w z = (kept_unique w.kept z.kept (λ v h. holds_distance_unique (w.fills refl v h) (z.fills refl v h)), cc)
walking_unique (Err r) w z = (kept_unique w.kept z.kept (λ v h. absurd (omega arith)), cc)

pub walked_unique : {network : List ℕ} {start : ℕ} {before a b : List ℕ} {x y : Outcome} → Walked network start before a x
    → Walked network start before b y → (a ≡ b) × (x ≡ y)
walked_unique w z = walking_unique _ w z

-- Pricing has one answer and one list of meeting positions.
pub pricing_unique : {verdict : Verdict} {network : List ℕ} {q : Request} {route meetings others : List ℕ} {a b : Outcome}
    → Pricing verdict network q route a meetings → Pricing verdict network q route b others → (a ≡ b) × (meetings ≡ others)
pricing_unique (refused r v a m) (refused s w b n) = (cc, cc)
pricing_unique (refused r v a m) (stranded j w h s first b n) = (cc, cc)
pricing_unique (refused r v a m) (priced c w p size b) = (cc, cc)
pricing_unique (stranded i v h s first a m) (refused r w b n) = (cc, cc)
pricing_unique (stranded i v h s first a m) (stranded j w k t lowest b n) =
    let above : ¬ (i < j) = λ l. lowest i l s in
    let below : ¬ (j < i) = λ l. first j l t in
    let same : i ≡ j = omega arith in
    (cc, cc)
pricing_unique (stranded i v h s first a m) (priced c w p size b) = absurd (s (meeting_reaches (p.meets i h)))
pricing_unique (priced c v p size a) (refused r w b n) = (cc, cc)
pricing_unique (priced c v p size a) (stranded i w h s first b n) = absurd (s (meeting_reaches (p.meets i h)))
pricing_unique (priced c v p size a) (priced d w r count b) = let same = price_unique size count p r in (cc, same.1)

-- Pricing a route has one answer and leaves one content in the meeting slice.
pub priced_route_unique : {network request route before a b : List ℕ} {x y : Outcome} → PricedRoute network request route before a x
    → PricedRoute network request route before b y → (a ≡ b) × (x ≡ y)
priced_route_unique p r = let same = pricing_unique p.pricing r.pricing in (cc, same.0)

-- The tablet's entry has one answer.
pub tablet_unique : {network request bytes : List ℕ} {x y : ℕ} → Tablet network request bytes x → Tablet network request bytes y → x ≡ y
tablet_unique t u = t.tells ∙ ap tablet_number (pricing_unique t.priced.pricing u.priced.pricing).0 ∙ sym u.tells

-- The search, once the verdict on its records and rooms is known, has one answer and leaves one content in each room.
pub searching_unique : {verdict : Verdict} {network : List ℕ} {q : Request} {before a b : Lent} {x y : Outcome}
    → Searching verdict network q before a x → Searching verdict network q before b y → (a ≡ b) × (x ≡ y)
searching_unique (refused r v x m) (refused s w y n) = (cc, cc)
searching_unique (refused r v x m) (hopeless w d t h y n) = (cc, cc)
searching_unique (refused r v x m) (planned plan c w d t p y n) = (cc, cc)
searching_unique (hopeless v d t h x m) (refused r w y n) = (cc, cc)
searching_unique (hopeless v d t h x m) (hopeless w e u i y n) = (lent_same (distances_unique d e) (table_unique t u) (cc), cc)
searching_unique (hopeless v d t h x m) (planned plan c w e u p y n) = absurd (h _ _ p.best.finishes)
searching_unique (planned plan c v d t p x m) (refused r w y n) = (cc, cc)
searching_unique (planned plan c v d t p x m) (hopeless w e u h y n) = absurd (h _ _ p.best.finishes)
searching_unique (planned plan c v d t p x m) (planned other k w e u r y n) =
    let s = right_plan_unique p r in (lent_same (distances_unique d e) (table_unique t u) (cc), cc)

-- The search of a request has one answer and leaves one content in each of the three rooms.
pub searched_unique : {network : List ℕ} (request : List ℕ) {before a b : Lent} {x y : Outcome}
    → Searched network request before a x → Searched network request before b y → (a ≡ b) × (x ≡ y)
searched_unique request s t = searching_unique s t

-- What writes a record has one answer and leaves one content.
pub writing_unique : {verdict : Verdict} {bytes before a b : List ℕ} {x y : Outcome} → Writing verdict bytes before a x
    → Writing verdict bytes before b y → (a ≡ b) × (x ≡ y)
writing_unique w z = (w.written ∙ sym z.written, w.answers ∙ sym z.answers)

-- So the results themselves agree, and not their outcomes alone.
pub walk_settled : {network : List ℕ} {start : ℕ} {before a b : List ℕ} {x y : Verdict}
    → Walked network start before a (verdict_outcome x)
    → Walked network start before b (verdict_outcome y)
    → (a ≡ b) × (x ≡ y)
walk_settled {x = x} {y} w z = let (room, answer) = walked_unique w z in (room, verdict_told_apart x y answer)

pub price_settled : {network request route before a b : List ℕ} {x y : Result ℕ Refusal}
    → PricedRoute network request route before a (number_outcome x)
    → PricedRoute network request route before b (number_outcome y)
    → (a ≡ b) × (x ≡ y)
price_settled {x = x} {y} p r = let (room, answer) = priced_route_unique p r in (room, number_told_apart x y answer)

pub search_settled : {network : List ℕ} (request : List ℕ) {before a b : Lent} {x y : Result Plan Refusal}
    → Searched network request before a (planned_outcome x)
    → Searched network request before b (planned_outcome y)
    → (a ≡ b) × (x ≡ y)
search_settled request {x = x} {y} s t =
    let (rooms, answer) = searched_unique request s t in
    (rooms, planned_told_apart x y answer)

pub write_settled : {verdict : Verdict} {bytes before a b : List ℕ} {x y : Result ℕ Refusal}
    → Writing verdict bytes before a (number_outcome x)
    → Writing verdict bytes before b (number_outcome y)
    → (a ≡ b) × (x ≡ y)
write_settled {x = x} {y} w z = let (room, answer) = writing_unique w z in (room, number_told_apart x y answer)
