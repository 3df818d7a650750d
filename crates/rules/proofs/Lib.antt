-- Laws of the definitions: how checks run in their order, what acceptance gives, how large refusals are, that a promise has one
-- result at most, that a refusal keeps the rooms, and that records are read as they were written.
pub mod Clash
pub mod FaultLaws
pub mod Four
pub mod Order
pub mod TestLaws
pub mod OpeningLaws
pub mod SoundNetworkLaws
pub mod SoundRequestLaws
pub mod Refusals
pub mod LinkLaws
pub mod WalkLaws
pub mod RiderLaws
pub mod RouteLaws
pub mod PriceLaws
pub mod PlanLaws
pub mod RoomLaws
pub mod BytesLaws
pub mod NetworkWritingLaws
pub mod RequestWritingLaws
pub mod WriterLaws
pub mod RoundTrips
pub mod WritingLaws
pub mod PuttingLaws
pub mod AnswerLaws
pub mod Keeping
