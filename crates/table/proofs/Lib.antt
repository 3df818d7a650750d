-- Laws of rows, of the riders' distances, of meetings and of the work table.
pub mod RowLaws
pub mod DistanceLaws
pub mod MeetingLaws
pub mod StartLaws
pub mod TableLaws
