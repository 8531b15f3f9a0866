pub mod CallAdvances
pub mod Ends
pub mod EndsAnySheets
pub mod Lengths
pub mod Moves
pub mod OnlyReplyDue
pub mod PlaceInSheet
pub mod Replies
