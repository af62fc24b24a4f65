-- the next event of a script, and what becomes of a script event by event
pub mod Stops
pub mod Scripts
-- the command `root`
pub mod Puts
pub mod RootLines
pub mod Replies
-- readings and lines of a history
pub mod Answered
pub mod Histories
pub mod Sending
pub mod HistoryEnds
-- how a run ends
pub mod Runs
pub mod Finished
pub mod Requests
pub mod HistoryRuns
-- recordings
pub mod Recordings
pub mod Gathered
pub mod Proving
