-- how a run ends, what the store holds then, and what the next event of a script is
pub mod Ends
pub mod HandedBack
pub mod Replies
pub mod Events
-- histories as they are held, and replies that are gathered
pub mod Histories
pub mod Sending
pub mod Requests
pub mod Proving
-- recordings
pub mod Recordings
