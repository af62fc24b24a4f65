-- Partial states and recordings, in reading order.
-- texts in order, the first that is out of it, and digests that texts share
pub mod Texts
-- partial states: how they are spelled and read
pub mod Partial
-- recordings: how they are spelled and read
pub mod Recording
-- worked partial states and recordings
pub mod Examples
