-- what reads and writes do to bytes that are told
pub mod Streams
-- sources and sinks in memory, as functions from state to state
pub mod StreamStates
-- what a sink in memory keeps to
pub mod SinkRoom
-- what readers and writers of std tell
pub mod StdStreams
-- what a reader of lines has, and what asking it for the next line makes of that
pub mod LinesStates
-- the window in which a line is looked for
pub mod Windows
-- inputs that are taken whole
pub mod FeedStates
-- commands, events and errors as the definitions have them
pub mod Meanings
