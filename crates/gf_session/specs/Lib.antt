-- What the contracts of this crate cite.
pub mod Choices  -- what a line asks for
pub mod Lines  -- how a line is taken from a source
pub mod Sessions  -- trails, turns, transcripts, and how a session ends
pub mod Moves  -- what the calls over states answer
pub mod Endings  -- what a session has done, and why it is cut off
pub mod Transcripts  -- lines have one transcript, and u undoes
