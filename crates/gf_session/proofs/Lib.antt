-- Laws of this crate.
pub mod ChoiceLaws  -- blanks at the ends of a line, numbers digit by digit, long lines
pub mod LineLaws  -- a line byte by byte
pub mod TurnLaws  -- steps and trails, and what a turn does with them
pub mod SessionLaws  -- a session line by line
pub mod StateLaws  -- what crossings keep holds at each state of a session
pub mod TranscriptLaws  -- lines have one transcript, and u undoes
