pub mod LoadingLaws  -- sources that are known are loaded
pub mod LoopLaws  -- sources as the code lists them
pub mod ReadingLaws  -- texts are read in one way
pub mod CommandLaws  -- texts are answered in one way
pub mod RunLaws  -- how a run of a command ends
pub mod WorkLaws  -- what is done with texts that are loaded
pub mod ProgramLaws  -- how a run of a program ends
pub mod SoundLaws  -- what is refused as work is, and tested once, is lawful
