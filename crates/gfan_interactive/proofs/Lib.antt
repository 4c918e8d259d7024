pub mod InteractiveLaws  -- how the session of `_interactive` goes, and why it is cut off
