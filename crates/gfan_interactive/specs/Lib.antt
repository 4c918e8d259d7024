pub mod Interactive  -- the input, the output and the session of `_interactive`
