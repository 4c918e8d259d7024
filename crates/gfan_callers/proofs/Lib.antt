pub mod ListedLaws  -- what several workers give, one basis after another, and what is left
pub mod StatusLaws  -- how a run ended, by its status
pub mod WrittenLaws  -- what a run has written that is done
