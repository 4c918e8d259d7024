pub mod Outcomes  -- vectors that fail, and the first of them
pub mod Cuts  -- the part of a cone on which none of some rows is negative, by whatever rows of its own
pub mod Passing  -- vectors that passed at a basis, and what is known of them at another
pub mod Refusals  -- why it isn't decided
pub mod Limits  -- when the only possible error is that memory runs out
