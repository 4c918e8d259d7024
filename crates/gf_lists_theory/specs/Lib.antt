pub mod BasesList  -- the list of all bases of an ideal
pub mod Starts  -- the basis at which it starts
pub mod OneList  -- an ideal has exactly one list of all bases
