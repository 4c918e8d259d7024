pub mod RingLaws  -- identities between whole numbers by a calculus of differences
pub mod SignLaws  -- signs and order of products
pub mod ContentLaws  -- a content one entry further, and division by it
pub mod NarrowLaws  -- numbers of 64 bits and their products
pub mod ListLaws  -- facts of all elements of joined lists
