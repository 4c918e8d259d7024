pub mod BasesListLaws  -- the list of all bases, and what it has
pub mod OneListLaws  -- an ideal has one list of all bases
