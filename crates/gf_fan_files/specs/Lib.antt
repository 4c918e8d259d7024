pub mod Lines  -- lines of a text, their tokens, sections
pub mod RowText  -- rows of entries: grammar, machine
pub mod ConeText  -- lists of ray numbers: grammar, machine
pub mod NumberText  -- one number: grammar, machine
pub mod Refused  -- what a fault is refused as
pub mod FanText  -- sections that are looked at, and what a file says
pub mod Files  -- what a fan file says, and why it is refused before its cones are built
pub mod FanWords  -- the text of a fan
pub mod FansAgain  -- what is written of a fan is read again
pub mod Found  -- lines and tokens as the program finds them
pub mod Given  -- what readers did, against their machines
pub mod Contents  -- what is kept of the sections
pub mod FanTexts  -- the text of the fan of cones
pub mod Duals  -- what is generated, by the dual cone
pub mod Certificates  -- the rows of MAXIMAL_INTERIORS lie inside their cones
pub mod FilesFans  -- the fan that a fan file says, and why there is none
pub mod WrittenFans  -- the text of a fan says a file whose cones can be built
pub mod Migration  -- what a fan file is migrated to, and why it isn't
