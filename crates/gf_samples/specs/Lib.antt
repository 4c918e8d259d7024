pub mod Rows  -- members in the variables of their rows
