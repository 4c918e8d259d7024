pub mod OnBytesLaws  -- what the clauses of `run` say of bytes in memory
