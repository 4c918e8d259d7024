-- How large the entries of a system are.
use Rattle.std.specs.Prelude.{ℕ, ◌≤◌, List, ℤ, unsigned_abs, All}

-- each entry of each vector is at most b in absolute value
abbrev pub HaveEntriesUpTo : ℕ → List (List ℤ) → Type 0
HaveEntriesUpTo b vectors = All (All (λ x. unsigned_abs x ≤ b)) vectors
