-- Exponents arranged so that lists compare as monomials do.
-- Laws: proofs/KeyLaws.antt.
use Rattle.std.specs.Prelude.{◌≡◌, ℕ, ◌-◌, ◌<◌, ◌≤◌, ◌^◌, Bool, true, false, List, length}
use Rattle.gf_exponents_theory.specs.Exponents.{Exponents, entry}

-- entry i of the exponents arranged for a comparison: the exponent itself by lex; by revlex, turned, the exponent of the
-- variable that is as far from the last one as i is from the first
abbrev pub arranged_entry : Bool → Exponents → ℕ → ℕ
arranged_entry false x i = entry x i
arranged_entry true x i = 2 ^ 32 - 1 - entry x (length x - 1 - i)

-- these are the exponents of x arranged so, and zeros past them
pub record AreKeyExponents (by_revlex : Bool) (x : Exponents) (all : List ℕ) : Type 0 where
  pub inside : (i : ℕ) → i < length x → entry all i ≡ arranged_entry by_revlex x i
  pub past : (i : ℕ) → length x ≤ i → entry all i ≡ 0
