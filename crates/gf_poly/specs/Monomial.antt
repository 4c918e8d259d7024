-- Monomials as they are kept, and where a product of two has exponents within the limit.
-- Exponents are below 2^31; a variable past the end has exponent 0, so the words need no equal lengths.
-- Laws: proofs/MonomialLaws.antt.
use Rattle.std.specs.Prelude.{◌≡◌, ℕ, ◌+◌, ◌<◌, ◌≤◌, ◌^◌, length, take, All, min}
use Rattle.std.specs.Int.{bit_at}
use Rattle.smallvec.specs.SmallVec.{SmallVec}
use Rattle.gf_exponents_theory.specs.Exponents.{Exponents, entry, degree}
use Rattle.gf_poly.specs.declared.TheConstants.{ROOM}
use Rattle.gf_poly.specs.declared.monomial.ExponentOverflow.{ExponentOverflow}

-- the ROOM bits of w, the highest first, say of each variable whether it occurs in x, and no bit past them is set
pub record IsWordOf (x : Exponents) (w : ℕ) : Type 0 where
  pub fits : w < 2 ^ ROOM
  pub bits : (i j : ℕ) → i + j + 1 ≡ ROOM → bit_at w j ≡ min (entry x i) 1

-- ROOM indices with the exponents of x, which are within the limit, and zeros behind them
pub record IsPlaced (x indices : Exponents) : Type 0 where
  pub room : length x ≤ ROOM
  pub full : length indices ≡ ROOM
  pub limit : All (λ k. k < 2 ^ 31) indices
  pub at : (i : ℕ) → entry indices i ≡ entry x i

-- what is kept of a monomial in n variables: its exponents, inline, their sum, and the word of the variables that occur
pub record IsMono (total word n : ℕ) (v : SmallVec ℕ) : Type 0 where
  pub room : n ≤ ROOM
  pub placed : IsPlaced (take n v.items) v.items
  pub inline : v.capacity ≡ ROOM
  pub total_degree : total ≡ degree (take n v.items)
  pub occurring : IsWordOf (take n v.items) word

-- at most as many variables as there is room for, and exponents within the limit
pub record IsMonomial (x : Exponents) : Type 0 where
  pub room : length x ≤ ROOM
  pub limit : All (λ k. k < 2 ^ 31) x

-- the exponents of the product of x and y are within the limit
pub record ProductFits (x y : Exponents) : Type 0 where
  pub at : (i : ℕ) → entry x i + entry y i < 2 ^ 31

-- the exponents of the first variable whose sum passes the limit
pub record IsFirstOverflow (x y : Exponents) (o : ExponentOverflow) : Type 0 where
  pub at : ℕ
  pub left : o.left ≡ entry x at
  pub right : o.right ≡ entry y at
  pub leaves : 2 ^ 31 ≤ entry x at + entry y at
  pub before : (i : ℕ) → i < at → entry x i + entry y i < 2 ^ 31
