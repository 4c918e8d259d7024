-- Remainders on strands: marks that divide a monomial, and polynomials that are taken in. Laws: proofs/FormLaws.antt, proofs/StrandMarks.antt.
-- Source: Cox, Little, O'Shea, Ideals, Varieties, and Algorithms, 2.3.
use Rattle.std.specs.Prelude.{◌≡◌, ◌≢◌, ◌⊎◌, ℕ, ◌<◌, List, [], ◌∷◌, ◌++◌, length, Contains, ◌≤◌, get_or}
use Rattle.gf_exponents_theory.specs.Exponents.{Exponents, Divides}
use Rattle.gf_exponents_theory.specs.SixOrders.{MonomialOrder, below_of}
use Rattle.gf_poly.specs.Polynomial.{Terms, HasVariables, KeepsVariables}
use Rattle.gf_poly.specs.Marking.{MarkedPolynomial}
use Rattle.gf_ideal_theory.specs.Marks.{IsMarked}
use Rattle.gf_ideal_theory.specs.Reduction.{IsMonicForm, HasOneMonomial}
use Rattle.gf_division.specs.Remainders.{IsRemainder}
use Rattle.gf_strands.specs.declared.strands.Strand.{Strand}

-- the mark of a member with one monomial divides x
pub record HasCover (bs : List MarkedPolynomial) (x : Exponents) : Type 0 where
  pub member : MarkedPolynomial
  pub contained : Contains bs member
  pub single : HasOneMonomial member
  pub divides : Divides member.head x

-- the monic form of r, marked at its greatest monomial, is the last member now
pub record IsGrown (order : MonomialOrder) (r : Terms) (old new : List MarkedPolynomial) : Type 0 where
  pub member : MarkedPolynomial
  pub monic : IsMonicForm r member
  pub marked : IsMarked (below_of order) member
  pub poly : (n : ℕ) → HasVariables n r → HasVariables n member.poly
  pub head : (n : ℕ) → HasVariables n r → length member.head ≡ n
  pub members : new ≡ old ++ member ∷ []

-- f was reduced by the members: to zero, and they are as before, or what is left is a new member
pub record IsTakenIn (order : MonomialOrder) (f : Terms) (old new : List MarkedPolynomial) : Type 0 where
  pub r : Terms
  pub normal : IsRemainder old f r
  pub variables : KeepsVariables f r
  pub left : ((r ≡ []) × (new ≡ old)) ⊎ ((r ≢ []) × IsGrown order r old new)

-- no mark of a strand from the index i on divides x
pub record NoStrandFrom (ls : List Strand) (i : ℕ) (x : Exponents) : Type 0 where
  pub none : (j : ℕ) (l : Strand) → i ≤ j → j < length ls → get_or ls j l ≡ l → Divides l.mark x → ⊥

-- one does
pub record HasStrandFrom (ls : List Strand) (i : ℕ) (x : Exponents) : Type 0 where
  pub index : ℕ
  pub from : i ≤ index
  pub within : index < length ls
  pub strand : Strand
  pub at : get_or ls index strand ≡ strand
  pub divides : Divides strand.mark x
