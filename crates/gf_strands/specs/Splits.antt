-- The parts of the members along a vector, as a program keeps them: of a part that is one term alone the index of its member and the
-- mark, of another one the terms. Laws: proofs/SplitLaws.antt.
use Rattle.std.specs.Prelude.{◌≡◌, ℕ, List, [], ◌∷◌, ◌++◌, length, ℤ, true}
use Rattle.gf_exponents_theory.specs.Exponents.{Exponents, same}
use Rattle.gf_poly.specs.Polynomial.{Terms}
use Rattle.gf_poly.specs.Marking.{MarkedPolynomial}
use Rattle.gf_ideal_theory.specs.Settled.{IsAt}
use Rattle.gf_ideal_theory.specs.Membership.{HasMonomial}
use Rattle.gf_ideal_theory.specs.OrderTable.{AreMultipleApart}
use Rattle.gf_strands.specs.declared.along.Split.{Split}
use Rattle.gf_strands.specs.declared.strands.Part.{Part}
use Rattle.gf_strands.specs.Strands.{IsPartOf, terms_of_part, AreSpots, AreFalling}

-- no monomial of b but the mark is a multiple of a apart from it
abbrev pub IsAlone : List ℤ → MarkedPolynomial → Type 0
IsAlone a b = (x : Exponents) → HasMonomial b.poly x → AreMultipleApart a x b.head → same x b.head ≡ true

-- the member at the index p has the mark x, and no other monomial of it is a multiple of a apart from that
pub record IsAloneAt (a : List ℤ) (bs : List MarkedPolynomial) (p : ℕ) (x : Exponents) : Type 0 where
  pub member : MarkedPolynomial
  pub at : IsAt bs p member
  pub head : member.head ≡ x
  pub alone : IsAlone a member

-- one member of bs after another, in their order: where no monomial of it but the mark is a multiple of a apart from that, its index may
-- be the next one of the indices and its mark the next one of xs; else its part is the next one of fs
pub data AreSplit (a : List ℤ) : List MarkedPolynomial → List ℕ → List Exponents → List Terms → Type 0 where
  none : AreSplit a [] [] [] []
  alone : (bs : List MarkedPolynomial) (indices : List ℕ) (xs : List Exponents) (fs : List Terms) (b : MarkedPolynomial) →
      AreSplit a bs indices xs fs → IsAlone a b → AreSplit a (bs ++ b ∷ []) (indices ++ length bs ∷ []) (xs ++ b.head ∷ []) fs
  part : (bs : List MarkedPolynomial) (indices : List ℕ) (xs : List Exponents) (fs : List Terms) (b : MarkedPolynomial) (f : Terms) →
      AreSplit a bs indices xs fs → IsPartOf a b f → AreSplit a (bs ++ b ∷ []) indices xs (fs ++ f ∷ [])

-- the member b, which is at the index i, is the next one
pub data IsSplitOn (a : List ℤ) (i : ℕ) (b : MarkedPolynomial) (old new : Split) : Type 0 where
  alone : IsAlone a b → new.indices.items ≡ old.indices.items ++ i ∷ [] → new.marks.items ≡ old.marks.items ++ b.head ∷ [] →
      new.list.items ≡ old.list.items → IsSplitOn a i b old new
  part : (p : Part) → p.index ≡ i → p.base ≡ b.head → length p.base ≡ length a → IsPartOf a b (terms_of_part a p) → AreSpots a p.base p.points.items →
      AreFalling p.points.items → new.indices.items ≡ old.indices.items → new.marks.items ≡ old.marks.items → new.list.items ≡ old.list.items ++ p ∷ [] →
      IsSplitOn a i b old new
