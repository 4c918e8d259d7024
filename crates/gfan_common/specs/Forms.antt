-- The polynomials of a set that is read, and the conditions of an order on a weight and on them.
use Rattle.std.specs.Prelude.{◌≡◌, ◌≢◌, ℕ, Bool, true, false, List, [], ◌∷◌, length, map, All, Option, None, Some, ℤ, pos, ◌≤ℤ◌}
use Rattle.gf_order.specs.Weights.{IsFirstBelow}
use Rattle.gf_poly.specs.Polynomial.{Terms}
use Rattle.gf_text.specs.declared.written.Written.{Written}
use Rattle.gf_text.specs.declared.written.Written.TheVariants as written
use Rattle.gf_buchberger.specs.declared.homogeneity.NotHomogeneous.{NotHomogeneous}
use Rattle.gf_buchberger.specs.Homogeneity.{IsFirstInhomogeneous}
use Rattle.gf_buchberger.specs.Tasks.{HaveOneDegree}
use Rattle.gf_front.specs.declared.refusal.Refusal.{Refusal}
use Rattle.gf_front.specs.declared.refusal.Refusal.TheVariants as refusals
use Rattle.gf_items.specs.Checks.{Check}

-- ---- what is read

-- the polynomial that is read; it is zero if all its terms cancel
abbrev pub polynomial_of : Written → Terms
polynomial_of written.Zero = []
polynomial_of (written.Nonzero m) = m.poly

-- the polynomials of a set that is read, in order
abbrev pub generators_of : List Written → List Terms
generators_of ws = map polynomial_of ws

-- ---- the length of a weight, then the degrees, then the entries of the weight

-- the weight has an entry for each of n variables
abbrev pub FitsVariables : ℕ → Option (List ℤ) → Type 0
FitsVariables n None = Unit {0}
FitsVariables n (Some weight) = length weight ≡ n

-- the least entry that a weight may have for the order to be a term order
abbrev pub least_entry : Bool → ℤ
least_entry false = pos 0
least_entry true = pos 1

-- the order with this weight is a term order
abbrev pub IsTermWeight : Bool → Option (List ℤ) → Type 0
IsTermWeight revlex None = Unit {0}
IsTermWeight revlex (Some weight) = All (λ k. least_entry revlex ≤ℤ k) weight

-- if the order is revlex without a weight, the polynomials are homogeneous; there is no condition for other orders
abbrev pub AreTaken : Bool → Option (List ℤ) → List Terms → Type 0
AreTaken false weight fs = Unit {0}
AreTaken true None fs = HaveOneDegree fs
AreTaken true (Some weight) fs = Unit {0}

-- left is the number of entries of the weight, right the number of variables, and they differ
abbrev pub HasOtherLength : ℕ → Option (List ℤ) → ℕ → ℕ → Type 0
HasOtherLength n None left right = ⊥
HasOtherLength n (Some weight) left right = (left ≡ length weight) × (right ≡ n) × (left ≢ right)

-- the entry of the weight at this index is the first one with which the order isn't a term order
abbrev pub IsFirstSmall : Bool → Option (List ℤ) → ℕ → Type 0
IsFirstSmall revlex None index = ⊥
IsFirstSmall revlex (Some weight) index = IsFirstBelow (least_entry revlex) weight index

-- the order is revlex without a weight, and e has the first polynomial that isn't homogeneous
abbrev pub IsFirstNotTaken : Bool → Option (List ℤ) → List Terms → NotHomogeneous → Type 0
IsFirstNotTaken false weight fs e = ⊥
IsFirstNotTaken true None fs e = IsFirstInhomogeneous fs e
IsFirstNotTaken true (Some weight) fs e = ⊥

-- the refusal for a weight of another length: it has the two numbers
abbrev pub IsLengthRefusal : ℕ → Option (List ℤ) → Refusal → Type 0
IsLengthRefusal n weight (refusals.Dimensions left right) = HasOtherLength n weight left right
IsLengthRefusal n weight _ = ⊥

-- the refusal for a polynomial that isn't homogeneous if the order requires this: it has the first such polynomial, with two of its
-- monomials of different degrees
abbrev pub IsDegreeRefusal : Bool → Option (List ℤ) → List Terms → Refusal → Type 0
IsDegreeRefusal revlex weight fs (refusals.NotHomogeneous polynomial first second) =
    let e : NotHomogeneous = record { polynomial = polynomial; first = first; second = second } in IsFirstNotTaken revlex weight fs e
IsDegreeRefusal revlex weight fs _ = ⊥

-- the refusal for a weight with which the order isn't a term order: it has the index of its first entry that is too small
abbrev pub IsWeightRefusal : Bool → Option (List ℤ) → Refusal → Type 0
IsWeightRefusal revlex weight (refusals.NotTermOrder index) = IsFirstSmall revlex weight index
IsWeightRefusal revlex weight _ = ⊥

-- the checks of what is read: first the length of the weight, then the degrees, then the entries of the weight
abbrev pub form : Bool → ℕ → Option (List ℤ) → List Terms → List Check
form revlex n weight fs =
    record { Holds = FitsVariables n weight; Fails = IsLengthRefusal n weight }
    ∷ record { Holds = AreTaken revlex weight fs; Fails = IsDegreeRefusal revlex weight fs }
    ∷ record { Holds = IsTermWeight revlex weight; Fails = IsWeightRefusal revlex weight }
    ∷ []
