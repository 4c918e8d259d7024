-- Terms that keep a marked set from being the reduced basis: those that a mark divides. Laws: proofs/TermLaws.antt.
-- Source: Cox, Little, O'Shea, Ideals, Varieties, and Algorithms, 2.7.
use Rattle.std.specs.Prelude.{◌≡◌, ◌≢◌, ◌⊎◌, ℕ, ◌<◌, Bool, false, if◌then◌else◌, List, [], ◌∷◌, ◌++◌}
use Rattle.gf_exponents_theory.specs.Exponents.{Exponents, same, Divides}
use Rattle.gf_poly.specs.Polynomial.{Terms}
use Rattle.gf_poly.specs.Marking.{MarkedPolynomial, Each}
use Rattle.gf_ideal_theory.specs.Settled.{IsAt}

-- the monomials of the terms other than h, in their order
abbrev pub all_but : Exponents → Terms → List Exponents
all_but h [] = []
all_but h (t ∷ f) = if same t.mono h then all_but h f else (t.mono ∷ all_but h f)

-- the monomials of b as they are printed: first the marked one, then the others, in descending deglex order
abbrev pub printed_monomials : MarkedPolynomial → List Exponents
printed_monomials b = b.head ∷ all_but b.head b.poly

-- a mark divides the monomial x of the member b, whose index is i: the mark of another member; or its own mark, if x isn't the marked
-- monomial
pub record IsOffending (bs : List MarkedPolynomial) (i : ℕ) (b : MarkedPolynomial) (x : Exponents) : Type 0 where
  pub index : ℕ
  pub member : MarkedPolynomial
  pub at : IsAt bs index member
  pub divides : Divides member.head x
  pub other : (index ≢ i) ⊎ (same x b.head ≡ false)

-- none of these monomials of b is divisible in this way
abbrev pub NoneOffends : List MarkedPolynomial → ℕ → MarkedPolynomial → List Exponents → Type 0
NoneOffends bs i b xs = Each (λ (x : Exponents). IsOffending bs i b x → ⊥) xs

-- x is the first offending monomial of the member at i, in the order in which its monomials are printed
pub record IsFirstOffendingOf (bs : List MarkedPolynomial) (i : ℕ) (x : Exponents) : Type 0 where
  pub member : MarkedPolynomial
  pub at : IsAt bs i member
  pub earlier : List Exponents
  pub later : List Exponents
  pub printed : printed_monomials member ≡ earlier ++ x ∷ later
  pub offends : IsOffending bs i member x
  pub none_earlier : NoneOffends bs i member earlier

-- no monomial of the member at i offends
abbrev pub HasNoOffence : List MarkedPolynomial → ℕ → Type 0
HasNoOffence bs i = (b : MarkedPolynomial) → IsAt bs i b → NoneOffends bs i b (printed_monomials b)

-- the member at i is the first one with an offending monomial, and x is its first offending monomial
pub record IsFirstOffending (bs : List MarkedPolynomial) (i : ℕ) (x : Exponents) : Type 0 where
  pub first : IsFirstOffendingOf bs i x
  pub before : (k : ℕ) → k < i → HasNoOffence bs k

-- no monomial of any member offends
abbrev pub AreReduced : List MarkedPolynomial → Type 0
AreReduced bs = (i : ℕ) → HasNoOffence bs i

-- ---- parts

-- the mark of a member of bs divides x; if x is the marked monomial of the member at i, the mark is that of another member
pub record IsDividedAt (bs : List MarkedPolynomial) (i : ℕ) (x : Exponents) (is_marked : Bool) : Type 0 where
  pub index : ℕ
  pub member : MarkedPolynomial
  pub at : IsAt bs index member
  pub divides : Divides member.head x
  pub other : (index ≢ i) ⊎ (is_marked ≡ false)

-- the mark of the member at j doesn't divide x, or x is the marked monomial of that same member
abbrev pub IsNotDividedBy : List MarkedPolynomial → ℕ → ℕ → Exponents → Bool → Type 0
IsNotDividedBy bs i j x is_marked = (c : MarkedPolynomial) → IsAt bs j c → Divides c.head x → (j ≢ i) ⊎ (is_marked ≡ false) → ⊥
