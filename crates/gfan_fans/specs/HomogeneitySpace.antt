-- `_homogeneityspace`: its input, its output, and why it is refused.
use Rattle.std.specs.Prelude.{◌≡◌, ℕ, false, List, [], ◌∷◌, flat_map, length, Option, ℤ}
use Rattle.gf_poly.specs.Marking.{MarkedPolynomial}
use Rattle.gf_gordan.specs.declared.error.GordanError.{GordanError}
use Rattle.gf_duality_theory.specs.Rays.{IsRays, IsImplied}
use Rattle.gf_facets_theory.specs.Rows.{rows_of_polynomials}
use Rattle.gf_rays.specs.Cones.{RowsAndRays, AreRaysWithinLimits}
use Rattle.gf_small.specs.HomogeneitySpace.{IsBasisOfSpace, IsSpaceCause}
use Rattle.gf_text.specs.declared.written.Written.{Written}
use Rattle.gf_text.specs.declared.written.Written.TheVariants as written
use Rattle.gf_front.specs.declared.refusal.Refusal.{Refusal}
use Rattle.gf_front.specs.declared.refusal.Refusal.TheVariants as refusals
use Rattle.gf_items.specs.Sources.{ring_set_vector}
use Rattle.gf_frame.specs.Loading.{Origin}
use Rattle.gf_frame.specs.Readings.{of_one}
use Rattle.gf_frame.specs.Commands.{Writing, Command}
use Rattle.gfan_common.specs.Causes.{of_gordan}
use Rattle.gf_fan_files.specs.FanTexts.{IsFanText}
use Rattle.gfan_fans.specs.FanTexts.{IsNoFanText, IsFanOfConesWithin}

-- ---- the space

-- the polynomial with its mark; none if it is zero
abbrev pub marked_of : Written → List MarkedPolynomial
marked_of written.Zero = []
marked_of (written.Nonzero m) = m ∷ []

-- the nonzero polynomials of a set
abbrev pub nonzero_of : List Written → List MarkedPolynomial
nonzero_of ws = flat_map marked_of ws

-- c is the homogeneity space of these polynomials in n variables, as a cone without inequalities. Its equations are the differences of the
-- marked exponent vector of a polynomial and each other one, and its lineality basis is a basis of the space
pub record IsSpaceCone (n : ℕ) (bs : List MarkedPolynomial) (c : RowsAndRays) : Type 0 where
  pub ambient : c.ambient ≡ n
  pub inequalities : c.inequalities ≡ []
  pub equations : c.equations ≡ rows_of_polynomials bs
  pub basis : IsBasisOfSpace n bs c.lineality
  pub rays : IsRays c.ambient c.inequalities c.equations c.lineality c.rays
  pub implied : IsImplied c.ambient c.inequalities c.equations c.implied

-- ---- what is written

-- the text is that of the fan whose only cone is the homogeneity space
pub record IsSpaceText (n : ℕ) (bs : List MarkedPolynomial) (text : List ℕ) : Type 0 where
  pub cone : RowsAndRays
  pub is_cone : IsSpaceCone n bs cone
  pub fan : IsFanText n (cone ∷ []) text

-- ---- why it is refused

-- the space isn't found; or it is, and its fan isn't found or isn't written; or memory runs out
pub data IsNoSpace (n : ℕ) (bs : List MarkedPolynomial) (r : Refusal) : Type 0 where
  at_space : (e : GordanError) → IsSpaceCause n bs e → r ≡ of_gordan e → IsNoSpace n bs r
  at_fan : (c : RowsAndRays) → IsSpaceCone n bs c → IsNoFanText n (c ∷ []) r → IsNoSpace n bs r
  no_memory : r ≡ refusals.Memory → IsNoSpace n bs r

-- no operation of finding the space leaves its range, nor does one of finding its fan or of writing it
pub record IsSpaceWithin (n : ℕ) (bs : List MarkedPolynomial) : Type 0 where
  pub space : AreRaysWithinLimits n [] (rows_of_polynomials bs)
  pub fan : (c : RowsAndRays) → IsSpaceCone n bs c → IsFanOfConesWithin n (c ∷ [])

-- ---- the command

-- the command `_homogeneityspace`; zero polynomials impose no condition
abbrev pub homogeneity_space_command : Command
homogeneity_space_command = record {
  Value = List (List ℕ) × (List Written × Option (List ℤ));
  reads = Origin.the_input ∷ [];
  reading = of_one (ring_set_vector false);
  checks = λ v. [];
  IsAnswer = λ v text. IsSpaceText (length v.0) (nonzero_of v.1.0) text;
  IsCause = λ v r. IsNoSpace (length v.0) (nonzero_of v.1.0) r;
  IsWithin = λ v. IsSpaceWithin (length v.0) (nonzero_of v.1.0);
  writing = Writing.at_end;
}
