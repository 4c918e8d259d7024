-- What `_bases` writes is determined by what it reads, and depends on the ideal alone. Laws: proofs/OneTextLaws.antt.
use Rattle.std.specs.Prelude.{◌≡◌, ℕ, List, length}
use Rattle.gf_poly.specs.Polynomial.{Terms}
use Rattle.gf_ideal_theory.specs.Membership.{AreSameIdeal}
use Rattle.gfan_theory.specs.ListSources.{HasPolynomials}
use Rattle.gfan_theory.specs.Answers.{Request, bytes_of, IsBasesAnswer}

-- two requests read files with the same bytes, or none in the same places, and both ask for certificates or neither does
pub record ReadTheSame (q r : Request) : Type 0 where
  pub within : bytes_of r.within ≡ bytes_of q.within
  pub after : bytes_of r.after ≡ bytes_of q.after
  pub certified : r.options.certified ≡ q.options.certified

-- two runs with the same input, both from generators or both from a basis, have written the same text if both exit with status 0
abbrev pub AllTextsAreOne : Type 0
AllTextsAreOne = (q r : Request) (input text same : List ℕ) → ReadTheSame q r → r.from_basis ≡ q.from_basis → IsBasesAnswer q input text →
    IsBasesAnswer r input same → text ≡ same

-- the inputs say the same ring, and polynomials that generate the same ideal, each as generators or as a marked Gröbner basis
pub record SayOneIdeal (q r : Request) (input other : List ℕ) : Type 0 where
  pub ring : List (List ℕ)
  pub generators : List Terms
  pub others : List Terms
  pub read : HasPolynomials q.from_basis input ring generators
  pub also : HasPolynomials r.from_basis other ring others
  pub same : AreSameIdeal (length ring) generators others

-- then two runs have written the same text, too
abbrev pub OneIdealHasOneText : Type 0
OneIdealHasOneText = (q r : Request) (input other text same : List ℕ) → ReadTheSame q r → SayOneIdeal q r input other → IsBasesAnswer q input text →
    IsBasesAnswer r other same → text ≡ same
