-- What the certificates of an answer show. Laws: proofs/CertifiedLaws.antt.
-- Source: Fukuda, Jensen, Thomas, Computing Gröbner fans, 2 and 4.
use Rattle.std.specs.Prelude.{◌≡◌, ℕ, true, List, ◌++◌, length}
use Rattle.std.specs.List.{AllZip}
use Rattle.gf_poly.specs.Polynomial.{Terms}
use Rattle.gf_poly.specs.Marking.{MarkedPolynomials}
use Rattle.gf_facets_theory.specs.Regions.{Region}
use Rattle.gf_lists_theory.specs.BasesList.{AreAllBasesIn}
use Rattle.gfan_lists.specs.Bases.{list_text}
use Rattle.gfan_theory.specs.CertifiedBases.{HasCertificatesIn}
use Rattle.gfan_theory.specs.Answers.{Request, IsSaid, IsBasesAnswer}

-- the text is that of the bases of the ideal in the region that the input and the files say, but for those before it, each with the weight and the
-- facets that are printed after it: the weight is in the region and gives the basis, and exactly the facets are printed that a flip may cross there
pub record IsCertifiedAnswer (q : Request) (input text : List ℕ) : Type 0 where
  pub ring : List (List ℕ)
  pub ideal : List Terms
  pub region : Region
  pub early : List MarkedPolynomials
  pub said : IsSaid q input ring ideal region early
  pub list : List MarkedPolynomials
  pub are_all : AreAllBasesIn (length ring) region ideal (early ++ list)
  pub items : List (List ℕ)
  pub certificates : AllZip (HasCertificatesIn ring region ideal) list items
  pub is_text : text ≡ list_text ring items

-- so it is with each answer of a run with certificates
abbrev pub AnswersAreCertified : Type 0
AnswersAreCertified = (q : Request) (input text : List ℕ) → q.options.certified ≡ true → IsBasesAnswer q input text → IsCertifiedAnswer q input text
