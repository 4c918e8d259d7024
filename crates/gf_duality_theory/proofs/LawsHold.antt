-- The theorems of specs/Laws.antt.
use Rattle.gf_duality_theory.specs.Laws.{RaysAreUnique, SumsOfRaysAreInside, FacetsHaveWitnesses}
use Rattle.gf_duality_theory.specs.Faces.{sum_of}
use Rattle.gf_duality_theory.proofs.Determined.{rays_determined}
use Rattle.gf_duality_theory.proofs.Interior.{interior}
use Rattle.gf_duality_theory.proofs.Sums.{sum_positive, sum_witness}
use Rattle.gf_duality_theory.proofs.FacetRows.{part_of, witness_facet}
use Rattle.gf_duality_theory.proofs.Facets.{facet_witness}

pub rays_are_unique : RaysAreUnique
rays_are_unique = rays_determined

pub sums_of_rays_are_inside : SumsOfRaysAreInside
sums_of_rays_are_inside = record {
  interior = interior;
  positive = sum_positive;
  witness = λ n rows lin rays part a v r p ca s. sum_witness n rows lin rays a v (record { part = part; of_part = p.each; all = p.every }) r ca s;
}

pub facets_have_witnesses : FacetsHaveWitnesses
facets_have_witnesses = λ n rows lin rays w a f ca. (
  λ c. (sum_of n (part_of rays a).part, facet_witness n rows lin rays w a (part_of rays a) f c),
  λ s. witness_facet n rows lin rays w a s.0 f ca s.1,
)
