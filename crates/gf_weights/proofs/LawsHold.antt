-- The theorems of specs/Laws.antt.
use Rattle.gf_weights.specs.Laws.{WeightsGiveBases, WitnessesAreInside, CertificatesAreUnique, CertificatesExist}
use Rattle.gf_weights.proofs.WeightLaws.{weight_marks, weight_basis, weight_basis_in, witness_inside}
use Rattle.gf_weights.proofs.UniqueLaws.{one_weight, one_witness, one_certificates}
use Rattle.gf_weights.proofs.WitnessesExist.{weight_exists, facets_exist}

pub weights_give_bases : WeightsGiveBases
weights_give_bases = record { marks = weight_marks; basis = weight_basis; in_region = weight_basis_in }

pub witnesses_are_inside : WitnessesAreInside
witnesses_are_inside = witness_inside

pub certificates_are_unique : CertificatesAreUnique
certificates_are_unique = record { weight = one_weight; witness = one_witness; all = one_certificates }

pub certificates_exist : CertificatesExist
certificates_exist = record { weight = weight_exists; facets = facets_exist }
