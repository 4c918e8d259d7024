-- The theorems of specs/Laws.antt.
use Rattle.gf_quotients_theory.specs.Laws.{QuotientsSaturate, MarksHaveLeast, WaysAreKept, BinomialsMayBeDivided}
use Rattle.gf_quotients_theory.specs.Laws.{StepsSaturate, SaturationsMayBeDivided, SaturationsAreIdeals}
use Rattle.gf_quotients_theory.proofs.QuotientLaws.{quotient_members, quotient_basis}
use Rattle.gf_quotients_theory.proofs.LeastLaws.{least_by_revlex, least_by_lowered}
use Rattle.gf_quotients_theory.proofs.WayLaws.{way_start, way_divided, way_variable, way_spared, way_ended, saturated_combined}
use Rattle.gf_quotients_theory.proofs.BinomialQuotients.{binomial_divided}
use Rattle.gf_quotients_theory.proofs.StepLaws.{way_stepped, saturated_quotient}
use Rattle.gf_quotients_theory.proofs.VectorLaws.{saturated_vectors}

pub quotients_saturate : QuotientsSaturate
quotients_saturate = record { members = quotient_members; basis = quotient_basis }

pub marks_have_least : MarksHaveLeast
marks_have_least = record { last = least_by_revlex; lowered = least_by_lowered }

pub ways_are_kept : WaysAreKept
ways_are_kept = record { start = way_start; divided = way_divided; variable = way_variable; spared = way_spared; ended = way_ended }

pub binomials_may_be_divided : BinomialsMayBeDivided
binomials_may_be_divided = binomial_divided

pub steps_saturate : StepsSaturate
steps_saturate = way_stepped

pub saturations_may_be_divided : SaturationsMayBeDivided
saturations_may_be_divided = saturated_quotient

pub saturations_are_ideals : SaturationsAreIdeals
saturations_are_ideals = record { combined = saturated_combined; vectors = saturated_vectors }
