use Rattle.std.proofs.Common.{◌≡◌, ◌≤◌, length, take, ◌∷◌}
use Rattle.gf_frac.specs.Fraction.{one_ℚ}
use Rattle.gf_strands.specs.Strands.{strand_terms}
use Rattle.gf_flip.proofs.chosen.member_of.Given as goal

abbrev pub invariant-points : goal.invariant-points
invariant-points l = record {
  terms : l.terms.items ≡ record { coef = one_ℚ; mono = l.strand.mark } ∷ strand_terms l.normal l.strand.mark (take l.i l.strand.rest.items);
  within : l.i ≤ length l.strand.rest.items;
}
