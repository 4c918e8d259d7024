use Rattle.gf_bases_tests.proofs.flips.+visit.Given as goal

abbrev pub decreases-visit : goal.decreases-visit
decreases-visit l = l.depth
