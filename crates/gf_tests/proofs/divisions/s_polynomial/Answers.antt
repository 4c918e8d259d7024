use Rattle.gf_tests.proofs.divisions.s_polynomial.Goals as goal

pub s_poly-requires : goal.s_poly-requires
s_poly-requires c = record { variables = record { n = 3; are = record { left = c.requires.left; right = c.requires.right } } }
