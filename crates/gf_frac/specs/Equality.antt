-- When two fractions compare equal: their two numbers are. That this is `≡` is the law of `src/laws.rt`.
use Rattle.std.specs.Prelude.{Bool, nat_eq}
use Rattle.std.specs.Ordering.{on, eq_of_both, int_eq}
use Rattle.gf_frac.specs.Fraction.{Fraction}

-- the answer of `==`
abbrev pub fraction_eq : Fraction → Fraction → Bool
fraction_eq = eq_of_both (on (λ x. x.num) int_eq) (on (λ x. x.den) nat_eq)
