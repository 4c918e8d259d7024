use Rattle.gf_frac.proofs.FractionLaws.{+ℚ_comm, +ℚ_assoc, +ℚ-zero, +ℚ-neg_ℚ, *ℚ_comm, *ℚ_assoc, *ℚ-one, *ℚ-+ℚ, *ℚ-reciprocal_ℚ, zero-not-one}
use Rattle.gf_frac.proofs.laws.field.Goals as goal

pub returns : goal.returns
returns c = record {
  ring = record {
    sum_comm = +ℚ_comm;
    sum_assoc = +ℚ_assoc;
    sum_zero = +ℚ-zero;
    sum_neg = +ℚ-neg_ℚ;
    product_comm = *ℚ_comm;
    product_assoc = *ℚ_assoc;
    product_one = *ℚ-one;
    product_sum = *ℚ-+ℚ;
  };
  reciprocal = *ℚ-reciprocal_ℚ;
  distinct = zero-not-one;
}
