use Rattle.std.proofs.Common.{nat_eq, slice_index_or, ap, ◌∙◌}
use Rattle.gf_exponents_theory.specs.Exponents.{Exponents}
use Rattle.gf_exponents_theory.proofs.ExponentsLaws.{entry-get_or}
use Rattle.gf_saturate.proofs.elimination.is_free.Goals as goal

pub returns : goal.returns
returns c = ap (λ z. nat_eq z 0) (ap (λ (x : Exponents). slice_index_or x c.args.n 0) (c.exponents.ensures.value ∙ c.head.ensures.value) ∙
    entry-get_or c.args.b.now.head c.args.n)
