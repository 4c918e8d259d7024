use Rattle.std.proofs.Common.{sym, ap, ◌∙◌, length, subst}
use Rattle.gf_exponents_theory.specs.Exponents.{Exponents, Divides}
use Rattle.gf_poly.proofs.MonomialLaws.{length-join}
use Rattle.gf_buchberger.specs.Covered.{AreCoprimeOrBelow, rank_of}
use Rattle.gf_buchberger.proofs.covered.is_covering.Goals as goal

pub is_third_divisor-requires : goal.is_third_divisor-requires
is_third_divisor-requires c = c.requires.third ∙ sym (ap length c.requires.multiple ∙ length-join c.args.x.now c.args.y.now c.requires.pair)

pub returns-then-are_coprime_or_below : goal.returns-then-are_coprime_or_below
returns-then-are_coprime_or_below c =
    let e = c.rank_of-rank.ensures ∙ ap (λ (m : Exponents). rank_of m c.args.i c.args.j) c.requires.multiple in
    let third = c.is_third_divisor.ensures c.if-not-is_third_divisor.false in
    λ t. record {
      not_first = third.0;
      not_second = third.1;
      divides = subst (Divides c.args.z.now) c.requires.multiple third.2;
      left = subst (AreCoprimeOrBelow c.args.x.now c.args.z.now c.args.i c.args.k) e (c.are_coprime_or_below.ensures c.if-are_coprime_or_below.true);
      right = subst (AreCoprimeOrBelow c.args.z.now c.args.y.now c.args.k c.args.j) e (c.are_coprime_or_below-then-are_coprime_or_below.ensures t);
    }
