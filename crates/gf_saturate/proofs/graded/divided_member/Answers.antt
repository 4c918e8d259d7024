use Rattle.std.proofs.Common.{◌≡◌, ◌<◌, ℕ, length, arith, refl, sym, subst, ap, ◌∙◌}
use Rattle.gf_exponents_theory.specs.Exponents.{Exponents, entry}
use Rattle.gf_poly.specs.Polynomial.{Terms, HasVariables}
use Rattle.gf_dividing.specs.Dividing.{IsStripped}
use Rattle.gf_saturate.proofs.graded.divided_member.Goals as goal

pub stripped-requires-clause-some : goal.stripped-requires-clause-some
stripped-requires-clause-some c = subst (λ (f : Terms). 0 < length f) (sym c.poly.ensures) c.requires.some

pub stripped-requires-clause-variables : goal.stripped-requires-clause-variables
stripped-requires-clause-variables c = subst (HasVariables c.args.n) (sym c.poly.ensures) c.requires.variables

pub exponent-shared-requires : goal.exponent-shared-requires
exponent-shared-requires c = subst (λ (m : ℕ). c.args.k < m) (sym c.in-Ok.ensures.long) c.requires.inside

pub exponent-marked-requires : goal.exponent-marked-requires
exponent-marked-requires c = subst (λ (m : ℕ). c.args.k < m) (sym (ap length c.head.ensures.value ∙ c.requires.head)) c.requires.inside

pub returns : goal.returns
returns c =
    let mark : entry c.head.result.now c.args.k ≡ entry c.args.b.now.head c.args.k = ap (λ (x : Exponents). entry x c.args.k) c.head.ensures.value in
    record {
      factors = c.in-Ok.factors;
      stripped = subst (λ (f : Terms). IsStripped c.args.n f c.in-Ok.factors) c.poly.ensures c.in-Ok.ensures;
      enough = omega (arith, mark);
      is = refl;
    }
