use Rattle.std.proofs.Common.{◌∙◌, sym}
use Rattle.std.proofs.lemmas.Bool.Decides.{Decides-eqb}
use Rattle.std.proofs.lemmas.Slice.Eq.{slice_eq-Decides}
use Rattle.gf_frac.proofs.FractionLaws.{Decides-fraction_eq}
use Rattle.gf_initial_monomials.proofs.SameLaws.{same_terms}
use Rattle.gf_initial_monomials.proofs.seen.is_same_term.Goals as goal

pub returns-then-eq : goal.returns-then-eq
returns-then-eq c = λ yes. same_terms c.args.x.now c.args.y.now
    ((Decides-fraction_eq c.args.x.now.coef c.args.y.now.coef).0 (sym c.eq.ensures ∙ c.if-eq.true))
    (sym c.exponents.ensures.value ∙ (slice_eq-Decides Decides-eqb c.exponents.result.now c.exponents-then-eq.result.now c.eq-then-eq.result
    c.eq-then-eq.ensures).0 yes ∙ c.exponents-then-eq.ensures.value)
