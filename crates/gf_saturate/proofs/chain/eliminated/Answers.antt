use Rattle.std.proofs.Common.{◌≡◌, ◌+◌, List, length, sym, subst, ap, ◌∙◌}
use Rattle.std.proofs.lemmas.Option.{IfSome_then}
use Rattle.gf_exponents_theory.specs.Exponents.{Exponents}
use Rattle.gf_poly.specs.Polynomial.{Terms}
use Rattle.gf_buchberger.specs.Tasks.{HaveRingVariables}
use Rattle.gf_saturate.specs.Graded.{IsWeightedBasis}
use Rattle.gf_saturate.specs.Saturating.{step_list}
use Rattle.gf_saturate.specs.Widening.{extended_list, variable_at}
use Rattle.gf_saturate.proofs.WideningLaws.{length-variable}
use Rattle.gf_saturate.proofs.StepLaws.{extended-ring}
use Rattle.gf_saturate.proofs.ChainLaws.{wide_basis, free_saturated}
use Rattle.gf_saturate.proofs.chain.eliminated.Goals as goal

pub extended-requires-clause-by : goal.extended-requires-clause-by
extended-requires-clause-by c = ap length c.variable-by.ensures ∙ length-variable c.args.n c.args.k c.requires.inside

pub inverse_basis-requires-clause-variables : goal.inverse_basis-requires-clause-variables
inverse_basis-requires-clause-variables c =
    let is : c.deref.result.now ≡ step_list c.args.n c.args.k c.args.set.now =
    c.deref.ensures.value ∙ c.in-Ok.ensures ∙ ap (λ (u : Exponents). extended_list u c.args.set.now) c.variable-by.ensures in
    subst (HaveRingVariables (c.args.n + 1)) (sym is)
    (extended-ring c.args.n (variable_at c.args.n c.args.k) c.args.set.now (length-variable c.args.n c.args.k c.requires.inside) c.requires.variables)

pub free_members-requires : goal.free_members-requires
free_members-requires c = wide_basis c.args.n _ c.in-Some.found c.in-Some.ensures

pub returns-in-Ok-free_members : goal.returns-in-Ok-free_members
returns-in-Ok-free_members c =
    let is : c.deref.result.now ≡ step_list c.args.n c.args.k c.args.set.now =
    c.deref.ensures.value ∙ c.in-Ok.ensures ∙ ap (λ (u : Exponents). extended_list u c.args.set.now) c.variable-by.ensures in
    IfSome_then c.in-Ok-free_members.all c.in-Ok-free_members.ensures
    (λ all d. free_saturated c.args.n c.args.k c.args.set.now all.items c.in-Some.found c.requires.inside c.requires.variables
    (subst (λ (gs : List Terms). IsWeightedBasis (c.args.n + 1) gs c.in-Some.found) is c.in-Some.ensures) d)
