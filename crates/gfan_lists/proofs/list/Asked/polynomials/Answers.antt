use Rattle.std.proofs.Common.{◌≡◌, IfOk, All, List, length, sym, ap, subst, ◌∙◌}
use Rattle.std.proofs.lemmas.Result.{IfOk-weaker}
use Rattle.gf_poly.specs.Polynomial.{Terms, HasVariables}
use Rattle.gfan_common.specs.Forms.{generators_of}
use Rattle.gfan_lists.specs.declared.list.Asked.{Asked}
use Rattle.gfan_lists.specs.Asked.{names_asked, generators_asked, IsAskedInRing}
use Rattle.gfan_lists.proofs.AfterLaws.{generators_have}
use Rattle.gfan_lists.proofs.list.Asked.polynomials.Goals as goal

pub returns-in-Generators-clause-value : goal.returns-in-Generators-clause-value
returns-in-Generators-clause-value c =
    subst (λ (a : Asked). IfOk c.polynomials.result (λ fs. fs.items ≡ generators_asked a)) (sym c.in-Generators.is)
    (subst (λ ws. IfOk c.polynomials.result (λ fs. fs.items ≡ generators_of ws)) c.deref.ensures.value c.polynomials.ensures)

pub returns-in-Generators-clause-variables : goal.returns-in-Generators-clause-variables
returns-in-Generators-clause-variables c =
    let ring = c.in-Generators.ring in
    let set = c.in-Generators.set in
    let inside = generators_have (length ring) set.items (subst IsAskedInRing c.in-Generators.is c.requires) in
    subst (λ (a : Asked). IfOk c.polynomials.result (λ fs. All (HasVariables (length (names_asked a))) fs.items)) (sym c.in-Generators.is)
    (IfOk-weaker c.polynomials.result _ _ (λ fs e. subst (λ (gs : List Terms). All (HasVariables (length ring)) gs)
    (sym (e ∙ ap generators_of c.deref.ensures.value)) inside) c.polynomials.ensures)

pub returns-in-Basis-clause-value : goal.returns-in-Basis-clause-value
returns-in-Basis-clause-value c =
    subst (λ (a : Asked). IfOk c.polynomials-in-Basis.result (λ fs. fs.items ≡ generators_asked a)) (sym c.in-Basis.is) c.polynomials-in-Basis.ensures.value

pub returns-in-Basis-clause-variables : goal.returns-in-Basis-clause-variables
returns-in-Basis-clause-variables c =
    let same = subst IsAskedInRing c.in-Basis.is c.requires in
    subst (λ (a : Asked). IfOk c.polynomials-in-Basis.result (λ fs. All (HasVariables (length (names_asked a))) fs.items)) (sym c.in-Basis.is)
    (subst (λ n. IfOk c.polynomials-in-Basis.result (λ fs. All (HasVariables n) fs.items)) same c.polynomials-in-Basis.ensures.variables)
