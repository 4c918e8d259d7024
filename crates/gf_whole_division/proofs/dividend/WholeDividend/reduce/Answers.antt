use Rattle.std.proofs.Common.{arith, refl, ap, sym, subst, ◌∙◌, ◌-◌, ℕ, List, length, take}
use Rattle.std.specs.Prelude.{IfSome}
use Rattle.std.specs.declared.option.Option.{Option}
use Rattle.std.proofs.lemmas.Result.{on_ok_weaker}
use Rattle.gf_exponents_theory.specs.Exponents.{Divides}
use Rattle.gf_whole_division.specs.declared.terms.WholeTerm.{WholeTerm}
use Rattle.gf_whole_division.specs.Reductions.{terms_of, IsDividedAt}
use Rattle.gf_whole_division.specs.Values.{whole_terms, HasNone}
use Rattle.gf_whole_division.proofs.ValueLaws.{last_value}
use Rattle.gf_whole_division.proofs.ReductionLaws.{member_there, reduce_kept, keeps_same, not_zero}
use Rattle.gf_whole_division.proofs.dividend.WholeDividend.reduce.Goals as goal

pub returns-in_default : goal.returns-in_default
returns-in_default c = on_ok_weaker c.pass.result (keeps_same c.args.by.now (terms_of c.args.self.now) (terms_of c.pass.new.self)) c.pass.ensures

pub quotient-mono-requires-clause-same_variables : goal.quotient-mono-requires-clause-same_variables
quotient-mono-requires-clause-same_variables c =
    sym
    (ap length c.head.ensures.value ∙ (member_there c.args.by.now c.mono-x.result.now c.mono-x.result.now c.in-Some.j c.index-by-j.result refl
    (subst (λ (o : Option ℕ). IfSome o (IsDividedAt c.args.by.now c.mono-x.result.now)) c.in-Some.is c.in_ok-found.ensures) c.index-by-j.is).variables)

pub quotient-mono-requires-clause-divides : goal.quotient-mono-requires-clause-divides
quotient-mono-requires-clause-divides c =
    subst (λ z. Divides z c.mono-x.result.now) (sym c.head.ensures.value)
    (member_there c.args.by.now c.mono-x.result.now c.mono-x.result.now c.in-Some.j c.index-by-j.result refl
    (subst (λ (o : Option ℕ). IfSome o (IsDividedAt c.args.by.now c.mono-x.result.now)) c.in-Some.is c.in_ok-found.ensures)
    c.index-by-j.is).divides

pub returns : goal.returns
returns c =
    on_ok_weaker c.add.result
    (reduce_kept c.args.by.now c.index-by-j.result c.args.self.now.done.items c.args.self.now.rest.items
    (take (c.len-last.result - 1) c.args.self.now.rest.items)
    (terms_of c.add.new.self) c.index-t.result.now c.mono-x.result.now c.coef-coef.result.now c.multiple.result.1.now c.multiple.result.0.now
    c.common-factor.result.0 c.common-factor.result.1 c.common-factor.result.2 c.neg.result
    c.quotient-mono.result c.head.result.now c.mono-x.ensures c.coef-coef.ensures
    (member_there c.args.by.now c.mono-x.result.now c.mono-x.result.now c.in-Some.j c.index-by-j.result refl
    (subst (λ (o : Option ℕ). IfSome o (IsDividedAt c.args.by.now c.mono-x.result.now)) c.in-Some.is c.in_ok-found.ensures)
    c.index-by-j.is).first
    c.multiple.ensures c.common-factor.ensures (not_zero c.is_zero.result c.coef-coef.result.now c.is_zero.ensures c.if-is_zero.false)
    (last_value c.args.self.now.rest.items (c.len-last.result - 1) c.index-t.result.now (omega (arith, c.len-last.ensures, c.requires)) c.index-t.ensures)
    (subst (λ (z : List WholeTerm). HasNone c.mono-x.result.now (whole_terms z)) c.deref.ensures.value (c.if-not-has_none.ensures refl))
    (subst (λ (z : List WholeTerm). HasNone c.mono-x.result.now (whole_terms (take (c.len-last.result - 1) z))) c.deref-2.ensures.value
    (c.if-not-has_none-2.ensures refl))
    c.head.ensures.value c.quotient-mono.ensures.product c.neg.ensures) c.add.ensures
