use Rattle.std.proofs.Common.{refl}
use Rattle.gf_whole_division.specs.Reductions.{terms_of}
use Rattle.gf_whole_division.proofs.FactorLaws.{multiple_refl}
use Rattle.gf_whole_division.proofs.ReductionLaws.{divided_lists, not_zero}
use Rattle.gf_whole_division.proofs.dividend.WholeDividend.divide.Goals as goal

pub returns-then-is_zero : goal.returns-then-is_zero
returns-then-is_zero c = multiple_refl (terms_of c.args.self.now) (terms_of c.args.self.now) (λ e. refl)

pub returns : goal.returns
returns c =
    divided_lists c.content-found.result c.args.self.now.done.items c.args.self.now.rest.items c.deref-3.result.now c.deref-4.result.now
    c.in_ok-done.done.items c.in_ok-rest.rest.items
    c.deref-3.ensures.value c.deref-4.ensures.value
    (not_zero c.is_zero.result c.content-found.result c.is_zero.ensures c.if-is_zero.false) c.in_ok-done.ensures c.in_ok-rest.ensures
