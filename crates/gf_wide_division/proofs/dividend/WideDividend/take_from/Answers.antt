use Rattle.std.proofs.Common.{refl}
use Rattle.gf_wide_division.proofs.DividendLaws.{taken_zero, taken_rest}
use Rattle.gf_wide_division.proofs.dividend.WideDividend.take_from.Goals as goal

pub returns-then-is_zero : goal.returns-then-is_zero
returns-then-is_zero c = taken_zero c.args.coef.now c.args.self.now.terms.items c.remove-t.new.self.items c.args.index c.remove-t.result c.in_ok-left.left
    c.requires c.remove-t.ensures.value c.remove-t.ensures.items c.in_ok-left.ensures (c.is_zero.ensures.0 c.if-is_zero.true)

pub returns : goal.returns
returns c = taken_rest c.args.coef.now c.args.self.now.terms.items c.remove-t.new.self.items c.insert.new.self.items c.args.index c.remove-t.result
    (record { coef = c.in_ok-left.left; mono = c.copy.result; waits = c.remove-t.result.waits }) c.in_ok-left.left c.requires c.remove-t.ensures.value
    c.remove-t.ensures.items c.in_ok-insert.ensures.items c.in_ok-left.ensures refl c.copy.ensures (λ z. let q = c.is_zero.ensures.1 z in cc)
