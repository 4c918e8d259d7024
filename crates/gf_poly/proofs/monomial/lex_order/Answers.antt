use Rattle.std.proofs.Common.{sym, arith, ◌∙◌}
use Rattle.gf_poly.proofs.LexLaws.{lex_less, lex_greater, lex_end}
use Rattle.gf_poly.proofs.monomial.lex_order.Goals as goal

pub returns-then-x-i : goal.returns-then-x-i
returns-then-x-i c = sym (lex_less c.args.x.now c.args.y.now c.entries.i (omega arith) (omega arith) c.entries.invariant (omega arith))

pub returns-then-x-i-2 : goal.returns-then-x-i-2
returns-then-x-i-2 c = sym (lex_greater c.args.x.now c.args.y.now c.entries.i (omega arith) (omega arith) c.entries.invariant (omega arith))

pub returns : goal.returns
returns c = c.cmp.ensures ∙ sym (lex_end c.args.x.now c.args.y.now c.entries.i (omega (arith, c.min-i-end.ensures)) c.entries.invariant)
