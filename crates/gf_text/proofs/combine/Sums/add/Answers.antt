use Rattle.gf_text.proofs.SetsLaws.{adds_fit, adds_overflow, adds_exponent, keeps_overflow, overflow_exponent, keeps_exponent}
use Rattle.gf_text.proofs.combine.Sums.add.Goals as goal

pub returns-in_ok-push-in-Ok : goal.returns-in_ok-push-in-Ok
returns-in_ok-push-in-Ok c = rw c.in-Fit.is (adds_fit c.args.n c.args.terms.now c.in-Fit.written.items c.push.new.self.items c.in-Ok.next c.in-Ok.ensures.ok
    c.in_ok-push-in-Ok.ensures.items)

pub returns-in-Err-Overflow : goal.returns-in-Err-Overflow
returns-in-Err-Overflow c =
    let cause = rw c.in-Err-Overflow.field-0-is at c.in-Err-Overflow.ensures.err in
    rw (c.in-Fit.is, c.in-Err-Overflow.field-0-is) (adds_overflow c.args.n c.args.terms.now c.in-Fit.written.items c.in-Err-Overflow.overflow cause)

pub returns-in-Err-Exponent : goal.returns-in-Err-Exponent
returns-in-Err-Exponent c =
    let cause = rw c.in-Err-Exponent.field-0-is at c.in-Err-Exponent.ensures.err in
    rw (c.in-Fit.is, c.in-Err-Exponent.field-0-is) (adds_exponent c.args.n c.args.terms.now c.in-Fit.written.items c.in-Err-Exponent.overflow cause)

pub returns-in-Err-check_terms : goal.returns-in-Err-check_terms
returns-in-Err-check_terms c =
    rw c.in-Overflow.is (overflow_exponent c.args.n c.args.terms.now c.in-Overflow.field-0 c.in-Err-check_terms.first c.in-Err-check_terms.ensures.err)

pub returns-in_default : goal.returns-in_default
returns-in_default c = rw c.in-Overflow.is (keeps_overflow c.args.n c.args.terms.now c.in-Overflow.field-0 c.in_default.ensures.ok)

pub returns-in-Exponent : goal.returns-in-Exponent
returns-in-Exponent c = rw c.in-Exponent.is (keeps_exponent c.args.n c.args.terms.now c.in-Exponent.field-0)
