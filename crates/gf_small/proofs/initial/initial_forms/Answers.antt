use Rattle.std.proofs.Common.{length}
use Rattle.gf_small.proofs.WrittenLaws.{in_read}
use Rattle.gf_small.proofs.InitialFormsLaws.{forms-more}
use Rattle.gf_small.proofs.initial.initial_forms.Goals as goal

pub written_form-requires-clause-same_variables : goal.written_form-requires-clause-same_variables
written_form-requires-clause-same_variables c = in_read (length c.args.vector.now) c.args.set.now c.polynomials.f-index c.f-item.result c.requires.variables
    c.polynomials-test.true c.f-item.is

pub polynomials-preserved : goal.polynomials-preserved
polynomials-preserved c = forms-more c.args.vector.now c.args.set.now c.polynomials.forms.items c.push.new.self.items c.polynomials.f-index c.f-item.result
    c.in_ok-form.form c.polynomials-test.true c.f-item.is c.in_ok-form.ensures.form c.in_ok-form.ensures.variables c.in_ok-push.ensures.items
    c.polynomials.invariant
