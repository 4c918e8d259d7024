use Rattle.gf_division.proofs.MonicLaws.{copy_made}
use Rattle.gf_wide_division.proofs.autoreduction.form.Goals as goal

pub returns-then-is_monic-clause-form : goal.returns-then-is_monic-clause-form
returns-then-is_monic-clause-form c = copy_made c.args.b.now c.in_ok-copy.field-0 c.in_ok-copy.ensures (c.is_monic.ensures c.if-is_monic.true)
