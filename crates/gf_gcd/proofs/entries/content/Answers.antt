use Rattle.std.proofs.Common.{subst}
use Rattle.gf_int_theory.specs.Content.{IsGcdOfAll}
use Rattle.gf_int_theory.proofs.ContentLaws.{IsContent-zero}
use Rattle.gf_gcd.proofs.entries.content.Goals as goal

pub returns-then-common-eq0-clause-content : goal.returns-then-common-eq0-clause-content
returns-then-common-eq0-clause-content c = IsContent-zero _ (subst (IsGcdOfAll c.args.xs.now) c.if-common-eq0.true c.gcd_of_all-common.ensures.common)
