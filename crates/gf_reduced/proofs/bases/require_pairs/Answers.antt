use Rattle.std.specs.Prelude.{IfNone}
use Rattle.std.specs.declared.option.Option.{Option}
use Rattle.std.proofs.Common.{subst}
use Rattle.gf_reduced.specs.declared.pairs.FailingPair.{FailingPair}
use Rattle.gf_reduced.specs.Pairs.{DoAllVanish}
use Rattle.gf_reduced.proofs.CriteriaLaws.{vanish_passed}
use Rattle.gf_reduced.proofs.bases.require_pairs.Goals as goal

pub returns-in-None-clause-ok : goal.returns-in-None-clause-ok
returns-in-None-clause-ok c =
    vanish_passed c.args.by.now (subst (λ (o : Option FailingPair). IfNone o (DoAllVanish c.args.by.now)) c.in-None.is c.in_ok-first_failing.ensures.none)
