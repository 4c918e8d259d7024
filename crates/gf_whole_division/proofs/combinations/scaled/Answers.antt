use Rattle.std.proofs.Common.{refl}
use Rattle.gf_whole_division.proofs.CombinationLaws.{scaled_total}
use Rattle.std.proofs.lemmas.Result.{IfOk-weaker}
use Rattle.gf_frac.specs.Fraction.{whole}
use Rattle.gf_whole_division.proofs.combinations.scaled.Goals as goal

pub returns : goal.returns
returns c =
    IfOk-weaker c.joined.result _ _
    (λ h. scaled_total (whole c.args.by.now) (record { above = c.in_ok-with_capacity.field-0; below = c.args.terms }) c.finish.new.self c.args.terms.items
    h.items c.in_ok-with_capacity.ensures.items refl c.in_ok-finish.ensures) c.joined.ensures
