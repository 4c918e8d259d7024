use Rattle.std.proofs.Common.{[], ◌∷◌, refl, inl}
use Rattle.gf_front.specs.declared.command_line.Job.TheVariants as jobs
use Rattle.gf_frame.specs.Commands.{IsRefusedAtOnce}
use Rattle.gfan_callers.proofs.runs.refined_in_order.Goals as goal

pub returns : goal.returns
returns g c = λ first second a b refusal asked held opened read bad.
    c.run.ensures.follows.exact (jobs.FanCommonRefinement (record { first = first; second = second })) (a ∷ (b ∷ [])) refusal asked
    (record {
      known = ((held.is_first, opened, read), ((held.is_second, opened, read), tt));
      short = (held.first_short, (held.second_short, tt));
    }) (IsRefusedAtOnce.in_form (a, b) refl (inl bad))
