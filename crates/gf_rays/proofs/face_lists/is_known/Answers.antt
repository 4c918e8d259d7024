use Rattle.std.proofs.Common.{sym}
use Rattle.gf_rays.proofs.FlagFaceLaws.{known_further, first_inside}
use Rattle.gf_rays.proofs.HeightLaws.{number_there}
use Rattle.gf_rays.proofs.face_lists.is_known.Goals as goal

pub narrowed-requires-clause-numbers : goal.narrowed-requires-clause-numbers
narrowed-requires-clause-numbers c = first_inside c.args.rays.now c.args.whole.now c.requires.whole

pub returns-in-Some : goal.returns-in-Some
returns-in-Some c = λ t a. known_further c.args.k c.args.rays.now c.args.whole.now c.in_ok-less.less c.args.parts.now.keys c.requires.whole c.in_ok-less.ensures
    (number_there c.args.parts.now.keys c.in_ok-less.less c.in-Some.field-0 (sym c.in-Some.ensures.index)) a
