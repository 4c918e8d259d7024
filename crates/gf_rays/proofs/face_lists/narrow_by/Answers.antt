use Rattle.gf_rays.proofs.FlagFaceLaws.{faces_inside, faces_further}
use Rattle.gf_rays.proofs.face_lists.narrow_by.Goals as goal

pub narrow_all-requires-clause-numbers : goal.narrow_all-requires-clause-numbers
narrow_all-requires-clause-numbers c = faces_inside c.args.k c.args.rays.now c.args.parts.now.keys c.requires.faces

pub returns : goal.returns
returns c = faces_further c.args.k c.args.rays.now c.args.parts.now.keys _ c.requires.faces c.in_ok-narrow_all.ensures
