use Rattle.gf_cone.proofs.SmallLaws.{small_for_sign}
use Rattle.gf_cone.proofs.CrossingLaws.{negative_told, not_negative_told, small_read, width_read}
use Rattle.gf_known_cone.proofs.known.KnownCone.is_negative.Goals as goal

pub sign-requires-clause-small : goal.sign-requires-clause-small
sign-requires-clause-small c = small_for_sign c.index-normals-index.result
    (small_read c.args.self.now c.normals.result.now c.args.index c.index-normals-index.result c.normals.ensures.value c.normals.ensures.small
    c.requires.index c.index-normals-index.is)

pub sign-requires-clause-width : goal.sign-requires-clause-width
sign-requires-clause-width c =
    width_read c.args.self.now c.normals.result.now c.args.index c.index-normals-index.result _ c.normals.ensures.value c.normals.ensures.widths
    c.requires.index c.index-normals-index.is c.requires.width

pub returns-in-Less : goal.returns-in-Less
returns-in-Less c =
    negative_told _ c.args.self.now c.normals.result.now c.args.index c.index-normals-index.result c.sign.result c.normals.ensures.value
    c.requires.index c.index-normals-index.is c.sign.ensures.negative c.in-Less.is

pub returns-in_default : goal.returns-in_default
returns-in_default c =
    not_negative_told _ c.args.self.now c.normals.result.now c.args.index c.index-normals-index.result c.sign.result c.normals.ensures.value
    c.requires.index c.index-normals-index.is c.sign.ensures.negative c.in_default.not-Less
