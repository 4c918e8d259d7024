use Rattle.gfan_common.proofs.RefusedLaws.{written_as_far}
use Rattle.gfan_common.proofs.refused.Refused.tell.Goals as goal

pub tell-requires : goal.tell-requires
tell-requires g c = c.requires c.as_ref.result c.as_ref.ensures.value

pub returns : goal.returns
returns g c =
    written_as_far _ _ _ _ c.tell.result c.as_ref.result c.args.self.now.ring c.args.self.now.refusal c.as_ref.ensures.value c.tell.ensures.part
    c.tell.ensures.all
    c.tell.ensures.fault
