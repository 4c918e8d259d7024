use Rattle.gf_fan.proofs.FoundLaws.{placed_as}
use Rattle.gf_fan.proofs.faces.found_of.Goals as goal

pub returns : goal.returns
returns c = placed_as c.args.origin c.args.table.now c.args.face.now c.as_slice.result.now c.in_ok-renumbered.field-0 c.in_ok-copy.field-0 c.as_slice.ensures
    c.in_ok-renumbered.ensures c.in_ok-copy.ensures
