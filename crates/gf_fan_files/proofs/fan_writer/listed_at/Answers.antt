use Rattle.gf_fan_files.proofs.FanPartsLaws.{listed_more}
use Rattle.gf_fan_files.proofs.fan_writer.listed_at.Goals as goal

pub places-preserved : goal.places-preserved
places-preserved c =
    listed_more c.args.cones.now c.args.places.now c.places.place-index c.index-cones-place.result c.in_ok-listed.listed c.places.out.items
    c.push.new.self.items c.places-test.true
    (c.requires c.places.place-index 0 c.places-test.true) c.index-cones-place.is c.in_ok-listed.ensures c.in_ok-push.ensures.items c.places.invariant
