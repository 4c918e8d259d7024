use Rattle.gf_lifts.proofs.tails.fresh_of.Goals as goal

pub returns : goal.returns
returns c = record { front = c.copied_front.ensures.copied; back = c.copied_back.ensures.copied; within = c.copied_back.ensures.within }
