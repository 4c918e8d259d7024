use Rattle.std.proofs.Common.{◌∙◌, sym, ap, length, List, Bool}
use Rattle.gf_rays.proofs.FlagLaws.{flags_long}
use Rattle.gf_rays.proofs.flags.Flags.len.Goals as goal

pub returns : goal.returns
returns c = sym (flags_long c.self.inside.words.items c.self.inside.count) ∙ ap (λ (l : List Bool). length l) c.self.view_is
