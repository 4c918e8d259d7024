use Rattle.std.proofs.Common.{[]}
use Rattle.gf_items.specs.Kinds.{items_from}
use Rattle.gf_items.proofs.ReadingLaws.{source_once}
use Rattle.gf_items.proofs.KindLaws.{items_once}
use Rattle.gf_items.proofs.laws.sources_are_read_once.Goals as goal

pub returns-clause-items : goal.returns-clause-items
returns-clause-items c = items_once

pub returns-clause-sources : goal.returns-clause-sources
returns-clause-sources c = λ k ks source. source_once (items_from k ks) (items_once k ks []) source
