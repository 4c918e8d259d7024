use Rattle.std.proofs.Common.{rules, ◌≡◌, length, ◌∙◌}
use Rattle.gf_vec.proofs.vector.IntVec.add.Goals as goal
use Rattle.std.proofs.lemmas.List.{take_at}

pub returns-clause-ok : goal.returns-clause-ok
returns-clause-ok c =
    let len : length c.add_onto.new.xs ≡ c.entries.inside.entries.len = search rules in
    let ex : c.as_mut_slice.result.now ≡ c.args.self.now = c.as_mut_slice.ensures.value ∙ c.entries.view_is ∙ c.in_ok-entries.ensures in
    let ey : c.deref.result.now ≡ c.args.other.now = c.deref.ensures.value ∙ c.other.view_is in
    rw (← ex, ← ey) (take_at c.add_onto.new.xs _ _ len ∙ c.in_ok-add_onto.ensures.ok, c.in_ok-add_onto.ensures.none)
