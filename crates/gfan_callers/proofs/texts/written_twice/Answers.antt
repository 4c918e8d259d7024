use Rattle.std.proofs.Common.{false, [], ◌∷◌, refl}
use Rattle.gfan_lists.specs.Ways.{ways_by}
use Rattle.gfan_lists.proofs.PastLaws.{one_list_text}
use Rattle.gfan_callers.proofs.WrittenLaws.{some_of}
use Rattle.gfan_callers.proofs.texts.written_twice.Goals as goal

pub returns : goal.returns
returns g c = λ from_basis options workers others asked also.
    one_list_text (ways_by from_basis false false) _ _ options options (c.args.input.now ∷ []) c.in-Some.first.items c.in-Some-2.second.items refl
    (some_of _ _ _ c.in_ok-first.ensures c.in-Some.is from_basis options workers asked)
    (some_of _ _ _ c.in_ok-second.ensures c.in-Some-2.is from_basis options others also)
