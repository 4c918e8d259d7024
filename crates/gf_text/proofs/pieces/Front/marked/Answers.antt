use Rattle.std.proofs.Common.{subst}
use Rattle.gf_text.specs.Combining.{IsPlaceOf}
use Rattle.gf_text.proofs.CombiningLaws.{within_by}
use Rattle.gf_text.proofs.PiecesLaws.{marked_first}
use Rattle.gf_text.proofs.pieces.Front.marked.Goals as goal

pub mark-requires : goal.mark-requires
mark-requires c =
    let found = subst (λ g. IsPlaceOf g c.args.self.first c.in-Some.place) c.terms.ensures.value c.in-Some.ensures in
    within_by c.args.self.poly c.in-Some.place found.term found.stands

pub returns-in-Some : goal.returns-in-Some
returns-in-Some c = λ n f s.
    let found = subst (λ g. IsPlaceOf g c.args.self.first c.in-Some.place) c.terms.ensures.value c.in-Some.ensures in
    rw c.mark.ensures (marked_first n f c.args.self c.in-Some.place found s)
