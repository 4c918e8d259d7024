use Rattle.std.specs.Int.{w32, w64}
use Rattle.std.proofs.Common.{arith, FitsSigned, to_z, ap, ◌∙◌, ◌^◌, of_z, ◌≡◌}
use Rattle.std.proofs.lemmas.Int.{to_z-of_z}
use Rattle.gf_strands.proofs.AlongLaws.{term_added, term_off}
use Rattle.gf_strands.proofs.MultipleLaws.{kept}
use Rattle.gf_strands.proofs.along.add_term.Goals as goal

pub returns-in-Ok : goal.returns-in-Ok
returns-in-Ok c = term_added c.args.normal.now c.args.head.now c.args.t.now c.exponents.result.now c.exponents-2.result.now _ _ c.args.points.now.items
    c.add_point.new.work.items c.add_point.result
    c.exponents.ensures.value c.exponents-2.ensures.value whole c.in-Some.ensures.some c.add_point.ensures.added c.add_point.ensures.falling
  where
    whole : to_z w32 (of_z w32 c.in-Ok.k) ≡ c.in-Some.k
    whole =
        let f : FitsSigned w32 (to_z w64 (of_z w64 c.in-Some.k)) = c.in-Ok.ensures.0 in
        ap (λ z. to_z w32 (of_z w32 z)) c.in-Ok.ensures.1 ∙ to_z-of_z w32 (to_z w64 (of_z w64 c.in-Some.k)) f ∙ kept c.in-Some.k (2 ^ 32)
        c.in-Some.ensures.bound (omega arith)

pub returns-in-None : goal.returns-in-None
returns-in-None c = term_off c.args.normal.now c.args.head.now c.args.t.now c.exponents.result.now c.exponents-2.result.now c.args.points.now.items
    c.exponents.ensures.value c.exponents-2.ensures.value c.in-None.ensures.none
