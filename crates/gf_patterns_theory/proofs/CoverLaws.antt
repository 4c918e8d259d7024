-- Two lists of cones with the same faces: what holds of the faces of the one holds of those of the other.
use Rattle.std.proofs.Common.{ℕ, List, ℤ}
use Rattle.gf_gordan.specs.Alternative.{GordansAlternative}
use Rattle.gf_duality_theory.specs.Faces.{Rows}
use Rattle.gf_patterns_theory.specs.Refinements.{HaveEntries, IsCommonRefinement, HaveSameFaces, IsCoveredBy}
use Rattle.gf_patterns_theory.specs.Patterns.{ArePatternCones}
use Rattle.gf_patterns_theory.proofs.NestedFaces.{face_of_same, face_of_face}
use Rattle.gf_patterns_theory.proofs.PatternFanLaws.{interiors}

pub covered_same : (n : ℕ) (cs ms : List Rows) → GordansAlternative → HaveEntries n cs → HaveEntries n ms → IsCoveredBy n cs ms → HaveSameFaces n cs ms
covered_same n cs ms g wc wm k f = (
  (λ x.
      let i = interiors n cs g wc f x in let m = k.each x.cone x.listed in
      record { cone = m.0; listed = m.1.0; face = face_of_face n m.0 x.cone f i.0 i.1 m.1.1 x.face }),
  (λ x.
      let i = interiors n ms g wm f x in let c = k.some x.cone x.listed in
      record { cone = c.0; listed = c.1.0; face = face_of_same n x.cone c.0 f i.0 c.1.1 i.1 x.face }),
)

pub patterns_same : (Admitted : List (List (List ℤ)) → List ℤ → Type 0) (n : ℕ) (As : List (List (List ℤ))) (cs ds : List Rows) → HaveSameFaces n cs ds →
    ArePatternCones Admitted n As cs → ArePatternCones Admitted n As ds
patterns_same Admitted n As cs ds e p = record {
  each = λ f k. p.each f ((e f).1 k);
  every = λ w lw h. let r = p.every w lw h in (r.0, ((e r.0).0 r.1.0, r.1.1));
}

-- a common refinement, by other lists of the same fans
pub refinement_same : (n : ℕ) (as_cs cs as_ds ds as_es es : List Rows) → HaveSameFaces n as_cs cs → HaveSameFaces n as_ds ds → HaveSameFaces n as_es es →
    IsCommonRefinement n as_cs as_ds as_es → IsCommonRefinement n cs ds es
refinement_same n as_cs cs as_ds ds as_es es p q r common f = (
  (λ k. let m = (common f).0 ((r f).1 k) in record {
    first = m.first;
    second = m.second;
    of_first = (p m.first).0 m.of_first;
    of_second = (q m.second).0 m.of_second;
    same = m.same;
  }),
  (λ m. (r f).0 ((common f).1 (record {
    first = m.first;
    second = m.second;
    of_first = (p m.first).1 m.of_first;
    of_second = (q m.second).1 m.of_second;
    same = m.same;
  }))),
)
