-- The fan of polynomials, cut by one more.
use Rattle.std.proofs.Common.{ℕ, List, [], ◌∷◌, ◌++◌, ℤ}
use Rattle.gf_gordan.specs.Alternative.{GordansAlternative}
use Rattle.gf_duality_theory.specs.Faces.{Rows}
use Rattle.gf_fans_theory.proofs.Meeting.{left_in, right_in}
use Rattle.gf_fans_theory.proofs.FanLaws.{both_in}
use Rattle.gf_patterns_theory.specs.Refinements.{HaveEntries}
use Rattle.gf_patterns_theory.specs.Patterns.{HavePoints}
use Rattle.gf_patterns_theory.specs.PatternFans.{IsFanOfPatterns}
use Rattle.gf_patterns_theory.specs.Cuts.{AreCuts}
use Rattle.gf_patterns_theory.proofs.CutLaws.{cuts_fan, cuts_refine}
use Rattle.gf_patterns_theory.proofs.PatternLaws.{IsAdmission, refined_patterns}
use Rattle.gf_patterns_theory.proofs.PatternFanLaws.{interiors}
use Rattle.gf_levels_theory.specs.declared.members.Members.{Members}
use Rattle.gf_levels_theory.specs.Levels.{IsLevel}
use Rattle.gf_levels_theory.proofs.VertexPoints.{AreConesOver}

-- a level by some points is the cuts by cones of all points
cuts_over : (members : Members) (n : ℕ) (B : List (List ℤ)) (cs ds ps : List Rows) → AreConesOver members n B ds → IsLevel members n B cs ps →
    AreCuts n cs ds ps
cuts_over members n B cs ds ps o level = record {
  each = λ p k.
      let c = level.each p k in
      let d = o.from c.second c.of_second in
      record {
        first = c.first;
        second = d.0;
        of_first = c.of_first;
        of_second = d.1.0;
        same = λ v lv. (
          (λ i. let r = (c.same v lv).0 i in both_in c.first d.0 v (left_in c.first c.second v r) ((d.1.1 v lv).1 (right_in c.first c.second v r))),
          (λ i. (c.same v lv).1 (both_in c.first c.second v (left_in c.first d.0 v i) ((d.1.1 v lv).0 (right_in c.first d.0 v i)))),
        );
      };
  every = λ c d kc kd.
      let e = o.to d kd in
      let r = level.every c e.0 kc e.1.0 in
      (r.0, (r.1.0, λ v lv i. r.1.1 v lv (both_in c e.0 v (left_in c d v i) ((e.1.1 v lv).0 (right_in c d v i)))));
}

pub fan_next : (Admitted : List (List (List ℤ)) → List ℤ → Type 0) (members : Members) (n : ℕ) (As : List (List (List ℤ))) (A B : List (List ℤ))
    (cs ds ps : List Rows) → GordansAlternative → IsAdmission Admitted → IsFanOfPatterns Admitted n (A ∷ []) ds → AreConesOver members n B ds →
    HaveEntries n ps → HavePoints As → HavePoints (A ∷ []) → IsFanOfPatterns Admitted n As cs → IsLevel members n B cs ps →
    IsFanOfPatterns Admitted n (As ++ A ∷ []) ps
fan_next Admitted members n As A B cs ds ps gordan admission own over wide some more f level =
    let k = cuts_over members n B cs ds ps over level in
    record {
      width = wide;
      fan = cuts_fan n cs ds ps gordan f.width own.width f.fan own.fan k;
      patterns = refined_patterns Admitted n As (A ∷ []) cs ds ps admission some more f.patterns own.patterns
          (cuts_refine n cs ds ps gordan f.width own.width wide f.fan own.fan k) (interiors n ps gordan wide);
    }
