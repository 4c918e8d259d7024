-- What an elimination of the system of a marking answers: a solution is a positive weight that gives the marks, and multipliers
-- show that there is none. The system's laws stand in gf_facets_theory.
-- To cite: realised_beside, realisable_beside, rows_beside, answer_beside, step_beside; answer_alone, inconsistent_alone, answers_alone, weight_refused_alone;
-- found_beside,
-- refused_beside, step_refused_beside; step_refused, found_gives, found_realisable, found_inconsistent, weight_yes, weight_no. The rest are steps.
use Rattle.std.specs.Prelude.{◌≡◌, ◌↔◌, ℕ, ◌+◌, true, false, List, [], ◌∷◌, ◌++◌, length, ℤ, pos, ◌<ℤ◌, Contains, IsTrue, Result, Ok, Err, IfOk}
use Rattle.std.proofs.Common.{arith, refl, sym, subst}
use Rattle.std.proofs.lemmas.List.Elements.{All-nil, All-append, All-contains, Contains-append_left, Contains-append_right}
use Rattle.gf_int_theory.proofs.ListLaws.{all_by}
use Rattle.gf_vec.specs.Vector.{dot}
use Rattle.gf_gordan.specs.Alternative.{AreRows, IsSolution, IsFarkas, GordansAlternative}
use Rattle.gf_gordan.specs.Answers.{IsAlternative}
use Rattle.gf_gordan.specs.declared.answer.Answer.{Answer}
use Rattle.gf_gordan.specs.declared.answer.Answer.TheVariants.{Point, Farkas}
use Rattle.gf_gordan.specs.Equations.{IsStepOn}
use Rattle.gf_gordan.specs.Steps.{Failed}
use Rattle.gf_gordan.specs.declared.error.GordanError.{GordanError}
use Rattle.gf_gordan.specs.declared.error.GordanError.TheVariants.{Cone, Memory}
use Rattle.gf_poly.specs.Marking.{MarkedPolynomial, MarkedPolynomials, Each, HaveVariables, HasMarkedTerm}
use Rattle.gf_ideal_theory.specs.Marks.{IsRealisable}
use Rattle.gf_facets_theory.specs.Rows.{rows_of_polynomials}
use Rattle.gf_facets_theory.specs.Systems.{units, system_of}
use Rattle.gf_facets_theory.specs.Regions.{IsInRegion}
use Rattle.gf_facets_theory.specs.Facets.{IsInOpenCone}
use Rattle.gf_facets_theory.specs.MarkedBases.{AreCanonical}
use Rattle.gf_facets_theory.proofs.ConeLaws.{rows_open, open_by_rows}
use Rattle.gf_facets_theory.proofs.SystemLaws.{region_rows_wide, rows_of_region, region_of_rows, canonical_all, marked_system_wide, whole_of, whole-in_region}
use Rattle.gf_facets_theory.proofs.SystemLaws.{open_of_weight, realisable_of_solution}
use Rattle.gf_reduced.specs.Markings.{GivesMarks, IsInconsistent, IsWeightAnswer, IsMarkingStep, cut_by, system_beside, IsRealisableBeside}
use Rattle.gf_reduced.specs.Markings.{IsInconsistentBeside, IsAnswerBeside, IsStepBeside}
use Rattle.gf_reduced.specs.Refusals.{check_of_gordan, IsSetWeightRefusal, IsWeightRefusalBeside}
use Rattle.gf_reduced.specs.declared.error.CheckError.{CheckError}
use Rattle.gf_reduced.specs.declared.error.CheckError.TheVariants as check_errors

-- ---- the system with other rows beside

module _ (n : ℕ) (beside : List (List ℤ)) (bs : List MarkedPolynomial) (h : HaveVariables n bs) (m : Each HasMarkedTerm bs) where
  canonical : AreCanonical n bs
  canonical = canonical_all n bs h m

  wide : AreRows n beside → AreRows n (system_beside n beside bs)
  wide w = All-append (λ t. length t ≡ n) (rows_of_polynomials bs) (beside ++ units n n)
      (all_by (λ t. length t ≡ n) (rows_of_polynomials bs) (λ t c. All-contains (λ t. length t ≡ n) (system_of n bs) t (marked_system_wide n bs h m)
      (Contains-append_left (rows_of_polynomials bs) (units n n) t c)))
      (region_rows_wide n (cut_by beside) w)

  -- its solutions are the vectors on which the rows are positive and that give the marks
  solution : (v : List ℤ) → IsInRegion n (cut_by beside) v → IsInOpenCone v bs → IsSolution n (system_beside n beside bs) [] v
  solution v r o = record {
    width = r.width;
    positive = All-append (λ t. pos 0 <ℤ dot t v) (rows_of_polynomials bs) (beside ++ units n n)
        (all_by (λ t. pos 0 <ℤ dot t v) (rows_of_polynomials bs) (rows_open n bs v canonical o)) (rows_of_region n (cut_by beside) v r);
    zero = All-nil (λ t. dot t v ≡ pos 0);
  }

  inside : (v : List ℤ) → IsSolution n (system_beside n beside bs) [] v → IsInRegion n (cut_by beside) v × IsInOpenCone v bs
  inside v s = (
    region_of_rows n (cut_by beside) v s.width (all_by (λ t. pos 0 <ℤ dot t v) (beside ++ units n n)
        (λ t c. row t (Contains-append_right (rows_of_polynomials bs) (beside ++ units n n) t c))),
    open_by_rows n bs v canonical (λ t c. row t (Contains-append_left (rows_of_polynomials bs) (beside ++ units n n) t c)),
  )
    where
      row : (t : List ℤ) → Contains (system_beside n beside bs) t → pos 0 <ℤ dot t v
      row t c = All-contains (λ t. pos 0 <ℤ dot t v) (system_beside n beside bs) t s.positive c

  pub rows_beside : (k : ℕ) (all : List (List ℤ)) → k ≡ n → AreRows n beside → all ≡ system_beside n beside bs → AreRows k all
  rows_beside k all q w e = subst (λ (j : ℕ). AreRows j all) (sym q) (subst (AreRows n) (sym e) (wide w))

  pub answer_beside : (k : ℕ) (all : List (List ℤ)) (a : Answer) → GordansAlternative → AreRows n beside → all ≡ system_beside n beside bs → k ≡ n →
      IsAlternative k all [] a → IsAnswerBeside n beside bs a
  answer_beside k all (Point v) g w e q p = inside v (subst (λ (r : List (List ℤ)). IsSolution n r [] v) e (subst (λ (j : ℕ). IsSolution j all [] v) q p))
  answer_beside k all (Farkas ms es) g w e q p = record {
    multipliers = subst (IsFarkas n (system_beside n beside bs) [] ms) (no_multipliers es f.equations_len) f;
    none = λ r. g.not_both n (system_beside n beside bs) [] (wide w) (All-nil (λ t. length t ≡ n)) (r.weight, solution r.weight r.inside r.marks) (ms, es, f);
  }
    where
      f : IsFarkas n (system_beside n beside bs) [] ms es
      f = subst (λ (r : List (List ℤ)). IsFarkas n r [] ms es) e (subst (λ (j : ℕ). IsFarkas j all [] ms es) q p)

      no_multipliers : (es : List ℤ) → length es ≡ 0 → es ≡ []
      no_multipliers [] e = refl
      no_multipliers (x ∷ es) e = absurd (omega (arith, e))

-- a weight on which other rows are positive is one
pub realised_beside : (n : ℕ) (beside : List (List ℤ)) (bs : List MarkedPolynomial) → HaveVariables n bs → Each HasMarkedTerm bs →
    IsRealisableBeside n beside bs → IsRealisable n bs
realised_beside n beside bs h m r =
    realisable_of_solution n bs r.weight h m (solution n [] bs h m r.weight (record {
      width = r.inside.width;
      positive = r.inside.positive;
      rows = All-nil (λ c. pos 0 <ℤ dot c r.weight);
    }) r.marks)

-- and each weight is one on which no rows are positive
pub realisable_beside : (n : ℕ) (bs : List MarkedPolynomial) → HaveVariables n bs → Each HasMarkedTerm bs → IsRealisable n bs → IsRealisableBeside n [] bs
realisable_beside n bs h m r =
    let v = whole_of n r.0 in
    let i = whole-in_region n r.0 r.1 in
    record {
      weight = v;
      inside = record { width = i.width; positive = i.positive; rows = All-nil (λ c. pos 0 <ℤ dot c v) };
      marks = open_of_weight n r.0 bs (canonical_all n bs h m) r.2;
    }

pub step_beside : (n k : ℕ) (beside : List (List ℤ)) (bs : List MarkedPolynomial) (all : List (List ℤ)) (e : GordanError) → all ≡ system_beside n beside bs →
    k ≡ n → Failed (IsStepOn (length all + 0) k all []) e → Failed (IsStepBeside n beside bs) e
step_beside n k beside bs all (Cone s) e q h =
    let l : length all + 0 ≡ length all = omega arith in
    subst (λ (r : List (List ℤ)). IsStepOn (length r) n r [] s) e (subst (λ (j : ℕ). IsStepOn (length all) j all [] s) q
    (subst (λ (a : ℕ). IsStepOn a k all [] s) l h))
step_beside n k beside bs all Memory e q h = tt

-- ---- the system alone

pub inconsistent_alone : (n : ℕ) (bs : List MarkedPolynomial) (ms : List ℤ) → HaveVariables n bs → Each HasMarkedTerm bs → IsInconsistentBeside n [] bs ms →
    IsInconsistent n bs ms
inconsistent_alone n bs ms h m i = record { multipliers = i.multipliers; none = λ r. i.none (realisable_beside n bs h m r) }

pub answer_alone : (n : ℕ) (bs : List MarkedPolynomial) (a : Answer) → HaveVariables n bs → Each HasMarkedTerm bs → IsAnswerBeside n [] bs a →
    IsWeightAnswer n bs a
answer_alone n bs (Point v) h m q = (
  record { width = q.0.width; positive = q.0.positive; marks = q.1 },
  realised_beside n [] bs h m (record { weight = v; inside = q.0; marks = q.1 }),
)
answer_alone n bs (Farkas ms es) h m q = inconsistent_alone n bs ms h m q

pub answers_alone : {E : Type 0} (n : ℕ) (bs : List MarkedPolynomial) (r : Result Answer E) → HaveVariables n bs → IfOk r (IsAnswerBeside n [] bs) →
    IfOk r (λ _. Each HasMarkedTerm bs) → IfOk r (IsWeightAnswer n bs)
answers_alone n bs (Ok a) h p m = answer_alone n bs a h m p
answers_alone n bs (Err e) h p m = p

-- ---- as a refusal of the checks, with rows beside

pub step_refused_beside : (beside : List (List ℤ)) (k : ℕ) (s : MarkedPolynomials) (e : GordanError) → Failed (IsStepBeside s.variables beside s.items) e →
    IsWeightRefusalBeside beside k s (check_of_gordan e)
step_refused_beside beside k s (Cone o) h = h
step_refused_beside beside k s Memory h = tt

pub found_beside : (n : ℕ) (beside : List (List ℤ)) (bs : List MarkedPolynomial) (a : Answer) (v : List ℤ) → a ≡ Point v → IsAnswerBeside n beside bs a →
    IsRealisableBeside n beside bs
found_beside n beside bs a v e h = let q = subst (IsAnswerBeside n beside bs) e h in record { weight = v; inside = q.0; marks = q.1 }

pub refused_beside : (n : ℕ) (beside : List (List ℤ)) (bs : List MarkedPolynomial) (a : Answer) (ms es : List ℤ) → a ≡ Farkas ms es →
    IsAnswerBeside n beside bs a → IsInconsistentBeside n beside bs ms
refused_beside n beside bs a ms es e h = subst (IsAnswerBeside n beside bs) e h

pub weight_refused_alone : (k : ℕ) (s : MarkedPolynomials) (e : CheckError) → HaveVariables s.variables s.items → Each HasMarkedTerm s.items →
    IsWeightRefusalBeside [] k s e → IsSetWeightRefusal k s e
weight_refused_alone k s (check_errors.Overflow o) h m r = absurd r
weight_refused_alone k s (check_errors.Exponent o) h m r = absurd r
weight_refused_alone k s (check_errors.NotReduced set i x) h m r = absurd r
weight_refused_alone k s (check_errors.NotBasis set i j t) h m r = absurd r
weight_refused_alone k s (check_errors.Inconsistent set ms) h m r = (r.0, inconsistent_alone s.variables s.items ms h m r.1)
weight_refused_alone k s (check_errors.Cone o) h m r = r
weight_refused_alone k s check_errors.Memory h m r = tt

-- ---- as a refusal of the checks

pub step_refused : (k : ℕ) (s : MarkedPolynomials) (e : GordanError) → Failed (IsMarkingStep s.variables s.items) e → IsSetWeightRefusal k s (check_of_gordan e)
step_refused k s (Cone o) h = h
step_refused k s Memory h = tt

-- ---- what an answer says

pub found_gives : (n : ℕ) (bs : List MarkedPolynomial) (a : Answer) (v : List ℤ) → a ≡ Point v → IsWeightAnswer n bs a → GivesMarks n bs v
found_gives n bs a v e h = (subst (IsWeightAnswer n bs) e h).0

pub found_realisable : (n : ℕ) (bs : List MarkedPolynomial) (a : Answer) (v : List ℤ) → a ≡ Point v → IsWeightAnswer n bs a → IsRealisable n bs
found_realisable n bs a v e h = (subst (IsWeightAnswer n bs) e h).1

pub found_inconsistent : (n : ℕ) (bs : List MarkedPolynomial) (a : Answer) (ms es : List ℤ) → a ≡ Farkas ms es → IsWeightAnswer n bs a → IsInconsistent n bs ms
found_inconsistent n bs a ms es e h = subst (IsWeightAnswer n bs) e h

pub weight_yes : (n : ℕ) (bs : List MarkedPolynomial) (a : Answer) (v : List ℤ) → a ≡ Point v → IsWeightAnswer n bs a → IsTrue true ↔ IsRealisable n bs
weight_yes n bs a v e h = (λ t. found_realisable n bs a v e h, λ r. refl)

pub weight_no : (n : ℕ) (bs : List MarkedPolynomial) (a : Answer) (ms es : List ℤ) → a ≡ Farkas ms es → IsWeightAnswer n bs a → IsTrue false ↔ IsRealisable n bs
weight_no n bs a ms es e h = (λ t. absurd (cc), λ r. absurd ((found_inconsistent n bs a ms es e h).none r))
