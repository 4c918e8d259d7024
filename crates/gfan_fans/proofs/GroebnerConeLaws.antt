-- What `_groebnercone` answers, and why it doesn't.
-- To cite: told_normals, untold_normals; cone_told, cone_refused, named_cone; space_unanswered, inequality_unanswered, equation_unanswered,
-- vectors_unanswered, vectors_answered, vectors_refused, vectors_told; cone_lawful, cone_source, cone_once. The rest are steps.
use Rattle.std.specs.Prelude.{◌≡◌, ◌⊎◌, ℕ, ◌≤◌, Bool, true, false, List, [], ◌∷◌, ◌++◌, Some, Err, ℤ}
use Rattle.std.proofs.Common.{refl, sym, ap, ◌∙◌, subst, inl, inr, length}
use Rattle.gf_poly.specs.Marking.{MarkedPolynomials, HaveVariables}
use Rattle.gf_gordan.specs.Alternative.{AreRows}
use Rattle.std.proofs.lemmas.List.Elements.{All-append}
use Rattle.gf_int_theory.proofs.ListLaws.{all_by}
use Rattle.gf_facets_theory.proofs.UnitLaws.{units_wide}
use Rattle.gf_facets_theory.specs.Regions.{all_positive}
use Rattle.gf_facets_theory.specs.Systems.{units}
use Rattle.gf_cone.specs.Cones.{ConeRows, IsConeOf}
use Rattle.gf_reduced.specs.Markings.{IsMarkedGroebnerBasis}
use Rattle.gf_reduced.specs.Terms.{AreReduced}
use Rattle.gf_reduced.proofs.RefusalLaws.{reduced_only_memory}
use Rattle.gf_front.specs.declared.options.GroebnerConeOptions.{GroebnerConeOptions}
use Rattle.gf_front.specs.declared.refusal.Refusal.{Refusal}
use Rattle.gf_front.specs.declared.refusal.Refusal.TheVariants as refusals
use Rattle.gf_items.specs.Items.{IsTextOf, from}
use Rattle.gf_items.specs.Kinds.{a_marked_set, dimension, vector_list}
use Rattle.gf_items.specs.Sources.{ring_marked_set, dimension_two_lists}
use Rattle.gf_items.specs.Checks.{FirstFails}
use Rattle.gf_items.specs.Refusals.{IsOfTest, IsOfNumbers, TellsSame, IsOfWork}
use Rattle.gf_frame.specs.Loading.{Origin}
use Rattle.gf_frame.specs.Commands.{WritesOnce, IsAnswerFor, IsAnswered, IsUnanswered, IsRefusedOn}
use Rattle.gf_items.proofs.KindLaws.{items_once, ring_and_once}
use Rattle.gf_frame.proofs.ReadingLaws.{one_once, of_one_text}
use Rattle.gf_frame.proofs.CommandLaws.{IsLawful}
use Rattle.gf_frame.proofs.SoundLaws.{IsExactCommand, IsTestedCommand, untested, sound_lawful}
use Rattle.gfan_common.specs.CheckedSets.{of_check}
use Rattle.gfan_common.specs.ToolForms.{IsSpaceRefusal, for_each}
use Rattle.gfan_fans.specs.GroebnerCone.{IsBasisConeText, IsBasisConeCause, IsBasisConeWithin, cone_command, groebner_cone_command}
use Rattle.gfan_fans.specs.ToPolyhedralFan.{inequalities_of}
use Rattle.gfan_fans.specs.ToldCones.{cut_of, IsToldAs, IsUntoldAs, IsUntold}
use Rattle.gfan_common.specs.Refused.{IsNamedBy}
use Rattle.gfan_common.proofs.ReadSetLaws.{read_variables, one_kept}
use Rattle.gfan_common.proofs.CheckedSetLaws.{check_work, check_not_listed, named_reduced, reduced_once, reduced_refutes}
use Rattle.gfan_fans.proofs.ToldConeLaws.{untold_numbers, untold_within}
use Rattle.gfan_common.proofs.ToolFormLaws.{each_joined, first_in_front, first_behind, space_check, each_check}
use Rattle.gfan_common.proofs.CauseLaws.{numbers_work, numbers_untested, numbers_named}

-- ---- a cone that isn't told

untold_of_numbers : (o : GroebnerConeOptions) (n : ℕ) (hs es : List (List ℤ)) (r : Refusal) → IsUntold o n hs es r → IsOfNumbers r
untold_of_numbers o n hs es r h = untold_numbers o.as_fan o.certificates n (inequalities_of o.restricted n hs) es r h

-- ---- the cone of a marked set

-- by its normals, or by its rows
cut_rows : (cut : Bool) (n : ℕ) (c : ConeRows) → c.beside ≡ units n n → cut_of cut c ≡ inequalities_of cut n c.normals
cut_rows false n c p = refl
cut_rows true n c p = ap (λ (us : List (List ℤ)). c.normals ++ us) p

pub told_normals : (o : GroebnerConeOptions) (s : MarkedPolynomials) (c : ConeRows) (n : ℕ) (hs : List (List ℤ)) (text : List ℕ) →
    IsMarkedGroebnerBasis s.variables s.items → AreReduced s.items → IsConeOf s.variables (all_positive s.variables) s.items c → s.variables ≡ n →
    hs ≡ cut_of o.restricted c
    → IsToldAs o.as_fan o.certificates n hs [] text → IsBasisConeText o s text
told_normals o s c n hs text b a k p q h =
    let rows : hs ≡ inequalities_of o.restricted n c.normals = q ∙ cut_rows o.restricted n c (subst (λ m. c.beside ≡ units m m) p k.beside) in
    record {
      basis = b;
      reduced = a;
      normals = c.normals;
      are_normals = k.normals;
      cone = subst (λ m. IsToldAs o.as_fan o.certificates m (inequalities_of o.restricted m c.normals) [] text) (sym p)
          (subst (λ (rs : List (List ℤ)). IsToldAs o.as_fan o.certificates n rs [] text) rows h);
    }

pub untold_normals : (o : GroebnerConeOptions) (s : MarkedPolynomials) (c : ConeRows) (n : ℕ) (hs : List (List ℤ)) (r : Refusal) →
    IsMarkedGroebnerBasis s.variables s.items → AreReduced s.items → IsConeOf s.variables (all_positive s.variables) s.items c → s.variables ≡ n →
    hs ≡ cut_of o.restricted c
    → IsUntoldAs o.as_fan o.certificates n hs [] r → IsBasisConeCause o s r
untold_normals o s c n hs r b a k p q h =
    let rows : hs ≡ inequalities_of o.restricted n c.normals = q ∙ cut_rows o.restricted n c (subst (λ m. c.beside ≡ units m m) p k.beside) in
    IsBasisConeCause.at_cone c.normals b a k.normals (subst (λ m. IsUntoldAs o.as_fan o.certificates m (inequalities_of o.restricted m c.normals) [] r) (sym p)
    (subst (λ (rs : List (List ℤ)). IsUntoldAs o.as_fan o.certificates n rs [] r) rows h))

module _ (o : GroebnerConeOptions) (source : List ℕ) (ring : List (List ℕ)) (s : MarkedPolynomials) (read : IsTextOf ring_marked_set source (ring, s)) where
  pub cone_told : (text : List ℕ) → IsBasisConeText o s text → IsAnswered (cone_command false o) (source ∷ []) text
  cone_told text h = record { value = (ring, s); read = read; answer = record { formed = tt; is_answer = h } }

  pub cone_refused : (r : Refusal) → IsBasisConeCause o s r → IsRefusedOn (cone_command false o) (source ∷ []) r
  cone_refused r h = IsRefusedOn.behind_text (ring, s) read (IsUnanswered.in_work tt h)

  pub named_cone : (r : Refusal) → IsBasisConeCause o s r → IsNamedBy (Some ring) r
  named_cone r (IsBasisConeCause.at_check e h q) =
      subst (IsNamedBy (Some ring)) (sym q) (named_reduced 0 ring s e (one_kept ring (from source read.read.behind) read.end s read.read.two) h)
  named_cone r (IsBasisConeCause.at_cone normals b a n h) = numbers_named (Some ring) r (untold_of_numbers o s.variables normals [] r h)

basis_work : (o : GroebnerConeOptions) (s : MarkedPolynomials) (r : Refusal) → IsBasisConeCause o s r → IsOfWork r
basis_work o s r (IsBasisConeCause.at_check e h q) = subst IsOfWork (sym q) (check_work e)
basis_work o s r (IsBasisConeCause.at_cone normals b a n h) = numbers_work r (untold_of_numbers o s.variables normals [] r h)

basis_within : (o : GroebnerConeOptions) (s : MarkedPolynomials) (r : Refusal) → IsBasisConeWithin o s → IsBasisConeCause o s r → r ≡ refusals.Memory
basis_within o s r w (IsBasisConeCause.at_check e h q) =
    q ∙ ap of_check (reduced_only_memory {A = Unit {0}} 0 s (Err e) w.variables h w.checks w.basis w.reduced)
basis_within o s r w (IsBasisConeCause.at_cone normals b a n h) =
    untold_within o.as_fan o.certificates s.variables (inequalities_of o.restricted s.variables normals) [] r (w.cone normals n) h

basis_once : (o : GroebnerConeOptions) (s : MarkedPolynomials) (r d : Refusal) → HaveVariables s.variables s.items → IsOfTest r → IsBasisConeCause o s r →
    IsBasisConeCause o s d → TellsSame r d ⊎ IsOfNumbers d
basis_once o s r d v t (IsBasisConeCause.at_check e h q) (IsBasisConeCause.at_check f k p) =
    let once = reduced_once 0 s e f v (subst IsOfTest q t) h k in
    subst (λ x. TellsSame r x ⊎ IsOfNumbers x) (sym p) (subst (λ x. TellsSame x (of_check f) ⊎ IsOfNumbers (of_check f)) (sym q) once)
basis_once o s r d v t (IsBasisConeCause.at_check e h q) (IsBasisConeCause.at_cone normals b a n k) = inr (untold_of_numbers o s.variables normals [] d k)
basis_once o s r d v t (IsBasisConeCause.at_cone normals b a n h) k = absurd (numbers_untested r (untold_of_numbers o s.variables normals [] r h) t)

basis_refutes : (o : GroebnerConeOptions) (s : MarkedPolynomials) (r : Refusal) (text : List ℕ) → HaveVariables s.variables s.items → IsOfTest r →
    IsBasisConeCause o s r → IsBasisConeText o s text → ⊥
basis_refutes o s r text v t (IsBasisConeCause.at_check e h q) a = reduced_refutes 0 s e v (subst IsOfTest q t) h a.reduced a.basis
basis_refutes o s r text v t (IsBasisConeCause.at_cone normals b c n h) a = numbers_untested r (untold_of_numbers o s.variables normals [] r h) t

-- ---- the cone of vectors

-- the dimension is 0
pub space_unanswered : (o : GroebnerConeOptions) (n : ℕ) (hs es : List (List ℤ)) (r : Refusal) → IsSpaceRefusal n r →
    IsUnanswered (cone_command true o) (n, (hs, es)) r
space_unanswered o n hs es r h = IsUnanswered.in_form (inl h)

-- an inequality has another number of entries
pub inequality_unanswered : (o : GroebnerConeOptions) (n : ℕ) (hs es : List (List ℤ)) (r : Refusal) → 1 ≤ n → FirstFails (for_each n hs) r →
    IsUnanswered (cone_command true o) (n, (hs, es)) r
inequality_unanswered o n hs es r s h = IsUnanswered.in_form (inr (s, first_in_front n hs es r h))

-- an equation has
pub equation_unanswered : (o : GroebnerConeOptions) (n : ℕ) (hs es : List (List ℤ)) (r : Refusal) → 1 ≤ n → AreRows n hs → FirstFails (for_each n es) r →
    IsUnanswered (cone_command true o) (n, (hs, es)) r
equation_unanswered o n hs es r s w h = IsUnanswered.in_form (inr (s, first_behind n hs es r w h))

pub vectors_unanswered : (o : GroebnerConeOptions) (n : ℕ) (hs rows es : List (List ℤ)) (r : Refusal) → 1 ≤ n → AreRows n hs → AreRows n es →
    rows ≡ inequalities_of o.restricted n hs → IsUntoldAs o.as_fan o.certificates n rows es r
    → IsUnanswered (cone_command true o) (n, (hs, es)) r
vectors_unanswered o n hs rows es r s w u e h =
    IsUnanswered.in_work (s, each_joined n hs es w u) (subst (λ (rs : List (List ℤ)). IsUntoldAs o.as_fan o.certificates n rs es r) e h)

pub vectors_answered : (o : GroebnerConeOptions) (n : ℕ) (hs rows es : List (List ℤ)) (text : List ℕ) → 1 ≤ n → AreRows n hs → AreRows n es →
    rows ≡ inequalities_of o.restricted n hs → IsToldAs o.as_fan o.certificates n rows es text
    → IsAnswerFor (cone_command true o) (n, (hs, es)) text
vectors_answered o n hs rows es text s w u e h = record {
  formed = (s, each_joined n hs es w u);
  is_answer = subst (λ (rs : List (List ℤ)). IsToldAs o.as_fan o.certificates n rs es text) e h;
}

-- the rows have the entries of the space
pub restricted_width : (cut : Bool) (n : ℕ) (hs rows : List (List ℤ)) → rows ≡ inequalities_of cut n hs → AreRows n hs → AreRows n rows
restricted_width false n hs rows e w = subst (AreRows n) (sym e) w
restricted_width true n hs rows e w = subst (AreRows n) (sym e) (All-append (λ (t : List ℤ). length t ≡ n) hs (units n n) w
    (all_by (λ (t : List ℤ). length t ≡ n) (units n n) (units_wide n n)))

-- by what is read
pub vectors_refused : (o : GroebnerConeOptions) (source : List ℕ) (n : ℕ) (hs es given others : List (List ℤ)) (r : Refusal) →
    IsTextOf dimension_two_lists source (n, (hs, es)) → given ≡ hs → others ≡ es → IsUnanswered (cone_command true o) (n, (given, others)) r
    → IsRefusedOn (cone_command true o) (source ∷ []) r
vectors_refused o source n hs es given others r read p q h =
    IsRefusedOn.behind_text (n, (hs, es)) read (subst (λ (xs : List (List ℤ)). IsUnanswered (cone_command true o) (n, (xs, es)) r) p
    (subst (λ (ys : List (List ℤ)). IsUnanswered (cone_command true o) (n, (given, ys)) r) q h))

pub vectors_told : (o : GroebnerConeOptions) (source : List ℕ) (n : ℕ) (hs es given others : List (List ℤ)) (text : List ℕ) →
    IsTextOf dimension_two_lists source (n, (hs, es)) → given ≡ hs → others ≡ es → IsAnswerFor (cone_command true o) (n, (given, others)) text
    → IsAnswered (cone_command true o) (source ∷ []) text
vectors_told o source n hs es given others text read p q h = record {
  value = (n, (hs, es));
  read = read;
  answer = subst (λ (xs : List (List ℤ)). IsAnswerFor (cone_command true o) (n, (xs, es)) text) p
      (subst (λ (ys : List (List ℤ)). IsAnswerFor (cone_command true o) (n, (given, ys)) text) q h);
}

-- ---- its laws

cone_exact : (vector_input : Bool) (o : GroebnerConeOptions) → IsExactCommand (cone_command vector_input o)
cone_exact false o = record {
  reading = one_once _ (ring_and_once a_marked_set []);
  checks = λ texts v h. tt;
  work = λ v r h. basis_work o v.1 r h;
  within = λ v r w h. basis_within o v.1 r w h;
}
cone_exact true o = record {
  reading = one_once _ (items_once dimension (vector_list ∷ vector_list ∷ []) []);
  checks = λ texts v h. (space_check v.0, each_check v.0 (v.1.0 ++ v.1.1));
  work = λ v r h. numbers_work r (untold_of_numbers o v.0 v.1.0 v.1.1 r h);
  within = λ v r w h. untold_within o.as_fan o.certificates v.0 (inequalities_of o.restricted v.0 v.1.0) v.1.1 r w h;
}

cone_tested : (vector_input : Bool) (o : GroebnerConeOptions) → IsTestedCommand (cone_command vector_input o)
cone_tested false o = record {
  tests = λ texts v r d read t h k. of_one_text ring_marked_set _ texts v read (λ source x. basis_once o v.1 r d (read_variables source v x) t h k);
  answers = λ texts v r text read t h a. of_one_text ring_marked_set _ texts v read (λ source x. basis_refutes o v.1 r text (read_variables source v x) t h a);
  wholes = λ texts v r text read t h a. of_one_text ring_marked_set _ texts v read (λ source x. basis_refutes o v.1 r text (read_variables source v x) t h a);
}
cone_tested true o = untested (cone_command true o) (λ v r t h. numbers_untested r (untold_of_numbers o v.0 v.1.0 v.1.1 r h) t)

basis_not_listed : (o : GroebnerConeOptions) (s : MarkedPolynomials) (most : ℕ) → IsBasisConeCause o s (refusals.ListLimit most) → ⊥
basis_not_listed o s most (IsBasisConeCause.at_check e h q) = check_not_listed e most q
basis_not_listed o s most (IsBasisConeCause.at_cone normals b a n h) = untold_of_numbers o s.variables normals [] (refusals.ListLimit most) h

cone_not_listed : (vector_input : Bool) (o : GroebnerConeOptions) (a : (cone_command vector_input o).Value) (most : ℕ) →
    (cone_command vector_input o).IsCause a (refusals.ListLimit most) → ⊥
cone_not_listed false o a most h = basis_not_listed o a.1 most h
cone_not_listed true o a most h = untold_of_numbers o a.0 a.1.0 a.1.1 (refusals.ListLimit most) h

-- each of the two
module _ (o : GroebnerConeOptions) where
  lawful_by : (vector_input : Bool) → IsLawful (cone_command vector_input o)
  lawful_by false = sound_lawful (cone_command false o) (cone_exact false o) (cone_tested false o) (λ h. h) (λ t. t) (λ a m w. cone_not_listed false o a m w)
  lawful_by true = sound_lawful (cone_command true o) (cone_exact true o) (cone_tested true o) (λ h. h) (λ t. t) (λ a m w. cone_not_listed true o a m w)

  source_by : (vector_input : Bool) → (cone_command vector_input o).reads ≡ Origin.the_input ∷ []
  source_by false = refl
  source_by true = refl

  once_by : (vector_input : Bool) → WritesOnce (cone_command vector_input o).writing
  once_by false = tt
  once_by true = tt

  pub cone_lawful : IsLawful (groebner_cone_command o)
  cone_lawful = lawful_by o.vector_input

  pub cone_source : (groebner_cone_command o).reads ≡ Origin.the_input ∷ []
  cone_source = source_by o.vector_input

  pub cone_once : WritesOnce (groebner_cone_command o).writing
  cone_once = once_by o.vector_input
