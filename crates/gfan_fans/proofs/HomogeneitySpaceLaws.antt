-- The homogeneity space of a set that is read, and that a source is answered in one way.
-- To cite: nonzero_more, nonzero_in, fan_refused; space_answered, space_unanswered, no_space_named; homogeneity_space_exact,
-- homogeneity_space_tested, no_space_not_listed. The rest are steps.
use Rattle.std.specs.Prelude.{◌≡◌, ℕ, ◌+◌, ◌<◌, false, List, [], ◌∷◌, ◌++◌, length, take, get_or, Option, None, ℤ}
use Rattle.std.proofs.Common.{arith, refl, sym, ap, ◌∙◌, subst, append-nil}
use Rattle.std.proofs.lemmas.List.{take_more}
use Rattle.std.proofs.lemmas.Grind.{flat_map-append}
use Rattle.gf_poly.specs.Marking.{MarkedPolynomial, HaveVariables}
use Rattle.gf_gordan.specs.declared.error.GordanError.{GordanError}
use Rattle.gf_gordan.specs.declared.error.GordanError.TheVariants as gordan_errors
use Rattle.gf_rays.specs.Cones.{RowsAndRays}
use Rattle.gf_small.specs.HomogeneitySpace.{IsSpaceCause}
use Rattle.gf_text.specs.declared.written.Written.{Written}
use Rattle.gf_text.specs.declared.written.Written.TheVariants as written
use Rattle.gf_text.specs.Sets.{AreIn}
use Rattle.gf_fan.specs.declared.error.FanError.{FanError}
use Rattle.gf_fan.specs.declared.error.FanError.TheVariants as fan_errors
use Rattle.gf_fan.specs.Pairs.{AreMeeting}
use Rattle.gf_fan.specs.Refusals.{IsFanRefusal}
use Rattle.gf_front.specs.declared.refusal.Refusal.{Refusal}
use Rattle.gf_front.specs.declared.refusal.Refusal.TheVariants as refusals
use Rattle.gf_items.specs.Items.{IsTextOf}
use Rattle.gf_items.specs.Sources.{ring_set_vector}
use Rattle.gf_items.specs.Kinds.{a_set, vector_where}
use Rattle.gf_items.specs.Refusals.{IsOfTest, IsOfWork}
use Rattle.gf_frame.specs.Commands.{IsAnswered, IsUnanswered, IsRefusedOn}
use Rattle.gf_items.proofs.KindLaws.{ring_and_once}
use Rattle.gf_frame.proofs.ReadingLaws.{one_once}
use Rattle.gf_frame.proofs.SoundLaws.{IsExactCommand, IsTestedCommand, untested}
use Rattle.gfan_common.specs.Causes.{of_gordan}
use Rattle.gfan_fans.specs.FanTexts.{of_fan, IsNoFanText}
use Rattle.gfan_fans.specs.HomogeneitySpace.{marked_of, nonzero_of, IsSpaceCone, IsSpaceText, IsNoSpace, IsSpaceWithin, homogeneity_space_command}
use Rattle.gfan_common.specs.Refused.{IsNamedBy}
use Rattle.gfan_common.proofs.CauseLaws.{gordan_work, gordan_not_listed, gordan_untested, named_gordan}
use Rattle.gfan_fans.proofs.FanTextLaws.{meeting_refutes, text_within, text_work, text_not_listed, text_named}

-- ---- the polynomials

-- one further
pub nonzero_more : (ws : List Written) (i : ℕ) (w : Written) (found new : List MarkedPolynomial) → i < length ws → w ≡ get_or ws i w →
    new ≡ found ++ marked_of w → found ≡ nonzero_of (take i ws) → new ≡ nonzero_of (take (i + 1) ws)
nonzero_more ws i w found new l is e f =
    let more : take (i + 1) ws ≡ take i ws ++ w ∷ [] = take_more ws i w l ∙ ap (λ (z : Written). take i ws ++ z ∷ []) (sym is) in
    let all : nonzero_of (take (i + 1) ws) ≡ nonzero_of (take i ws) ++ nonzero_of (w ∷ []) =
    ap nonzero_of more ∙ flat_map-append marked_of (take i ws) (w ∷ []) in
    e ∙ ap (λ (x : List MarkedPolynomial). x ++ marked_of w) f
    ∙ sym (all ∙ ap (λ (x : List MarkedPolynomial). nonzero_of (take i ws) ++ x) (append-nil (marked_of w)))

-- they have the variables of those that are read
pub nonzero_in : (n : ℕ) (ws : List Written) → AreIn n ws → HaveVariables n (nonzero_of ws)
nonzero_in n [] h = tt
nonzero_in n (written.Zero ∷ ws) h = nonzero_in n ws h.1
nonzero_in n (written.Nonzero m ∷ ws) h = (h.0, nonzero_in n ws h.1)

-- its fan isn't found
pub fan_refused : (n : ℕ) (bs : List MarkedPolynomial) (c : RowsAndRays) (cones : List RowsAndRays) (r : Refusal) → IsSpaceCone n bs c → cones ≡ c ∷ [] →
    IsNoFanText n cones r → IsNoSpace n bs r
fan_refused n bs c cones r h p f = IsNoSpace.at_fan c h (subst (λ (cs : List RowsAndRays). IsNoFanText n cs r) p f)

-- ---- from a source on

pub space_answered : (source text : List ℕ) (ring : List (List ℕ)) (set given : List Written) (vector : Option (List ℤ)) (n : ℕ) →
    IsTextOf (ring_set_vector false) source (ring, (set, vector)) → n ≡ length ring → given ≡ set → IsSpaceText n (nonzero_of given) text
    → IsAnswered homogeneity_space_command (source ∷ []) text
space_answered source text ring set given vector n read e p h = record {
  value = (ring, (set, vector));
  read = read;
  answer = record {
    formed = tt;
    is_answer = subst (λ k. IsSpaceText k (nonzero_of set) text) e (subst (λ (ws : List Written). IsSpaceText n (nonzero_of ws) text) p h);
  };
}

pub space_unanswered : (source : List ℕ) (r : Refusal) (ring : List (List ℕ)) (set given : List Written) (vector : Option (List ℤ)) (n : ℕ) →
    IsTextOf (ring_set_vector false) source (ring, (set, vector)) → n ≡ length ring → given ≡ set → IsNoSpace n (nonzero_of given) r
    → IsRefusedOn homogeneity_space_command (source ∷ []) r
space_unanswered source r ring set given vector n read e p h =
    IsRefusedOn.behind_text (ring, (set, vector)) read (IsUnanswered.in_work tt
    (subst (λ k. IsNoSpace k (nonzero_of set) r) e (subst (λ (ws : List Written). IsNoSpace n (nonzero_of ws) r) p h)))

-- it names no monomials
pub no_space_named : (n : ℕ) (bs : List MarkedPolynomial) (r : Refusal) → IsNoSpace n bs r → IsNamedBy None r
no_space_named n bs r (IsNoSpace.at_space e h q) = subst (IsNamedBy None) (sym q) (named_gordan e)
no_space_named n bs r (IsNoSpace.at_fan c k h) = text_named None n (c ∷ []) r h
no_space_named n bs r (IsNoSpace.no_memory m) = subst (IsNamedBy None) (sym m) (λ lent is. tt)

-- ---- a source is answered in one way

-- one cone by itself
pub one_meets : (n : ℕ) (c : RowsAndRays) → AreMeeting n (c ∷ [])
one_meets n c = λ i j d l m. absurd (omega (arith, l, m))

no_space_work : (n : ℕ) (bs : List MarkedPolynomial) (r : Refusal) → IsNoSpace n bs r → IsOfWork r
no_space_work n bs r (IsNoSpace.at_space e h q) = subst IsOfWork (sym q) (gordan_work e)
no_space_work n bs r (IsNoSpace.at_fan c k h) = text_work n (c ∷ []) r h
no_space_work n bs r (IsNoSpace.no_memory m) = subst IsOfWork (sym m) tt

space_memory : (n : ℕ) (bs : List MarkedPolynomial) (e : GordanError) → IsSpaceWithin n bs → IsSpaceCause n bs e → e ≡ gordan_errors.Memory
space_memory n bs (gordan_errors.Cone o) w h = absurd (w.space o h)
space_memory n bs gordan_errors.Memory w h = refl

no_space_within : (n : ℕ) (bs : List MarkedPolynomial) (r : Refusal) → IsSpaceWithin n bs → IsNoSpace n bs r → r ≡ refusals.Memory
no_space_within n bs r w (IsNoSpace.at_space e h q) = q ∙ ap of_gordan (space_memory n bs e w h)
no_space_within n bs r w (IsNoSpace.at_fan c k h) = text_within n (c ∷ []) r (w.fan c k) (one_meets n c) h
no_space_within n bs r w (IsNoSpace.no_memory m) = m

fan_untested : (n : ℕ) (c : RowsAndRays) (e : FanError) → IsOfTest (of_fan e) → IsFanRefusal n (c ∷ []) e → ⊥
fan_untested n c (fan_errors.Cone o) t h = t
fan_untested n c (fan_errors.NotAFan i j) t h = meeting_refutes n (c ∷ []) i j (one_meets n c) h
fan_untested n c fan_errors.Memory t h = t

text_untested : (n : ℕ) (c : RowsAndRays) (r : Refusal) → IsOfTest r → IsNoFanText n (c ∷ []) r → ⊥
text_untested n c r t (IsNoFanText.no_fan e h q) = fan_untested n c e (subst IsOfTest q t) h
text_untested n c r t (IsNoFanText.too_wide f w i h q) = subst IsOfTest q t
text_untested n c r t (IsNoFanText.no_memory q) = subst IsOfTest q t

no_space_untested : (n : ℕ) (bs : List MarkedPolynomial) (r : Refusal) → IsOfTest r → IsNoSpace n bs r → ⊥
no_space_untested n bs r t (IsNoSpace.at_space e h q) = gordan_untested e (subst IsOfTest q t)
no_space_untested n bs r t (IsNoSpace.at_fan c k h) = text_untested n c r t h
no_space_untested n bs r t (IsNoSpace.no_memory m) = subst IsOfTest m t

pub no_space_not_listed : (n : ℕ) (bs : List MarkedPolynomial) (most : ℕ) → IsNoSpace n bs (refusals.ListLimit most) → ⊥
no_space_not_listed n bs most (IsNoSpace.at_space e h q) = gordan_not_listed e most q
no_space_not_listed n bs most (IsNoSpace.at_fan c k h) = text_not_listed n (c ∷ []) most h
no_space_not_listed n bs most (IsNoSpace.no_memory m) = cc

pub homogeneity_space_exact : IsExactCommand homogeneity_space_command
homogeneity_space_exact = record {
  reading = one_once _ (ring_and_once a_set (vector_where false ∷ []));
  checks = λ texts v h. tt;
  work = λ v r h. no_space_work (length v.0) (nonzero_of v.1.0) r h;
  within = λ v r w h. no_space_within (length v.0) (nonzero_of v.1.0) r w h;
}

pub homogeneity_space_tested : IsTestedCommand homogeneity_space_command
homogeneity_space_tested = untested homogeneity_space_command (λ v r t h. no_space_untested (length v.0) (nonzero_of v.1.0) r t h)
