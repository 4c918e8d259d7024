-- Vectors that are proposed, and the lists that runs start from.
-- To cite: none_yet, proposal_more, proposal_at, divided_inside, sum_inside, sum_long, turned_inside, given_inside, as_difference, as_turned, one_written,
-- start_itself, start_more, start_saturation. The rest are steps.
use Rattle.std.proofs.Common.{◌≡◌, ◌⊎◌, ℕ, ◌<◌, if◌then◌else◌, List, [], ◌∷◌, ◌++◌, Contains, length, get_or, arith, refl, sym, ap, subst, ◌∙◌, inl, inr}
use Rattle.std.proofs.lemmas.List.Elements.{Contains-append_left}
use Rattle.gf_int_theory.proofs.ListLaws.{Contains-here, Contains-last}
use Rattle.gf_frac.specs.Fraction.{Fraction, ◌+ℚ◌, ◌*ℚ◌, neg_ℚ, zero_ℚ, one_ℚ}
use Rattle.gf_frac.proofs.FractionLaws.{one-*ℚ, *ℚ-one, neg_ℚ-*ℚ, neg_ℚ-neg_ℚ, +ℚ_comm, +ℚ_assoc}
use Rattle.gf_exponents_theory.specs.Exponents.{Exponents, same, plus}
use Rattle.gf_exponents_theory.proofs.ExponentsLaws.{plus_comm}
use Rattle.gf_poly.specs.declared.Term.{Term}
use Rattle.gf_poly.specs.Polynomial.{Terms, HasVariables, coefficient, SamePolynomial, KeepsVariables, times}
use Rattle.gf_poly.proofs.MonomialLaws.{length-plus}
use Rattle.gf_poly.proofs.PolynomialLaws.{times-plain}
use Rattle.gf_ideal_theory.specs.Membership.{IsInVariables, AreInVariables}
use Rattle.gf_ideal_theory.proofs.ListLaws.{Contains-cases}
use Rattle.gf_ideal_theory.proofs.RingLaws.{in_ring_of}
use Rattle.gf_ideal_theory.proofs.MembershipLaws.{member-equal, member-times, member-generator, member-trans}
use Rattle.gf_buchberger.specs.Tasks.{HaveRingVariables}
use Rattle.gf_buchberger.proofs.TaskLaws.{ring_variables}
use Rattle.gf_saturation_theory.specs.Saturations.{product_power, IsSaturated}
use Rattle.gf_saturation_theory.proofs.SubstitutionLaws.{ring-product_power}
use Rattle.gf_quotients_theory.specs.Ways.{difference}
use Rattle.gf_quotients_theory.proofs.LawsHold.{ways_are_kept, saturations_may_be_divided, saturations_are_ideals}
use Rattle.gf_quotients_theory.proofs.WayLaws.{saturated_variables}
use Rattle.gf_saturate.specs.declared.vectors.Vector.{Vector}
use Rattle.gf_saturate.specs.Graded.{GenerateSaturation}
use Rattle.gf_saturate.specs.Proposals.{IsProposed, IsProposal, AreProposals, IsDivided, IsVectorOf, IsWritten, IsStart}
use Rattle.gf_saturate.proofs.StepLaws.{contains_at}

-- ---- lists of proposals

pub none_yet : (n : ℕ) (fs : List Terms) (vs : List Vector) → vs ≡ [] → AreProposals n fs vs
none_yet n fs vs e v c = absurd (nothing (subst (λ (ws : List Vector). Contains ws v) e c))
  where
    nothing : Contains [] v → ⊥
    nothing k = omega (arith, k.1)

pub proposal_more : (n : ℕ) (fs : List Terms) (vs ws : List Vector) (v : Vector) → ws ≡ vs ++ v ∷ [] → AreProposals n fs vs → IsProposal n fs v →
    AreProposals n fs ws
proposal_more n fs vs ws v e p q w c = at (Contains-last vs v w (subst (λ (us : List Vector). Contains us w) e c))
  where
    at : Contains vs w ⊎ (w ≡ v) → IsProposal n fs w
    at (inl k) = p w k
    at (inr s) = subst (IsProposal n fs) (sym s) q

pub proposal_at : (n : ℕ) (fs : List Terms) (vs : List Vector) (i : ℕ) (v : Vector) → AreProposals n fs vs → i < length vs → v ≡ get_or vs i v →
    IsProposal n fs v
proposal_at n fs vs i v p l e = p v (contains_at vs i v l e)

-- ---- one of two terms

abbrev at : Fraction → Exponents → Term
at c x = record { coef = c; mono = x }

times_difference : (u a b : Exponents) → times one_ℚ u (difference a b) ≡ difference (plus u a) (plus u b)
times_difference u a b =
    ap (λ z. at z (plus u a) ∷ at (one_ℚ *ℚ neg_ℚ one_ℚ) (plus u b) ∷ []) (one-*ℚ one_ℚ)
    ∙ ap (λ z. at one_ℚ (plus u a) ∷ at z (plus u b) ∷ []) (one-*ℚ (neg_ℚ one_ℚ))

swapped : (c d : Fraction) (x y : Exponents) → SamePolynomial (at c x ∷ at d y ∷ []) (at d y ∷ at c x ∷ [])
swapped c d x y e = sym (+ℚ_assoc p q zero_ℚ) ∙ ap (λ z. z +ℚ zero_ℚ) (+ℚ_comm p q) ∙ +ℚ_assoc q p zero_ℚ
  where
    p : Fraction
    p = if same e x then c else zero_ℚ

    q : Fraction
    q = if same e y then d else zero_ℚ

negated : (x y : Exponents) → SamePolynomial (times (neg_ℚ one_ℚ) [] (difference x y)) (difference y x)
negated x y e = ap (λ z. coefficient z e) lists ∙ swapped (neg_ℚ one_ℚ) one_ℚ x y e
  where
    two : neg_ℚ one_ℚ *ℚ neg_ℚ one_ℚ ≡ one_ℚ
    two = neg_ℚ-*ℚ one_ℚ (neg_ℚ one_ℚ) ∙ ap neg_ℚ (one-*ℚ (neg_ℚ one_ℚ)) ∙ neg_ℚ-neg_ℚ one_ℚ

    lists : times (neg_ℚ one_ℚ) [] (difference x y) ≡ at (neg_ℚ one_ℚ) x ∷ at one_ℚ y ∷ []
    lists =
        ap (λ z. at z x ∷ at (neg_ℚ one_ℚ *ℚ neg_ℚ one_ℚ) y ∷ []) (*ℚ-one (neg_ℚ one_ℚ))
        ∙ ap (λ z. at (neg_ℚ one_ℚ) x ∷ at z y ∷ []) two

-- ---- what is in the saturation

saturated_same : (n : ℕ) (fs : List Terms) (f g : Terms) → AreInVariables n fs → SamePolynomial f g → IsSaturated n fs f → IsSaturated n fs g
saturated_same n fs f g r h s =
    saturations_may_be_divided n fs [] f g r (λ i l. refl) (λ e. h e ∙ ap (λ z. coefficient z e) (sym (times-plain g))) s

saturated_turned : (n : ℕ) (fs : List Terms) (x y : Exponents) → AreInVariables n fs → IsSaturated n fs (difference x y) → IsSaturated n fs (difference y x)
saturated_turned n fs x y r s = saturations_are_ideals.combined n fs hs (difference y x) r ring each
    (member-equal n hs (times (neg_ℚ one_ℚ) [] (difference x y)) (difference y x) (negated x y)
    (member-times n hs (difference x y) (neg_ℚ one_ℚ) [] (λ i l. refl) (member-generator n hs (difference x y) (Contains-here (difference x y) []))))
  where
    hs : List Terms
    hs = difference x y ∷ []

    of : (P : Terms → Type 0) → P (difference x y) → (h : Terms) → Contains hs h → P h
    of P p h k = first (Contains-cases (difference x y) h [] k)
      where
        first : (difference x y ≡ h) ⊎ Contains [] h → P h
        first (inl e) = subst P e p
        first (inr z) = absurd (omega (arith, z.1))

    ring : AreInVariables n hs
    ring = of (IsInVariables n) (saturated_variables n fs (difference x y) r s)

    each : (h : Terms) → Contains hs h → IsSaturated n fs h
    each = of (IsSaturated n fs) s

pub divided_inside : (n : ℕ) (fs : List Terms) (x y : Exponents) (v : Vector) → HaveRingVariables n fs → IsProposed n fs x y → IsDivided x y v →
    IsProposal n fs v
divided_inside n fs x y v r p d = record {
  first = d.first_long ∙ p.first;
  second = d.second_long ∙ p.first;
  inside = saturations_may_be_divided n fs d.by (difference x y) (difference v.first v.second) (ring_variables n fs r)
      (in_ring_of n d.by (d.long ∙ p.first)) (λ e. ap (λ z. coefficient z e) lists) p.inside;
}
  where
    lists : difference x y ≡ times one_ℚ d.by (difference v.first v.second)
    lists = sym (times_difference d.by v.first v.second ∙ ap (λ z. difference z (plus d.by v.second)) d.first ∙ ap (difference x) d.second)

pub turned_inside : (n : ℕ) (fs : List Terms) (x y : Exponents) → HaveRingVariables n fs → IsProposed n fs x y → IsProposed n fs y x
turned_inside n fs x y r p = record {
  first = p.second;
  second = p.first;
  inside = saturated_turned n fs x y (ring_variables n fs r) p.inside;
}

pub sum_inside : (n : ℕ) (fs : List Terms) (a b x y p q : Exponents) (v : Vector) → HaveRingVariables n fs → IsProposed n fs a b → IsProposed n fs x y →
    p ≡ plus a x → q ≡ plus b y → length p ≡ n → length q ≡ n → IsDivided p q v → IsProposal n fs v
sum_inside n fs a b x y p q v r s t e f l m d = divided_inside n fs p q v r (record { first = l; second = m; inside = both }) d
  where
    both : IsSaturated n fs (difference p q)
    both =
        subst (λ z. IsSaturated n fs (difference z q)) (plus_comm x a ∙ sym e)
        (subst (λ z. IsSaturated n fs (difference (plus x a) z)) (sym f)
        (saturations_are_ideals.vectors n fs a b x y (ring_variables n fs r) (in_ring_of n a s.first) (in_ring_of n b s.second) (in_ring_of n x t.first)
        (in_ring_of n y t.second) s.inside t.inside))

pub given_inside : (n : ℕ) (fs : List Terms) (f : Terms) (v : Vector) → HaveRingVariables n fs → Contains fs f → IsVectorOf f v → IsProposal n fs v
given_inside n fs f v r c (IsVectorOf.same e) = record {
  first = (subst (HasVariables n) e (r.each f c)).0;
  second = (subst (HasVariables n) e (r.each f c)).1.0;
  inside = subst (IsSaturated n fs) e ((ways_are_kept.start n fs (ring_variables n fs r)).inside f (member-generator n fs f c));
}
given_inside n fs f v r c (IsVectorOf.turned e) = record {
  first = (subst (HasVariables n) e (r.each f c)).1.0;
  second = (subst (HasVariables n) e (r.each f c)).0;
  inside = saturated_same n fs f (difference v.first v.second) (ring_variables n fs r)
      (λ z. ap (λ g. coefficient g z) e ∙ swapped (neg_ℚ one_ℚ) one_ℚ v.second v.first z)
      ((ways_are_kept.start n fs (ring_variables n fs r)).inside f (member-generator n fs f c));
}

pub sum_long : (n : ℕ) (a x p : Exponents) → length a ≡ n → length x ≡ n → p ≡ plus a x → length p ≡ n
sum_long n a x p l m e = ap length e ∙ length-plus a x (l ∙ sym m) ∙ l

-- ---- a polynomial as a vector, and a vector as a polynomial

pub as_difference : (f : Terms) (s t : Term) (x y : Exponents) → f ≡ s ∷ t ∷ [] → (s.coef ≡ one_ℚ) × (t.coef ≡ neg_ℚ one_ℚ) → x ≡ s.mono → y ≡ t.mono →
    f ≡ difference x y
as_difference f s t x y e c a b =
    e ∙ ap (λ z. at z s.mono ∷ at t.coef t.mono ∷ []) c.0 ∙ ap (λ z. at one_ℚ s.mono ∷ at z t.mono ∷ []) c.1
    ∙ ap (λ z. at one_ℚ z ∷ at (neg_ℚ one_ℚ) t.mono ∷ []) (sym a) ∙ ap (λ z. at one_ℚ x ∷ at (neg_ℚ one_ℚ) z ∷ []) (sym b)

pub as_turned : (f : Terms) (s t : Term) (x y : Exponents) → f ≡ s ∷ t ∷ [] → (t.coef ≡ one_ℚ) × (s.coef ≡ neg_ℚ one_ℚ) → x ≡ t.mono → y ≡ s.mono →
    f ≡ at (neg_ℚ one_ℚ) y ∷ at one_ℚ x ∷ []
as_turned f s t x y e c a b =
    e ∙ ap (λ z. at z s.mono ∷ at t.coef t.mono ∷ []) c.1 ∙ ap (λ z. at (neg_ℚ one_ℚ) s.mono ∷ at z t.mono ∷ []) c.0
    ∙ ap (λ z. at (neg_ℚ one_ℚ) z ∷ at one_ℚ t.mono ∷ []) (sym b) ∙ ap (λ z. at (neg_ℚ one_ℚ) y ∷ at one_ℚ z ∷ []) (sym a)

pub one_written : (v : Vector) (xs ys zs : Terms) (s t : Term) (f : Terms) → xs ≡ [] → ys ≡ xs ++ s ∷ [] → zs ≡ ys ++ t ∷ [] → s.coef ≡ one_ℚ →
    s.mono ≡ v.first → t.coef ≡ neg_ℚ one_ℚ → t.mono ≡ v.second → SamePolynomial f zs → KeepsVariables zs f → IsWritten v f
one_written v xs ys zs s t f d e g a b c h p k = record {
  equal = λ z. p z ∙ ap (λ (w : Terms). coefficient w z) lists;
  variables = subst (λ (w : Terms). KeepsVariables w f) lists k;
}
  where
    lists : zs ≡ difference v.first v.second
    lists = as_difference zs s t v.first v.second (g ∙ ap (λ (w : Terms). w ++ t ∷ []) (e ∙ ap (λ (w : Terms). w ++ s ∷ []) d)) (a, c) (sym b) (sym h)

-- ---- the lists that runs start from

generator_inside : (n : ℕ) (fs : List Terms) (f : Terms) → HaveRingVariables n fs → Contains fs f → IsSaturated n fs f
generator_inside n fs f r c = (ways_are_kept.start n fs (ring_variables n fs r)).inside f (member-generator n fs f c)

pub start_itself : (n : ℕ) (fs hs : List Terms) → HaveRingVariables n fs → hs ≡ fs → IsStart n fs hs
start_itself n fs hs r e = subst (IsStart n fs) (sym e) (record { ring = r; inside = λ h c. generator_inside n fs h r c; given = λ f c. c })

written_variables : (n : ℕ) (fs : List Terms) (v : Vector) (f : Terms) → IsProposal n fs v → IsWritten v f → HasVariables n f
written_variables n fs v f p w = w.variables.at n (p.first, (p.second, tt))

written_inside : (n : ℕ) (fs : List Terms) (v : Vector) (f : Terms) → HaveRingVariables n fs → IsProposal n fs v → IsWritten v f → IsSaturated n fs f
written_inside n fs v f r p w = saturated_same n fs (difference v.first v.second) f (ring_variables n fs r) (λ e. sym (w.equal e)) p.inside

pub start_more : (n : ℕ) (fs gs hs : List Terms) (v : Vector) (f : Terms) → hs ≡ gs ++ f ∷ [] → HaveRingVariables n fs → IsStart n fs gs →
    IsProposal n fs v → IsWritten v f → IsStart n fs hs
start_more n fs gs hs v f e r s p w = subst (IsStart n fs) (sym e) (record {
  ring = record { each = each (HasVariables n) s.ring.each (written_variables n fs v f p w) };
  inside = each (IsSaturated n fs) s.inside (written_inside n fs v f r p w);
  given = λ g c. Contains-append_left gs (f ∷ []) g (s.given g c);
})
  where
    each : (P : Terms → Type 0) → ((h : Terms) → Contains gs h → P h) → P f → (h : Terms) → Contains (gs ++ f ∷ []) h → P h
    each P a b h c = by (Contains-last gs f h c)
      where
        by : Contains gs h ⊎ (h ≡ f) → P h
        by (inl k) = a h k
        by (inr q) = subst P (sym q) b

pub start_saturation : (n : ℕ) (fs hs bs : List Terms) → HaveRingVariables n fs → IsStart n fs hs → GenerateSaturation n hs bs → GenerateSaturation n fs bs
start_saturation n fs hs bs r s g = record { ring = g.ring; members = λ f. (λ m. into f ((g.members f).0 m), λ t. (g.members f).1 (back f t)) }
  where
    into : (f : Terms) → IsSaturated n hs f → IsSaturated n fs f
    into f t =
        saturations_may_be_divided n fs (product_power n t.power) (times one_ℚ (product_power n t.power) f) f (ring_variables n fs r)
        (ring-product_power n t.power) (λ e. refl)
        (saturations_are_ideals.combined n fs hs (times one_ℚ (product_power n t.power) f) (ring_variables n fs r) (ring_variables n hs s.ring) s.inside
        t.member)

    back : (f : Terms) → IsSaturated n fs f → IsSaturated n hs f
    back f t = record {
      power = t.power;
      member =
          member-trans n hs fs (times one_ℚ (product_power n t.power) f) (ring_variables n hs s.ring) (λ h c. member-generator n hs h (s.given h c)) t.member;
    }
