-- What holds of the states that are reached, and their operations.
use Rattle.std.proofs.Common.{◌≡◌, ℕ, suc, ◌+◌, ◌<◌, ◌≤◌, List, [], ◌∷◌, ◌++◌, length, ℤ, arith, sym, ap, ◌∙◌, subst, refl, inl, inr, take, drop, get_or}
use Rattle.std.proofs.Common.{Contains}
use Rattle.std.proofs.lemmas.List.{take_more, take_all}
use Rattle.gf_gordan.specs.Alternative.{AreRows}
use Rattle.gf_gordan.specs.declared.error.ConeOverflow.{ConeOverflow}
use Rattle.gf_duality_theory.specs.Rays.{IsZeroOn}
use Rattle.gf_duality_theory.specs.Elimination.{IsEliminationStep}
use Rattle.gf_duality_theory.proofs.ListLaws.{none_in, first_in}
use Rattle.gf_rays.specs.declared.ray.Ray.{Ray}
use Rattle.gf_rays.specs.FlatRows.{AreFlatRows, AreFlatFirst, none as first_none, taken as first_taken, left as first_left}
use Rattle.gf_rays.specs.Leveling.{IsRowStep}
use Rattle.gf_rays.specs.Reached.{IsReachedState, begun, split, lined, AreChosen, none, taken, left, IsRaysStep, taking, lineality, straight, echelon, implied}
use Rattle.gf_rays.specs.Further.{IsTaken, by_split, by_line, IsImplying, IsEndStep, lineality as end_lineality, straight as end_straight}
use Rattle.gf_rays.specs.Further.{echelon as end_echelon, implied as end_implied}
use Rattle.gf_rays.specs.States.{IsConeState, AreFinished}
use Rattle.gf_rays.proofs.LinedLaws.{lined_state}
use Rattle.gf_rays.proofs.StateLaws.{state_start, flat_after}
use Rattle.gf_rays.proofs.PruneLaws.{state_pruned}
use Rattle.gf_rays.proofs.StepLaws.{length-take-within}
use Rattle.gf_rays.proofs.StraightLaws.{parts_at}
use Rattle.gf_rays.proofs.ImpliedLaws.{flat_zero, zero_flat}
use Rattle.std.proofs.lemmas.List.Elements.{Contains-push}
use Rattle.gf_int_theory.proofs.ListLaws.{Contains-last}

-- each reached state is one
pub reached_state : (n : ℕ) (es hs lin : List (List ℤ)) (rays : List Ray) → AreRows n es → IsReachedState n es hs lin rays → IsConeState n hs es lin rays
reached_state n es hs lin rays w (begun basis b) = state_start n es basis w b
reached_state n es hs lin rays w (split before l old middle out h whole e f b p g r) =
    subst (λ (t : List (List ℤ)). IsConeState n t es lin rays) (sym e)
    (state_pruned n _ es lin middle rays (flat_after n before es lin old middle h (reached_state n es before lin old w r) f b) p)
reached_state n es hs lin rays w (lined before whole lines old next h l i all e k b r) =
    subst (λ (t : List (List ℤ)). IsConeState n t es lin rays) (sym e)
    (lined_state n before es whole old i h l lin rays (reached_state n es before whole old w r) k.inside k.signed k.up b)

-- one inequality more
pub taken_state : (n : ℕ) (hs es lin lines : List (List ℤ)) (rays next : List Ray) (h : List ℤ) → IsTaken h (length hs) lin rays lines next →
    IsConeState n hs es lin rays → IsConeState n (hs ++ h ∷ []) es lines next
taken_state n hs es lin lines rays next h (by_split middle out f b p g) s = state_pruned n _ es lin middle next (flat_after n hs es lin rays middle h s f b) p
taken_state n hs es lin lines rays next h (by_line i l after out k b) s = lined_state n hs es lin rays i h l lines next s k.inside k.signed k.up b

-- an operation of taking in the row at k
pub reached_row_step : (n k : ℕ) (hs es lin : List (List ℤ)) (rays : List Ray) (h : List ℤ) (s : ConeOverflow) → k < length hs → h ≡ get_or hs k h →
    IsReachedState n es (take k hs) lin rays → IsRowStep k h lin rays s → IsRaysStep n hs es s
reached_row_step n k hs es lin rays h s hk e r d = taking (take k hs) (drop (suc k) hs) lin rays h (parts_at hs k h hk e) r
    (subst (λ m. IsRowStep m h lin rays s) (sym (length-take-within k hs hk)) d)

-- rows by the flags of the rays are those that are zero on the cone
chosen_zero : (n : ℕ) (hs es lin : List (List ℤ)) (rays : List Ray) (k : ℕ) (flat : List (List ℤ)) → AreFinished n hs es lin rays → k ≤ length hs →
    AreFlatFirst hs rays k flat → AreChosen (IsZeroOn n hs es) (take k hs) flat
chosen_zero n hs es lin rays k flat a h first_none = none
chosen_zero n hs es lin rays k flat a h (first_taken j m out all e f g c) =
    taken (take j hs) out (get_or hs j []) (take k hs) flat (ap (λ i. take i hs) e ∙ take_more hs j [] (omega (arith, h, e))) g
    (flat_zero n hs es lin rays j a (omega (arith, h, e)) f) (chosen_zero n hs es lin rays j out a (omega (arith, h, e)) c)
chosen_zero n hs es lin rays k flat a h (first_left j m out e f c) =
    left (take j hs) flat (get_or hs j []) (take k hs) (ap (λ i. take i hs) e ∙ take_more hs j [] (omega (arith, h, e))) (λ z.
    f (zero_flat n hs es lin rays j a (omega (arith, h, e)) z)) (chosen_zero n hs es lin rays j flat a (omega (arith, h, e)) c)

pub implying : (n : ℕ) (hs es lin flat : List (List ℤ)) (rays : List Ray) (s : ConeOverflow) → AreFinished n hs es lin rays → AreFlatRows hs rays flat →
    IsEliminationStep (length hs + length es) n (flat ++ es) n s → IsImplying n hs es s
implying n hs es lin flat rays s a f k = record {
  flat = flat;
  chosen = subst (λ (t : List (List ℤ)). AreChosen (IsZeroOn n hs es) t flat) (take_all (length hs) hs (omega arith))
      (chosen_zero n hs es lin rays (length hs) flat a (omega arith) f.chosen);
  step = k;
}

pub implied_step : (n : ℕ) (hs es : List (List ℤ)) (s : ConeOverflow) → IsImplying n hs es s → IsRaysStep n hs es s
implied_step n hs es s k = implied k.flat k.chosen k.step

pub reached_taken : (n : ℕ) (es hs lin lines : List (List ℤ)) (rays next : List Ray) (h : List ℤ) → IsTaken h (length hs) lin rays lines next →
    IsReachedState n es hs lin rays → IsReachedState n es (hs ++ h ∷ []) lines next
reached_taken n es hs lin lines rays next h (by_split middle out f b p g) r = split hs lin rays middle out h _ refl f b p g r
reached_taken n es hs lin lines rays next h (by_line i l after out k b) r = lined hs lin after rays out h l i _ refl k b r

-- an operation at the end of a reached state
pub reached_end : (n : ℕ) (hs es lin : List (List ℤ)) (rays : List Ray) (s : ConeOverflow) → IsReachedState n es hs lin rays → IsEndStep n hs es lin rays s →
    IsRaysStep n hs es s
reached_end n hs es lin rays s r (end_lineality k) = lineality lin rays r k
reached_end n hs es lin rays s r (end_straight ortho x o c k) = straight lin ortho rays x r o c k
reached_end n hs es lin rays s r (end_echelon k) = echelon lin rays r k
reached_end n hs es lin rays s r (end_implied k) = implied_step n hs es s k

pub chosen_in : (P : List ℤ → Type 0) (rows out : List (List ℤ)) (t : List ℤ) → AreChosen P rows out → Contains out t → Contains rows t
chosen_in P rows out t none c = absurd (none_in t c)
chosen_in P rows out t (taken before some x whole all e f p k) c =
    subst (λ (l : List (List ℤ)). Contains l t) (sym e) (elim (Contains-last some x t (subst (λ (l : List (List ℤ)). Contains l t) f c)) [
      | inl i ↦ first_in before x t (chosen_in P before some t k i)
      | inr g ↦ subst (Contains (before ++ x ∷ [])) (sym g) (Contains-push before x)
    ])
chosen_in P rows out t (left before some x whole e p k) c =
    subst (λ (l : List (List ℤ)). Contains l t) (sym e) (first_in before x t (chosen_in P before out t k c))
