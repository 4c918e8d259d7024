-- Each of the small tools answers a source in one way: its record has the laws of an exact command, and names no limit of a list.
-- To cite: mark_polynomial_set_exact, initial_forms_exact, homogenize_exact, polynomial_set_union_exact, stats_exact; homogenize_not_listed,
-- homogenize_untested; length_unanswered, zero_unanswered, marked_answered; entries_unanswered, forms_answered;
-- stats_unanswered, stats_answered, seven_pieces. The rest are steps.
use Rattle.std.specs.Prelude.{◌≡◌, ◌⊎◌, ℕ, All, List, [], ◌∷◌, ◌++◌, length, Some, ℤ}
use Rattle.std.specs.List.{concat}
use Rattle.std.proofs.Common.{refl, sym, ap, ◌∙◌, subst, inl, inr, append_assoc, append-nil}
use Rattle.gf_poly.specs.declared.monomial.ExponentOverflow.{ExponentOverflow}
use Rattle.gf_poly.specs.Polynomial.{Terms}
use Rattle.gf_poly.specs.Marking.{MarkedPolynomials, polys}
use Rattle.gf_text.specs.declared.written.Written.{Written}
use Rattle.gf_text.specs.Sets.{AreNonzero}
use Rattle.gf_gordan.specs.declared.error.GordanError.{GordanError}
use Rattle.gf_small.specs.MarksByWeight.{AreMarkedByWeight}
use Rattle.gf_small.specs.InitialForms.{AreInitialForms}
use Rattle.gf_small.specs.Homogenization.{IsHomogenizedWithinLimit}
use Rattle.gf_small.specs.declared.counts.Stats.{Stats}
use Rattle.gf_small.specs.Statistics.{AreStatistics, IsStatisticsCause}
use Rattle.gf_small.proofs.HomogenizationLaws.{never_past}
use Rattle.gf_front.specs.declared.refusal.Refusal.{Refusal}
use Rattle.gf_front.specs.declared.refusal.Refusal.TheVariants as refusals
use Rattle.gf_items.specs.Refusals.{IsOfTest, IsOfWork}
use Rattle.gf_frame.specs.Commands.{IsAnswerFor, IsUnanswered}
use Rattle.gf_items.specs.Kinds.{a_set, set_list, marked_set_list, vector, new_name}
use Rattle.gf_items.proofs.KindLaws.{ring_and_once}
use Rattle.gf_frame.proofs.ReadingLaws.{one_once}
use Rattle.gf_frame.proofs.SoundLaws.{IsExactCommand}
use Rattle.gfan_common.specs.Forms.{IsLengthRefusal}
use Rattle.gfan_common.specs.Printing.{IsPrinted, IsPrintedSet}
use Rattle.gfan_common.specs.ToolForms.{IsZeroRefusal}
use Rattle.gfan_sets.specs.MarkPolynomialSet.{mark_polynomial_set_command}
use Rattle.gfan_sets.specs.InitialForms.{initial_forms_command}
use Rattle.gfan_sets.specs.Homogenize.{IsHomogenizeRefusal, homogenize_command}
use Rattle.gfan_sets.specs.PolynomialSetUnion.{polynomial_set_union_command}
use Rattle.gfan_sets.specs.Stats.{stats_text, stats_command}
use Rattle.gfan_common.specs.Causes.{of_gordan}
use Rattle.gfan_common.proofs.ToolFormLaws.{variables_check, zero_check, room_check}
use Rattle.gfan_common.proofs.CauseLaws.{gordan_work}

-- ---- `_markpolynomialset`

-- the vector has another length
pub length_unanswered : (n : ℕ) (ring : List (List ℕ)) (ws : List Written) (w : List ℤ) (r : Refusal) → n ≡ length ring → IsLengthRefusal n (Some w) r →
    IsUnanswered mark_polynomial_set_command (ring, (ws, w)) r
length_unanswered n ring ws w r e h = IsUnanswered.in_form (inl (subst (λ k. IsLengthRefusal k (Some w) r) e h))

-- a polynomial is zero, or there is no memory
pub zero_unanswered : (n : ℕ) (ring : List (List ℕ)) (ws : List Written) (w : List ℤ) (r : Refusal) → n ≡ length ring → length w ≡ n →
    IsZeroRefusal ws r ⊎ (r ≡ refusals.Memory) → IsUnanswered mark_polynomial_set_command (ring, (ws, w)) r
zero_unanswered n ring ws w r e l (inl h) = IsUnanswered.in_form (inr (l ∙ e, inl h))
zero_unanswered n ring ws w r e l (inr m) = IsUnanswered.no_memory m

pub marked_answered : (n : ℕ) (ring : List (List ℕ)) (ws : List Written) (w : List ℤ) (s t : MarkedPolynomials) (fs : List Terms) (text : List ℕ) →
    n ≡ length ring → length w ≡ n → AreNonzero ws s.items → fs ≡ polys s.items → AreMarkedByWeight w fs t
    → IsPrinted ring t text → IsAnswerFor mark_polynomial_set_command (ring, (ws, w)) text
marked_answered n ring ws w s t fs text e l a q h p = record {
  formed = (l ∙ e, ((s.items, a), tt));
  is_answer = record { items = s.items; read = a; set = t; is_marked = subst (λ (gs : List Terms). AreMarkedByWeight w gs t) q h; is_text = p };
}

-- ---- tools that are refused for want of memory alone

pub mark_polynomial_set_exact : IsExactCommand mark_polynomial_set_command
mark_polynomial_set_exact = record {
  reading = one_once _ (ring_and_once a_set (vector ∷ []));
  checks = λ texts v h. (variables_check (length v.0) v.1.1, (zero_check v.1.0, tt));
  work = λ v r h. subst IsOfWork (sym h) tt;
  within = λ v r w h. h;
}

pub initial_forms_exact : IsExactCommand initial_forms_command
initial_forms_exact = record {
  reading = one_once _ (ring_and_once a_set (vector ∷ []));
  checks = λ texts v h. (variables_check (length v.0) v.1.1, tt);
  work = λ v r h. subst IsOfWork (sym h) tt;
  within = λ v r w h. h;
}

pub polynomial_set_union_exact : IsExactCommand polynomial_set_union_command
polynomial_set_union_exact = record {
  reading = one_once _ (ring_and_once set_list []);
  checks = λ texts v h. tt;
  work = λ v r h. subst IsOfWork (sym h) tt;
  within = λ v r w h. h;
}

-- ---- `_initialforms`

pub entries_unanswered : (n : ℕ) (ring : List (List ℕ)) (ws : List Written) (w : List ℤ) (r : Refusal) → n ≡ length ring → IsLengthRefusal n (Some w) r →
    IsUnanswered initial_forms_command (ring, (ws, w)) r
entries_unanswered n ring ws w r e h = IsUnanswered.in_form (inl (subst (λ k. IsLengthRefusal k (Some w) r) e h))

pub forms_answered : (ring : List (List ℕ)) (ws : List Written) (w : List ℤ) (fs : List Written) (text : List ℕ) → length w ≡ length ring →
    AreInitialForms w ws fs → IsPrintedSet ring fs text
    → IsAnswerFor initial_forms_command (ring, (ws, w)) text
forms_answered ring ws w fs text l h p = record { formed = (l, tt); is_answer = record { forms = fs; are_forms = h; is_text = p } }

-- ---- `_homogenize`

homogenize_work : (ws : List Written) (r : Refusal) → IsHomogenizeRefusal ws r → IsOfWork r
homogenize_work ws (refusals.ExponentOverflow o) h = tt
homogenize_work ws refusals.Memory h = tt
homogenize_work ws _ h = absurd h

homogenize_within : (ws : List Written) (r : Refusal) → All IsHomogenizedWithinLimit ws → IsHomogenizeRefusal ws r → r ≡ refusals.Memory
homogenize_within ws (refusals.ExponentOverflow o) w h = absurd (never_past ws o w h)
homogenize_within ws refusals.Memory w h = refl
homogenize_within ws _ w h = absurd h

pub homogenize_exact : IsExactCommand homogenize_command
homogenize_exact = record {
  reading = one_once _ (ring_and_once a_set (new_name ∷ []));
  checks = λ texts v h. (room_check (length v.0), tt);
  work = λ v r h. homogenize_work v.1.0 r h;
  within = λ v r w h. homogenize_within v.1.0 r w h;
}

pub homogenize_untested : (ws : List Written) (r : Refusal) → IsOfTest r → IsHomogenizeRefusal ws r → ⊥
homogenize_untested ws (refusals.ExponentOverflow o) t h = t
homogenize_untested ws refusals.Memory t h = t
homogenize_untested ws _ t h = h

pub homogenize_not_listed : (ws : List Written) (most : ℕ) → IsHomogenizeRefusal ws (refusals.ListLimit most) → ⊥
homogenize_not_listed ws most h = h

-- ---- `_stats`

pub stats_exact : IsExactCommand stats_command
stats_exact = record {
  reading = one_once _ (ring_and_once marked_set_list []);
  checks = λ texts v h. tt;
  work = λ v r h. subst IsOfWork (sym h.1) (gordan_work h.0);
  within = λ v r w h. h.1 ∙ ap of_gordan (w h.0 h.2);
}

pub stats_unanswered : (n : ℕ) (ring : List (List ℕ)) (sets : List MarkedPolynomials) (e : GordanError) → n ≡ length ring → IsStatisticsCause n sets e →
    IsUnanswered stats_command (ring, sets) (of_gordan e)
stats_unanswered n ring sets e q h = IsUnanswered.in_work tt (e, refl, subst (λ k. IsStatisticsCause k sets e) q h)

pub stats_answered : (n : ℕ) (ring : List (List ℕ)) (sets : List MarkedPolynomials) (s : Stats) (text : List ℕ) → n ≡ length ring → AreStatistics n sets s →
    text ≡ stats_text s → IsAnswerFor stats_command (ring, sets) text
stats_answered n ring sets s text q h e = record {
  formed = tt;
  is_answer = record { stats = s; are_stats = subst (λ k. AreStatistics k sets s) q h; is_text = e };
}

-- ---- lines

-- seven pieces, one behind another
pub seven_pieces : (a b c d e f g t u v w x y z : List ℕ) → t ≡ a → u ≡ t ++ b → v ≡ u ++ c → w ≡ v ++ d → x ≡ w ++ e → y ≡ x ++ f → z ≡ y ++ g →
    z ≡ concat (a ∷ b ∷ c ∷ d ∷ e ∷ f ∷ g ∷ [])
seven_pieces a b c d e f g t u v w x y z p q r i j k l =
    let two : u ≡ a ++ b = q ∙ ap (λ n. n ++ b) p in
    let three : v ≡ (a ++ b) ++ c = r ∙ ap (λ n. n ++ c) two in
    let four : w ≡ ((a ++ b) ++ c) ++ d = i ∙ ap (λ n. n ++ d) three in
    let five : x ≡ (((a ++ b) ++ c) ++ d) ++ e = j ∙ ap (λ n. n ++ e) four in
    let six : y ≡ ((((a ++ b) ++ c) ++ d) ++ e) ++ f = k ∙ ap (λ n. n ++ f) five in
    let seven : z ≡ (((((a ++ b) ++ c) ++ d) ++ e) ++ f) ++ g = l ∙ ap (λ n. n ++ g) six in
    seven ∙ simp (append_assoc, append-nil)
