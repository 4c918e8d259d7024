-- What `_ismarkedgroebnerbasis` answers, and why it doesn't.
-- To cite: check_refused, verdict-of, marked_answered.
use Rattle.std.specs.Prelude.{◌≡◌, ◌↔◌, ℕ, Bool, true, false, List, [], ◌∷◌, IsTrue}
use Rattle.std.proofs.Common.{refl, inl, inr}
use Rattle.gf_poly.specs.Marking.{MarkedPolynomials}
use Rattle.gf_reduced.specs.declared.error.CheckError.{CheckError}
use Rattle.gf_reduced.specs.Markings.{IsMarkedGroebnerBasis}
use Rattle.gf_reduced.specs.Refusals.{IsTestRefusal}
use Rattle.gf_front.specs.declared.refusal.Refusal.{Refusal}
use Rattle.gf_items.specs.Items.{IsTextOf}
use Rattle.gf_items.specs.Sources.{ring_marked_set}
use Rattle.gf_frame.specs.Commands.{IsAnswered, IsUnanswered, IsRefusedOn}
use Rattle.gfan_common.specs.Printing.{verdict_text, IsVerdictText}
use Rattle.gfan_common.specs.CheckedSets.{of_check}
use Rattle.gfan_sets.specs.Marked.{marked_command}

pub check_refused : (source : List ℕ) (ring : List (List ℕ)) (set : MarkedPolynomials) (e : CheckError) (r : Refusal) →
    IsTextOf ring_marked_set source (ring, set) → IsTestRefusal set e → r ≡ of_check e → IsRefusedOn marked_command (source ∷ []) r
check_refused source ring set e r read h q = IsRefusedOn.behind_text (ring, set) read (IsUnanswered.in_work tt (e, q, h))

pub verdict-of : (P : Type 0) (b : Bool) (text : List ℕ) → IsTrue b ↔ P → text ≡ verdict_text b → IsVerdictText P text
verdict-of P true text h e = inl (h.0 refl, e)
verdict-of P false text h e = inr (λ p. (let t : false ≡ true = h.1 p in absurd (cc)), e)

pub marked_answered : (source text : List ℕ) (ring : List (List ℕ)) (set : MarkedPolynomials) (b : Bool) → IsTextOf ring_marked_set source (ring, set) →
    IsTrue b ↔ IsMarkedGroebnerBasis set.variables set.items → text ≡ verdict_text b → IsAnswered marked_command (source ∷ []) text
marked_answered source text ring set b r h e = record {
  value = (ring, set);
  read = r;
  answer = record { formed = tt; is_answer = verdict-of (IsMarkedGroebnerBasis set.variables set.items) b text h e };
}
