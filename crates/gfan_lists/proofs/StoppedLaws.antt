-- What stands where a list is refused, and why it is refused there.
-- To cite: going_of, stopped_for. The rest are steps.
use Rattle.std.specs.Prelude.{◌≡◌, ◌⊎◌, ℕ, List, ◌∷◌, ◌++◌, length, Option}
use Rattle.std.proofs.Common.{arith, subst, inl, inr, length-append}
use Rattle.gf_poly.specs.Polynomial.{Terms}
use Rattle.gf_poly.specs.Marking.{MarkedPolynomials}
use Rattle.gf_facets_theory.specs.Regions.{Region}
use Rattle.gf_front.specs.declared.refusal.Refusal.{Refusal}
use Rattle.gf_front.specs.declared.refusal.Refusal.TheVariants as refusals
use Rattle.gf_frame.specs.Commands.{Command, IsWholeBy, IsBegunBy}
use Rattle.gfan_common.specs.Performed.{IsBegunAs, IsStoppedFor}
use Rattle.gfan_lists.specs.declared.bases.ListOptions.{ListOptions}
use Rattle.gf_lists_theory.specs.BasesList.{AreAllBasesIn}
use Rattle.gfan_lists.specs.Bases.{IsFullTextBehind, IsGoingCauseBehind, IsStoppedAt, IsBegunWhereBehind}
use Rattle.gfan_lists.specs.BasesWriting.{IsListBegunBehind, IsListStoppedBehind}

-- the refusal is one of the list from there on, or memory runs out
pub going_of : (before : List MarkedPolynomials) (o : ListOptions) (ring : List (List ℕ)) (k : Region) (fs : List Terms) (text : List ℕ) (r : Refusal) →
    IsBegunWhereBehind before o ring k fs text r → IsGoingCauseBehind before o (length ring) k fs r ⊎ (r ≡ refusals.Memory)
going_of before o ring k fs text r b = at b.cause
  where
    split : (next : MarkedPolynomials) (others : List MarkedPolynomials) → b.rest ≡ next ∷ others →
        AreAllBasesIn (length ring) k fs (before ++ (b.written ++ next ∷ others))
    split next others e = subst (λ l. AreAllBasesIn (length ring) k fs (before ++ (b.written ++ l))) e b.begun.are_all

    at : IsStoppedAt o (length ring) k fs b.written b.rest r → IsGoingCauseBehind before o (length ring) k fs r ⊎ (r ≡ refusals.Memory)
    at (IsStoppedAt.in_tree e h q) = inl (IsGoingCauseBehind.in_tree e (record {
      written = b.written;
      rest = b.rest;
      are_all = b.begun.are_all;
      few = b.few;
      early = h;
    }) q)
    at (IsStoppedAt.at_limit most next others e l j q) = inl (IsGoingCauseBehind.at_limit most (record {
      is_limit = l;
      list = b.written ++ next ∷ others;
      are_all = split next others e;
      longer = omega (arith, j, length-append b.written (next ∷ others));
    }) q)
    at (IsStoppedAt.at_certificates next others e c f u) = inl (IsGoingCauseBehind.at_certificates (record {
      certified = c;
      written = b.written;
      basis = next;
      rest = others;
      are_all = split next others e;
      few = f;
      uncertified = u;
    }))
    at (IsStoppedAt.no_memory q) = inr q

limit_not_memory : (most : ℕ) → refusals.ListLimit most ≡ refusals.Memory → ⊥
limit_not_memory most q = cc

-- so it is of a command whose text is that of the list, once what is written before, what stands and why it is refused are those of the list
module _ (c : Command) (a : c.Value) (before : List MarkedPolynomials) (o : ListOptions) (ring : List (List ℕ)) (k : Region) (fs : List Terms)
    (held holds : Option (List ℕ)) (n m : ℕ)
    (whole : (text : List ℕ) → IsFullTextBehind before o ring k fs text → IsWholeBy c.writing c.IsAnswer a text)
    (begun : (text : List ℕ) (r : Refusal) → IsBegunWhereBehind before o ring k fs text r → IsBegunBy c.writing a text r)
    (cause : (r : Refusal) → IsGoingCauseBehind before o (length ring) k fs r → c.IsCause a r) where
  left : (r : Refusal) → IsListBegunBehind before o ring k fs held holds r → IsBegunAs c a held holds r
  left r p = (p.0, begun p.0 r p.1, p.2)

  at_limit : (most : ℕ) → IsListBegunBehind before o ring k fs held holds (refusals.ListLimit most) → c.IsCause a (refusals.ListLimit most)
  at_limit most p = elim (going_of before o ring k fs p.0 (refusals.ListLimit most) p.1) [
    | inl h ↦ cause (refusals.ListLimit most) h
    | inr q ↦ absurd (limit_not_memory most q)
  ]

  pub stopped_for : (r : Refusal) → IsListStoppedBehind before o ring k fs held holds n m r → IsStoppedFor c a held holds n m r
  stopped_for refusals.WriteFault s = (s.0, (s.1.0, whole s.1.0 s.1.1, s.1.2))
  stopped_for (refusals.ListLimit most) s = (at_limit most s, left (refusals.ListLimit most) s)
  stopped_for r s = inl (elim (going_of before o ring k fs s.0 r s.1) [ inl h ↦ inl (cause r h) | inr q ↦ inr q ], left r s)
