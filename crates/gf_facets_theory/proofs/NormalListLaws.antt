-- The normals of a marked list can be listed; in an ascending list, the others of one are the rest.
-- To cite: NormalsListed, normals_listed, OthersListed, others_listed, others_only, others_all.
use Rattle.std.proofs.Common.{◌≡◌, ◌⊎◌, ℕ, zero, suc, ◌<◌, List, [], ◌∷◌, length, get_or, Contains, ℤ, arith, sym, ◌∙◌, subst, inl, inr}
use Rattle.std.proofs.lemmas.List.{get_or_default}
use Rattle.gf_int_theory.proofs.ListLaws.{Contains-here}
use Rattle.gf_vec.specs.Primitive.{IsPrimitivePart}
use Rattle.gf_poly.specs.Marking.{MarkedPolynomial}
use Rattle.gf_ideal_theory.proofs.ListLaws.{Contains-there, Contains-cases}
use Rattle.gf_facets_theory.specs.Rows.{rows_of_polynomials, IsNormal}
use Rattle.gf_facets_theory.specs.LexPositive.{IsBefore}
use Rattle.gf_facets_theory.specs.Normals.{Ascends, others_of}
use Rattle.gf_facets_theory.proofs.VectorLaws.{vector_or_not}
use Rattle.gf_facets_theory.proofs.PrimitiveLaws.{primitive_unique}
use Rattle.gf_facets_theory.proofs.VectorOrder.{before_strict}
use Rattle.gf_gordan.proofs.ExistenceLaws.{divided_exists}

-- ---- the list of normals

-- the primitive parts of rows
record PartsListed (rows : List (List ℤ)) : Type 0 where
  list : List (List ℤ)
  only : (a : List ℤ) → Contains list a → (t : List ℤ) × Contains rows t × IsPrimitivePart t a
  all : (t a : List ℤ) → Contains rows t → IsPrimitivePart t a → Contains list a

parts_listed : (rows : List (List ℤ)) → PartsListed rows
parts_listed [] = record { list = []; only = λ a c. absurd (omega (arith, c.1)); all = λ t a c p. absurd (omega (arith, c.1)) }
parts_listed (t ∷ rows) = at (divided_exists t) (parts_listed rows)
  where
    at : ((u : List ℤ) × IsPrimitivePart t u) → PartsListed rows → PartsListed (t ∷ rows)
    at u r = record {
      list = u.0 ∷ r.list;
      only = λ a c. elim (Contains-cases u.0 a r.list c) [
        | inl e ↦ (t, Contains-here t rows, subst (IsPrimitivePart t) e u.1)
        | inr k ↦ (let q = r.only a k in (q.0, Contains-there t q.0 rows q.1, q.2))
      ];
      all = λ s a c p. elim (Contains-cases t s rows c) [
        | inl e ↦ subst (Contains (u.0 ∷ r.list)) (primitive_unique t u.0 a u.1 (subst (λ (w : List ℤ). IsPrimitivePart w a) (sym e) p))
            (Contains-here u.0 r.list)
        | inr k ↦ Contains-there u.0 a r.list (r.all s a k p)
      ];
    }

-- the normals as a list
pub record NormalsListed (bs : List MarkedPolynomial) : Type 0 where
  pub list : List (List ℤ)
  pub only : (a : List ℤ) → Contains list a → IsNormal bs a
  pub all : (a : List ℤ) → IsNormal bs a → Contains list a

pub normals_listed : (bs : List MarkedPolynomial) → NormalsListed bs
normals_listed bs = let r = parts_listed (rows_of_polynomials bs) in record { list = r.list; only = r.only; all = λ a q. r.all q.0 a q.1 q.2 }

-- ---- the others of one

-- those of a list that aren't a
pub record OthersListed (ns : List (List ℤ)) (a : List ℤ) : Type 0 where
  pub list : List (List ℤ)
  pub only : (b : List ℤ) → Contains list b → Contains ns b × (b ≡ a → ⊥)
  pub all : (b : List ℤ) → Contains ns b → (b ≡ a → ⊥) → Contains list b

pub others_listed : (ns : List (List ℤ)) (a : List ℤ) → OthersListed ns a
others_listed [] a = record { list = []; only = λ b c. absurd (omega (arith, c.1)); all = λ b c n. c }
others_listed (b ∷ ns) a = at (others_listed ns a) (vector_or_not b a)
  where
    at : OthersListed ns a → (b ≡ a) ⊎ (b ≡ a → ⊥) → OthersListed (b ∷ ns) a
    at r (inl e) = record {
      list = r.list;
      only = λ c k. (Contains-there b c ns (r.only c k).0, (r.only c k).1);
      all = λ c k n. elim (Contains-cases b c ns k) [ inl f ↦ absurd (n (sym f ∙ e)) | inr l ↦ r.all c l n ];
    }
    at r (inr m) = record {
      list = b ∷ r.list;
      only = λ c k. elim (Contains-cases b c r.list k) [
        | inl f ↦ (subst (Contains (b ∷ ns)) f (Contains-here b ns), λ e. m (f ∙ e))
        | inr l ↦ (Contains-there b c ns (r.only c l).0, (r.only c l).1)
      ];
      all = λ c k n. elim (Contains-cases b c ns k) [
        | inl f ↦ subst (Contains (b ∷ r.list)) f (Contains-here b r.list)
        | inr l ↦ Contains-there b c r.list (r.all c l n)
      ];
    }

-- those of an ascending list that aren't at an index
pub others_only : (ns : List (List ℤ)) (i : ℕ) (b : List ℤ) → Ascends ns → i < length ns → Contains (others_of i ns) b →
    Contains ns b × (b ≡ get_or ns i [] → ⊥)
others_only [] i b h l c = absurd (omega arith)
others_only (x ∷ ns) zero b h l c = (Contains-there x b ns c, λ e. before_strict.irreflexive x (subst (IsBefore x) e (h.0 b c)))
others_only (x ∷ ns) (suc i) b h l c = elim (Contains-cases x b (others_of i ns) c) [
  | inl e ↦ (
    subst (Contains (x ∷ ns)) e (Contains-here x ns),
    λ f. before_strict.irreflexive x (subst (IsBefore x) (sym (e ∙ f)) (h.0 (get_or ns i []) (i, omega arith, get_or_default ns i _ [] (omega arith)))),
  )
  | inr k ↦ (let r = others_only ns i b h.1 (omega arith) k in (Contains-there x b ns r.0, r.1))
]

pub others_all : (ns : List (List ℤ)) (i : ℕ) (b : List ℤ) → i < length ns → Contains ns b → (b ≡ get_or ns i [] → ⊥) →
    Contains (others_of i ns) b
others_all [] i b l c n = absurd (omega arith)
others_all (x ∷ ns) zero b l c n = elim (Contains-cases x b ns c) [ inl e ↦ absurd (n (sym e)) | inr k ↦ k ]
others_all (x ∷ ns) (suc i) b l c n = elim (Contains-cases x b ns c) [
  | inl e ↦ subst (Contains (x ∷ others_of i ns)) e (Contains-here x (others_of i ns))
  | inr k ↦ Contains-there x b (others_of i ns) (others_all ns i b (omega arith) k n)
]
