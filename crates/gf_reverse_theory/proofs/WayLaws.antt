-- Whether a facet leads up is decided, and the least of those that do is found.
-- To cite: way_or_none.
use Rattle.std.proofs.Common.{◌≡◌, ◌⊎◌, ℕ, List, [], ◌∷◌, Contains, ℤ, arith, sym, subst, inl, inr}
use Rattle.gf_int_theory.proofs.ListLaws.{Contains-here}
use Rattle.gf_poly.specs.Marking.{MarkedPolynomial}
use Rattle.gf_gordan.specs.Alternative.{AreRows}
use Rattle.gf_ideal_theory.proofs.ListLaws.{Contains-there, Contains-cases}
use Rattle.gf_facets_theory.specs.Rows.{IsNormal}
use Rattle.gf_facets_theory.specs.Regions.{Region}
use Rattle.gf_facets_theory.specs.LexPositive.{rooted, IsBefore}
use Rattle.gf_facets_theory.specs.MarkedBases.{AreCanonical}
use Rattle.gf_facets_theory.proofs.LexPositiveLaws.{lex-not_both}
use Rattle.gf_facets_theory.proofs.NormalListLaws.{NormalsListed, normals_listed}
use Rattle.gf_facets_theory.proofs.FacetSystems.{flippable_or_not}
use Rattle.gf_facets_theory.proofs.VectorOrder.{before_strict}
use Rattle.gf_reverse_theory.specs.Upward.{LeadsUp, IsWayUp}
use Rattle.gf_reverse_theory.proofs.RootwardLaws.{normal_sign}

module _ (n : ℕ) (k : Region) (bs : List MarkedPolynomial) (wide : AreRows n k.rows) (canonical : AreCanonical n bs) where
  -- whether a normal leads up
  leads_or_not : (a : List ℤ) → IsNormal bs a → LeadsUp n k bs a ⊎ (LeadsUp n k bs a → ⊥)
  leads_or_not a q = elim (normal_sign n bs k.root a canonical q) [
    | inl p ↦ inr (λ u. lex-not_both (rooted k.root a) p u.negative)
    | inr m ↦ elim (flippable_or_not n k bs a wide canonical q) [ inl f ↦ inl (record { flippable = f; negative = m }) | inr f ↦ inr (λ u. f u.flippable) ]
  ]

  -- the least of a list that leads up, or none does
  least_in : (ns : List (List ℤ)) → ((a : List ℤ) → Contains ns a → IsNormal bs a) →
      ((a : List ℤ) × LeadsUp n k bs a × ((b : List ℤ) → Contains ns b → LeadsUp n k bs b → (a ≡ b) ⊎ IsBefore a b)) ⊎ ((a : List ℤ) → Contains ns a →
      LeadsUp n k bs a → ⊥)
  least_in [] h = inr (λ a c. absurd (omega (arith, c.1)))
  least_in (b ∷ ns) h = at (leads_or_not b (h b (Contains-here b ns))) (least_in ns (λ a c. h a (Contains-there b a ns c)))
    where
      at : LeadsUp n k bs b ⊎ (LeadsUp n k bs b → ⊥) → ((a : List ℤ) × LeadsUp n k bs a × ((c : List ℤ) → Contains ns c → LeadsUp n k bs c →
          (a ≡ c) ⊎ IsBefore a c)) ⊎ ((a : List ℤ) → Contains ns a → LeadsUp n k bs a → ⊥) →
          ((a : List ℤ) × LeadsUp n k bs a × ((c : List ℤ) → Contains (b ∷ ns) c → LeadsUp n k bs c → (a ≡ c) ⊎ IsBefore a c)) ⊎ ((a : List ℤ) →
          Contains (b ∷ ns) a → LeadsUp n k bs a → ⊥)
      at (inr m) (inr none) = inr (λ a c u. elim (Contains-cases b a ns c) [ inl e ↦ m (subst (LeadsUp n k bs) (sym e) u) | inr l ↦ none a l u ])
      at (inr m) (inl r) = inl (r.0, r.1, λ c l u. elim (Contains-cases b c ns l) [ inl e ↦ absurd (m (subst (LeadsUp n k bs) (sym e) u)) | inr i ↦ r.2 c i u ])
      at (inl u) (inr none) = inl (b, u, λ c l w. elim (Contains-cases b c ns l) [ inl e ↦ inl e | inr i ↦ absurd (none c i w) ])
      at (inl u) (inl r) = elim (before_strict.total b r.0) [
        | inl l ↦ inl (
          b,
          u,
          λ c i w. elim (Contains-cases b c ns i) [
            | inl e ↦ inl e
            | inr j ↦ elim (r.2 c j w) [ inl f ↦ inr (subst (IsBefore b) f l) | inr m ↦ inr (before_strict.transitive b r.0 c l m) ]
          ],
        )
        | inr t ↦ elim t [
          | inl e ↦ inl (b, u, λ c i w. elim (Contains-cases b c ns i) [ inl f ↦ inl f | inr j ↦ subst (λ a. (a ≡ c) ⊎ IsBefore a c) (sym e) (r.2 c j w) ])
          | inr l ↦ inl (r.0, r.1, λ c i w. elim (Contains-cases b c ns i) [ inl f ↦ inr (subst (IsBefore r.0) f l) | inr j ↦ r.2 c j w ])
        ]
      ]

  -- the way up, or there is none
  pub way_or_none : ((a : List ℤ) × IsWayUp n k bs a) ⊎ ((a : List ℤ) → LeadsUp n k bs a → ⊥)
  way_or_none = at (normals_listed bs)
    where
      at : NormalsListed bs → ((a : List ℤ) × IsWayUp n k bs a) ⊎ ((a : List ℤ) → LeadsUp n k bs a → ⊥)
      at l = elim (least_in l.list l.only) [
        | inl r ↦ inl (r.0, record { leads = r.1; least = λ b u. r.2 b (l.all b u.flippable.inside.normal) u })
        | inr none ↦ inr (λ a u. none a (l.all a u.flippable.inside.normal) u)
      ]
