-- The way up among the normals that a program keeps: ascending, each once.
-- To cite: index_of_normal, way_found, way_none, least_of_way, no_crossing, no_way, way_read, index_read, missing_read, told_way,
-- not_told, shown_crossing, refuted_crossing, negative_read, wide_at, small_at.
use Rattle.std.proofs.Common.{◌≡◌, ◌⊎◌, ℕ, ◌<◌, List, [], length, get_or, Contains, All, ℤ, Option, Some, None, Bool, true, false, IsTrue, ◌↔◌, arith, refl}
use Rattle.std.proofs.Common.{sym, ap, ◌∙◌, subst, inl, inr}
use Rattle.std.proofs.lemmas.Bool.{cases_lt}
use Rattle.std.proofs.lemmas.List.{get_or_default}
use Rattle.std.specs.declared.cmp.Ordering.{Ordering}
use Rattle.std.specs.declared.cmp.Ordering.TheVariants.{Less}
use Rattle.gf_gordan.specs.Alternative.{AreRows}
use Rattle.gf_poly.specs.Marking.{MarkedPolynomial}
use Rattle.gf_facets_theory.specs.Rows.{IsNormal}
use Rattle.gf_facets_theory.specs.Regions.{Region, IsRegion}
use Rattle.gf_facets_theory.specs.LexPositive.{IsNegative, IsBefore}
use Rattle.gf_facets_theory.specs.Facets.{IsFlippable}
use Rattle.gf_facets_theory.proofs.VectorOrder.{before_strict}
use Rattle.gf_cone.specs.Cones.{ConeRows, normal_at, IsConeOf}
use Rattle.gf_cone.specs.Crossing.{IsCrossingDecided}
use Rattle.gf_cone.specs.Small.{IsSmall}
use Rattle.gf_cone.specs.Weights.{IsForSign}
use Rattle.gf_cone.proofs.AnswerLaws.{crossable_flippable}
use Rattle.gf_cone.proofs.CrossingLaws.{negative_told, small_read, width_read}
use Rattle.gf_cone.proofs.SmallLaws.{small_for_sign}
use Rattle.gf_known_cone.specs.Ways.{LeadsUpAt, IsLeastUp}
use Rattle.gf_reverse_theory.specs.Upward.{LeadsUp, IsWayUp}
use Rattle.gf_tree.specs.Indices.{IsVectorIndex}
use Rattle.gf_tree.proofs.LabelLaws.{rises}

-- what is told not to hold
pub not_told : (b : Bool) (A : Type 0) → IsTrue b ↔ A → b ≡ false → A → ⊥
not_told b A h e a = absurd (let f : true ≡ false = sym (h.1 a) ∙ e in cc)

module _ (n : ℕ) (k : Region) (bs : List MarkedPolynomial) (c : ConeRows) (is : IsConeOf n k bs c) where
  -- a normal has its index
  pub index_of_normal : (a : List ℤ) → IsNormal bs a → (i : ℕ) × (i < length c.normals) × (normal_at c i ≡ a)
  index_of_normal a q = (let p = is.normals.all a q in (p.0, p.1, get_or_default c.normals p.0 [] a p.1 ∙ p.2))

  leads_at : (i : ℕ) → LeadsUpAt k.root c i → LeadsUp n k bs (normal_at c i)
  leads_at i u = record {
    flippable = (crossable_flippable n k bs c i u.inside is).0 u.crossable;
    negative = u.negative;
  }

  at_leads : (i : ℕ) → i < length c.normals → LeadsUp n k bs (normal_at c i) → LeadsUpAt k.root c i
  at_leads i l u = record {
    inside = l;
    negative = u.negative;
    crossable = (crossable_flippable n k bs c i l is).1 u.flippable;
  }

  -- a normal before another's index is before it
  ascends : (i j : ℕ) → i < j → j < length c.normals → IsBefore (normal_at c i) (normal_at c j)
  ascends i j l g = rises c.normals is.normals.rises i j (normal_at c i) (normal_at c j) l g
      (get_or_default c.normals i (normal_at c i) [] (omega (arith, l, g))) (get_or_default c.normals j (normal_at c j) [] g)

  -- the normal at the least index that leads up is the way up
  pub way_found : (i : ℕ) → IsLeastUp k.root c i → IsWayUp n k bs (normal_at c i)
  way_found i w = record { leads = leads_at i w.leads; least = λ b u. at b u (index_of_normal b u.flippable.inside.normal) }
    where
      at : (b : List ℤ) → LeadsUp n k bs b → ((j : ℕ) × (j < length c.normals) × (normal_at c j ≡ b)) → (normal_at c i ≡ b) ⊎ IsBefore (normal_at c i) b
      at b u p = elim (cases_lt p.0 i) [
        | inl s ↦ absurd (w.least p.0 s (at_leads p.0 p.1 (subst (LeadsUp n k bs) (sym p.2) u)))
        | inr g ↦ elim (cases_lt i p.0) [
          | inl s ↦ inr (subst (IsBefore (normal_at c i)) p.2 (ascends i p.0 s p.1))
          | inr t ↦ (let e : i ≡ p.0 = omega arith in inl (subst (λ (z : ℕ). normal_at c z ≡ b) (sym e) p.2))
        ]
      ]

  -- where none leads up there is no way up
  pub way_none : ((j : ℕ) → LeadsUpAt k.root c j → ⊥) → (a : List ℤ) → LeadsUp n k bs a → ⊥
  way_none h a u = (let p = index_of_normal a u.flippable.inside.normal in h p.0 (at_leads p.0 p.1 (subst (LeadsUp n k bs) (sym p.2) u)))

  -- the way up is at the least index
  pub least_of_way : (i : ℕ) → i < length c.normals → IsWayUp n k bs (normal_at c i) → IsLeastUp k.root c i
  least_of_way i l w = record {
    leads = at_leads i l w.leads;
    least = λ j s u. elim (w.least (normal_at c j) (leads_at j u)) [
      | inl e ↦ before_strict.irreflexive (normal_at c i) (subst (λ (z : List ℤ). IsBefore z (normal_at c i)) (sym e) (ascends j i s l))
      | inr b ↦ before_strict.irreflexive (normal_at c i) (before_strict.transitive (normal_at c i) (normal_at c j) (normal_at c i) b (ascends j i s l))
    ];
  }

  -- what isn't among the normals can't be crossed, and isn't the way up
  pub no_crossing : (a : List ℤ) → (Contains c.normals a → ⊥) → IsFlippable n k bs a → ⊥
  no_crossing a h f = h (is.normals.all a f.inside.normal)

  pub no_way : (a : List ℤ) → (Contains c.normals a → ⊥) → IsWayUp n k bs a → ⊥
  no_way a h w = no_crossing a h w.leads.flippable

  -- ---- as a program reads the normals

  read_normal : (given : List (List ℤ)) (d : ConeRows) (i : ℕ) (x a : List ℤ) → given ≡ d.normals → d ≡ c → i < length given → x ≡ get_or given i x → a ≡ x →
      a ≡ normal_at c i
  read_normal given d i x a e f l r q = q ∙ r ∙ get_or_default given i x [] l ∙ ap (λ (z : List (List ℤ)). get_or z i []) (e ∙ ap (λ (z : ConeRows). z.normals)
      f)

  pub way_read : (given : List (List ℤ)) (d : ConeRows) (i : ℕ) (x a : List ℤ) → given ≡ d.normals → d ≡ c → x ≡ get_or given i x → a ≡ x →
      IsLeastUp k.root c i → IsWayUp n k bs a
  way_read given d i x a e f r q w =
      subst (IsWayUp n k bs) (sym (read_normal given d i x a e f (subst (λ (z : List (List ℤ)). i < length z) (sym (e ∙ ap (λ (z : ConeRows). z.normals) f))
      w.leads.inside) r q)) (way_found i w)

  -- a vector at an index of the list
  pub index_read : (given : List (List ℤ)) (a : List ℤ) (i : ℕ) → given ≡ c.normals → IsVectorIndex given a (Some i) →
      (i < length c.normals) × (normal_at c i ≡ a)
  index_read given a i e p = subst (λ (z : List (List ℤ)). (i < length z) × (get_or z i [] ≡ a)) e p

  pub missing_read : (given : List (List ℤ)) (a : List ℤ) → given ≡ c.normals → IsVectorIndex given a None → Contains c.normals a → ⊥
  missing_read given a e p h = p (subst (λ (z : List (List ℤ)). Contains z a) (sym e) h)

  -- whether the vector at an index is the way up
  pub told_way : (a : List ℤ) (i : ℕ) (b : Bool) → (i < length c.normals) × (normal_at c i ≡ a) → IsTrue b ↔ IsLeastUp k.root c i → IsTrue b ↔ IsWayUp n k bs a
  told_way a i b p h = (
    λ t. subst (IsWayUp n k bs) p.1 (way_found i (h.0 t)),
    λ w. h.1 (least_of_way i p.0 (subst (IsWayUp n k bs) (sym p.1) w)),
  )

  -- whether a flip may cross the facet of the vector at an index
  pub shown_crossing : (a : List ℤ) (i : ℕ) (w : List ℤ) (o : Option (List ℤ)) → (i < length c.normals) × (normal_at c i ≡ a) → IsCrossingDecided c i o →
      o ≡ Some w → IsFlippable n k bs a
  shown_crossing a i w o p d t = subst (IsFlippable n k bs) p.1 (subst (IsCrossingDecided c i) t d n k bs is)

  pub refuted_crossing : (a : List ℤ) (i : ℕ) (o : Option (List ℤ)) → (i < length c.normals) × (normal_at c i ≡ a) → IsCrossingDecided c i o → o ≡ None →
      IsFlippable n k bs a → ⊥
  refuted_crossing a i o p d t f = subst (IsCrossingDecided c i) t d n k bs is (subst (IsFlippable n k bs) (sym p.1) f)

  -- a normal that is seen to be negative at the root
  pub negative_read : (given : List (List ℤ)) (a x : List ℤ) (i : ℕ) (o : Ordering) → given ≡ c.normals → (i < length c.normals) × (normal_at c i ≡ a) →
      x ≡ get_or given i x → (o ≡ Less) ↔ IsNegative k.root x → o ≡ Less → IsNegative k.root a
  negative_read given a x i o e p r s q = subst (IsNegative k.root) p.1 ((negative_told k.root c given i x o e p.0 r s q).0 refl)

  pub wide_at : (given : List (List ℤ)) (x : List ℤ) (i : ℕ) → given ≡ c.normals → AreRows c.variables given → i < length c.normals → x ≡ get_or given i x →
      IsRegion n k → length x ≡ length k.root
  wide_at given x i e w l r g = width_read c given i x (length k.root) e w l r (g.root.width ∙ sym is.variables)

  pub small_at : (given : List (List ℤ)) (a x : List ℤ) (i : ℕ) → given ≡ c.normals → All IsSmall given → (i < length c.normals) × (normal_at c i ≡ a) →
      x ≡ get_or given i x → IsForSign x
  small_at given a x i e s p r = small_for_sign x (small_read c given i x e s p.0 r)
