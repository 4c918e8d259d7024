-- The fan of an ideal in a region is a finite tree: the way up ends at one root, and what is below a node can be listed.
-- To cite: bases_of, crossing_falls, walks_fall, rank_in, parents_fall, no_cycle, parents_climb, roots_one, node_list.
use Rattle.std.proofs.Common.{◌≡◌, ◌⊎◌, ℕ, ◌+◌, ◌<◌, ◌≤◌, List, [], ◌∷◌, ◌++◌, length, Contains, max, map, All, ℤ, pos, ◌<ℤ◌, arith, refl, sym, ap, ◌∙◌, subst}
use Rattle.std.proofs.Common.{inl, inr}
use Rattle.std.proofs.lemmas.List.{length-map}
use Rattle.std.proofs.lemmas.List.Elements.{Contains-append_cases, Contains-append_left, Contains-append_right}
use Rattle.gf_gordan.specs.Alternative.{AreRows}
use Rattle.gf_exponents_theory.specs.Exponents.{Exponents, weight}
use Rattle.gf_exponents_theory.specs.Orders.{gains}
use Rattle.gf_exponents_theory.proofs.WeightLaws.{weight-same}
use Rattle.gf_int_theory.proofs.ListLaws.{Contains-here}
use Rattle.gf_poly.specs.declared.Term.{Term}
use Rattle.gf_poly.specs.Polynomial.{Terms}
use Rattle.gf_poly.specs.Marking.{MarkedPolynomial, MarkedPolynomials, Each}
use Rattle.gf_ideal_theory.specs.Membership.{HasMonomial, AreInVariables}
use Rattle.gf_ideal_theory.proofs.ListLaws.{Contains-there, Contains-cases}
use Rattle.gf_ideal_theory.proofs.ListedTerms.{by_terms, variables_by_terms}
use Rattle.gf_reverse_search.specs.Path.{IsRoot, Leads}
use Rattle.gf_reverse_search.specs.Listing.{Among}
use Rattle.gf_reverse_search.specs.Whole.{Parent}
use Rattle.gf_facets_theory.specs.Rows.{negated, IsNormal}
use Rattle.gf_facets_theory.specs.MarkedBases.{AreCanonical, IsBasisInRegion}
use Rattle.gf_reverse_theory.specs.LeadingNumber.{leading_number}
use Rattle.gf_reverse_theory.specs.Heights.{above_terms, above_members, above_bases}
use Rattle.gf_facets_theory.specs.Regions.{Region}
use Rattle.gf_reverse_theory.specs.Upward.{IsRootWeight, LeadsUp, Fan, IsFanOfIdeal, IsNodeIn, IsParentIn}
use Rattle.gf_reverse_theory.proofs.LeadingNumberLaws.{leading_number_falls}
use Rattle.gf_reverse_theory.proofs.RootLaws.{one_root}
use Rattle.gf_reverse_theory.proofs.UpwardLaws.{parent_nodes, same_list}
use Rattle.gf_reverse_theory.proofs.WayLaws.{way_or_none}
use Rattle.gf_initial_theory.proofs.NeighbourLaws.{neighbour_exists}
use Rattle.gf_initial_theory.proofs.CrossingLaws.{parts_of_neighbours}
use Rattle.gf_facets_theory.specs.LexPositive.{IsNegative}
use Rattle.gf_facets_theory.specs.Neighbours.{AreAdjacent}
use Rattle.gf_facets_theory.proofs.NormalLaws.{normal-length, normal-nonzero}
use Rattle.gf_facets_theory.proofs.NormalListLaws.{NormalsListed, normals_listed}
use Rattle.gf_reverse_theory.specs.AllBases.{all_bases, number_of_bases}
use Rattle.gf_reverse_theory.proofs.AllBasesLaws.{listed_in}
use Rattle.gf_reverse_theory.proofs.RootwardLaws.{AreSignable, NearRoot, near_root, negative_at, normal-signable, root_weight}

-- ---- heights
terms_below : (r : List ℕ) (d : ℕ) (f : Terms) → above_terms r f ≤ d → Each (λ (t : Term). weight r t.mono < d) f
terms_below r d [] h = tt
terms_below r d (t ∷ f) h = (omega arith, terms_below r d f (omega arith))

members_below : (r : List ℕ) (d : ℕ) (bs : List MarkedPolynomial) → above_members r bs ≤ d → (b : MarkedPolynomial) → Contains bs b → (x : Exponents) →
    HasMonomial b.poly x → weight r x < d
members_below r d [] h b c x m = absurd (omega (arith, c.1))
members_below r d (a ∷ bs) h b c x m = elim (Contains-cases a b bs c) [
  | inl e ↦ by_terms (λ y. weight r y < d) b.poly (λ y z s l. omega (arith, weight-same r y z s))
      (subst (λ (z : MarkedPolynomial). Each (λ (t : Term). weight r t.mono < d) z.poly) e (terms_below r d a.poly (omega arith))) x m
  | inr k ↦ members_below r d bs (omega arith) b k x m
]

pub basis_below : (r : List ℕ) (xs : List (List MarkedPolynomial)) (bs : List MarkedPolynomial) → Among xs bs → above_members r bs ≤ above_bases r xs
basis_below r [] bs j = elim j [ ]
basis_below r (x ∷ xs) bs (inl e) = (let f : above_members r x ≡ above_members r bs = ap (above_members r) e in omega arith)
basis_below r (x ∷ xs) bs (inr j) = omega (arith, basis_below r xs bs j)

-- ---- the fall, below any height that is enough
pub crossing_falls : (n : ℕ) (fs : List Terms) (k : Region) (r : List ℤ) (d : ℕ) (bs cs : List MarkedPolynomial) (a : List ℤ) → AreInVariables n fs →
    length r ≡ n → All (λ c. pos 0 <ℤ c) r → AreAdjacent n fs k bs a cs → IsNegative r a → above_members (gains r) bs ≤ d →
    leading_number (gains r) d cs < leading_number (gains r) d bs
crossing_falls n fs k r d bs cs a v w p h neg small =
    leading_number_falls n r d a bs cs w p (normal-length n bs a h.here.arranged.canonical h.facet.normal)
    (normal-nonzero n bs a h.here.arranged.canonical h.facet.normal) neg
    (parts_of_neighbours n fs k bs cs a v h)
    (λ b c x m. (variables_by_terms n b.poly (h.here.arranged.canonical b c).variables x m, members_below (gains r) d bs small b c x m))

parent_falls : (F : Fan) (d : ℕ) (v : MarkedPolynomials) (c : List ℤ) (u : MarkedPolynomials) → IsParentIn F v c u →
    above_members (gains F.region.root) v.items ≤ d → leading_number (gains F.region.root) d u.items < leading_number (gains F.region.root) d v.items
parent_falls F d v c u p h =
    crossing_falls F.variables F.ideal F.region F.region.root d v.items u.items p.normal p.fan.ideal p.fan.region.root.width p.fan.region.root.positive
    p.adjacent p.way.leads.negative h

-- ---- no cycle

-- along a way down the number rises, whatever the ideal and its list
ways_rise : (F : Fan) (s : MarkedPolynomials) (q : List (List ℤ)) (x : MarkedPolynomials) → Leads (IsParentIn F) s q x →
    (d : ℕ) × ((e : ℕ) → d ≤ e → leading_number (gains F.region.root) e s.items + length q ≤ leading_number (gains F.region.root) e x.items)
ways_rise F s [] x h = (
  0,
  λ e l. (let f : leading_number (gains F.region.root) e s.items ≡ leading_number (gains F.region.root) e x.items =
      ap (λ (z : MarkedPolynomials). leading_number (gains F.region.root) e z.items) h in omega arith),
)
ways_rise F s (c ∷ q) x h = at (ways_rise F h.0 q x h.2)
  where
    at : ((d : ℕ) × ((e : ℕ) → d ≤ e → leading_number (gains F.region.root) e h.0.items + length q ≤ leading_number (gains F.region.root) e x.items)) →
        (d : ℕ) × ((e : ℕ) → d ≤ e → leading_number (gains F.region.root) e s.items + length (c ∷ q) ≤ leading_number (gains F.region.root) e x.items)
    at r = (
      max r.0 (above_members (gains F.region.root) h.0.items),
      λ e l. (let a = r.1 e (omega arith) in let b = parent_falls F e h.0 c s h.1 (omega arith) in omega arith),
    )

pub no_cycle : (F : Fan) (top : MarkedPolynomials) (c : List ℤ) (q : List (List ℤ)) → Leads (IsParentIn F) top (c ∷ q) top → ⊥
no_cycle F top c q h = let r = ways_rise F top (c ∷ q) top h in let w = r.1 r.0 (omega arith) in absurd (omega arith)

-- ---- the list of bases
-- all bases of the ideal in the region
abbrev pub bases_of : Fan → List (List MarkedPolynomial)
bases_of F = all_bases F.variables F.region F.ideal

pub among_of : {X : Type 0} (xs : List X) (x : X) → Contains xs x → Among xs x
among_of [] x c = absurd (omega (arith, c.1))
among_of (y ∷ xs) x c = elim (Contains-cases y x xs c) [ inl e ↦ inl e | inr k ↦ inr (among_of xs x k) ]

pub of_among : {X : Type 0} (xs : List X) (x : X) → Among xs x → Contains xs x
of_among [] x a = elim a [ ]
of_among (y ∷ xs) x (inl e) = subst (Contains (y ∷ xs)) e (Contains-here y xs)
of_among (y ∷ xs) x (inr a) = Contains-there y x xs (of_among xs x a)

pub node_list : Fan → List MarkedPolynomials
node_list F = map (λ (bs : List MarkedPolynomial). record { variables = F.variables; items = bs }) (bases_of F)

-- how far a basis is below the root at most
unfoldable pub rank_in : Fan → List MarkedPolynomial → ℕ
rank_in F bs = leading_number (gains F.region.root) (above_bases (gains F.region.root) (bases_of F)) bs

pub basis_listed : (F : Fan) (v : MarkedPolynomials) → IsNodeIn F v → Among (bases_of F) v.items
basis_listed F v h = among_of (bases_of F) v.items ((listed_in F.variables F.region F.ideal v.items h.fan.ideal h.fan.region.widths).1 h.basis)

-- ---- walks to a root weight end

-- the normals of some bases
record NormalsOfAll (n : ℕ) (xs : List (List MarkedPolynomial)) : Type 0 where
  list : List (List ℤ)
  signable : AreSignable n list
  all : (bs : List MarkedPolynomial) → Contains xs bs → (a : List ℤ) → IsNormal bs a → Contains list a

normals_of_all : (n : ℕ) (xs : List (List MarkedPolynomial)) → ((bs : List MarkedPolynomial) → Contains xs bs → AreCanonical n bs) → NormalsOfAll n xs
normals_of_all n [] h = record { list = []; signable = λ a c. absurd (omega (arith, c.1)); all = λ bs c a q. absurd (omega (arith, c.1)) }
normals_of_all n (x ∷ xs) h = at (normals_listed x) (normals_of_all n xs (λ bs c. h bs (Contains-there x bs xs c)))
  where
    at : NormalsListed x → NormalsOfAll n xs → NormalsOfAll n (x ∷ xs)
    at l g = record {
      list = l.list ++ g.list;
      signable = λ a c. elim (Contains-append_cases l.list g.list a c) [
        | inl d ↦ normal-signable n x a (h x (Contains-here x xs)) (l.only a d)
        | inr d ↦ g.signable a d
      ];
      all = λ bs c a q. elim (Contains-cases x bs xs c) [
        | inl e ↦ Contains-append_left l.list g.list a (l.all a (subst (λ (ys : List MarkedPolynomial). IsNormal ys a) (sym e) q))
        | inr d ↦ Contains-append_right l.list g.list a (g.all bs d a q)
      ];
    }

-- a number that falls wherever a normal is crossed that is negative at a root weight, also where some of its entries are 0
pub walks_fall : (n : ℕ) (fs : List Terms) (k : Region) (r : List ℤ) → AreInVariables n fs → AreRows n k.rows → IsRootWeight n k r →
    (height : List MarkedPolynomial → ℕ) × ((bs cs : List MarkedPolynomial) (a : List ℤ) → AreAdjacent n fs k bs a cs → IsNegative r a → height cs < height bs)
walks_fall n fs k r v wide rw = at (normals_of_all n (all_bases n k fs) (λ bs c. ((listed_in n k fs bs v wide).0 c).arranged.canonical))
  where
    at : NormalsOfAll n (all_bases n k fs) → (height : List MarkedPolynomial → ℕ) × ((bs cs : List MarkedPolynomial) (a : List ℤ) → AreAdjacent n fs k bs a cs →
        IsNegative r a → height cs < height bs)
    at l = by_point (near_root n k r l.list wide rw l.signable)
      where
        by_point : NearRoot n k r l.list → (height : List MarkedPolynomial → ℕ) × ((bs cs : List MarkedPolynomial) (a : List ℤ) → AreAdjacent n fs k bs a cs →
            IsNegative r a → height cs < height bs)
        by_point p = (
          leading_number (gains p.point) (above_bases (gains p.point) (all_bases n k fs)),
          λ bs cs a h neg. (let listed = (listed_in n k fs bs v wide).1 h.here in
              crossing_falls n fs k p.point (above_bases (gains p.point) (all_bases n k fs)) bs cs a v p.region.width p.region.positive h
              (negative_at a p.point (p.negative a (l.all bs listed a h.facet.normal) neg))
              (basis_below (gains p.point) (all_bases n k fs) bs (among_of (all_bases n k fs) bs listed))),
        )

among_mapped : (F : Fan) (xs : List (List MarkedPolynomial)) (bs : List MarkedPolynomial) → Among xs bs →
    Among {X = MarkedPolynomials} (map (λ (bs : List MarkedPolynomial). record { variables = F.variables; items = bs }) xs)
    (record { variables = F.variables; items = bs })
among_mapped F [] bs j = elim j [ ]
among_mapped F (x ∷ xs) bs (inl e) = inl (ap (λ (z : List MarkedPolynomial). record { variables = F.variables; items = z }) e)
among_mapped F (x ∷ xs) bs (inr j) = inr (among_mapped F xs bs j)

-- ---- parents fall, and the way up ends at one root
pub parents_fall : (F : Fan) (v : MarkedPolynomials) (c : List ℤ) (u : MarkedPolynomials) → IsParentIn F v c u → rank_in F u.items < rank_in F v.items
unfolding rank_in
parents_fall F v c u p =
    parent_falls F (above_bases (gains F.region.root) (bases_of F)) v c u p (basis_below (gains F.region.root) (bases_of F) v.items
    (basis_listed F v (parent_nodes F v c u p).0))

pub parents_climb : (F : Fan) (v : MarkedPolynomials) → IsNodeIn F v → Parent (IsParentIn F) v ⊎ IsRoot (IsParentIn F) v
parents_climb F v h = elim (way_or_none F.variables F.region v.items h.fan.region.widths h.basis.arranged.canonical) [
  | inr none ↦ inr (λ c u p. none p.normal p.way.leads)
  | inl w ↦ inl (let a = neighbour_exists F.variables F.ideal F.region v.items w.0 h.fan.ideal h.basis w.1.leads.flippable in
      record {
        label = negated w.0;
        node = record { variables = F.variables; items = a.0 };
        is = record { fan = h.fan; child = h.variables; parent = refl; normal = w.0; way = w.1; adjacent = a.1; label = refl };
      })
]

-- nothing is above a node exactly where no facet leads up
pub root_has_no_way : (F : Fan) (v : MarkedPolynomials) → IsNodeIn F v → IsRoot (IsParentIn F) v → (a : List ℤ) → LeadsUp F.variables F.region v.items a → ⊥
root_has_no_way F v h r a u = elim (way_or_none F.variables F.region v.items h.fan.region.widths h.basis.arranged.canonical) [
  | inr none ↦ none a u
  | inl w ↦ (let e = neighbour_exists F.variables F.ideal F.region v.items w.0 h.fan.ideal h.basis w.1.leads.flippable in
      r (negated w.0) (record { variables = F.variables; items = e.0 }) (record {
        fan = h.fan;
        child = h.variables;
        parent = refl;
        normal = w.0;
        way = w.1;
        adjacent = e.1;
        label = refl;
      }))
]

pub roots_one : (F : Fan) (a b : MarkedPolynomials) → IsNodeIn F a → IsRoot (IsParentIn F) a → IsNodeIn F b → IsRoot (IsParentIn F) b → a ≡ b
roots_one F a b h r m s =
    same_list a b (h.variables ∙ sym m.variables)
    (one_root F.variables F.ideal F.region F.region.root a.items b.items h.fan.ideal h.fan.region.widths (root_weight F.variables F.region h.fan.region)
    h.basis m.basis (root_has_no_way F a h r) (root_has_no_way F b m s))

pub node_listed : (F : Fan) (v : MarkedPolynomials) → IsNodeIn F v → Among (node_list F) v
unfolding node_list
node_listed F v h = subst (Among (map (λ (bs : List MarkedPolynomial). record { variables = F.variables; items = bs }) (bases_of F)))
    (same_list (record { variables = F.variables; items = v.items }) v (sym h.variables) refl) (among_mapped F (bases_of F) v.items (basis_listed F v h))

-- as many as bases are listed
pub node_list-length : (F : Fan) → length (node_list F) ≡ number_of_bases F.variables F.region F.ideal
unfolding node_list
node_list-length F = length-map (bases_of F) (λ (bs : List MarkedPolynomial). record { variables = F.variables; items = bs })

mapped_node : (F : Fan) (xs : List (List MarkedPolynomial)) (v : MarkedPolynomials) →
    Among (map (λ (bs : List MarkedPolynomial). record { variables = F.variables; items = bs }) xs) v → (v.variables ≡ F.variables) × Among xs v.items
mapped_node F [] v j = elim j [ ]
mapped_node F (x ∷ xs) v (inl e) = (ap (λ (z : MarkedPolynomials). z.variables) (sym e), inl (ap (λ (z : MarkedPolynomials). z.items) e))
mapped_node F (x ∷ xs) v (inr j) = let r = mapped_node F xs v j in (r.0, inr r.1)

pub listed_basis : (F : Fan) (bs : List MarkedPolynomial) → IsFanOfIdeal F → Among (bases_of F) bs → IsBasisInRegion F.variables F.ideal F.region bs
listed_basis F bs f j = (listed_in F.variables F.region F.ideal bs f.ideal f.region.widths).0 (of_among (bases_of F) bs j)

pub listed_node : (F : Fan) → IsFanOfIdeal F → (v : MarkedPolynomials) → Among (node_list F) v → IsNodeIn F v
unfolding node_list
listed_node F fan v j = let m = mapped_node F (bases_of F) v j in record { fan = fan; variables = m.0; basis = listed_basis F v.items fan m.1 }
