-- What follows some bases of a list, and why a list isn't started after the basis of a file: each refusal is told in one way.
-- To cite: going_list, full_list, going_behind_work, going_behind_untested, going_behind_within; start_work, start_unlisted, start_refutes, start_same,
-- start_within, start_named. The rest are steps.
use Rattle.std.specs.Prelude.{◌≡◌, ◌⊎◌, ℕ, ◌<◌, List, [], ◌∷◌, ◌++◌, length, Option, Some, None, Err}
use Rattle.std.proofs.Common.{arith, refl, sym, ap, ◌∙◌, subst, inl, inr}
use Rattle.gf_poly.specs.Polynomial.{Terms, HasVariables}
use Rattle.gf_poly.specs.Marking.{MarkedPolynomials, HaveVariables, polys}
use Rattle.gf_reduced.specs.declared.error.CheckError.{CheckError}
use Rattle.gf_reduced.specs.Refusals.{of_poly, IsReducedRefusalBeside}
use Rattle.gf_reduced.proofs.RefusalLaws.{beside_only_memory}
use Rattle.gf_facets_theory.specs.Regions.{Region}
use Rattle.gf_reverse_theory.specs.Upward.{IsNodeIn}
use Rattle.gf_tree.specs.Ideals.{ideal_within}
use Rattle.gf_tree.specs.Refusals.{IsTreeWithinLimits}
use Rattle.gf_tree.proofs.RefusalLaws.{within_memory}
use Rattle.gf_subtree.proofs.BasisRowLaws.{early_refused}
use Rattle.gf_front.specs.declared.refusal.Refusal.{Refusal}
use Rattle.gf_front.specs.declared.refusal.Refusal.TheVariants as refusals
use Rattle.gf_items.specs.Refusals.{IsOfTest, IsOfNumbers, TellsSame, IsOfWork}
use Rattle.gf_frame.proofs.CommandLaws.{as_told}
use Rattle.gfan_lists.specs.declared.bases.ListOptions.{ListOptions}
use Rattle.gfan_lists.specs.Ways.{Ways}
use Rattle.gf_lists_theory.specs.BasesList.{AreAllBasesIn}
use Rattle.gf_lists_theory.specs.Starts.{StartsIn}
use Rattle.gfan_common.specs.Causes.{of_tree, of_weight_error}
use Rattle.gfan_lists.specs.Bases.{IsFullTextBehind, IsGoingCauseBehind, AreCertifiedWithinIn, IsWithinLimit}
use Rattle.gfan_common.specs.CheckedSets.{of_check}
use Rattle.gfan_common.specs.Refused.{IsNamedBy}
use Rattle.gfan_lists.specs.After.{IsBasisTaken, IsUnlisted, Given, names_given, generators_given, IsBasisGiven}
use Rattle.gfan_lists.specs.After.{IsStartRefused, IsStartWithin}
use Rattle.gfan_common.proofs.ReadSetLaws.{IsSetKept}
use Rattle.gfan_common.proofs.CheckedSetLaws.{lent_terms, named_numbers, check_work, check_not_listed, poly_numbers, poly_untested}
use Rattle.gf_lists_theory.proofs.BasesListLaws.{among_left, among_right, given_in_node}
use Rattle.gfan_common.proofs.CauseLaws.{weight_work, weight_untested, tree_work, tree_untested, tree_no_limit, named_tree}
use Rattle.gfan_common.proofs.CauseLaws.{numbers_untested}
use Rattle.gfan_lists.proofs.AfterLaws.{beside_numbers, beside_once, named_beside, taken_once, starts_once, outside_once, inside_apart}
use Rattle.gfan_lists.proofs.AfterLaws.{listed_refutes, listed_node}
use Rattle.gfan_lists.proofs.RootLaws.{IsGivenKept, unrooted_work, unrooted_unlisted, unrooted_numbers, unrooted_refutes, unrooted_same, unrooted_named}

-- ---- lists behind some bases

pub going_list : (before : List MarkedPolynomials) (o : ListOptions) (n : ℕ) (k : Region) (fs : List Terms) (r : Refusal) →
    IsGoingCauseBehind before o n k fs r → (list : List MarkedPolynomials) × AreAllBasesIn n k fs (before ++ list)
going_list before o n k fs r (IsGoingCauseBehind.in_tree e h q) = (h.written ++ h.rest, h.are_all)
going_list before o n k fs r (IsGoingCauseBehind.at_limit most h q) = (h.list, h.are_all)
going_list before o n k fs r (IsGoingCauseBehind.at_certificates c) = (c.written ++ c.basis ∷ c.rest, c.are_all)

pub full_list : (before : List MarkedPolynomials) (o : ListOptions) (ring : List (List ℕ)) (k : Region) (fs : List Terms) (text : List ℕ) →
    IsFullTextBehind before o ring k fs text → (list : List MarkedPolynomials) × AreAllBasesIn (length ring) k fs (before ++ list)
full_list before o ring k fs text (IsFullTextBehind.to_its_end t) = (t.list, t.are_all)
full_list before o ring k fs text (IsFullTextBehind.to_the_limit most t) = (t.written ++ t.next ∷ t.rest, t.begun.are_all)

pub going_behind_work : (before : List MarkedPolynomials) (o : ListOptions) (n : ℕ) (k : Region) (fs : List Terms) (r : Refusal) →
    IsGoingCauseBehind before o n k fs r → IsOfWork r
going_behind_work before o n k fs r (IsGoingCauseBehind.in_tree e h q) = subst IsOfWork (sym q) (tree_work e)
going_behind_work before o n k fs r (IsGoingCauseBehind.at_limit most h q) = subst IsOfWork (sym q) tt
going_behind_work before o n k fs r (IsGoingCauseBehind.at_certificates c) = subst IsOfWork (sym c.uncertified.2) (weight_work c.uncertified.0)

pub going_behind_untested : (before : List MarkedPolynomials) (o : ListOptions) (n : ℕ) (k : Region) (fs : List Terms) (r : Refusal) → IsOfTest r →
    IsGoingCauseBehind before o n k fs r → ⊥
going_behind_untested before o n k fs r t (IsGoingCauseBehind.in_tree e h q) = tree_untested e (subst IsOfTest q t)
going_behind_untested before o n k fs r t (IsGoingCauseBehind.at_limit most h q) = subst IsOfTest q t
going_behind_untested before o n k fs r t (IsGoingCauseBehind.at_certificates c) = weight_untested c.uncertified.0 (subst IsOfTest c.uncertified.2 t)

pub past_limit : (limit : Option ℕ) (most : ℕ) (list : List MarkedPolynomials) → limit ≡ Some most → most < length list → IsWithinLimit limit list → ⊥
past_limit None most list e l w = cc
past_limit (Some n) most list e l w = let same : n ≡ most = cc in omega arith

-- within its limits it is refused for want of memory alone
pub going_behind_within : (before : List MarkedPolynomials) (o : ListOptions) (n : ℕ) (k : Region) (fs : List Terms) (r : Refusal) →
    IsTreeWithinLimits (ideal_within n fs k) o.pairs → ((list : List MarkedPolynomials) → AreAllBasesIn n k fs (before ++ list) → IsWithinLimit o.limit list) →
    AreCertifiedWithinIn o n k fs → IsGoingCauseBehind before o n k fs r → r ≡ refusals.Memory
going_behind_within before o n k fs r w few all (IsGoingCauseBehind.in_tree e h q) =
    q ∙ ap of_tree (within_memory (ideal_within n fs k) o.pairs e w (early_refused (ideal_within n fs k) o.pairs h.rest e h.early))
going_behind_within before o n k fs r w few all (IsGoingCauseBehind.at_limit most h q) =
    absurd (past_limit o.limit most h.list h.is_limit h.longer (few h.list h.are_all))
going_behind_within before o n k fs r w few all (IsGoingCauseBehind.at_certificates c) =
    c.uncertified.2 ∙ ap of_weight_error (all c.certified c.basis
    (c.are_all.only c.basis (among_right before (c.written ++ c.basis ∷ c.rest) c.basis (among_right c.written (c.basis ∷ c.rest) c.basis (inl refl))))
    c.uncertified.0 c.uncertified.1)

-- the last of those before is a basis of the ideal
last_node : (n : ℕ) (k : Region) (fs : List Terms) (root b : MarkedPolynomials) (front list : List MarkedPolynomials) → StartsIn n k fs root →
    AreAllBasesIn n k fs ((front ++ b ∷ []) ++ list) → IsNodeIn (ideal_within n fs k) b
last_node n k fs root b front list first all =
    given_in_node n k fs b first.node.fan.ideal first.node.fan.region
    (all.only b (among_left (front ++ b ∷ []) list b (among_right front (b ∷ []) b (inl refl))))

-- ---- a basis that isn't listed

unlisted_work : (fs : List Terms) (s root b : MarkedPolynomials) (r : Refusal) → IsUnlisted fs s root b r → IsOfWork r
unlisted_work fs s root b r (IsUnlisted.at_basis i f h e) = subst IsOfWork (sym e) tt
unlisted_work fs s root b r (IsUnlisted.at_generator i f a h e) = subst IsOfWork (sym e) tt
unlisted_work fs s root b r (IsUnlisted.in_basis d h e) = subst IsOfWork (sym e) (check_work (of_poly d))
unlisted_work fs s root b r (IsUnlisted.in_generators d h e) = subst IsOfWork (sym e) (check_work (of_poly d))

same_told : (side i j : ℕ) (f g : Terms) (r d : Refusal) → (j ≡ i) × (g ≡ f) → r ≡ refusals.NotListed side i f → d ≡ refusals.NotListed side j g →
    TellsSame r d ⊎ IsOfNumbers d
same_told side i j f g r d one e p = as_told r d (inl (p ∙ (λ w. refusals.NotListed side (one.0 w) (one.1 w)) ∙ sym e))

unlisted_same : (fs : List Terms) (s root b : MarkedPolynomials) (r d : Refusal) → IsOfTest r → IsUnlisted fs s root b r → IsUnlisted fs s root b d →
    TellsSame r d ⊎ IsOfNumbers d
unlisted_same fs s root b r d t (IsUnlisted.at_basis i f h e) (IsUnlisted.at_basis j g l p) =
    same_told 0 i j f g r d (outside_once root (polys s.items) i j f g h l) e p
unlisted_same fs s root b r d t (IsUnlisted.at_basis i f h e) (IsUnlisted.at_generator j g a l p) = absurd (inside_apart root (polys s.items) i f a h)
unlisted_same fs s root b r d t (IsUnlisted.at_generator i f a h e) (IsUnlisted.at_basis j g l p) = absurd (inside_apart root (polys s.items) j g a l)
unlisted_same fs s root b r d t (IsUnlisted.at_generator i f a h e) (IsUnlisted.at_generator j g c l p) =
    same_told 1 i j f g r d (outside_once b fs i j f g h l) e p
unlisted_same fs s root b r d t h (IsUnlisted.in_basis x l p) = inr (subst IsOfNumbers (sym p) (poly_numbers x))
unlisted_same fs s root b r d t h (IsUnlisted.in_generators x l p) = inr (subst IsOfNumbers (sym p) (poly_numbers x))
unlisted_same fs s root b r d t (IsUnlisted.in_basis x h e) l = absurd (poly_untested x (subst IsOfTest e t))
unlisted_same fs s root b r d t (IsUnlisted.in_generators x h e) l = absurd (poly_untested x (subst IsOfTest e t))

unlisted_unlimited : (fs : List Terms) (s root b : MarkedPolynomials) (r : Refusal) → IsUnlisted fs s root b r → (most : ℕ) → r ≡ refusals.ListLimit most → ⊥
unlisted_unlimited fs s root b r (IsUnlisted.at_basis i f h e) most l = no_limit (sym e ∙ l)
  where
    no_limit : refusals.NotListed 0 i f ≡ refusals.ListLimit most → ⊥
    no_limit q = cc
unlisted_unlimited fs s root b r (IsUnlisted.at_generator i f a h e) most l = no_limit (sym e ∙ l)
  where
    no_limit : refusals.NotListed 1 i f ≡ refusals.ListLimit most → ⊥
    no_limit q = cc
unlisted_unlimited fs s root b r (IsUnlisted.in_basis d h e) most l = check_not_listed (of_poly d) most (sym l ∙ e)
unlisted_unlimited fs s root b r (IsUnlisted.in_generators d h e) most l = check_not_listed (of_poly d) most (sym l ∙ e)

-- ---- a set that is taken

taken_numbers : (k : Region) (s b : MarkedPolynomials) (e : CheckError) → HaveVariables s.variables s.items → IsBasisTaken k s b →
    IsReducedRefusalBeside k.rows 0 s e → IsOfNumbers (of_check e)
taken_numbers k s b e v t h = beside_numbers k.rows s e v t.weight t.basis.basis.marked t.terms h

taken_refutes : (k : Region) (s b : MarkedPolynomials) (e : CheckError) (r : Refusal) → HaveVariables s.variables s.items → IsOfTest r → IsBasisTaken k s b →
    IsReducedRefusalBeside k.rows 0 s e → r ≡ of_check e → ⊥
taken_refutes k s b e r v o t h q = numbers_untested (of_check e) (taken_numbers k s b e v t h) (subst IsOfTest q o)

-- ---- in one region

module _ (ways : Ways) (k : Region) (v : Given ways.from_basis) (s : MarkedPolynomials) where
  abbrev n : ℕ
  n = length (names_given ways.from_basis v)

  abbrev fs : List Terms
  fs = generators_given ways.from_basis v

  pub start_work : (pairs : ℕ) (r : Refusal) → IsStartRefused ways pairs k v s r → IsOfWork r
  start_work pairs r (IsStartRefused.at_basis e h q) = subst IsOfWork (sym q) (check_work e)
  start_work pairs r (IsStartRefused.at_root b t u) = unrooted_work ways.from_basis ways.in_region v k pairs r u
  start_work pairs r (IsStartRefused.unlisted b root t g f u) = unlisted_work fs s root b r u
  start_work pairs r (IsStartRefused.on_the_way b root e t g f l h q) = subst IsOfWork (sym q) (tree_work e)

  pub start_unlisted : (pairs : ℕ) (r : Refusal) → IsStartRefused ways pairs k v s r → (most : ℕ) → r ≡ refusals.ListLimit most → ⊥
  start_unlisted pairs r (IsStartRefused.at_basis e h q) most l = check_not_listed e most (sym l ∙ q)
  start_unlisted pairs r (IsStartRefused.at_root b t u) most l = unrooted_unlisted ways.from_basis ways.in_region v k pairs r u most l
  start_unlisted pairs r (IsStartRefused.unlisted b root t g f u) most l = unlisted_unlimited fs s root b r u most l
  start_unlisted pairs r (IsStartRefused.on_the_way b root e t g f x h q) most l = tree_no_limit e most (sym q ∙ l)

  module _ (q : s.variables ≡ n) (kept : HaveVariables s.variables s.items) (input : IsGivenKept ways.from_basis v) where
    -- a basis that isn't listed is none of the ideal
    unlisted_refutes : (b c root : MarkedPolynomials) (r : Refusal) → IsOfTest r → IsBasisTaken k s b → IsBasisTaken k s c →
        StartsIn n k fs root → IsNodeIn (ideal_within n fs k) c → IsUnlisted fs s root b r → ⊥
    unlisted_refutes b c root r o t a f j u =
        listed_refutes n k fs s root c q f a j r o (subst (λ z. IsUnlisted fs s root z r) (taken_once k s b c t a) u)

    -- a test that fails isn't passed
    pub start_refutes : (pairs : ℕ) (b : MarkedPolynomials) (front list : List MarkedPolynomials) (r : Refusal) → IsOfTest r →
        IsStartRefused ways pairs k v s r → IsBasisTaken k s b → IsBasisGiven ways.from_basis v →
        AreAllBasesIn n k fs ((front ++ b ∷ []) ++ list) → ⊥
    start_refutes pairs b front list r o (IsStartRefused.at_basis e h p) t g all = taken_refutes k s b e r kept o t h p
    start_refutes pairs b front list r o (IsStartRefused.at_root c a u) t g all = unrooted_refutes ways.from_basis ways.in_region v k pairs r input o u g
    start_refutes pairs b front list r o (IsStartRefused.unlisted c root a m f u) t g all =
        unlisted_refutes c b root r o a t f (last_node n k fs root b front list f all) u
    start_refutes pairs b front list r o (IsStartRefused.on_the_way c root e a m f l h p) t g all = tree_untested e (subst IsOfTest p o)

    pub start_same : (pairs : ℕ) (r d : Refusal) → IsOfTest r → IsStartRefused ways pairs k v s r → IsStartRefused ways pairs k v s d →
        TellsSame r d ⊎ IsOfNumbers d
    start_same pairs r d o (IsStartRefused.at_basis e h p) (IsStartRefused.at_basis x g l) =
        subst (λ z. TellsSame r z ⊎ IsOfNumbers z) (sym l) (subst (λ z. TellsSame z (of_check x) ⊎ IsOfNumbers (of_check x)) (sym p)
        (beside_once k.rows s e x kept (subst IsOfTest p o) h g))
    start_same pairs r d o (IsStartRefused.at_basis e h p) (IsStartRefused.at_root b t u) = absurd (taken_refutes k s b e r kept o t h p)
    start_same pairs r d o (IsStartRefused.at_basis e h p) (IsStartRefused.unlisted b root t g f u) = absurd (taken_refutes k s b e r kept o t h p)
    start_same pairs r d o (IsStartRefused.at_basis e h p) (IsStartRefused.on_the_way b root x t g f l m w) = absurd (taken_refutes k s b e r kept o t h p)
    start_same pairs r d o (IsStartRefused.at_root b t u) (IsStartRefused.at_basis x g l) = inr (subst IsOfNumbers (sym l) (taken_numbers k s b x kept t g))
    start_same pairs r d o (IsStartRefused.at_root b t u) (IsStartRefused.at_root c a w) =
        unrooted_same ways.from_basis ways.in_region v k pairs r d input o u w
    start_same pairs r d o (IsStartRefused.at_root b t u) (IsStartRefused.unlisted c root a g f w) =
        absurd (unrooted_refutes ways.from_basis ways.in_region v k pairs r input o u g)
    start_same pairs r d o (IsStartRefused.at_root b t u) (IsStartRefused.on_the_way c root x a g f l m w) =
        absurd (unrooted_refutes ways.from_basis ways.in_region v k pairs r input o u g)
    start_same pairs r d o (IsStartRefused.unlisted b root t g f u) (IsStartRefused.at_basis x h l) =
        inr (subst IsOfNumbers (sym l) (taken_numbers k s b x kept t h))
    start_same pairs r d o (IsStartRefused.unlisted b root t g f u) (IsStartRefused.at_root c a w) =
        inr (unrooted_numbers ways.from_basis ways.in_region v k pairs d input g w)
    start_same pairs r d o (IsStartRefused.unlisted b root t g f u) (IsStartRefused.unlisted c top a m x w) =
        let here = subst (λ z. IsUnlisted fs s z b d) (sym (starts_once n k fs root top f x))
        (subst (λ z. IsUnlisted fs s top z d) (sym (taken_once k s b c t a)) w) in
        unlisted_same fs s root b r d o u here
    start_same pairs r d o (IsStartRefused.unlisted b root t g f u) (IsStartRefused.on_the_way c top x a m h l w p) =
        absurd (unlisted_refutes b c root r o t a f (listed_node n k fs s top c q h a l) u)
    start_same pairs r d o (IsStartRefused.on_the_way b root e t g f l h p) k = absurd (tree_untested e (subst IsOfTest p o))

    pub start_within : (pairs : ℕ) (r : Refusal) → IsStartWithin ways pairs k v s → IsStartRefused ways pairs k v s r → r ≡ refusals.Memory
    start_within pairs r w (IsStartRefused.at_basis e h p) =
        p ∙ ap of_check (beside_only_memory {A = Unit {0}} k.rows 0 s (Err e) kept h w.checks w.weight w.basis w.reduced)
    start_within pairs r w (IsStartRefused.at_root b t u) = w.root r u
    start_within pairs r w (IsStartRefused.unlisted b root t g f u) = w.listed b root r t f u
    start_within pairs r w (IsStartRefused.on_the_way b root e t g f l h p) =
        p ∙ ap of_tree (within_memory (ideal_within n fs k) pairs e w.tree h)

-- ---- the names of a refusal

unlisted_named : (ring : List (List ℕ)) (fs : List Terms) (s root b : MarkedPolynomials) (r : Refusal) → root.variables ≡ length ring →
    b.variables ≡ length ring → IsUnlisted fs s root b r → IsNamedBy (Some ring) r
unlisted_named ring fs s root b r p q (IsUnlisted.at_basis i f h e) =
    subst (IsNamedBy (Some ring)) (sym e) (λ lent is. lent_terms ring f lent is (subst (λ n. HasVariables n f) p h.variables))
unlisted_named ring fs s root b r p q (IsUnlisted.at_generator i f a h e) =
    subst (IsNamedBy (Some ring)) (sym e) (λ lent is. lent_terms ring f lent is (subst (λ n. HasVariables n f) q h.variables))
unlisted_named ring fs s root b r p q (IsUnlisted.in_basis d h e) = subst (IsNamedBy (Some ring)) (sym e) (named_numbers ring d)
unlisted_named ring fs s root b r p q (IsUnlisted.in_generators d h e) = subst (IsNamedBy (Some ring)) (sym e) (named_numbers ring d)

pub start_named : (ways : Ways) (pairs : ℕ) (k : Region) (v : Given ways.from_basis) (s : MarkedPolynomials) (r : Refusal) →
    IsSetKept (length (names_given ways.from_basis v)) s → IsGivenKept ways.from_basis v → IsStartRefused ways pairs k v s r →
    IsNamedBy (Some (names_given ways.from_basis v)) r
start_named ways pairs k v s r kept input (IsStartRefused.at_basis e h q) =
    subst (IsNamedBy (Some (names_given ways.from_basis v))) (sym q) (named_beside k.rows s (names_given ways.from_basis v) kept e h)
start_named ways pairs k v s r kept input (IsStartRefused.at_root b t u) = unrooted_named ways.from_basis ways.in_region v k pairs r input u
start_named ways pairs k v s r kept input (IsStartRefused.unlisted b root t g f u) =
    unlisted_named (names_given ways.from_basis v) (generators_given ways.from_basis v) s root b r f.node.variables (t.arranged.variables ∙ kept.0) u
start_named ways pairs k v s r kept input (IsStartRefused.on_the_way b root e t g f l h q) =
    subst (IsNamedBy (Some (names_given ways.from_basis v))) (sym q) (named_tree (names_given ways.from_basis v) e)
