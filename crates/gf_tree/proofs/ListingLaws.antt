-- A list that is under way: what a walker gave, and then what it has left; and the whole list below the root.
-- To cite: given_none, given_more, given_all, refusal_given, limits_given, all_left, list_below, root_list, all_given, part_given, all_listed, part_listed.
use Rattle.std.proofs.Common.{◌≡◌, ℕ, List, [], ◌∷◌, ◌++◌, refl, sym, ◌∙◌, subst}
use Rattle.gf_poly.specs.Marking.{MarkedPolynomials}
use Rattle.gf_reverse_search.specs.Whole.{IsWholeList}
use Rattle.gf_reverse_search.proofs.FinitenessLaws.{whole_below, no_loop-rank}
use Rattle.gf_reverse_search.proofs.GrowingLaws.{one_more, all_there}
use Rattle.gf_facets_theory.specs.LexPositive.{IsBefore}
use Rattle.gf_facets_theory.specs.Regions.{Region}
use Rattle.gf_facets_theory.proofs.VectorOrder.{before_strict}
use Rattle.gf_reverse_theory.specs.Upward.{Fan, IsNode, IsNodeIn, IsParent, fan_of}
use Rattle.gf_reverse_theory.specs.Lists.{IsListFor, IsListOfBases}
use Rattle.gf_reverse_theory.proofs.TreeLaws.{own_fan, back_fan, node_moved, rank, upward_tree, upward_falls, upward_finite}
use Rattle.gf_reverse_theory.proofs.ListLaws.{own, list_of_bases}
use Rattle.gf_reverse_theory.proofs.OneListLaws.{list_for}
use Rattle.gf_tree.specs.Parents.{IsRootFor}
use Rattle.gf_tree.specs.Walks.{Walk, ideal_at, AreLeft, walk_at}
use Rattle.gf_tree.specs.Steps.{IsStepTo, IsEnd, HasGiven}
use Rattle.gf_flip.specs.declared.error.TreeError.{TreeError}
use Rattle.gf_tree.specs.Refusals.{IsTreeRefusal, IsTreeWithinLimits}
use Rattle.gf_tree.proofs.RefusalLaws.{refusal_beside, limits_moved}

-- ---- one basis after another

-- at the beginning nothing was given
pub given_none : (w : Walk) → IsNodeIn (ideal_at w) w.here → HasGiven w [] w
given_none w h = record { pairs = refl; region = refl; basis = h; back = h; whole = λ nodes l. (nodes, refl, l) }

-- bases of one ideal
across_fans : (k : Region) (u v w : MarkedPolynomials) → IsNodeIn (fan_of k u) v → IsNodeIn (fan_of k v) w → IsNodeIn (fan_of k u) w
across_fans k u v w h m = node_moved (fan_of k v) (fan_of k u) w (back_fan (fan_of k u) (fan_of k v) (own_fan (fan_of k u) v h)) m

back_again : (k : Region) (u v : MarkedPolynomials) → IsNode k u → IsNodeIn (fan_of k u) v → IsNodeIn (fan_of k v) u
back_again k u v h m = node_moved (fan_of k u) (fan_of k v) u (own_fan (fan_of k u) v m) h

-- a step gives one more
pub given_more : (start old new : Walk) (done : List MarkedPolynomials) (v : MarkedPolynomials) → IsNodeIn (ideal_at start) start.here →
    HasGiven start done old → IsStepTo old new v → HasGiven start (done ++ v ∷ []) new
given_more start old new done v h g s =
    let k = start.region in
    let basis : IsNodeIn (fan_of k start.here) new.here =
    across_fans k start.here old.here new.here g.basis (subst (λ (j : Region). IsNodeIn (fan_of j old.here) new.here) g.region
    (subst (IsNodeIn (ideal_at old)) (sym s.here) s.basis)) in
    record {
      pairs = s.pairs ∙ g.pairs;
      region = s.region ∙ g.region;
      basis = basis;
      back = subst (λ (j : Region). IsNodeIn (fan_of j new.here) start.here) (sym (s.region ∙ g.region)) (back_again k start.here new.here h basis);
      whole = λ nodes l.
          let a = g.whole nodes l in
          let f = s.first a.0 a.2 in
          (f.0, one_more nodes done a.0 f.0 (done ++ v ∷ []) v a.1 f.1 refl, f.2);
    }

-- where nothing is left, all were given
pub given_all : (start old new : Walk) (done nodes : List MarkedPolynomials) → HasGiven start done old → IsEnd old new → AreLeft start nodes → nodes ≡ done
given_all start old new done nodes g e l = (let a = g.whole nodes l in all_there nodes done a.0 a.1 (e.none a.0 a.2))

-- a refusal of its walker is one of a search over the bases of the first one's ideal
pub refusal_given : (start now : Walk) (done : List MarkedPolynomials) (e : TreeError) → HasGiven start done now → IsTreeRefusal (ideal_at now) now.pairs e →
    IsTreeRefusal (ideal_at start) start.pairs e
refusal_given start now done e g r =
    refusal_beside start.region start.pairs start.here now.here e g.basis
    (subst (λ (p : ℕ). IsTreeRefusal (fan_of start.region now.here) p e) g.pairs (subst (λ (j : Region). IsTreeRefusal (fan_of j now.here) now.pairs e)
    g.region r))

-- and limits are kept alike
pub limits_given : (start now : Walk) (done : List MarkedPolynomials) → HasGiven start done now → IsTreeWithinLimits (ideal_at start) start.pairs →
    IsTreeWithinLimits (ideal_at now) now.pairs
limits_given start now done g w =
    subst (λ (j : Region). IsTreeWithinLimits (fan_of j now.here) now.pairs) (sym g.region)
    (subst (λ (p : ℕ). IsTreeWithinLimits (fan_of start.region now.here) p) (sym g.pairs) (limits_moved (ideal_at start) (fan_of start.region now.here)
    start.pairs (own_fan (ideal_at start) now.here g.basis) w))

-- so what was left at the start is what was given
pub all_left : (start old new : Walk) (done : List MarkedPolynomials) → ((nodes : List MarkedPolynomials) × AreLeft start nodes) → HasGiven start done old →
    IsEnd old new → AreLeft start done
all_left start old new done f g e = subst (AreLeft start) (given_all start old new done f.0 g e f.1) f.1

-- ---- below the root

-- what is left before the root is the list of all bases
pub list_below : (k : Region) (v root : MarkedPolynomials) (pairs : ℕ) (nodes : List MarkedPolynomials) → IsNode k v → IsRootFor k v root →
    AreLeft (walk_at root k pairs) nodes → IsListOfBases k v nodes
list_below k v root pairs nodes h r l =
    let whole : IsWholeList IsBefore (IsParent k) root nodes =
    whole_below IsBefore (IsParent k) before_strict (upward_tree k) root (no_loop-rank (IsParent k) (rank k) (upward_falls k) root) nodes l in
    list_of_bases k root v nodes h r.basis r.is_root whole

-- there is a list of what is left before a basis
pub root_list : (k : Region) (root : MarkedPolynomials) (pairs : ℕ) → IsNode k root → (nodes : List MarkedPolynomials) × AreLeft (walk_at root k pairs) nodes
root_list k root pairs h = (let f = upward_finite k root h in (f.nodes, f.leaves))

-- a walker that began before the root and has nothing left gave all bases
pub all_given : (k : Region) (v root : MarkedPolynomials) (pairs : ℕ) (done : List MarkedPolynomials) (old new : Walk) → IsNode k v → IsRootFor k v root →
    HasGiven (walk_at root k pairs) done old → IsEnd old new → IsListOfBases k v done
all_given k v root pairs done old new h r g e =
    let f = root_list k root pairs r.own in
    subst (IsListOfBases k v) (given_all (walk_at root k pairs) old new done f.0 g e f.1) (list_below k v root pairs f.0 h r f.1)

-- what it gave so far is the beginning of that list
pub part_given : (k : Region) (v root : MarkedPolynomials) (pairs : ℕ) (done : List MarkedPolynomials) (now : Walk) → IsNode k v → IsRootFor k v root →
    HasGiven (walk_at root k pairs) done now → (rest : List MarkedPolynomials) × IsListOfBases k v (done ++ rest)
part_given k v root pairs done now h r g =
    let f = root_list k root pairs r.own in
    let a = g.whole f.0 f.1 in
    (a.0, subst (IsListOfBases k v) a.1 (list_below k v root pairs f.0 h r f.1))

-- ---- in the words of the ideal

pub all_listed : (F : Fan) (v root : MarkedPolynomials) (pairs : ℕ) (done : List MarkedPolynomials) (old new : Walk) → IsNodeIn F v →
    IsRootFor F.region v root → HasGiven (walk_at root F.region pairs) done old → IsEnd old new → IsListFor F done
all_listed F v root pairs done old new h r g x = list_for F v done h (all_given F.region v root pairs done old new (own F.region F v refl h) r g x)

pub part_listed : (F : Fan) (v root : MarkedPolynomials) (pairs : ℕ) (done : List MarkedPolynomials) (now : Walk) → IsNodeIn F v → IsRootFor F.region v root →
    HasGiven (walk_at root F.region pairs) done now → (rest : List MarkedPolynomials) × IsListFor F (done ++ rest)
part_listed F v root pairs done now h r g =
    let a = part_given F.region v root pairs done now (own F.region F v refl h) r g in
    (a.0, list_for F v (done ++ a.0) h a.1)
