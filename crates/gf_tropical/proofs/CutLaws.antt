-- Cones for the fan of polynomials, cut by one polynomial after the other.
use Rattle.std.proofs.Common.{◌≡◌, ◌≢◌, ℕ, ◌+◌, ◌<◌, ◌≤◌, List, [], ◌∷◌, ◌++◌, length, map, take, get_or, ℤ, Contains, sym, ap, ap₂, ◌∙◌, subst}
use Rattle.std.proofs.Common.{inl, inr, refl}
use Rattle.std.proofs.lemmas.List.{take_more, take_all}
use Rattle.gf_int_theory.proofs.ListLaws.{Contains-last}
use Rattle.gf_gordan.specs.Alternative.{AreRows}
use Rattle.gf_duality_theory.specs.Faces.{Rows}
use Rattle.gf_duality_theory.proofs.ListLaws.{none_in}
use Rattle.gf_fans_theory.proofs.PartNumbers.{of_map}
use Rattle.gf_rays.specs.Cones.{RowsAndRays, rows_of}
use Rattle.gf_fan.specs.FanLists.{FanLists}
use Rattle.gf_fan.specs.FansOfCones.{IsFanOf}
use Rattle.gf_fan.specs.Pairs.{AreOfWidth}
use Rattle.gf_refine.specs.Laws.{FansAreConeLists}
use Rattle.gf_poly.specs.Polynomial.{Terms, HasVariables, IsDescending}
use Rattle.gf_patterns_theory.specs.Patterns.{points, HavePoints}
use Rattle.gf_patterns_theory.specs.PatternFans.{whole_space, IsFanOfPatterns}
use Rattle.gf_patterns_theory.specs.Refinements.{HaveEntries}
use Rattle.gf_patterns_theory.proofs.PointLaws.{points_wide, points_distinct}
use Rattle.gf_levels_theory.specs.Laws.{LevelsAreOfPatterns}
use Rattle.gf_levels_theory.specs.Levels.{IsLevel}
use Rattle.gf_levels_theory.specs.VertexPoints.{AreVertexPoints}
use Rattle.gf_tropical.specs.declared.kind.Kind.{Kind}
use Rattle.gf_tropical.specs.declared.kind.Kind.TheVariants.{Prevariety, Minkowski}
use Rattle.gf_tropical.specs.Kinds.{IsAdmittedBy, members_by}
use Rattle.gf_tropical.specs.Making.{IsFanBy}
use Rattle.gf_tropical.specs.Refusals.{NoneIsZero}
use Rattle.gf_tropical.proofs.SetLaws.{points_next, front_points, own_points}
use Rattle.gf_tropical.proofs.TropicalFanLaws.{fan_by}

-- ---- the width of rows

pub width_none : (n : ℕ) → AreOfWidth n []
width_none n c k = absurd (none_in c k)

pub width_more : (n : ℕ) (cones : List RowsAndRays) (i : ℕ) (c : RowsAndRays) → i < length cones → c ≡ get_or cones i c → AreRows n c.inequalities →
    AreRows n c.equations → AreOfWidth n (take i cones) → AreOfWidth n (take (i + 1) cones)
width_more n cones i c h e p q old x k =
    elim (Contains-last (take i cones) (get_or cones i c) x (subst (λ (l : List RowsAndRays). Contains l x) (take_more cones i c h) k)) [
      | inl d ↦ old x d
      | inr r ↦ subst (λ (z : RowsAndRays). AreRows n z.inequalities × AreRows n z.equations) (e ∙ sym r) (p, q)
    ]

pub entries_all : (n : ℕ) (cones : List RowsAndRays) (i : ℕ) → length cones ≤ i → AreOfWidth n (take i cones) → HaveEntries n (map rows_of cones)
entries_all n cones i h w c k =
    let o = of_map rows_of cones c k in
    subst (λ (z : Rows). AreRows n z.inequalities × AreRows n z.equations) o.1.1 (subst (AreOfWidth n) (take_all i cones h) w o.0 o.1.0)

-- ---- one polynomial more

pub whole_rows : (cones : List RowsAndRays) (c : RowsAndRays) → cones ≡ c ∷ [] → c.inequalities ≡ [] → c.equations ≡ [] →
    map rows_of cones ≡ whole_space ∷ []
whole_rows cones c e p q = ap (map rows_of) e ∙ ap (λ (z : Rows). z ∷ []) (ap₂ (λ (i j : List (List ℤ)). record { inequalities = i; equations = j }) p q)

pub level_patterns : (kind : Kind) (n : ℕ) (As : List (List (List ℤ))) (f : Terms) (B : List (List ℤ)) (cs ps : List Rows) → LevelsAreOfPatterns →
    HasVariables n f → IsDescending f → f ≢ [] → AreVertexPoints n (points f) B → HavePoints As → HaveEntries n ps →
    IsFanOfPatterns (IsAdmittedBy kind) n As cs → IsLevel (members_by kind) n B cs ps → IsFanOfPatterns (IsAdmittedBy kind) n (As ++ points f ∷ []) ps
level_patterns Prevariety n As f B cs ps law v d nz b some w p l =
    law.prevariety n As (points f) B cs ps (points_wide n f v) (points_distinct f d) b some (own_points f nz) w p l
level_patterns Minkowski n As f B cs ps law v d nz b some w p l =
    law.minkowski n As (points f) B cs ps (points_wide n f v) b some (own_points f nz) w p l

-- cones for the fan of the first i polynomials, cut by the next one
pub cut_next : (kind : Kind) (n : ℕ) (set : List Terms) (i : ℕ) (f : Terms) (cs ps : List Rows) → NoneIsZero set → i < length set → f ≡ get_or set i f →
    ((As : List (List (List ℤ))) → HavePoints As → IsFanOfPatterns (IsAdmittedBy kind) n As cs →
    IsFanOfPatterns (IsAdmittedBy kind) n (As ++ points f ∷ []) ps) → IsFanOfPatterns (IsAdmittedBy kind) n (map points (take i set)) cs →
    IsFanOfPatterns (IsAdmittedBy kind) n (map points (take (i + 1) set)) ps
cut_next kind n set i f cs ps z l e law p = subst (λ (As : List (List (List ℤ))). IsFanOfPatterns (IsAdmittedBy kind) n As ps)
    (sym (points_next set i f l e)) (law (map points (take i set)) (front_points set i z) p)

pub cut_all : (kind : Kind) (n : ℕ) (set : List Terms) (i : ℕ) (cs : List Rows) → length set ≤ i →
    IsFanOfPatterns (IsAdmittedBy kind) n (map points (take i set)) cs → IsFanOfPatterns (IsAdmittedBy kind) n (map points set) cs
cut_all kind n set i cs h p = subst (λ (z : List Terms). IsFanOfPatterns (IsAdmittedBy kind) n (map points z) cs) (take_all i set h) p

-- ---- the fan

pub fan_of_cut : (kind : Kind) (n : ℕ) (As : List (List (List ℤ))) (given : List RowsAndRays) (h : FanLists) → FansAreConeLists →
    IsFanOfPatterns (IsAdmittedBy kind) n As (map rows_of given) → IsFanOf n given h → IsFanBy kind n As h
fan_of_cut kind n As given h law p s = fan_by kind n As (map rows_of given) h law p (record { given = given; fan = s; rows = refl })
