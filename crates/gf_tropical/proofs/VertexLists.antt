-- Lists of the cones of vertices, one step further.
use Rattle.std.proofs.Common.{◌≡◌, ℕ, ◌+◌, ◌<◌, ◌≤◌, List, [], ◌∷◌, ◌++◌, length, ℤ, Bool, true, false, arith, refl, sym, ap, ◌∙◌, subst, Contains, inl, inr}
use Rattle.std.proofs.Common.{get_or, ◌≢◌, AllPairs, IsTrue, length-append}
use Rattle.std.proofs.lemmas.List.{get_or_append_left}
use Rattle.std.proofs.lemmas.List.Elements.{Contains-push}
use Rattle.std.proofs.lemmas.Bool.{true≢false}
use Rattle.gf_int_theory.proofs.ListLaws.{all_by, Contains-last}
use Rattle.gf_gordan.specs.Alternative.{AreRows, IsFarkas, GordansAlternative}
use Rattle.gf_gordan.specs.Answers.{IsAlternative}
use Rattle.gf_gordan.specs.declared.answer.Answer.{Answer}
use Rattle.gf_gordan.specs.declared.answer.Answer.TheVariants.{Farkas}
use Rattle.gf_poly.specs.Polynomial.{Terms, HasVariables}
use Rattle.gf_patterns_theory.specs.Patterns.{points}
use Rattle.gf_patterns_theory.specs.Laws.{VerticesSuffice}
use Rattle.gf_patterns_theory.proofs.PatternFanLaws.{single_wide}
use Rattle.gf_patterns_theory.proofs.PointLaws.{points_wide, length-points}
use Rattle.gf_duality_theory.specs.Faces.{Rows}
use Rattle.gf_duality_theory.proofs.ListLaws.{none_in, first_in, index, less, at, more}
use Rattle.gf_patterns_theory.specs.PatternRows.{point_at, single_rows, pair_rows}
use Rattle.gf_patterns_theory.specs.Vertices.{IsVertex, AreVertexCones, AreVertexPairCones}
use Rattle.gf_tropical.specs.VertexLists.{AreVertexFlags, HaveVertexFlags, VerticesSoFar, VertexPairsSoFar}

pub vertices_more : (n : ℕ) (A : List (List ℤ)) (i : ℕ) (cones : List Rows) (c : Rows) → i < length A → c ≡ single_rows A i → VerticesSoFar n A i cones →
    VerticesSoFar n A (i + 1) (cones ++ c ∷ [])
vertices_more n A i cones c l e s = record {
  each = λ d k. elim (Contains-last cones c d k) [ inl x ↦ s.each d x | inr q ↦ (i, (l, q ∙ e)) ];
  every = λ k h v. elim (index i k) [
    | less g ↦ first_in cones c (single_rows A k) (s.every k g v)
    | at g ↦ subst (λ z. Contains (cones ++ c ∷ []) (single_rows A z)) g (subst (Contains (cones ++ c ∷ [])) e (Contains-push cones c))
    | more g ↦ absurd (omega (arith, g, h))
  ];
}

pub vertices_skip : (n : ℕ) (A : List (List ℤ)) (i : ℕ) (cones : List Rows) → (IsVertex n A (point_at A i) → ⊥) → VerticesSoFar n A i cones →
    VerticesSoFar n A (i + 1) cones
vertices_skip n A i cones none s = record {
  each = s.each;
  every = λ k h v. elim (index i k) [
    | less g ↦ s.every k g v
    | at g ↦ absurd (none (subst (λ z. IsVertex n A (point_at A z)) (sym g) v))
    | more g ↦ absurd (omega (arith, g, h))
  ];
}

pub vertices_all : (n : ℕ) (A : List (List ℤ)) (i : ℕ) (cones : List Rows) → length A ≤ i → VerticesSoFar n A i cones → AreVertexCones n A cones
vertices_all n A i cones l s = record { each = s.each; every = λ k h. s.every k (omega (arith, l, h)) }

pub vertex_pairs_start : (n : ℕ) (A : List (List ℤ)) (i : ℕ) (cones : List Rows) → VertexPairsSoFar n A i 0 cones → VertexPairsSoFar n A i (i + 1) cones
vertex_pairs_start n A i cones s = record {
  each = s.each;
  every = λ a b l m q. s.every a b l m (elim q [ inl h ↦ inl h | inr h ↦ let e = h.0 in let g = h.1 in absurd (omega (arith, e, g, l)) ]);
}

pub vertex_pairs_more : (n : ℕ) (A : List (List ℤ)) (i j : ℕ) (cones : List Rows) (c : Rows) → i < j → j < length A → c ≡ pair_rows A i j →
    VertexPairsSoFar n A i j cones → VertexPairsSoFar n A i (j + 1) (cones ++ c ∷ [])
vertex_pairs_more n A i j cones c l m e s = record {
  each = λ d k. elim (Contains-last cones c d k) [ inl x ↦ s.each d x | inr q ↦ (i, j, (l, m, q ∙ e)) ];
  every = λ a b la mb q v u. elim q [
    | inl h ↦ first_in cones c (pair_rows A a b) (s.every a b la mb (inl h) v u)
    | inr h ↦ elim (index j b) [
      | less g ↦ first_in cones c (pair_rows A a b) (s.every a b la mb (inr (h.0, g)) v u)
      | at g ↦ subst (λ z. Contains (cones ++ c ∷ []) (pair_rows A a z)) g (subst (λ z. Contains (cones ++ c ∷ []) (pair_rows A z j)) (sym h.0)
          (subst (Contains (cones ++ c ∷ [])) e (Contains-push cones c)))
      | more g ↦ let k = h.1 in absurd (omega (arith, g, k))
    ]
  ];
}

pub vertex_pairs_skip : (n : ℕ) (A : List (List ℤ)) (i j : ℕ) (cones : List Rows) → (IsVertex n A (point_at A i) → IsVertex n A (point_at A j) → ⊥) →
    VertexPairsSoFar n A i j cones → VertexPairsSoFar n A i (j + 1) cones
vertex_pairs_skip n A i j cones none s = record {
  each = s.each;
  every = λ a b la mb q v u. elim q [
    | inl h ↦ s.every a b la mb (inl h) v u
    | inr h ↦ elim (index j b) [
      | less g ↦ s.every a b la mb (inr (h.0, g)) v u
      | at g ↦ absurd (none (subst (λ z. IsVertex n A (point_at A z)) h.0 v) (subst (λ z. IsVertex n A (point_at A z)) (sym g) u))
      | more g ↦ let k = h.1 in absurd (omega (arith, g, k))
    ]
  ];
}

pub vertex_pairs_next : (n : ℕ) (A : List (List ℤ)) (i j : ℕ) (cones : List Rows) → length A ≤ j → VertexPairsSoFar n A i j cones →
    VertexPairsSoFar n A (i + 1) 0 cones
vertex_pairs_next n A i j cones l s = record {
  each = s.each;
  every = λ a b la mb q. elim q [
    | inl h ↦ elim (index i a) [
      | less g ↦ s.every a b la mb (inl g)
      | at g ↦ s.every a b la mb (inr (sym g, omega (arith, l, mb)))
      | more g ↦ absurd (omega (arith, g, h))
    ]
    | inr h ↦ let g = h.1 in absurd (omega (arith, g))
  ];
}

pub vertex_pairs_all : (n : ℕ) (A : List (List ℤ)) (i : ℕ) (cones : List Rows) → length A ≤ i → VertexPairsSoFar n A i 0 cones → AreVertexPairCones n A cones
vertex_pairs_all n A i cones l s = record { each = s.each; every = λ a b la mb. s.every a b la mb (inl (omega (arith, l, la, mb))) }

told : (b : Bool) → IsTrue b → b ≡ true
told b t = t

last_of : (flags : List Bool) (b : Bool) → get_or (flags ++ b ∷ []) (length flags) false ≡ b
last_of [] b = refl
last_of (x ∷ flags) b = last_of flags b

pub flags_more : (n : ℕ) (A : List (List ℤ)) (i : ℕ) (flags new : List Bool) (b : Bool) → (IsVertex n A (point_at A i) → IsTrue b) → new ≡ flags ++ b ∷ [] →
    AreVertexFlags n A i flags → AreVertexFlags n A (i + 1) new
flags_more n A i flags new b v e f = subst (AreVertexFlags n A (i + 1)) (sym e) (record {
  long = length-append flags (b ∷ []) ∙ ap (λ z. z + 1) f.long;
  each = λ k l u. elim (index i k) [
    | less g ↦ (let e = f.long in get_or_append_left flags (b ∷ []) false k (omega (arith, e, g))) ∙ f.each k g u
    | at g ↦ ap (λ z. get_or (flags ++ b ∷ []) z false) (sym g ∙ sym f.long) ∙ last_of flags b ∙ told b (v (subst (λ z. IsVertex n A (point_at A z)) (sym g) u))
    | more g ↦ absurd (omega (arith, g, l))
  ];
})

pub flags_all : (n : ℕ) (A : List (List ℤ)) (i : ℕ) (flags : List Bool) → length A ≤ i → AreVertexFlags n A i flags → HaveVertexFlags n A flags
flags_all n A i flags l f = (i, (l, f))

pub no_vertex : (n : ℕ) (f : Terms) (i : ℕ) (flags : List Bool) → i < length f → HaveVertexFlags n (points f) flags → get_or flags i false ≡ false →
    IsVertex n (points f) (point_at (points f) i) → ⊥
no_vertex n f i flags l h q v = let x = length-points f in let g = h.1.0 in true≢false (sym (h.1.1.each i (omega (arith, l, x, g)) v) ∙ q)

-- multipliers show that a point is no vertex
pub refuted : (n : ℕ) (f : Terms) (i : ℕ) (hs es : List (List ℤ)) (a : Answer) (ms ns : List ℤ) → GordansAlternative → VerticesSuffice → HasVariables n f →
    AllPairs (λ x y. x ≢ y) (points f) → i < length f → hs ≡ (single_rows (points f) i).inequalities → es ≡ [] → a ≡ Farkas ms ns → IsAlternative n hs es a →
    IsVertex n (points f) (point_at (points f) i) → ⊥
refuted n f i hs es a ms ns g s vars different l p q e alt v =
    let A = points f in let w = points_wide n f vars in let li : i < length A = (let x = length-points f in omega (arith, l, x)) in
    let rows = single_wide n A i w li in
    let k : IsFarkas n (single_rows A i).inequalities [] ms ns =
    subst (λ z. IsFarkas n (single_rows A i).inequalities z ms ns) q (subst (λ z. IsFarkas n z es ms ns) p (subst (IsAlternative n hs es) e alt)) in
    g.not_both n (single_rows A i).inequalities [] rows (all_by (λ t. length t ≡ n) [] (λ t y. absurd (none_in t y))) ((s.vertex n A i w different li).0 v)
    (ms, ns, k)

pub rows_are_wide : (n : ℕ) (f : Terms) (i : ℕ) (hs : List (List ℤ)) → HasVariables n f → i < length f → hs ≡ (single_rows (points f) i).inequalities →
    AreRows n hs
rows_are_wide n f i hs vars l e = let x = length-points f in subst (AreRows n) (sym e) (single_wide n (points f) i (points_wide n f vars) (omega (arith, l, x)))
