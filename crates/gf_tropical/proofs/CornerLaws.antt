-- Lists of the points of vertices, one step further.
use Rattle.std.proofs.Common.{◌≡◌, ℕ, ◌+◌, ◌^◌, ◌<◌, ◌≤◌, List, [], ◌∷◌, ◌++◌, length, map, take, ℤ, pos, All, Contains, arith, refl, sym, ap, ◌∙◌, subst}
use Rattle.std.proofs.Common.{get_or, inl, inr}
use Rattle.std.proofs.lemmas.Int.{ints}
use Rattle.std.proofs.lemmas.List.{map-append, take_more}
use Rattle.std.proofs.lemmas.List.Elements.{All-push, Contains-push, Contains-get_or}
use Rattle.std.proofs.lemmas.List.Quantifiers.{all_pairs_push}
use Rattle.gf_int_theory.specs.Range.{InRange}
use Rattle.gf_int_theory.proofs.ListLaws.{Contains-last}
use Rattle.gf_exponents_theory.specs.Exponents.{Exponents}
use Rattle.gf_duality_theory.proofs.ListLaws.{none_in, first_in, index, less, at, more}
use Rattle.gf_patterns_theory.specs.PatternRows.{point_at}
use Rattle.gf_patterns_theory.specs.Vertices.{IsVertex}
use Rattle.gf_levels_theory.specs.VertexPoints.{AreVertexPoints}
use Rattle.gf_tropical.specs.VertexLists.{VertexPointsSoFar}

-- what the first i entries of a point are
pub record EntriesSoFar (x : Exponents) (entries : List ℤ) (i : ℕ) : Type 0 where
  pub items : entries ≡ map pos (take i x)
  pub range : All InRange entries

pub entries_more : (x : Exponents) (entries new : List ℤ) (i : ℕ) (z : ℤ) → i < length x → z ≡ pos (get_or x i 0) → get_or x i 0 < 2 ^ 31 →
    new ≡ entries ++ z ∷ [] → EntriesSoFar x entries i → EntriesSoFar x new (i + 1)
entries_more x entries new i z l q a n d = record {
  items =
      n ∙ ap (λ w. w ++ z ∷ []) d.items ∙ ap (λ w. map pos (take i x) ++ w ∷ []) q
      ∙ sym (map-append pos (take i x) (get_or x i 0 ∷ [])) ∙ ap (map pos) (sym (take_more x i 0 l));
  range = subst (All InRange) (sym n) (All-push InRange entries z d.range (record { within = omega (arith, ints, q, a) }));
}

pub points_none : (n : ℕ) (A : List (List ℤ)) → VertexPointsSoFar n A 0 []
points_none n A = record {
  indices = [];
  ascending = λ i j d l m. absurd (omega (arith, m));
  inside = λ k c. absurd (none_in k c);
  are = refl;
  every = λ k h v. absurd (omega (arith, h));
}

pub points_more : (n : ℕ) (A : List (List ℤ)) (i : ℕ) (out : List (List ℤ)) (x : List ℤ) → i < length A → x ≡ point_at A i → VertexPointsSoFar n A i out →
    VertexPointsSoFar n A (i + 1) (out ++ x ∷ [])
points_more n A i out x l e s = record {
  indices = s.indices ++ i ∷ [];
  ascending = all_pairs_push (λ j k. j < k) s.indices i s.ascending (λ k d h. (s.inside (get_or s.indices k d) (Contains-get_or s.indices k d h)).0);
  inside = λ k c. elim (Contains-last s.indices i k c) [
    | inl h ↦ let q = s.inside k h in let a = q.0 in let b = q.1 in (omega (arith, a), b)
    | inr q ↦ (omega (arith, q), omega (arith, q, l))
  ];
  are = ap (λ z. z ++ x ∷ []) s.are ∙ ap (λ z. map (point_at A) s.indices ++ z ∷ []) e ∙ sym (map-append (point_at A) s.indices (i ∷ []));
  every = λ k h v. elim (index i k) [
    | less g ↦ first_in s.indices i k (s.every k g v)
    | at g ↦ subst (Contains (s.indices ++ i ∷ [])) g (Contains-push s.indices i)
    | more g ↦ absurd (omega (arith, g, h))
  ];
}

pub points_skip : (n : ℕ) (A : List (List ℤ)) (i : ℕ) (out : List (List ℤ)) → (IsVertex n A (point_at A i) → ⊥) → VertexPointsSoFar n A i out →
    VertexPointsSoFar n A (i + 1) out
points_skip n A i out none s = record {
  indices = s.indices;
  ascending = s.ascending;
  inside = λ k c. let q = s.inside k c in let a = q.0 in (omega (arith, a), q.1);
  are = s.are;
  every = λ k h v. elim (index i k) [
    | less g ↦ s.every k g v
    | at g ↦ absurd (none (subst (λ z. IsVertex n A (point_at A z)) (sym g) v))
    | more g ↦ absurd (omega (arith, g, h))
  ];
}

pub points_all : (n : ℕ) (A : List (List ℤ)) (i : ℕ) (out : List (List ℤ)) → length A ≤ i → VertexPointsSoFar n A i out → AreVertexPoints n A out
points_all n A i out l s = record {
  indices = s.indices;
  ascending = s.ascending;
  inside = λ k c. (s.inside k c).1;
  are = s.are;
  every = λ k h v. s.every k (omega (arith, l, h)) v;
}
