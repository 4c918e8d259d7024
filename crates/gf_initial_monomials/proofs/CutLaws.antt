-- What a cone and rows share, by whatever rows. To cite: cut_of, above, CutSoFar, cutting_none, cutting_left, cutting_more, cutting_all, cutting_rows,
-- more_cut, anew_cut, whole_cut, recut, recut_is, recut_faces, recut_refused.
use Rattle.std.specs.Prelude.{IfOk, Result, Ok, Err}
use Rattle.std.proofs.Common.{◌≡◌, ◌⊎◌, ℕ, ◌+◌, ◌<◌, ◌≤◌, List, [], ◌∷◌, ◌++◌, ℤ, pos, ◌≤ℤ◌, All, Contains, length, get_or, arith}
use Rattle.std.proofs.Common.{◌∙◌, refl, sym, subst, inl, inr}
use Rattle.std.proofs.lemmas.List.{get_or_default}
use Rattle.std.proofs.lemmas.List.Elements.{All-contains, Contains-append_left, Contains-append_right, Contains-append_cases, Contains-push}
use Rattle.gf_int_theory.proofs.ListLaws.{all_by, Contains-last}
use Rattle.gf_vec.specs.Vector.{dot}
use Rattle.gf_gordan.specs.Alternative.{AreRows}
use Rattle.gf_gordan.specs.declared.error.GordanError.{GordanError}
use Rattle.gf_duality_theory.specs.Rays.{IsRays}
use Rattle.gf_duality_theory.specs.Faces.{Rows, IsInCone, SameCone, part}
use Rattle.gf_duality_theory.proofs.ListLaws.{none_in, first_in, index, less, at, more}
use Rattle.gf_duality_theory.proofs.Made.{Made-dot}
use Rattle.gf_duality_theory.proofs.Determined.{described_of, same_rays_of}
use Rattle.gf_fans_theory.specs.FaceLists.{IsFaceBy, numbered}
use Rattle.gf_fans_theory.proofs.FanLaws.{is_in, up_in, zero_in, same_turned}
use Rattle.gf_fans_theory.proofs.SameCones.{face_of_same}
use Rattle.gf_poly.specs.Marking.{MarkedPolynomial}
use Rattle.gf_rays.specs.Cones.{RowsAndRays, rows_of}
use Rattle.gf_rays.specs.Faces.{AreFaces, IsPartBy}
use Rattle.gf_rays.specs.declared.faces.Face.{Face}
use Rattle.gf_initial_monomials.specs.declared.error.InitialError.{InitialError}
use Rattle.gf_initial_monomials.specs.declared.error.InitialError.TheVariants.{Cone, Wide, Entry, Saturation, Memory}
use Rattle.gf_initial_monomials.specs.Outcomes.{IsCutBy}
use Rattle.gf_initial_monomials.specs.Cuts.{with_rows, IsNowhereNegative, AreCutting, IsPartAs}
use Rattle.gf_initial_monomials.specs.Refusals.{IsRefusedAtFace, IsFaceRefusal}

pub cut_of : (c : Rows) (n : ℕ) (rows hs es : List (List ℤ)) (r : Result RowsAndRays GordanError) → hs ≡ c.inequalities ++ rows → es ≡ c.equations →
    IfOk r (λ d. (d.ambient ≡ n) × (d.inequalities ≡ hs) × (d.equations ≡ es)) → IfOk r (λ d. IsRays n hs es d.lineality d.rays) → IfOk r (IsCutBy c n rows)
cut_of c n rows hs es (Err e) qh qe p k = tt
cut_of c n rows hs es (Ok d) qh qe p k = record {
  ambient = p.0;
  inequalities = p.1 ∙ qh;
  equations = p.2 ∙ qe;
  are_rays = subst (λ (z : List (List ℤ)). IsRays n z d.equations d.lineality d.rays) (sym p.1) (subst (λ (z : List (List ℤ)). IsRays n hs z d.lineality d.rays)
      (sym p.2) k);
}

-- ---- rows that are negative nowhere on a cone

-- a row that is zero on the lineality vectors and negative on no ray
pub above : (n : ℕ) (c : Rows) (lin rays : List (List ℤ)) (t : List ℤ) → IsRays n c.inequalities c.equations lin rays →
    ((x : List ℤ) → Contains lin x → dot t x ≡ pos 0) → ((x : List ℤ) → Contains rays x → pos 0 ≤ℤ dot t x) → IsNowhereNegative n c t
above n c lin rays t r flat up x l s =
    let d = described_of n c.inequalities c.equations lin rays r in
    Made-dot n rays lin t x up flat (d.complete x l (λ h k. up_in c x h s k) (λ e k. zero_in c x e s k))

-- the first i rows but for some that are negative nowhere on the cone
pub record CutSoFar (n : ℕ) (c : Rows) (rows : List (List ℤ)) (i : ℕ) (out : List (List ℤ)) : Type 0 where
  pub each : (t : List ℤ) → Contains out t → Contains rows t
  pub every : (k : ℕ) → k < i → Contains out (get_or rows k []) ⊎ IsNowhereNegative n c (get_or rows k [])

pub cutting_none : (n : ℕ) (c : Rows) (rows : List (List ℤ)) → CutSoFar n c rows 0 []
cutting_none n c rows = record { each = λ t k. absurd (none_in t k); every = λ k h. absurd (omega (arith, h)) }

pub cutting_left : (n : ℕ) (c : Rows) (rows : List (List ℤ)) (i : ℕ) (h : List ℤ) (out : List (List ℤ)) → i < length rows → h ≡ get_or rows i h →
    IsNowhereNegative n c h → CutSoFar n c rows i out → CutSoFar n c rows (i + 1) out
cutting_left n c rows i h out l e up s = record {
  each = s.each;
  every = λ k b. elim (index k i) [
    | more m ↦ s.every k m
    | at m ↦ inr (subst (λ j. IsNowhereNegative n c (get_or rows j [])) (sym m) (subst (IsNowhereNegative n c) (e ∙ get_or_default rows i h [] l) up))
    | less m ↦ absurd (omega (arith, b, m))
  ];
}

pub cutting_more : (n : ℕ) (c : Rows) (rows : List (List ℤ)) (i : ℕ) (h : List ℤ) (out next : List (List ℤ)) → i < length rows → h ≡ get_or rows i h →
    next ≡ out ++ h ∷ [] → CutSoFar n c rows i out → CutSoFar n c rows (i + 1) next
cutting_more n c rows i h out next l e q s = subst (CutSoFar n c rows (i + 1)) (sym q) (record {
  each = λ t k. elim (Contains-last out h t k) [ inl a ↦ s.each t a | inr g ↦ (i, l, sym (get_or_default rows i h t l) ∙ sym e ∙ sym g) ];
  every = λ k b. elim (index k i) [
    | more m ↦ elim (s.every k m) [ inl a ↦ inl (first_in out h (get_or rows k []) a) | inr u ↦ inr u ]
    | at m ↦ inl (subst (λ j. Contains (out ++ h ∷ []) (get_or rows j [])) (sym m)
        (subst (Contains (out ++ h ∷ [])) (e ∙ get_or_default rows i h [] l) (Contains-push out h)))
    | less m ↦ absurd (omega (arith, b, m))
  ];
})

pub cutting_all : (n : ℕ) (c : Rows) (rows : List (List ℤ)) (i : ℕ) (out : List (List ℤ)) → length rows ≤ i → CutSoFar n c rows i out → AreCutting n c rows out
cutting_all n c rows i out l s = record {
  each = s.each;
  every = λ t k.
      let q : get_or rows k.0 [] ≡ t = get_or_default rows k.0 [] t k.1 ∙ k.2 in
      elim (s.every k.0 (omega (arith, l, k.1))) [
        | inl a ↦ inl (subst (Contains out) q a)
        | inr u ↦ inr (subst (IsNowhereNegative n c) q u)
      ];
}

-- rows of the same width
pub cutting_rows : (n : ℕ) (c : Rows) (rows out : List (List ℤ)) → AreRows n rows → AreCutting n c rows out → AreRows n out
cutting_rows n c rows out w a = all_by (λ t. length t ≡ n) out (λ t k. All-contains (λ t. length t ≡ n) rows t w (a.each t k))

-- ---- the part, by other rows

-- the vectors that the rows that may cut something off leave are those that all rows leave
cut_same : (n : ℕ) (c : Rows) (rows out : List (List ℤ)) → AreCutting n c rows out → SameCone n (with_rows c out) (with_rows c rows)
cut_same n c rows out a x l = (
  λ s.
      let i : IsInCone c x = is_in c x (λ h k. up_in (with_rows c out) x h s (Contains-append_left c.inequalities out h k))
      (λ e k. zero_in (with_rows c out) x e s k) in
      is_in (with_rows c rows) x (λ h k. elim (Contains-append_cases c.inequalities rows h k) [
        | inl b ↦ up_in c x h i b
        | inr b ↦ elim (a.every h b) [
          | inl m ↦ up_in (with_rows c out) x h s (Contains-append_right c.inequalities out h m)
          | inr u ↦ u x l i
        ]
      ]) (λ e k. zero_in c x e i k),
  λ s. is_in (with_rows c out) x (λ h k. elim (Contains-append_cases c.inequalities out h k) [
    | inl b ↦ up_in (with_rows c rows) x h s (Contains-append_left c.inequalities rows h b)
    | inr b ↦ up_in (with_rows c rows) x h s (Contains-append_right c.inequalities rows h (a.each h b))
  ]) (λ e k. zero_in (with_rows c rows) x e s k),
)

rows_same : (n : ℕ) (c d : Rows) → c.inequalities ≡ d.inequalities → c.equations ≡ d.equations → SameCone n c d
rows_same n c d p q x l = (
  λ s. is_in d x (λ h k. up_in c x h s (subst (λ (z : List (List ℤ)). Contains z h) (sym p) k))
      (λ e k. zero_in c x e s (subst (λ (z : List (List ℤ)). Contains z e) (sym q) k)),
  λ s. is_in c x (λ h k. up_in d x h s (subst (λ (z : List (List ℤ)). Contains z h) p k))
      (λ e k. zero_in d x e s (subst (λ (z : List (List ℤ)). Contains z e) q k)),
)

pub more_cut : (c : Rows) (n : ℕ) (rows out : List (List ℤ)) (d : RowsAndRays) → AreCutting n c rows out →
    (d.ambient ≡ n) × (d.inequalities ≡ c.inequalities ++ out) × (d.equations ≡ c.equations) → IsPartAs c n rows d
more_cut c n rows out d a p = record {
  ambient = p.0;
  same = λ x l.
      let r = rows_same n (rows_of d) (with_rows c out) p.1 p.2 x l in
      let s = cut_same n c rows out a x l in (
        λ i. s.0 (r.0 i),
        λ i. r.1 (s.1 i),
      );
}

pub anew_cut : (c : Rows) (n : ℕ) (rows : List (List ℤ)) (d : RowsAndRays) → IsCutBy c n rows d → IsPartAs c n rows d
anew_cut c n rows d k = record { ambient = k.ambient; same = rows_same n (rows_of d) (with_rows c rows) k.inequalities k.equations }

-- where no row may cut anything off, the part is the cone
pub whole_cut : (n : ℕ) (rows out : List (List ℤ)) (d : RowsAndRays) → d.ambient ≡ n → length out ≡ 0 →
    AreCutting d.ambient (rows_of d) rows out → IsPartAs (rows_of d) n rows d
whole_cut n rows out d e q a = record {
  ambient = e;
  same = λ x l. (
    λ s. is_in (with_rows (rows_of d) rows) x (λ h k. elim (Contains-append_cases d.inequalities rows h k) [
      | inl b ↦ up_in (rows_of d) x h s b
      | inr b ↦ elim (a.every h b) [
        | inl m ↦ absurd (omega (arith, q, m.1))
        | inr u ↦ u x (l ∙ sym e) s
      ]
    ]) (λ f k. zero_in (rows_of d) x f s k),
    λ s. is_in (rows_of d) x (λ h k. up_in (with_rows (rows_of d) rows) x h s (Contains-append_left d.inequalities rows h k))
        (λ f k. zero_in (with_rows (rows_of d) rows) x f s k),
  );
}

-- ---- the part, by the rows of the cone and these

-- the rays of d with the rows of c and these
abbrev pub recut : Rows → List (List ℤ) → RowsAndRays → RowsAndRays
recut c rows d = record {
  ambient = d.ambient;
  inequalities = c.inequalities ++ rows;
  equations = c.equations;
  lineality = d.lineality;
  rays = d.rays;
  implied = d.implied;
}

pub recut_is : (c : Rows) (n : ℕ) (rows : List (List ℤ)) (d : RowsAndRays) → IsPartAs c n rows d →
    IsRays d.ambient d.inequalities d.equations d.lineality d.rays → IsCutBy c n rows (recut c rows d)
recut_is c n rows d k r = record {
  ambient = k.ambient;
  inequalities = refl;
  equations = refl;
  are_rays = same_rays_of n (rows_of d) (with_rows c rows) d.lineality d.rays k.same
      (subst (λ m. IsRays m d.inequalities d.equations d.lineality d.rays) k.ambient r);
}

-- a part by rows of the one is a part by rows of the other
part_too : (n : ℕ) (c d : Rows) (lin rays zero : List (List ℤ)) → IsRays n d.inequalities d.equations lin rays → SameCone n c d →
    All (Contains c.inequalities) zero → (other : List (List ℤ)) × (All (Contains d.inequalities) other × SameCone n (part c zero) (part d other))
part_too n c d lin rays zero r s k = face_of_same n (part c zero) c d (lin, rays, r) s (zero, (k, λ x l. (λ i. i, λ i. i)))

face_too : (n : ℕ) (c d : Rows) (lin rays zero other : List (List ℤ)) (numbers : List ℕ) (dim : ℕ) → SameCone n (part c zero) (part d other) →
    IsFaceBy n c lin rays zero numbers dim → IsFaceBy n d lin rays other numbers dim
face_too n c d lin rays zero other numbers dim s p = record {
  listed = p.listed;
  are_rays = same_rays_of n (part c zero) (part d other) lin (numbered rays numbers) s p.are_rays;
  spans = p.spans;
}

pub recut_faces : (c : Rows) (n : ℕ) (rows : List (List ℤ)) (d : RowsAndRays) (faces : List Face) → IsPartAs c n rows d →
    IsRays d.ambient d.inequalities d.equations d.lineality d.rays → AreFaces d faces → AreFaces (recut c rows d) faces
recut_faces c n rows d faces k r a =
    let m : ℕ = d.ambient in
    let b : Rows = with_rows c rows in
    let s : SameCone m (rows_of d) b = λ x l. k.same x (l ∙ k.ambient) in
    let t : IsRays m b.inequalities b.equations d.lineality d.rays = same_rays_of m (rows_of d) b d.lineality d.rays s r in
    record {
      each = all_by (λ (f : Face). (zero : List (List ℤ)) × (All (Contains b.inequalities) zero × IsPartBy (recut c rows d) zero f)) faces (λ f i.
          let p = All-contains (λ (f : Face). (zero : List (List ℤ)) × (All (Contains d.inequalities) zero × IsPartBy d zero f)) faces f a.each i in
          let q = part_too m (rows_of d) b d.lineality d.rays p.0 t s p.1.0 in
          (q.0, (q.1.0, face_too m (rows_of d) b d.lineality d.rays p.0 q.0 f.rays f.dim q.1.1 p.1.1)));
      every = λ zero w.
          let q = part_too m b (rows_of d) d.lineality d.rays zero r (same_turned m (rows_of d) b s) w in
          let y = a.every q.0 q.1.0 in (
            y.0,
            y.1,
            y.2,
            y.3,
            face_too m (rows_of d) b d.lineality d.rays q.0 zero y.1.rays y.1.dim
                (same_turned m (part b zero) (part (rows_of d) q.0) q.1.1) y.4,
          );
      ordered = a.ordered;
    }

refused_too : (bs : List MarkedPolynomial) (c : Rows) (rows : List (List ℤ)) (d : RowsAndRays) (pairs : ℕ) (f : Face) (e : InitialError) →
    IsRefusedAtFace bs d pairs e f → IsRefusedAtFace bs (recut c rows d) pairs e f
refused_too bs c rows d pairs f (Cone s) h = h
refused_too bs c rows d pairs f (Wide w) h = h
refused_too bs c rows d pairs f (Entry i x) h = h
refused_too bs c rows d pairs f (Saturation r) h = h
refused_too bs c rows d pairs f Memory h = h

pub recut_refused : (bs : List MarkedPolynomial) (c : Rows) (rows : List (List ℤ)) (d : RowsAndRays) (faces : List Face) (pairs : ℕ) (e : InitialError) →
    IsFaceRefusal bs d faces pairs e → IsFaceRefusal bs (recut c rows d) faces pairs e
recut_refused bs c rows d faces pairs e (IsFaceRefusal.at_face f p h) = IsFaceRefusal.at_face f p (refused_too bs c rows d pairs f e h)
recut_refused bs c rows d faces pairs e (IsFaceRefusal.no_memory q) = IsFaceRefusal.no_memory q
