-- The fan of the cones of marked sets: how it is found, why it isn't, and that a source is answered in one way.
-- To cite: cones_ambient, step_of_sets, set_no_fan, cone_no_fan, fan_no_fan, fan_told; fan_answered, no_fan_refused, no_fan_named; to_polyhedral_fan_exact,
-- to_polyhedral_fan_tested, no_fan_not_listed. The rest are steps.
use Rattle.std.specs.Prelude.{◌≡◌, ◌⊎◌, ℕ, zero, suc, ◌<◌, Bool, List, [], ◌∷◌, length, get_or, All, Some, ℤ}
use Rattle.std.specs.List.{AllZip}
use Rattle.std.proofs.Common.{arith, sym, ap, ◌∙◌, subst, inl, inr}
use Rattle.std.proofs.lemmas.List.{get_or_default}
use Rattle.std.proofs.lemmas.Slice.Zip.{AllZip-long}
use Rattle.gf_poly.specs.Marking.{MarkedPolynomials, Each}
use Rattle.gf_gordan.specs.declared.error.GordanError.{GordanError}
use Rattle.gf_gordan.specs.declared.error.GordanError.TheVariants as gordan_errors
use Rattle.gf_gordan.specs.Steps.{Failed}
use Rattle.gf_duality_theory.specs.Faces.{Rows}
use Rattle.gf_facets_theory.specs.Normals.{AreNormals}
use Rattle.gf_fans_theory.specs.Fans.{MeetInFaces}
use Rattle.gf_rays.specs.Cones.{RowsAndRays, rows_of}
use Rattle.gf_facets_theory.proofs.AscendingLaws.{same_ascending}
use Rattle.gf_reduced.specs.declared.error.CheckError.{CheckError}
use Rattle.gf_reduced.specs.declared.error.CheckError.TheVariants as check_errors
use Rattle.gf_fan.specs.declared.error.FanError.{FanError}
use Rattle.gf_fan.specs.declared.error.FanError.TheVariants as fan_errors
use Rattle.gf_fan.specs.Pairs.{AreOfAmbient, AreMeetingAt, IsFirstPair}
use Rattle.gf_fan.specs.Refusals.{IsFanRefusal}
use Rattle.gf_front.specs.declared.options.ToPolyhedralFanOptions.{ToPolyhedralFanOptions}
use Rattle.gf_front.specs.declared.refusal.Refusal.{Refusal}
use Rattle.gf_front.specs.declared.refusal.Refusal.TheVariants as refusals
use Rattle.gf_items.specs.Items.{IsTextOf}
use Rattle.gf_items.specs.Sources.{ring_marked_sets}
use Rattle.gf_items.specs.Kinds.{marked_set_list}
use Rattle.gf_items.specs.Refusals.{IsOfTest, IsOfNumbers, TellsSame, IsOfWork}
use Rattle.gf_frame.specs.Commands.{IsAnswered, IsUnanswered, IsRefusedOn}
use Rattle.gf_items.proofs.KindLaws.{ring_and_once}
use Rattle.gf_frame.proofs.ReadingLaws.{one_once, of_one_text}
use Rattle.gf_frame.proofs.SoundLaws.{IsExactCommand, IsTestedCommand}
use Rattle.gfan_common.specs.CheckedSets.{of_check}
use Rattle.gfan_common.specs.Causes.{of_gordan}
use Rattle.gfan_common.specs.ReducedSets.{AreReducedAsRead, IsRefusedFrom}
use Rattle.gf_fan_files.specs.FanTexts.{IsFanText}
use Rattle.gf_fan_files.proofs.FanOnceLaws.{first_place, second_place}
use Rattle.gfan_fans.specs.FanTexts.{of_fan, IsNoFanText}
use Rattle.gfan_fans.specs.ToPolyhedralFan.{inequalities_of, IsConeOfSet, IsFanOfSetsText, IsConeStepOfSet, IsConeStepOfSets, IsNoFanOfSets, AreSetsWithin}
use Rattle.gfan_fans.specs.ToPolyhedralFan.{to_polyhedral_fan_command}
use Rattle.gfan_common.specs.Refused.{IsNamedBy}
use Rattle.gfan_common.proofs.ReadSetLaws.{IsSetKept}
use Rattle.gfan_common.proofs.CheckedSetLaws.{check_work, check_not_listed}
use Rattle.gfan_common.proofs.ZipLaws.{zip_back}
use Rattle.gfan_common.proofs.ReducedListLaws.{refused_named, refused_within, check_kind, refused_once, refused_refutes, list_read}
use Rattle.gfan_fans.proofs.FanTextLaws.{meeting_refutes, text_within, text_work, text_not_listed, text_named}

-- ---- how it is found

-- the cones have the variables of their sets
pub cones_ambient : (cut : Bool) (n : ℕ) (sets : List MarkedPolynomials) (cones : List RowsAndRays) → AllZip (IsConeOfSet cut) sets cones →
    All (λ s. s.variables ≡ n) sets → AreOfAmbient n cones
cones_ambient cut n sets cones z v = λ i d l.
    let c = get_or cones i d in
    let b = zip_back (IsConeOfSet cut) sets cones c z (i, l, get_or_default cones i c d l) in
    b.2.ambient ∙ sym (ap (λ (s : MarkedPolynomials). s.variables) b.1.2) ∙ v b.1.0 b.0 b.1.1

-- a step at one of the sets
pub step_of_sets : (cut : Bool) (sets : List MarkedPolynomials) (i : ℕ) (s : MarkedPolynomials) (e : GordanError) → i < length sets → s ≡ get_or sets i s →
    Failed (IsConeStepOfSet cut s) e → Failed (IsConeStepOfSets cut sets) e
step_of_sets cut sets i s (gordan_errors.Cone o) l is h = record { set = s; contained = (i, l, sym is); step = h }
step_of_sets cut sets i s gordan_errors.Memory l is h = tt

pub set_no_fan : (cut : Bool) (n : ℕ) (sets : List MarkedPolynomials) (e : CheckError) (r : Refusal) → IsRefusedFrom 0 sets e ⊎ (e ≡ check_errors.Memory) →
    r ≡ of_check e → IsNoFanOfSets cut n sets r
set_no_fan cut n sets e r (inl h) q = IsNoFanOfSets.at_set e h q
set_no_fan cut n sets e r (inr m) q = IsNoFanOfSets.no_memory (q ∙ ap of_check m)

pub cone_no_fan : (cut : Bool) (n : ℕ) (sets : List MarkedPolynomials) (e : GordanError) (r : Refusal) → AreReducedAsRead sets →
    Failed (IsConeStepOfSets cut sets) e → r ≡ of_gordan e → IsNoFanOfSets cut n sets r
cone_no_fan cut n sets (gordan_errors.Cone o) r a h q = IsNoFanOfSets.at_cone o a h q
cone_no_fan cut n sets gordan_errors.Memory r a h q = IsNoFanOfSets.no_memory q

pub fan_no_fan : (cut : Bool) (n : ℕ) (sets : List MarkedPolynomials) (cones : List RowsAndRays) (r : Refusal) → AreReducedAsRead sets →
    AllZip (IsConeOfSet cut) sets cones → IsNoFanText n cones r → IsNoFanOfSets cut n sets r
fan_no_fan cut n sets cones r a z h = IsNoFanOfSets.at_fan cones a z h

pub fan_told : (cut : Bool) (n : ℕ) (sets : List MarkedPolynomials) (cones : List RowsAndRays) (text : List ℕ) → AreReducedAsRead sets →
    AllZip (IsConeOfSet cut) sets cones → IsFanText n cones text → IsFanOfSetsText cut n sets text
fan_told cut n sets cones text a z h = record { reduced = a; cones = cones; are_cones = z; fan = h }

-- ---- from a source on

pub fan_answered : (o : ToPolyhedralFanOptions) (source text : List ℕ) (ring : List (List ℕ)) (sets given : List MarkedPolynomials) (n : ℕ) →
    IsTextOf ring_marked_sets source (ring, sets) → n ≡ length ring → given ≡ sets → IsFanOfSetsText o.restrict n given text →
    IsAnswered (to_polyhedral_fan_command o) (source ∷ []) text
fan_answered o source text ring sets given n read e p h = record {
  value = (ring, sets);
  read = read;
  answer = record {
    formed = tt;
    is_answer = subst (λ k. IsFanOfSetsText o.restrict k sets text) e (subst (λ (ss : List MarkedPolynomials). IsFanOfSetsText o.restrict n ss text) p h);
  };
}

along_ring : (cut : Bool) (r : Refusal) (ring : List (List ℕ)) (sets given : List MarkedPolynomials) (n : ℕ) → n ≡ length ring → given ≡ sets →
    IsNoFanOfSets cut n given r → IsNoFanOfSets cut (length ring) sets r
along_ring cut r ring sets given n e p h = subst (λ k. IsNoFanOfSets cut k sets r) e (subst (λ (ss : List MarkedPolynomials). IsNoFanOfSets cut n ss r) p h)

pub no_fan_refused : (o : ToPolyhedralFanOptions) (source : List ℕ) (r : Refusal) (ring : List (List ℕ)) (sets given : List MarkedPolynomials) (n : ℕ) →
    IsTextOf ring_marked_sets source (ring, sets) → n ≡ length ring → given ≡ sets → IsNoFanOfSets o.restrict n given r →
    IsRefusedOn (to_polyhedral_fan_command o) (source ∷ []) r
no_fan_refused o source r ring sets given n read e p h =
    IsRefusedOn.behind_text (ring, sets) read (IsUnanswered.in_work tt (along_ring o.restrict r ring sets given n e p h))

-- it is told with the names of the ring
named_no_fan : (cut : Bool) (n : ℕ) (ring : List (List ℕ)) (sets : List MarkedPolynomials) (r : Refusal) → Each (IsSetKept (length ring)) sets →
    IsNoFanOfSets cut n sets r → IsNamedBy (Some ring) r
named_no_fan cut n ring sets r v (IsNoFanOfSets.at_set e h q) = subst (IsNamedBy (Some ring)) (sym q) (refused_named 0 ring sets e v h)
named_no_fan cut n ring sets r v (IsNoFanOfSets.at_cone o a h q) = subst (IsNamedBy (Some ring)) (sym q) (λ lent is. tt)
named_no_fan cut n ring sets r v (IsNoFanOfSets.at_fan cones a z h) = text_named (Some ring) n cones r h
named_no_fan cut n ring sets r v (IsNoFanOfSets.no_memory m) = subst (IsNamedBy (Some ring)) (sym m) (λ lent is. tt)

pub no_fan_named : (cut : Bool) (source : List ℕ) (r : Refusal) (ring : List (List ℕ)) (sets given : List MarkedPolynomials) (n : ℕ) →
    IsTextOf ring_marked_sets source (ring, sets) → n ≡ length ring → given ≡ sets → IsNoFanOfSets cut n given r → IsNamedBy (Some ring) r
no_fan_named cut source r ring sets given n read e p h = named_no_fan cut (length ring) ring sets r (list_read source (ring, sets) read)
    (along_ring cut r ring sets given n e p h)

-- ---- within limits

no_fan_work : (cut : Bool) (n : ℕ) (sets : List MarkedPolynomials) (r : Refusal) → IsNoFanOfSets cut n sets r → IsOfWork r
no_fan_work cut n sets r (IsNoFanOfSets.at_set e h q) = subst IsOfWork (sym q) (check_work e)
no_fan_work cut n sets r (IsNoFanOfSets.at_cone o a h q) = subst IsOfWork (sym q) tt
no_fan_work cut n sets r (IsNoFanOfSets.at_fan cones a z h) = text_work n cones r h
no_fan_work cut n sets r (IsNoFanOfSets.no_memory m) = subst IsOfWork (sym m) tt

no_fan_within : (cut : Bool) (n : ℕ) (sets : List MarkedPolynomials) (r : Refusal) → AreSetsWithin cut n sets → IsNoFanOfSets cut n sets r → r ≡ refusals.Memory
no_fan_within cut n sets r w (IsNoFanOfSets.at_set e h q) = q ∙ ap of_check (refused_within 0 sets e (λ s c. (w.each s c).checked) h)
no_fan_within cut n sets r w (IsNoFanOfSets.at_cone o a h q) = absurd ((w.each h.set h.contained).cone o h.step)
no_fan_within cut n sets r w (IsNoFanOfSets.at_fan cones a z h) = text_within n cones r (w.fan cones z) (w.meeting cones z) h
no_fan_within cut n sets r w (IsNoFanOfSets.no_memory m) = m

pub to_polyhedral_fan_exact : (o : ToPolyhedralFanOptions) → IsExactCommand (to_polyhedral_fan_command o)
to_polyhedral_fan_exact o = record {
  reading = one_once _ (ring_and_once marked_set_list []);
  checks = λ texts v h. tt;
  work = λ v r h. no_fan_work o.restrict (length v.0) v.1 r h;
  within = λ v r w h. no_fan_within o.restrict (length v.0) v.1 r w h;
}

pub no_fan_not_listed : (cut : Bool) (n : ℕ) (sets : List MarkedPolynomials) (most : ℕ) → IsNoFanOfSets cut n sets (refusals.ListLimit most) → ⊥
no_fan_not_listed cut n sets most (IsNoFanOfSets.at_set e h q) = check_not_listed e most q
no_fan_not_listed cut n sets most (IsNoFanOfSets.at_cone o a h q) = cc
no_fan_not_listed cut n sets most (IsNoFanOfSets.at_fan cones a z h) = text_not_listed n cones most h
no_fan_not_listed cut n sets most (IsNoFanOfSets.no_memory m) = cc

-- ---- the cones of the sets have one list of rows

normals_same : (s : MarkedPolynomials) (xs ys : List (List ℤ)) → AreNormals s.items xs → AreNormals s.items ys → xs ≡ ys
normals_same s xs ys k l = same_ascending xs ys k.rises l.rises (λ x c. l.all x (k.only x c)) (λ x c. k.all x (l.only x c))

rows_same : (cut : Bool) (s : MarkedPolynomials) (c d : RowsAndRays) → IsConeOfSet cut s c → IsConeOfSet cut s d → rows_of c ≡ rows_of d
rows_same cut s c d h k =
    let e : c.inequalities ≡ d.inequalities =
    h.inequalities ∙ ap (inequalities_of cut s.variables) (normals_same s h.normals k.normals h.are_normals k.are_normals) ∙ sym k.inequalities in
    let f : c.equations ≡ d.equations = h.equations ∙ sym k.equations in
    λ i. record { inequalities = e i; equations = f i }

place_same : (cut : Bool) (sets : List MarkedPolynomials) (cs ds : List RowsAndRays) → AllZip (IsConeOfSet cut) sets cs → AllZip (IsConeOfSet cut) sets ds →
    (i : ℕ) (x : RowsAndRays) → i < length cs → rows_of (get_or cs i x) ≡ rows_of (get_or ds i x)
place_same cut [] [] ds a b i x l = absurd (omega (arith, l))
place_same cut [] (c ∷ cs) ds a b i x l = absurd a
place_same cut (s ∷ sets) [] ds a b i x l = absurd a
place_same cut (s ∷ sets) (c ∷ cs) [] a b i x l = absurd b
place_same cut (s ∷ sets) (c ∷ cs) (d ∷ ds) a b zero x l = rows_same cut s c d a.0 b.0
place_same cut (s ∷ sets) (c ∷ cs) (d ∷ ds) a b (suc i) x l = place_same cut sets cs ds a.1 b.1 i x (omega arith)

long_same : (cut : Bool) (sets : List MarkedPolynomials) (cs ds : List RowsAndRays) → AllZip (IsConeOfSet cut) sets cs → AllZip (IsConeOfSet cut) sets ds →
    length cs ≡ length ds
long_same cut sets cs ds a b = AllZip-long (IsConeOfSet cut) sets cs a ∙ sym (AllZip-long (IsConeOfSet cut) sets ds b)

module _ (cut : Bool) (n : ℕ) (sets : List MarkedPolynomials) where
  meeting_along : (cs ds : List RowsAndRays) → AllZip (IsConeOfSet cut) sets cs → AllZip (IsConeOfSet cut) sets ds → (i j : ℕ) → i < length cs → j < length cs →
      AreMeetingAt n cs i j → AreMeetingAt n ds i j
  meeting_along cs ds a b i j k l m = λ x.
      subst (λ (r : Rows). MeetInFaces n r (rows_of (get_or ds j x))) (place_same cut sets cs ds a b i x k)
      (subst (λ (r : Rows). MeetInFaces n (rows_of (get_or cs i x)) r) (place_same cut sets cs ds a b j x l) (m x))

  pair_along : (cs ds : List RowsAndRays) → AllZip (IsConeOfSet cut) sets cs → AllZip (IsConeOfSet cut) sets ds → (i j : ℕ) → IsFirstPair n cs i j →
      IsFirstPair n ds i j
  pair_along cs ds a b i j h =
      let long = long_same cut sets cs ds a b in
      let o = h.after.ordered in
      let u = h.after.inside in
      record {
        after = record {
          ordered = o;
          inside = subst (λ m. j < m) long u;
          clash = λ m. h.after.clash (meeting_along ds cs b a i j (omega (arith, o, u, long)) (omega (arith, u, long)) m);
          earlier = λ k p q. meeting_along cs ds a b i k (omega (arith, o, u)) (omega (arith, q, u)) (h.after.earlier k p q);
        };
        before = λ g k p q r. meeting_along cs ds a b g k (omega (arith, p, o, u)) (omega (arith, r, long)) (h.before g k p q (omega (arith, r, long)));
      }

pair_once : (n : ℕ) (cs : List RowsAndRays) (i j k l : ℕ) → IsFirstPair n cs i j → IsFirstPair n cs k l → (k ≡ i) × (l ≡ j)
pair_once n cs i j k l h g = let e = first_place n cs i j k l h g in (e, second_place n cs i j l h (subst (λ m. IsFirstPair n cs m l) e g))

-- ---- sets that aren't reduced bases, and cones that aren't those of a fan

fan_once : (cut : Bool) (n : ℕ) (sets : List MarkedPolynomials) (cs ds : List RowsAndRays) (e f : FanError) → IsOfTest (of_fan e) →
    AllZip (IsConeOfSet cut) sets cs → AllZip (IsConeOfSet cut) sets ds → IsFanRefusal n cs e → IsFanRefusal n ds f →
    TellsSame (of_fan e) (of_fan f) ⊎ IsOfNumbers (of_fan f)
fan_once cut n sets cs ds (fan_errors.Cone o) f t a b h g = absurd t
fan_once cut n sets cs ds (fan_errors.NotAFan i j) (fan_errors.Cone o) t a b h g = inr tt
fan_once cut n sets cs ds (fan_errors.NotAFan i j) (fan_errors.NotAFan k l) t a b h g =
    let one = pair_once n cs i j k l h (pair_along cut n sets ds cs b a k l g) in
    inl (λ w. refusals.NotAFan (one.0 w) (one.1 w))
fan_once cut n sets cs ds (fan_errors.NotAFan i j) fan_errors.Memory t a b h g = inr tt
fan_once cut n sets cs ds fan_errors.Memory f t a b h g = absurd t

text_once : (cut : Bool) (n : ℕ) (sets : List MarkedPolynomials) (cs ds : List RowsAndRays) (r d : Refusal) → IsOfTest r → AllZip (IsConeOfSet cut) sets cs →
    AllZip (IsConeOfSet cut) sets ds → IsNoFanText n cs r → IsNoFanText n ds d → TellsSame r d ⊎ IsOfNumbers d
text_once cut n sets cs ds r d t a b (IsNoFanText.no_fan e h q) (IsNoFanText.no_fan f k p) =
    subst (λ x. TellsSame r x ⊎ IsOfNumbers x) (sym p) (subst (λ x. TellsSame x (of_fan f) ⊎ IsOfNumbers (of_fan f)) (sym q)
    (fan_once cut n sets cs ds e f (subst IsOfTest q t) a b h k))
text_once cut n sets cs ds r d t a b h (IsNoFanText.too_wide f w i k p) = inr (subst IsOfNumbers (sym p) tt)
text_once cut n sets cs ds r d t a b h (IsNoFanText.no_memory p) = inr (subst IsOfNumbers (sym p) tt)
text_once cut n sets cs ds r d t a b (IsNoFanText.too_wide f w i h q) k = absurd (subst IsOfTest q t)
text_once cut n sets cs ds r d t a b (IsNoFanText.no_memory q) k = absurd (subst IsOfTest q t)

no_fan_once : (cut : Bool) (m n : ℕ) (sets : List MarkedPolynomials) (r d : Refusal) → Each (IsSetKept m) sets → IsOfTest r → IsNoFanOfSets cut n sets r →
    IsNoFanOfSets cut n sets d → TellsSame r d ⊎ IsOfNumbers d
no_fan_once cut m n sets r d v t (IsNoFanOfSets.at_set e h q) (IsNoFanOfSets.at_set f k p) =
    subst (λ x. TellsSame r x ⊎ IsOfNumbers x) (sym p) (subst (λ x. TellsSame x (of_check f) ⊎ IsOfNumbers (of_check f)) (sym q)
    (refused_once m 0 sets e f v (subst IsOfTest q t) h k))
no_fan_once cut m n sets r d v t (IsNoFanOfSets.at_set e h q) (IsNoFanOfSets.at_cone o a k p) = inr (subst IsOfNumbers (sym p) tt)
no_fan_once cut m n sets r d v t (IsNoFanOfSets.at_set e h q) (IsNoFanOfSets.at_fan cones a z k) =
    absurd (refused_refutes m 0 sets e v (subst IsOfTest q t) h a)
no_fan_once cut m n sets r d v t (IsNoFanOfSets.at_set e h q) (IsNoFanOfSets.no_memory p) = inr (subst IsOfNumbers (sym p) tt)
no_fan_once cut m n sets r d v t (IsNoFanOfSets.at_cone o a h q) k = absurd (subst IsOfTest q t)
no_fan_once cut m n sets r d v t (IsNoFanOfSets.at_fan cones a z h) (IsNoFanOfSets.at_set f k p) = elim (check_kind f) [
  | inl o ↦ absurd (refused_refutes m 0 sets f v o k a)
  | inr o ↦ inr (subst IsOfNumbers (sym p) o)
]
no_fan_once cut m n sets r d v t (IsNoFanOfSets.at_fan cones a z h) (IsNoFanOfSets.at_cone o b k p) = inr (subst IsOfNumbers (sym p) tt)
no_fan_once cut m n sets r d v t (IsNoFanOfSets.at_fan cones a z h) (IsNoFanOfSets.at_fan others b y k) = text_once cut n sets cones others r d t z y h k
no_fan_once cut m n sets r d v t (IsNoFanOfSets.at_fan cones a z h) (IsNoFanOfSets.no_memory p) = inr (subst IsOfNumbers (sym p) tt)
no_fan_once cut m n sets r d v t (IsNoFanOfSets.no_memory p) k = absurd (subst IsOfTest p t)

fan_refutes : (cut : Bool) (n : ℕ) (sets : List MarkedPolynomials) (cones : List RowsAndRays) (e : FanError) (text : List ℕ) → IsOfTest (of_fan e) →
    AllZip (IsConeOfSet cut) sets cones → IsFanRefusal n cones e → IsFanOfSetsText cut n sets text → ⊥
fan_refutes cut n sets cones (fan_errors.Cone o) text t z h a = t
fan_refutes cut n sets cones (fan_errors.NotAFan i j) text t z h a =
    meeting_refutes n a.cones i j a.fan.is_fan.meeting (pair_along cut n sets cones a.cones z a.are_cones i j h)
fan_refutes cut n sets cones fan_errors.Memory text t z h a = t

text_refutes : (cut : Bool) (n : ℕ) (sets : List MarkedPolynomials) (cones : List RowsAndRays) (r : Refusal) (text : List ℕ) → IsOfTest r →
    AllZip (IsConeOfSet cut) sets cones → IsNoFanText n cones r → IsFanOfSetsText cut n sets text → ⊥
text_refutes cut n sets cones r text t z (IsNoFanText.no_fan e h q) a = fan_refutes cut n sets cones e text (subst IsOfTest q t) z h a
text_refutes cut n sets cones r text t z (IsNoFanText.too_wide f w i h q) a = subst IsOfTest q t
text_refutes cut n sets cones r text t z (IsNoFanText.no_memory q) a = subst IsOfTest q t

no_fan_refutes : (cut : Bool) (m n : ℕ) (sets : List MarkedPolynomials) (r : Refusal) (text : List ℕ) → Each (IsSetKept m) sets → IsOfTest r →
    IsNoFanOfSets cut n sets r → IsFanOfSetsText cut n sets text → ⊥
no_fan_refutes cut m n sets r text v t (IsNoFanOfSets.at_set e h q) a = refused_refutes m 0 sets e v (subst IsOfTest q t) h a.reduced
no_fan_refutes cut m n sets r text v t (IsNoFanOfSets.at_cone o b h q) a = subst IsOfTest q t
no_fan_refutes cut m n sets r text v t (IsNoFanOfSets.at_fan cones b z h) a = text_refutes cut n sets cones r text t z h a
no_fan_refutes cut m n sets r text v t (IsNoFanOfSets.no_memory p) a = subst IsOfTest p t

pub to_polyhedral_fan_tested : (o : ToPolyhedralFanOptions) → IsTestedCommand (to_polyhedral_fan_command o)
to_polyhedral_fan_tested o = record {
  tests = λ texts v r d read t h k. of_one_text ring_marked_sets _ texts v read (λ source x. no_fan_once o.restrict (length v.0) (length v.0) v.1 r d
      (list_read source v x) t h k);
  answers = λ texts v r text read t h a. of_one_text ring_marked_sets _ texts v read (λ source x. no_fan_refutes o.restrict (length v.0) (length v.0) v.1 r text
      (list_read source v x) t h a);
  wholes = λ texts v r text read t h a. of_one_text ring_marked_sets _ texts v read (λ source x. no_fan_refutes o.restrict (length v.0) (length v.0) v.1 r text
      (list_read source v x) t h a);
}
