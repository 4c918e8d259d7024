-- What is written of a fan is read as that fan.
-- To cite: written_refused, written_read, one_text, written_fans_are_read, of_text, again_read, again_text, again_refused, never_written. The rest are steps.
use Rattle.std.proofs.Common.{◌≡◌, ℕ, zero, suc, ◌<◌, ℤ, length, List, [], ◌∷◌, ◌++◌, map, flat_map, get_or, slice_get, Option, None, Some, Result, Ok, Err}
use Rattle.std.proofs.Common.{IfOk, IfErr, Contains, refl, sym, ap, ap₂, ◌∙◌, subst, inl, inr, arith}
use Rattle.std.specs.Prelude.{option_map, option_to_list}
use Rattle.std.specs.List.{AllZip}
use Rattle.std.proofs.lemmas.List.{length-map}
use Rattle.std.proofs.lemmas.Slice.Zip.{AllZip-long}
use Rattle.gf_vec.specs.declared.error.VecError.{VecError}
use Rattle.gf_vec.specs.declared.error.VecError.TheVariants as vec_errors
use Rattle.gf_vec.specs.Steps.{IfWide}
use Rattle.std.proofs.lemmas.List.Elements.{Contains-get_or}
use Rattle.std.proofs.lemmas.Option.{slice_get_within, get_or_from_slice_get, slice_get-map}
use Rattle.gf_int_theory.proofs.ListLaws.{Contains-here}
use Rattle.gf_duality_theory.specs.Faces.{SameCone, IsFaceOf, IsInterior, sum_of}
use Rattle.gf_duality_theory.proofs.ListLaws.{zip_to, zip_from, in_tail}
use Rattle.gf_fans_theory.specs.FaceLists.{numbered}
use Rattle.gf_fans_theory.specs.Laws.{HasRays}
use Rattle.gf_fans_theory.proofs.FanLaws.{same_turned}
use Rattle.gf_fans_theory.proofs.SameCones.{face_of_same, meet_of_same}
use Rattle.gf_fans_theory.proofs.PartNumbers.{of_map}
use Rattle.gf_rays.specs.Cones.{RowsAndRays, rows_of}
use Rattle.gf_fan.specs.declared.cones.FanCone.{FanCone}
use Rattle.gf_fan.specs.declared.error.FanError.{FanError}
use Rattle.gf_fan.specs.declared.error.FanError.TheVariants as fan_errors
use Rattle.gf_fan.specs.FanLists.{FanLists, rank_of}
use Rattle.gf_fan.specs.FansOfCones.{IsFanOf, IsFan}
use Rattle.gf_fan.specs.MaximalCones.{no_cone, maximal_of}
use Rattle.gf_fan.specs.Pairs.{AreMeeting}
use Rattle.gf_fan.specs.Refusals.{IsFanRefusal}
use Rattle.gf_fan.specs.SameCones.{HaveSameCones, HaveSameLists}
use Rattle.gf_fan.proofs.FanConeLaws.{own_rays, own_face, cones_meet}
use Rattle.gf_fan.proofs.UnderMaximal.{maximal_some, under_maximal, inside_face, given_face, own_faces}
use Rattle.gf_fan.proofs.SameFans.{fans_are_their_cones}
use Rattle.gf_fan_files.specs.declared.error.FanFileError.{FanFileError}
use Rattle.gf_fan_files.specs.declared.file.FanFile.{FanFile}
use Rattle.gf_fan_files.specs.declared.parts.ListedCone.{ListedCone}
use Rattle.gf_fan_files.specs.Files.{IsFileOf, IsSoundFile}
use Rattle.gf_fan_files.specs.FanWords.{fan_text}
use Rattle.gf_fan_files.specs.FansAgain.{IsWritable, file_of}
use Rattle.gf_fan_files.specs.FanTexts.{listed_cone, listed_cones, one_listed, listed_at, interiors_of, parts_of_fan, IsWritingStep}
use Rattle.gf_fan_files.specs.Certificates.{AreCertified, AreInsideCones, IsCertificateFault, other_count, at_row, too_wide}
use Rattle.gf_fan_files.specs.FilesFans.{IsConeOfFile, AreConesOfFile, IsFanOfFile, IsFanOfText, IsCertifiedFile, AreFileConesMeeting, testing, finding}
use Rattle.gf_fan_files.specs.FilesFans.{making, IsFileLimit, refusal_of_vectors, refusal_of_fan, IsFanFault, in_cone, in_certificate, in_fan}
use Rattle.gf_fan_files.specs.FilesFans.{IsFanFileRefusal, before_cones, behind_form}
use Rattle.gf_fan_files.specs.WrittenFans.{IsConeAt, IsAgainLimit, WrittenFansAreRead}
use Rattle.gf_fan_files.proofs.AgainLaws.{fans_again}
use Rattle.gf_fan_files.proofs.FanPartsLaws.{parts_same}
use Rattle.gf_fan_files.proofs.FilesLaws.{file_once, sound_refused}
use Rattle.gf_fan_files.proofs.WrittenFansLaws.{of_places, sum_inside_read, written_fans_are_sound, written_cones_are_read}

-- ---- the cones of the file are the maximal cones of the fan

module _ (f : FanLists) (given cones : List RowsAndRays) (s : IsFanOf f.ambient given f) (a : AreConesOfFile (file_of (parts_of_fan f)) cones) where
  at_places : AllZip (IsConeAt f.ambient f.cones) f.maximal cones
  at_places = written_cones_are_read f.ambient given cones f s a

  file_rays : (c : RowsAndRays) → Contains cones c → HasRays f.ambient (rows_of c)
  file_rays c k = let x = zip_from (IsConeOfFile (file_of (parts_of_fan f))) (file_of (parts_of_fan f)).cones cones c a k in
      (c.lineality, c.rays, x.1.1.are_rays)

  -- each is a cone of the fan
  of_fan : (c : RowsAndRays) → Contains cones c → (k : FanCone) × (Contains f.cones k × SameCone f.ambient (rows_of c) (rows_of k.cone))
  of_fan c i =
      let x = zip_from (IsConeAt f.ambient f.cones) f.maximal cones c at_places i in
      let k : FanCone = x.1.1.cone in
      (k, ((x.0, slice_get_within f.cones x.0 k x.1.1.at, get_or_from_slice_get f.cones x.0 k k x.1.1.at), x.1.1.same))

  -- each maximal cone of the fan is there
  to_file : (k : FanCone) → Contains (maximal_of f) k → (c : RowsAndRays) × (Contains cones c × SameCone f.ambient (rows_of c) (rows_of k.cone))
  to_file k i =
      let p = of_map (λ i. get_or f.cones i no_cone) f.maximal k i in
      let x = zip_to (IsConeAt f.ambient f.cones) f.maximal cones p.0 at_places p.1.0 in
      let e : x.1.1.cone ≡ k = sym (get_or_from_slice_get f.cones p.0 x.1.1.cone no_cone x.1.1.at) ∙ p.1.1 in
      (x.0, (x.1.0, subst (λ (z : FanCone). SameCone f.ambient (rows_of x.0) (rows_of z.cone)) e x.1.1.same))

  file_meets : AreMeeting f.ambient cones
  file_meets i j d h l =
      let n = f.ambient in
      let c : RowsAndRays = get_or cones i d in let e : RowsAndRays = get_or cones j d in
      let kc : Contains cones c = Contains-get_or cones i d (omega (arith, h, l)) in let ke : Contains cones e = Contains-get_or cones j d l in
      let x = of_fan c kc in let y = of_fan e ke in
      meet_of_same n (rows_of x.0.cone) (rows_of y.0.cone) (rows_of c) (rows_of e) (file_rays c kc) (file_rays e ke)
      (same_turned n (rows_of c) (rows_of x.0.cone) x.1.1) (same_turned n (rows_of e) (rows_of y.0.cone) y.1.1)
      (cones_meet n given f x.0 y.0 s x.1.0 y.1.0)

  -- so the fan of these cones has the same cones
  file_cones : (h : FanLists) → IsFanOf f.ambient cones h → HaveSameCones f h
  file_cones h t = record {
    ambient = t.ambient;
    each = λ l cl.
        let n = f.ambient in
        let b = t.cones.each l cl in
        let x = of_fan b.origin b.listed in
        let k : FanCone = x.0 in
        let rays : HasRays n (rows_of k.cone) = (f.lineality, numbered f.rays k.numbers, own_rays n given f.lineality f.rays k (s.cones.each k x.1.0)) in
        let face : IsFaceOf n (rows_of l.cone) (rows_of k.cone) =
        face_of_same n (rows_of l.cone) (rows_of b.origin) (rows_of k.cone) rays x.1.1 (own_face n cones h.lineality h.rays l b) in
        let g = own_faces n given f k (rows_of l.cone) s x.1.0 face in
        (g.0, (g.1.0, same_turned n (rows_of l.cone) (rows_of g.0.cone) g.1.1));
    every = λ k ck.
        let n = f.ambient in
        let u = under_maximal n given f k s ck in
        let c = to_file u.over u.listed in
        let inside : IsFaceOf n (rows_of k.cone) (rows_of u.over.cone) =
        inside_face n given f k u.over s ck (maximal_some n given f s u.over u.listed) u.within in
        let face : IsFaceOf n (rows_of k.cone) (rows_of c.0) = face_of_same n (rows_of k.cone) (rows_of u.over.cone) (rows_of c.0) (file_rays c.0 c.1.0)
        (same_turned n (rows_of c.0) (rows_of u.over.cone) c.1.1) inside in
        let g = given_face n cones h c.0 face.0 t c.1.0 face.1.0 in
        (g.0, (g.1.0, λ v l. (λ i. (g.1.1 v l).0 ((face.1.1 v l).0 i), λ i. (face.1.1 v l).1 ((g.1.1 v l).1 i))));
  }

written_meet : (f : FanLists) → IsFan f → AreFileConesMeeting (file_of (parts_of_fan f))
written_meet f s cones a = file_meets f s.0 cones s.1 a

-- ---- the rows that were written lie inside the cones

module _ (n : ℕ) (value : ListedCone → List ℤ) (R : List ℕ → RowsAndRays → Type 0) where
  -- what is read at a place, and what was written there
  inside_zip : (listed : List ListedCone) (cones : List RowsAndRays) → ((k : ListedCone) (c : RowsAndRays) → Contains listed k → R k.rays c →
      IsInterior n (rows_of c) (value k)) → AllZip R (map (λ (k : ListedCone). k.rays) listed) cones
      → (place : ℕ) → place < length (map value listed) → (c : RowsAndRays) (r : List ℤ) → IsInterior n (rows_of (get_or cones place c))
      (get_or (map value listed) place r)
  inside_zip [] cones h a place l c r = absurd (omega (arith, l))
  inside_zip (k ∷ listed) [] h a place l c r = absurd a
  inside_zip (k ∷ listed) (x ∷ cones) h a zero l c r = h k x (Contains-here k listed) a.0
  inside_zip (k ∷ listed) (x ∷ cones) h a (suc place) l c r =
      inside_zip listed cones (λ m d i t. h m d (in_tail k listed m i) t) a.1 place (omega (arith, l)) c r

written_certified : (f : FanLists) → IsFan f → IsCertifiedFile (file_of (parts_of_fan f))
written_certified f s cones a =
    let n = f.ambient in
    let listed = listed_at f.cones f.maximal in
    let value : ListedCone → List ℤ = λ k. sum_of n (numbered f.rays k.rays) in
    let file = file_of (parts_of_fan f) in
    record {
      count = length-map listed value ∙ sym (length-map listed (λ (k : ListedCone). k.rays)) ∙ sym (AllZip-long (IsConeOfFile file) file.cones cones a);
      each = inside_zip n value (IsConeOfFile file) listed cones (λ k c i g.
          let m = of_places f.cones f.maximal k i in
          let same : m.0.numbers ≡ k.rays = ap (λ (x : ListedCone). x.rays) m.1.1 in
          let here : IsConeOfFile file m.0.numbers c = subst (λ (ns : List ℕ). IsConeOfFile file ns c) (sym same) g in
          subst (λ (ns : List ℕ). IsInterior n (rows_of c) (sum_of n (numbered f.rays ns))) same (sum_inside_read n s.0 f m.0 c s.1 m.1.0 here)) a;
    }

-- ---- a sound file whose rows lie inside its cones, which meet in faces, is refused for limits alone

certificate_limit : (f : FanFile) (e : FanFileError) (cones : List RowsAndRays) (rows : List (List ℤ)) → IsCertifiedFile f → AreConesOfFile f cones →
    f.interiors ≡ Some rows → IsCertificateFault f.ambient cones rows e → IsFileLimit f e
certificate_limit f e cones rows k a is h = by h
  where
    inside : AreInsideCones f.ambient cones rows
    inside = subst (λ (i : Option (List (List ℤ))). AreCertified f.ambient cones i) is (k cones a)

    by : IsCertificateFault f.ambient cones rows e → IsFileLimit f e
    by (other_count other q) = absurd (other inside.count)
    by (at_row place g q) = absurd (g.here (inside.each place g.within))
    by (too_wide w g q) = inr (inr (w, (record { cones = cones; rows = rows; of_file = a; has = is; step = g }, q)))

fault_limit : (f : FanFile) (e : FanFileError) → IsCertifiedFile f → AreFileConesMeeting f → IsFanFault f e → IsFileLimit f e
fault_limit f e k m (in_cone s h q) = inr (inl (s, (finding h, q)))
fault_limit f e k m (in_certificate cones rows a is h) = certificate_limit f e cones rows k a is h
fault_limit f e k m (in_fan cones d a c h q) = by d h q
  where
    by : (d : FanError) → IsFanRefusal f.ambient cones d → e ≡ refusal_of_fan d → IsFileLimit f e
    by (fan_errors.Cone s) h q = inr (inl (s, (making cones a h, q)))
    by (fan_errors.NotAFan i j) h q = absurd (h.after.clash (λ d. m cones a i j d h.after.ordered h.after.inside))
    by fan_errors.Memory h q = inl q

pub limits_alone : (source : List ℕ) (f : FanFile) (e : FanFileError) → IsFileOf source f → IsSoundFile f → IsCertifiedFile f → AreFileConesMeeting f →
    IsFanFileRefusal source e → IsFileLimit f e
limits_alone source f e is s k m (before_cones r) = elim (sound_refused source f e is s r) [ inl q ↦ inl q | inr t ↦ inr (inl (t.0, (testing t.1.0, t.1.1))) ]
limits_alone source f e is s k m (behind_form g so p r) = fault_limit f e k m (subst (λ q. IsFanFault q e) (file_once source f g is so) r)

pub written_refused : (f : FanLists) (e : FanFileError) → IsFan f → IsWritable (parts_of_fan f) → IsFanFileRefusal (fan_text (parts_of_fan f)) e →
    IsFileLimit (file_of (parts_of_fan f)) e
written_refused f e s w r =
    limits_alone (fan_text (parts_of_fan f)) (file_of (parts_of_fan f)) e (fans_again (parts_of_fan f) w)
    (written_fans_are_sound f.ambient s.0 f w.positive s.1) (written_certified f s) (written_meet f s) r

-- ---- what is read

pub written_read : (f h : FanLists) → IsFan f → IsWritable (parts_of_fan f) → IsFanOfText (fan_text (parts_of_fan f)) h → HaveSameCones f h
written_read f h s w t =
    let x : IsFanOfFile (file_of (parts_of_fan f)) h = subst (λ z. IsFanOfFile z h) (file_once (fan_text (parts_of_fan f)) (file_of (parts_of_fan f)) t.file
    (fans_again (parts_of_fan f) w) t.is_file) t.of_file in
    file_cones f s.0 x.cones s.1 x.of_file h x.is_fan

-- ---- one text

-- a cone by where it stands
of_rank : List ℕ → ListedCone
of_rank [] = record { dim = 0; rays = [] }
of_rank (d ∷ numbers) = record { dim = d; rays = numbers }

listed_by_ranks : (cones : List FanCone) → listed_cones cones ≡ map of_rank (map rank_of cones)
unfolding of_rank
listed_by_ranks [] = refl
listed_by_ranks (k ∷ cones) = ap (λ l. listed_cone k ∷ l) (listed_by_ranks cones)

one_by : (o : Option FanCone) → one_listed o ≡ option_to_list (option_map listed_cone o)
one_by None = refl
one_by (Some k) = refl

-- those at some places of a list
abbrev at_places_of : List ListedCone → List ℕ → List ListedCone
at_places_of cones places = flat_map (λ i. option_to_list (slice_get cones i)) places

listed_by_places : (cones : List FanCone) (places : List ℕ) → listed_at cones places ≡ at_places_of (listed_cones cones) places
listed_by_places cones [] = refl
listed_by_places cones (i ∷ places) = ap₂ (λ (x y : List ListedCone). x ++ y) (one_by (slice_get cones i) ∙ ap (λ (o : Option ListedCone). option_to_list o)
    (sym (slice_get-map listed_cone cones i))) (listed_by_places cones places)

same_parts : (f h : FanLists) → HaveSameLists f h → parts_of_fan h ≡ parts_of_fan f
same_parts f h l =
    let cones : listed_cones h.cones ≡ listed_cones f.cones = listed_by_ranks h.cones ∙ ap (map of_rank) l.cones ∙ sym (listed_by_ranks f.cones) in
    let maximal : listed_at h.cones h.maximal ≡ listed_at f.cones f.maximal =
    listed_by_places h.cones h.maximal ∙ ap₂ at_places_of cones l.maximal ∙ sym (listed_by_places f.cones f.maximal) in
    let interiors : interiors_of h.ambient h.rays (listed_at h.cones h.maximal) ≡ interiors_of f.ambient f.rays (listed_at f.cones f.maximal) =
    λ i. interiors_of (l.ambient i) (l.rays i) (maximal i) in
    parts_same f h.ambient h.rays h.lineality h.orthogonal (listed_cones h.cones) (listed_at h.cones h.maximal)
    (interiors_of h.ambient h.rays (listed_at h.cones h.maximal)) l.ambient l.rays l.lineality l.orthogonal cones maximal interiors

pub one_text : (f h : FanLists) → IsFan f → IsFan h → HaveSameCones f h → fan_text (parts_of_fan h) ≡ fan_text (parts_of_fan f)
one_text f h s t w = ap fan_text (same_parts f h (fans_are_their_cones f h s t w))

pub written_fans_are_read : WrittenFansAreRead
written_fans_are_read = record { meeting = written_meet; certified = written_certified; refused = written_refused; cones = written_read; text = one_text }

-- ---- reading what was written

pub of_text : (source : List ℕ) (h : FanLists) → IsFanOfText source h → IsFan h
of_text source h t = (t.of_file.cones, subst (λ z. IsFanOf z t.of_file.cones h) (sym t.of_file.is_fan.ambient) t.of_file.is_fan)

pub again_read : (f : FanLists) (source : List ℕ) (r : Result FanLists FanFileError) → WrittenFansAreRead → IsFan f → IsWritable (parts_of_fan f) →
    source ≡ fan_text (parts_of_fan f) → IfOk r (IsFanOfText source) → IfOk r (HaveSameCones f)
again_read f source (Ok h) law s w e t = law.cones f h s w (subst (λ z. IsFanOfText z h) e t)
again_read f source (Err x) law s w e t = tt

pub again_text : (f : FanLists) (source : List ℕ) (r : Result FanLists FanFileError) → WrittenFansAreRead → IsFan f → IfOk r (IsFanOfText source) →
    IfOk r (HaveSameCones f) → IfOk r (λ h. fan_text (parts_of_fan h) ≡ fan_text (parts_of_fan f))
again_text f source (Ok h) law s t k = law.text f h s (of_text source h t) k
again_text f source (Err x) law s t k = tt

pub again_refused : (f : FanLists) (source : List ℕ) (r : Result FanLists FanFileError) → WrittenFansAreRead → IsFan f → IsWritable (parts_of_fan f) →
    source ≡ fan_text (parts_of_fan f) → IfErr r (IsFanFileRefusal source) → IfErr r (IsAgainLimit f)
again_refused f source (Ok h) law s w e t = tt
again_refused f source (Err x) law s w e t = inl (law.refused f x s w (subst (λ z. IsFanFileRefusal z x) e t))

-- it isn't written, since a sum of rays leaves the range
pub never_written : (f : FanLists) (v : VecError) (e : FanFileError) → IfWide (IsWritingStep f) v → e ≡ refusal_of_vectors v → IsAgainLimit f e
never_written f (vec_errors.Wide w) e h q = inr (w, (h, q))
never_written f vec_errors.Memory e h q = inl (inl q)
