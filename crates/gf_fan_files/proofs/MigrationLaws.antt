-- What a fan file is migrated to.
-- To cite: fan_positive, migrated_whole, not_migrated. The rest are steps.
use Rattle.std.proofs.Common.{◌≡◌, ℕ, ◌<◌, Bool, true, false, List, ℤ, Option, Some, Contains, refl, sym, ap, ◌∙◌, subst}
use Rattle.gf_vec.specs.declared.error.VecError.{VecError}
use Rattle.gf_vec.specs.declared.error.VecError.TheVariants as vec_errors
use Rattle.gf_vec.specs.Steps.{IfWide}
use Rattle.gf_duality_theory.specs.Faces.{Rows, SameCone, IsFaceOf}
use Rattle.gf_duality_theory.proofs.ListLaws.{zip_to, zip_from}
use Rattle.gf_fans_theory.proofs.FanLaws.{same_turned}
use Rattle.gf_rays.specs.Cones.{RowsAndRays, rows_of}
use Rattle.gf_fan.specs.declared.cones.FanCone.{FanCone}
use Rattle.gf_fan.specs.FanLists.{FanLists}
use Rattle.gf_fan.specs.FansOfCones.{IsFanOf, IsFan}
use Rattle.gf_fan.specs.SameCones.{HaveSameCones}
use Rattle.gf_fan.proofs.FanConeLaws.{own_face}
use Rattle.gf_fan.proofs.UnderMaximal.{given_face}
use Rattle.gf_fan_files.specs.declared.error.FanFileError.{FanFileError}
use Rattle.gf_fan_files.specs.declared.file.FanFile.{FanFile}
use Rattle.gf_fan_files.specs.FanText.{Content, is_second, told_version, found, maximal_interiors}
use Rattle.gf_fan_files.specs.Files.{AreInteriorsOf}
use Rattle.gf_fan_files.specs.FanWords.{FanWords, fan_text}
use Rattle.gf_fan_files.specs.FansAgain.{IsWritable}
use Rattle.gf_fan_files.specs.FanTexts.{parts_of_fan, IsWritingStep}
use Rattle.gf_fan_files.specs.FilesFans.{IsConeOfFile, AreConesOfFile, IsFanOfText, IsFanFileRefusal, refusal_of_vectors}
use Rattle.gf_fan_files.specs.Migration.{MigratedFilesAreWhole, IsMigrationRefusal, unwritten, no_memory}
use Rattle.gf_fan_files.proofs.FilesLaws.{file_once}
use Rattle.gf_fan_files.proofs.FanOnceLaws.{rows_same}
use Rattle.gf_fan_files.proofs.AgainLaws.{fans_again}
use Rattle.gf_fan_files.proofs.ReadAgainLaws.{of_text, written_refused, written_read, one_text}

-- ---- fans of one file have the same cones

-- each cone of the second is a part of a cone of the file, and so it is one of the first
one_of : (k : FanFile) (f g : FanLists) (cs ds : List RowsAndRays) → AreConesOfFile k cs → AreConesOfFile k ds → IsFanOf k.ambient cs f →
    IsFanOf k.ambient ds g → (l : FanCone) → Contains g.cones l
    → (m : FanCone) × (Contains f.cones m × SameCone k.ambient (rows_of m.cone) (rows_of l.cone))
one_of k f g cs ds a b s t l i =
    let n = k.ambient in
    let c = t.cones.each l i in
    let x = zip_from (IsConeOfFile k) k.cones ds c.origin b c.listed in
    let y = zip_to (IsConeOfFile k) k.cones cs x.0 a x.1.0 in
    let same : rows_of c.origin ≡ rows_of y.0 = rows_same k x.0 c.origin y.0 x.1.1 y.1.1 in
    let face : IsFaceOf n (rows_of l.cone) (rows_of y.0) = subst (λ (r : Rows). IsFaceOf n (rows_of l.cone) r) same (own_face n ds g.lineality g.rays l c) in
    let m = given_face n cs f y.0 face.0 s y.1.0 face.1.0 in
    (m.0, (m.1.0, λ v w. (λ h. (face.1.1 v w).1 ((m.1.1 v w).1 h), λ h. (m.1.1 v w).0 ((face.1.1 v w).0 h))))

one_file : (source : List ℕ) (f g : FanLists) → IsFanOfText source f → IsFanOfText source g → HaveSameCones f g
one_file source f g s t =
    let k : FanFile = s.file in
    let same : t.file ≡ k = file_once source k t.file s.is_file t.is_file in
    let there : AreConesOfFile k t.of_file.cones = subst (λ (z : FanFile). AreConesOfFile z t.of_file.cones) same t.of_file.of_file in
    let fan : IsFanOf k.ambient t.of_file.cones g = subst (λ (z : FanFile). IsFanOf z.ambient t.of_file.cones g) same t.of_file.is_fan in
    let ambient : f.ambient ≡ k.ambient = s.of_file.is_fan.ambient in
    record {
      ambient = fan.ambient ∙ sym ambient;
      each = λ l i.
          let m = one_of k f g s.of_file.cones t.of_file.cones s.of_file.of_file there s.of_file.is_fan fan l i in
          (m.0, (m.1.0, subst (λ n. SameCone n (rows_of m.0.cone) (rows_of l.cone)) (sym ambient) m.1.1));
      every = λ l i.
          let m = one_of k g f t.of_file.cones s.of_file.cones there s.of_file.of_file fan s.of_file.is_fan l i in (
            m.0,
            (
              m.1.0,
              subst (λ n. SameCone n (rows_of l.cone) (rows_of m.0.cone)) (sym ambient) (same_turned k.ambient (rows_of m.0.cone) (rows_of l.cone)
                  m.1.1),
            ),
          );
    }

-- what has the same cones as something that has the same cones
through : (f g h : FanLists) → HaveSameCones f g → HaveSameCones g h → HaveSameCones f h
through f g h s t = record {
  ambient = t.ambient ∙ s.ambient;
  each = λ l i.
      let m = t.each l i in
      let k = s.each m.0 m.1.0 in
      let here : SameCone f.ambient (rows_of m.0.cone) (rows_of l.cone) = subst (λ n. SameCone n (rows_of m.0.cone) (rows_of l.cone)) s.ambient m.1.1 in
      (k.0, (k.1.0, λ v w. (λ x. (here v w).0 ((k.1.1 v w).0 x), λ x. (k.1.1 v w).1 ((here v w).1 x))));
  every = λ k i.
      let m = s.every k i in
      let l = t.every m.0 m.1.0 in
      let here : SameCone f.ambient (rows_of m.0.cone) (rows_of l.0.cone) = subst (λ n. SameCone n (rows_of m.0.cone) (rows_of l.0.cone)) s.ambient l.1.1 in
      (l.0, (l.1.0, λ v w. (λ x. (here v w).0 ((m.1.1 v w).0 x), λ x. (m.1.1 v w).1 ((here v w).1 x))));
}

-- ---- what is written

-- it has rows for its cones, so its version is 2
second_by : (second : Bool) (o : Option Content) (rows : List (List ℤ)) → AreInteriorsOf second o (Some rows) → second ≡ true
second_by true o rows h = refl
second_by false o rows h = absurd (cc)

second_written : (f : FanWords) → IsWritable f → is_second (told_version (fan_text f)) ≡ true
second_written f w =
    let is = fans_again f w in
    second_by (is_second (told_version (fan_text f))) (found maximal_interiors is.all) f.interiors is.interiors

pub migrated_whole : MigratedFilesAreWhole
migrated_whole source text m =
    let f : FanLists = m.fan in
    let fan : IsFan f = of_text source f m.of_source in
    record {
      migrated = m;
      second = ap (λ (t : List ℕ). is_second (told_version t)) m.is_text ∙ second_written (parts_of_fan f) m.writable;
      cones = λ g h s t. through g f h (one_file source g f s m.of_source)
          (written_read f h fan m.writable (subst (λ (z : List ℕ). IsFanOfText z h) m.is_text t));
      twice = λ again a.
          let g : FanLists = a.fan in
          let read : IsFanOfText (fan_text (parts_of_fan f)) g = subst (λ (z : List ℕ). IsFanOfText z g) m.is_text a.of_source in
          a.is_text ∙ one_text f g fan (of_text text g a.of_source) (written_read f g fan m.writable read) ∙ sym m.is_text;
      read_again = λ e h. written_refused f e fan m.writable (subst (λ (z : List ℕ). IsFanFileRefusal z e) m.is_text h);
    }

-- ---- the answers of the calls

-- the vectors of a fan that a text says have entries
pub fan_positive : (source : List ℕ) (f : FanLists) → IsFanOfText source f → 0 < f.ambient
fan_positive source f t = subst (λ n. 0 < n) (sym t.of_file.is_fan.ambient) t.sound.positive

pub not_migrated : (source : List ℕ) (f : FanLists) (v : VecError) (e : FanFileError) → IsFanOfText source f → IfWide (IsWritingStep f) v →
    e ≡ refusal_of_vectors v → IsMigrationRefusal source e
not_migrated source f (vec_errors.Wide w) e t h q = unwritten f w t h q
not_migrated source f vec_errors.Memory e t h q = no_memory q
