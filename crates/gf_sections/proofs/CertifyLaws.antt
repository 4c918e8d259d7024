-- All certificates together, and why there are none.
use Rattle.std.proofs.Common.{◌≡◌, ℕ, ◌+◌, ◌++◌, Bool, true, false, List, [], length, ℤ, sym, refl, ap, ◌∙◌, subst, Contains, All}
use Rattle.std.specs.List.{AllZip}
use Rattle.std.proofs.lemmas.List.{append-nil}
use Rattle.std.proofs.lemmas.List.Elements.{All-contains}
use Rattle.gf_int_theory.proofs.ListLaws.{all_by}
use Rattle.gf_gordan.specs.declared.error.ConeOverflow.{ConeOverflow}
use Rattle.gf_gordan.specs.declared.error.GordanError.{GordanError}
use Rattle.gf_gordan.specs.declared.error.GordanError.TheVariants.{Cone, Memory}
use Rattle.gf_gordan.specs.Alternative.{AreRows}
use Rattle.gf_gordan.specs.Equations.{IsStepOn}
use Rattle.gf_gordan.specs.Steps.{Failed}
use Rattle.gf_duality_theory.specs.Generators.{unit_vectors}
use Rattle.gf_duality_theory.specs.Rays.{IsRays, IsImplied, IsZeroOn}
use Rattle.gf_duality_theory.specs.Faces.{IsFacetRow, AreFacetRows, cone_of}
use Rattle.gf_rays.specs.Reached.{IsRaysStep}
use Rattle.gf_sections.specs.ConeRows.{AreAscending}
use Rattle.gf_sections.specs.Flagged.{AreFlagsOf, flagged}
use Rattle.gf_sections.specs.Errors.{of_system}
use Rattle.gf_sections.specs.ConeCertificates.{AreRowsTold, AreRowsWith, IsRedundant, AreVanishing, IsCombinationOf, IsZeroCombination, value_columns}
use Rattle.gf_sections.specs.ConeText.{AreCertificates, IsCertificateCause, IsCombiningStep, combining, vanishing, IsSectionsCause, finding, certifying}
use Rattle.gf_sections.specs.ConeText.{AreSections, certificate_sections}
use Rattle.gf_sections.specs.SectionText.{cone_sections}
use Rattle.gf_sections.specs.declared.certificates.ConeCertificates.{ConeCertificates}
use Rattle.gf_sections.specs.declared.error.SectionsError.{SectionsError}
use Rattle.gf_sections.proofs.FlaggedLaws.{flagged_with}

pub facets_listed : (n : ℕ) (rows facets : List (List ℤ)) → AreFacetRows n (cone_of rows) facets → All (Contains rows) facets
facets_listed n rows facets fs = all_by (Contains rows) facets (λ q c. (All-contains (IsFacetRow n (cone_of rows)) facets q fs.each c).listed)

-- what the rows of a cone are known to have
pub record IsKnownCone (n : ℕ) (rows lin rays facets implied : List (List ℤ)) : Type 0 where
  pub width : AreRows n rows
  pub are_rays : IsRays n rows [] lin rays
  pub are_facets : AreFacetRows n (cone_of rows) facets
  pub are_implied : IsImplied n rows [] implied
  pub ascending : AreAscending rows

pub told_of : (n : ℕ) (rows lin rays facets implied : List (List ℤ)) → IsKnownCone n rows lin rays facets implied → AreRowsTold n rows facets implied
told_of n rows lin rays facets implied k = record {
  rows_width = k.width;
  lineality = lin;
  rays = rays;
  are_rays = k.are_rays;
  are_facets = k.are_facets;
  are_implied = k.are_implied;
}

-- ---- flags as the functions give them, by what their arguments are

pub zero_told : (n : ℕ) (rows es : List (List ℤ)) (flags : List Bool) → es ≡ [] → AreFlagsOf (IsZeroOn n rows es) rows flags →
    AreFlagsOf (IsZeroOn n rows []) rows flags
zero_told n rows es flags e f = subst (λ (l : List (List ℤ)). AreFlagsOf (IsZeroOn n rows l) rows flags) e f

pub others_told : (n : ℕ) (rows read facets : List (List ℤ)) (zero flags others : List Bool) → read ≡ rows → flags ≡ zero →
    AreFlagsOf (IsZeroOn n rows []) rows zero → ((k : ℕ) → AreFlagsOf (IsZeroOn k read []) read flags → AreFlagsOf (IsRedundant k read facets) read others) →
    AreFlagsOf (IsRedundant n rows facets) rows others
others_told n rows read facets zero flags others er ef z f =
    subst (λ (r : List (List ℤ)). AreFlagsOf (IsRedundant n r facets) r others) er
    (f n (subst (λ (l : List Bool). AreFlagsOf (IsZeroOn n read []) read l) (sym ef) (subst (λ (r : List (List ℤ)). AreFlagsOf (IsZeroOn n r []) r zero)
    (sym er) z)))

pub flagged_rows : (P : List ℤ → Type 0) (rows read out : List (List ℤ)) (all flags : List Bool) → read ≡ rows → flags ≡ all → AreAscending rows →
    AreFlagsOf P rows all → out ≡ flagged flags read → AreRowsWith P rows out
flagged_rows P rows read out all flags er ef a f e = subst (AreRowsWith P rows) (sym (e ∙ ap (flagged flags) er ∙ ap (λ (l : List Bool). flagged l rows) ef))
    (flagged_with P all rows f a)

pub vanishing_with : (n : ℕ) (rows lin rays facets implied zero_rows : List (List ℤ)) → IsKnownCone n rows lin rays facets implied →
    AreRowsWith (IsZeroOn n rows []) rows zero_rows → AreVanishing n rows zero_rows
vanishing_with n rows lin rays facets implied zero_rows k z = record { rows_width = k.width; lineality = lin; rays = rays; are_rays = k.are_rays; are_zero = z }

pub vanishing_read : (n m : ℕ) (rows read zero_rows given : List (List ℤ)) → m ≡ n → read ≡ rows → given ≡ zero_rows → AreVanishing n rows zero_rows →
    AreVanishing m read given
vanishing_read n m rows read zero_rows given em er eg v = subst (λ (k : ℕ). AreVanishing k read given) (sym em)
    (subst (λ (l : List (List ℤ)). AreVanishing n l given) (sym er) (subst (AreVanishing n rows) (sym eg) v))

pub told_read : (n m : ℕ) (rows facets implied read : List (List ℤ)) → m ≡ n → read ≡ implied → AreRowsTold n rows facets implied →
    AreRowsTold m rows facets read
told_read n m rows facets implied read em er t = subst (λ (k : ℕ). AreRowsTold k rows facets read) (sym em) (subst (AreRowsTold n rows facets) (sym er) t)

pub combinations_read : (n m : ℕ) (facets implied read redundant given out : List (List ℤ)) → m ≡ n → read ≡ implied → given ≡ redundant →
    AllZip (IsCombinationOf m facets read) given out → AllZip (IsCombinationOf n facets implied) redundant out
combinations_read n m facets implied read redundant given out em er eg a = subst (λ (k : ℕ). AllZip (IsCombinationOf k facets implied) redundant out) em
    (subst (λ (l : List (List ℤ)). AllZip (IsCombinationOf m facets l) redundant out) er
    (subst (λ (l : List (List ℤ)). AllZip (IsCombinationOf m facets read) l out) eg a))

pub zeros_read : (n m : ℕ) (rows read zero_rows given out : List (List ℤ)) → m ≡ n → read ≡ rows → given ≡ zero_rows →
    AllZip (IsZeroCombination m read) given out → AllZip (IsZeroCombination n rows) zero_rows out
zeros_read n m rows read zero_rows given out em er eg a = subst (λ (k : ℕ). AllZip (IsZeroCombination k rows) zero_rows out) em
    (subst (λ (l : List (List ℤ)). AllZip (IsZeroCombination m l) zero_rows out) er (subst (λ (l : List (List ℤ)). AllZip (IsZeroCombination m read) l out)
    eg a))

pub redundant_read : (n m : ℕ) (rows facets redundant given : List (List ℤ)) → m ≡ n → given ≡ redundant →
    AreRowsWith (IsRedundant n rows facets) rows redundant → All (λ t. Contains rows t × (IsZeroOn m rows [] t → ⊥)) given
redundant_read n m rows facets redundant given em eg r = subst (λ (k : ℕ). All (λ t. Contains rows t × (IsZeroOn k rows [] t → ⊥)) given) (sym em)
    (subst (λ (l : List (List ℤ)). All (λ t. Contains rows t × (IsZeroOn n rows [] t → ⊥)) l) (sym eg) (redundant_rows n rows facets redundant r))
  where
    redundant_rows : (n : ℕ) (rows facets redundant : List (List ℤ)) → AreRowsWith (IsRedundant n rows facets) rows redundant →
        All (λ t. Contains rows t × (IsZeroOn n rows [] t → ⊥)) redundant
    redundant_rows n rows facets redundant r = all_by (λ t. Contains rows t × (IsZeroOn n rows [] t → ⊥)) redundant
        (λ t c. ((r.each t c).0, (r.each t c).1.nonzero))

-- ---- why there are none

pub combining_cause : (n m : ℕ) (rows rays facets implied read redundant given : List (List ℤ)) (e : GordanError) → m ≡ n → read ≡ implied → given ≡ redundant →
    AreRowsWith (IsRedundant n rows facets) rows redundant → Failed (IsCombiningStep m facets read given) e → IsCertificateCause n rows rays facets implied
    (of_system e)
combining_cause n m rows rays facets implied read redundant given (Cone s) em er eg r f =
    let g : IsCombiningStep n facets implied redundant s = subst (λ (k : ℕ). IsCombiningStep k facets implied redundant s) em
    (subst (λ (l : List (List ℤ)). IsCombiningStep m facets l redundant s) er (subst (λ (l : List (List ℤ)). IsCombiningStep m facets read l s) eg f)) in
    let q = r.each g.0 g.1 in
    combining g.0 q.0 q.1 g.2
combining_cause n m rows rays facets implied read redundant given Memory em er eg r f = tt

abbrev pub IsVanishingStep : ℕ → List (List ℤ) → ConeOverflow → Type 0
IsVanishingStep n zero_rows s = IsStepOn (length (unit_vectors (length zero_rows)) + length (value_columns n zero_rows)) (length zero_rows)
    (unit_vectors (length zero_rows)) (value_columns n zero_rows) s

pub vanishing_cause : (n m : ℕ) (rows rays facets implied zero_rows given : List (List ℤ)) (e : GordanError) → m ≡ n → given ≡ zero_rows →
    AreRowsWith (IsZeroOn n rows []) rows zero_rows → Failed (IsVanishingStep m given) e → IsCertificateCause n rows rays facets implied (of_system e)
vanishing_cause n m rows rays facets implied zero_rows given (Cone s) em eg r f =
    vanishing zero_rows r (subst (λ (k : ℕ). IsVanishingStep k zero_rows s) em (subst (λ (l : List (List ℤ)). IsVanishingStep m l s) eg f))
vanishing_cause n m rows rays facets implied zero_rows given Memory em eg r f = tt

pub rays_cause : (n : ℕ) (certified : Bool) (rows : List (List ℤ)) (e : GordanError) → Failed (IsRaysStep n rows []) e →
    IsSectionsCause n certified rows (of_system e)
rays_cause n certified rows (Cone s) f = finding s f refl
rays_cause n certified rows Memory f = IsSectionsCause.no_memory refl

-- ---- the whole

pub facets_read : (n m : ℕ) (rows read es facets : List (List ℤ)) → m ≡ n → read ≡ rows → es ≡ [] →
    AreFacetRows m (record { inequalities = read; equations = es }) facets → AreFacetRows n (cone_of rows) facets
facets_read n m rows read es facets em er ee f =
    subst (λ (k : ℕ). AreFacetRows k (cone_of rows) facets) em (subst (λ (l : List (List ℤ)). AreFacetRows m (cone_of l) facets) er
    (subst (λ (l : List (List ℤ)). AreFacetRows m (record { inequalities = read; equations = l }) facets) ee f))

pub certificates_read : (n m : ℕ) (rows read rays facets given implied : List (List ℤ)) (c : ConeCertificates) → m ≡ n → read ≡ rows → given ≡ facets →
    AreCertificates m read rays given implied c → AreCertificates n rows rays facets implied c
certificates_read n m rows read rays facets given implied c em er eg a =
    subst (λ (k : ℕ). AreCertificates k rows rays facets implied c) em (subst (λ (l : List (List ℤ)). AreCertificates m l rays facets implied c) er
    (subst (λ (l : List (List ℤ)). AreCertificates m read rays l implied c) eg a))

pub certified_cause : (n m : ℕ) (certified : Bool) (rows lin rays facets implied read given : List (List ℤ)) (e : SectionsError) → m ≡ n → read ≡ rows →
    given ≡ facets → IsKnownCone n rows lin rays facets implied → certified ≡ true → IsCertificateCause m read rays given implied e →
    IsSectionsCause n certified rows e
certified_cause n m certified rows lin rays facets implied read given e em er eg k t f =
    certifying facets implied (record {
      rows_width = k.width;
      lineality = lin;
      rays = rays;
      are_rays = k.are_rays;
      are_facets = k.are_facets;
      are_implied = k.are_implied;
    }) t
    (subst (λ (j : ℕ). IsCertificateCause j rows rays facets implied e) em (subst (λ (l : List (List ℤ)). IsCertificateCause m l rays facets implied e) er
    (subst (λ (l : List (List ℤ)). IsCertificateCause m read rays l implied e) eg f)))

pub plain_sections : (n : ℕ) (certified : Bool) (rows lin rays facets implied : List (List ℤ)) (dim : ℕ) (text : List ℕ) →
    IsKnownCone n rows lin rays facets implied → dim + length implied ≡ n → certified ≡ false → text ≡ cone_sections n dim implied facets →
    AreSections n certified rows text
plain_sections n certified rows lin rays facets implied dim text k d t e = subst (λ (b : Bool). AreSections n b rows text) (sym t) (record {
  facets = facets;
  implied = implied;
  told = record { rows_width = k.width; lineality = lin; rays = rays; are_rays = k.are_rays; are_facets = k.are_facets; are_implied = k.are_implied };
  dim = dim;
  dimension = d;
  more = [];
  certificates = refl;
  is_text = e ∙ sym (append-nil (cone_sections n dim implied facets));
})

pub certified_sections : (n : ℕ) (certified : Bool) (rows lin rays facets implied : List (List ℤ)) (dim : ℕ) (text : List ℕ) (c : ConeCertificates) →
    IsKnownCone n rows lin rays facets implied → dim + length implied ≡ n → certified ≡ true → AreCertificates n rows rays facets implied c →
    text ≡ cone_sections n dim implied facets ++ certificate_sections c → AreSections n certified rows text
certified_sections n certified rows lin rays facets implied dim text c k d t a e = subst (λ (b : Bool). AreSections n b rows text) (sym t) (record {
  facets = facets;
  implied = implied;
  told = record { rows_width = k.width; lineality = lin; rays = rays; are_rays = k.are_rays; are_facets = k.are_facets; are_implied = k.are_implied };
  dim = dim;
  dimension = d;
  more = certificate_sections c;
  certificates = (c, a, refl);
  is_text = e;
})
