-- Where nothing leaves its limits, only memory may be wanting. To cite: wanted, only_memory.
use Rattle.std.specs.Prelude.{Err, pos}
use Rattle.std.proofs.Common.{◌≡◌, ℕ, List, [], ◌∷◌, ℤ, arith, sym, subst, inl, inr}
use Rattle.gf_poly.specs.Polynomial.{Terms}
use Rattle.gf_poly.specs.Marking.{MarkedPolynomial}
use Rattle.gf_vec.specs.declared.error.WideVector.{WideVector}
use Rattle.gf_vec.specs.Steps.{NoneWide, IsFirstWide, FitsRange, IsWide}
use Rattle.gf_order.specs.Weights.{AreBounded}
use Rattle.gf_saturate.specs.Saturating.{AreStepsWithinLimits}
use Rattle.gf_saturate.proofs.StageLaws.{if_memory}
use Rattle.gf_duality_theory.specs.Faces.{Rows}
use Rattle.gf_rays.specs.Cones.{RowsAndRays}
use Rattle.gf_rays.specs.declared.faces.Face.{Face}
use Rattle.gf_initial_monomials.specs.declared.error.InitialError.{InitialError}
use Rattle.gf_initial_monomials.specs.declared.error.InitialError.TheVariants.{Cone, Wide, Entry, Saturation, Memory}
use Rattle.gf_initial_monomials.specs.Outcomes.{AreKeptFormsAt, PassesAt, vector_of}
use Rattle.gf_initial_monomials.specs.Refusals.{IsVectorRefusal, IsRefusedAtFace, IsFaceRefusal, IsConeRefusal}
use Rattle.gf_initial_monomials.specs.Limits.{IsMemoryWanted, IsFaceWithinLimits, AreFacesWithinLimits}
use Rattle.gf_initial_monomials.proofs.OutcomeLaws.{reached_in}

fits_not_wide : (s e : WideVector) → s ≡ e → FitsRange s → IsWide e → ⊥
fits_not_wide s e q f w =
    let g : FitsRange e = subst FitsRange q f in
    omega (arith, g.within, w)

none_first : (e : WideVector) (steps : List WideVector) → NoneWide steps → IsFirstWide e steps → ⊥
none_first e [] n h = h
none_first e (s ∷ steps) n (inl h) = fits_not_wide s e h.0 n.0 h.1
none_first e (s ∷ steps) n (inr h) = none_first e steps n.1 h.1

vector_memory : (n : ℕ) (bs : List MarkedPolynomial) (v : List ℤ) (pairs : ℕ) (e : InitialError) → AreBounded v →
    ((forms : List Terms) → AreKeptFormsAt n v bs forms → AreStepsWithinLimits n forms pairs) → IsVectorRefusal n bs v pairs e → IsMemoryWanted e
vector_memory n bs v pairs (Cone s) b w h = absurd h
vector_memory n bs v pairs (Wide s) b w h = absurd h
vector_memory n bs v pairs (Entry i x) b w h = let past = h.0.past in let small = b i (pos 0) h.0.inside in absurd (omega (arith, past, small))
vector_memory n bs v pairs (Saturation r) b w h = if_memory {A = ℕ} n pairs h.0 (Err r) (w h.0 h.1) h.2
vector_memory n bs v pairs Memory b w h = tt

face_memory : (bs : List MarkedPolynomial) (c : RowsAndRays) (pairs : ℕ) (f : Face) (e : InitialError) → IsFaceWithinLimits bs c pairs f →
    IsRefusedAtFace bs c pairs e f → IsMemoryWanted e
face_memory bs c pairs f (Cone s) l h = absurd h
face_memory bs c pairs f (Wide w) l h = absurd (none_first w _ l.sums h)
face_memory bs c pairs f (Entry i x) l h = vector_memory c.ambient bs (vector_of c f) pairs (Entry i x) l.entries l.runs h
face_memory bs c pairs f (Saturation r) l h = vector_memory c.ambient bs (vector_of c f) pairs (Saturation r) l.entries l.runs h
face_memory bs c pairs f Memory l h = tt

pub wanted : (e : InitialError) → e ≡ Memory → IsMemoryWanted e
wanted e q = subst IsMemoryWanted (sym q) tt

pub only_memory : (n : ℕ) (bs : List MarkedPolynomial) (rows : List (List ℤ)) (c : Rows) (pairs : ℕ) (e : InitialError) →
    AreFacesWithinLimits n bs rows c pairs → IsConeRefusal n bs rows c pairs e → IsMemoryWanted e
only_memory n bs rows c pairs e w (IsConeRefusal.at_rays s h q) = absurd (w.rays s h)
only_memory n bs rows c pairs e w (IsConeRefusal.at_faces cut faces k a r) = at r
  where
    at : IsFaceRefusal bs cut faces pairs e → IsMemoryWanted e
    at (IsFaceRefusal.at_face f p h) = face_memory bs cut pairs f e (w.faces cut faces f k a (reached_in (PassesAt bs cut) faces f p)) h
    at (IsFaceRefusal.no_memory q) = wanted e q
only_memory n bs rows c pairs e w (IsConeRefusal.no_memory q) = wanted e q
