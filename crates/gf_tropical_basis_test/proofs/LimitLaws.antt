-- Where nothing leaves its limits, only memory may be wanting. To cite: test_memory.
use Rattle.std.specs.Prelude.{None}
use Rattle.std.proofs.Common.{◌≡◌, ℕ, List, [], ℤ, Contains, refl, sym, subst}
use Rattle.gf_poly.specs.Polynomial.{Terms}
use Rattle.gf_poly.specs.Marking.{MarkedPolynomial, MarkedPolynomials}
use Rattle.gf_duality_theory.specs.Faces.{Rows}
use Rattle.gf_fan.specs.FanLists.{FanLists}
use Rattle.gf_tropical.specs.Systems.{IsPairSystem}
use Rattle.gf_tropical.specs.declared.error.TropicalError.{TropicalError}
use Rattle.gf_tropical.specs.declared.error.TropicalError.TheVariants as tropical
use Rattle.gf_tropical.specs.Refusals.{IsTropicalRefusal, IsTropicalWithinLimits}
use Rattle.gf_facets_theory.specs.Normals.{AreNormals}
use Rattle.gf_reverse_theory.specs.Upward.{IsNodeIn}
use Rattle.gf_reverse_theory.proofs.FanLaws.{among_of}
use Rattle.gf_tree.specs.Ideals.{ideal_by}
use Rattle.gf_tree.proofs.RefusalLaws.{within_memory}
use Rattle.gf_initial_monomials.specs.declared.error.InitialError.{InitialError}
use Rattle.gf_initial_monomials.specs.Outcomes.{HasOutcome}
use Rattle.gf_initial_monomials.specs.Limits.{AreFacesWithinLimits, IsMemoryWanted}
use Rattle.gf_initial_monomials.proofs.LimitLaws.{only_memory, wanted}
use Rattle.gf_initial_monomials.proofs.OutcomeLaws.{reached_in}
use Rattle.gf_tropical_basis_test.specs.declared.error.BasisTestError.{BasisTestError}
use Rattle.gf_tropical_basis_test.specs.declared.error.BasisTestError.TheVariants.{Memory}
use Rattle.gf_tropical_basis_test.specs.Verdicts.{HasBasisOutcome, IsTestFan, maximal_rows}
use Rattle.gf_tropical_basis_test.specs.Refusals.{IsRefusedWithBasis, AreBasesRefused, IsVerdictRefusal}
use Rattle.gf_tropical_basis_test.specs.Limits.{HasNoMemory, IsTestWithinLimits}

tropical_memory : (n : ℕ) (fs : List Terms) (e : TropicalError) → IsTropicalWithinLimits IsPairSystem n fs → IsTropicalRefusal IsPairSystem n fs e →
    e ≡ tropical.Memory
tropical_memory n fs (tropical.Cone s) w x = absurd (w.within s x.1)
tropical_memory n fs (tropical.ZeroPolynomial number index) w x = absurd (w.not_zero index [] x.1.inside x.1.zero)
tropical_memory n fs tropical.Memory w x = refl

at_basis : (n : ℕ) (cones : List Rows) (bs : List MarkedPolynomial) (pairs : ℕ) (e : InitialError) →
    ((normals : List (List ℤ)) (c : Rows) → AreNormals bs normals → Contains cones c → AreFacesWithinLimits n bs normals c pairs) →
    IsRefusedWithBasis n cones bs pairs e → IsMemoryWanted e
at_basis n cones bs pairs e w (IsRefusedWithBasis.at_cone normals c a r h) =
    only_memory n bs normals c pairs e (w normals c a (reached_in (λ (d : Rows). HasOutcome n bs normals d None) cones c r)) h
at_basis n cones bs pairs e w (IsRefusedWithBasis.no_memory q) = wanted e q

no_memory : (e : BasisTestError) → e ≡ Memory → HasNoMemory e
no_memory e q = subst HasNoMemory (sym q) tt

at_bases : (n : ℕ) (fs : List Terms) (h : FanLists) (pairs : ℕ) (e : BasisTestError) → IsTestWithinLimits n fs pairs → IsTestFan n fs h →
    AreBasesRefused n fs (maximal_rows h) pairs e → HasNoMemory e
at_bases n fs h pairs e w p (AreBasesRefused.at_basis bases b r l k x q) =
    let node : IsNodeIn (ideal_by n fs) b =
    l.only b (among_of bases b (reached_in (λ (c : MarkedPolynomials). HasBasisOutcome n (maximal_rows h) c.items None) bases b k)) in
    subst HasNoMemory (sym q) (at_basis n (maximal_rows h) b.items pairs r (λ normals c a m. w.faces h b normals c p node a m) x)
at_bases n fs h pairs e w p (AreBasesRefused.at_search r x q) = subst HasNoMemory (sym q) (within_memory (ideal_by n fs) pairs r w.search x)
at_bases n fs h pairs e w p (AreBasesRefused.no_memory q) = no_memory e q

pub test_memory : (n : ℕ) (fs : List Terms) (pairs : ℕ) (e : BasisTestError) → IsTestWithinLimits n fs pairs → IsVerdictRefusal n fs pairs e → HasNoMemory e
test_memory n fs pairs e w (IsVerdictRefusal.at_prevariety r x q) = subst HasNoMemory (sym q) (tropical_memory n fs r w.prevariety x)
test_memory n fs pairs e w (IsVerdictRefusal.at_root r x q) = subst HasNoMemory (sym q) (x.1 w.root)
test_memory n fs pairs e w (IsVerdictRefusal.at_bases h p x) = at_bases n fs h pairs e w p x
test_memory n fs pairs e w (IsVerdictRefusal.no_memory q) = no_memory e q
