-- Numbers lead from a basis to one basis or nowhere, and one text is told of it.
-- To cite: trails_are_determined. The rest are steps.
use Rattle.std.proofs.Common.{◌≡◌, ◌<◌, ℕ, List, [], ℤ, length, slice_index_or, arith, sym, ap, ap₂, ◌∙◌, subst}
use Rattle.gf_poly.specs.Marking.{MarkedPolynomial, MarkedPolynomials, polys}
use Rattle.gf_facets_theory.specs.Regions.{all_positive}
use Rattle.gf_initial_theory.proofs.LawsHold.{neighbours_are_unique}
use Rattle.gf_session.proofs.TranscriptLaws.{determined}
use Rattle.gf_session.specs.Transcripts.{AreFunctions}
use Rattle.gf_basis_states.specs.Prompts.{prompt_text}
use Rattle.gf_basis_states.specs.BasisRules.{IsCrossingStep, IsNumbered, IsPastAll, IsPrompt, basis_rules}
use Rattle.gf_basis_states.specs.Trails.{TrailsAreDetermined}
use Rattle.gf_basis_states.proofs.CrossableLaws.{one_list}

-- a step leads to one basis
one_step : (p q u : MarkedPolynomials) (a : List ℤ) → IsCrossingStep p a q → IsCrossingStep p a u → q ≡ u
one_step p q u a s t = ap₂ (λ (n : ℕ) (bs : List MarkedPolynomial). record { variables = n; items = bs }) (s.across.0 ∙ sym t.across.0)
    (neighbours_are_unique.unique p.variables (polys p.items) (all_positive p.variables) (all_positive p.variables) p.items a q.items u.items s.node.fan.ideal
    s.across.1 t.across.1)

one_state : (p q u : MarkedPolynomials) (n : ℕ) → IsNumbered p n q → IsNumbered p n u → q ≡ u
one_state p q u n h g =
    let e : h.normals ≡ g.normals = one_list p.variables (all_positive p.variables) p.items h.normals g.normals h.crossable g.crossable in
    one_step p q u (slice_index_or g.normals n []) (subst (λ (ns : List (List ℤ)). IsCrossingStep p (slice_index_or ns n []) q) e h.step) g.step

no_state : (p q : MarkedPolynomials) (n : ℕ) → IsNumbered p n q → IsPastAll p n → ⊥
no_state p q n h g =
    let e : h.normals ≡ g.normals = one_list p.variables (all_positive p.variables) p.items h.normals g.normals h.crossable g.crossable in
    let l : n < length g.normals = subst (λ (ns : List (List ℤ)). n < length ns) e h.inside in
    absurd (omega (arith, l, g.past))

one_text : (names : List (List ℕ)) (p : MarkedPolynomials) (behind : ℕ) (x y : List ℕ) → IsPrompt names p behind x → IsPrompt names p behind y → x ≡ y
one_text names p behind x y h g =
    let e : h.normals ≡ g.normals = one_list p.variables (all_positive p.variables) p.items h.normals g.normals h.crossable g.crossable in
    h.is_text ∙ ap (λ (ns : List (List ℤ)). prompt_text names p.items ns behind) e ∙ sym g.is_text

functions : (names : List (List ℕ)) → AreFunctions (basis_rules names)
functions names = record { one_state = one_state; no_state = no_state; one_text = one_text names }

pub trails_are_determined : (names : List (List ℕ)) → TrailsAreDetermined names
trails_are_determined names =
    let d = determined (basis_rules names) in
    record { functions = functions names; one = λ s t u cs x y a b. d.one (functions names) s cs t u x y a b; undone = d.undone }
