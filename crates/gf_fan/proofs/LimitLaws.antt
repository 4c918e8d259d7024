-- Where bounds on rows have room, no operation of meets and faces leaves the range.
use Rattle.std.proofs.Common.{◌≡◌, ℕ, ◌+◌, ◌<◌, ◌≤◌, List, [], ℤ, true, length, length-append, unsigned_abs, All, refl, sym, ap, ◌∙◌, subst, arith, inl, inr}
use Rattle.std.proofs.lemmas.List.{get_or_default}
use Rattle.std.proofs.lemmas.List.Elements.{All-append, All-filter}
use Rattle.gf_gordan.specs.declared.error.ConeOverflow.{ConeOverflow}
use Rattle.gf_duality_theory.specs.Faces.{Rows, part}
use Rattle.gf_fans_theory.specs.Fans.{meet}
use Rattle.gf_rays.specs.Cones.{rows_of}
use Rattle.gf_rays.specs.Reached.{IsRaysStep}
use Rattle.gf_rays.specs.Limits.{IsSmallSystem, has_room}
use Rattle.gf_rays.proofs.RoomLaws.{systems_with_room_stay_within_limits}
use Rattle.gf_fan.specs.FansOfCones.{is_zero_on, vanishing_rows}
use Rattle.gf_fan.specs.FaceSystems.{IsFaceSystem}
use Rattle.gf_fan.specs.Limits.{FansWithRoomStayWithinLimits}

abbrev IsLong : ℕ → List ℤ → Type 0
IsLong n t = length t ≡ n

abbrev HasEntriesUpTo : ℕ → List ℤ → Type 0
HasEntriesUpTo b t = All (λ x. unsigned_abs x ≤ b) t

pub small_meet : (n b : ℕ) (c d : Rows) → IsSmallSystem n b c → IsSmallSystem n b d → IsSmallSystem n b (meet c d)
small_meet n b c d v w = record {
  inequalities_width = All-append (IsLong n) c.inequalities d.inequalities v.inequalities_width w.inequalities_width;
  equations_width = All-append (IsLong n) c.equations d.equations v.equations_width w.equations_width;
  inequalities = All-append (HasEntriesUpTo b) c.inequalities d.inequalities v.inequalities w.inequalities;
  equations = All-append (HasEntriesUpTo b) c.equations d.equations v.equations w.equations;
}

small_part : (n b : ℕ) (c : Rows) (rays : List (List ℤ)) → IsSmallSystem n b c → IsSmallSystem n b (part c (vanishing_rows c.inequalities rays))
small_part n b c rays w = record {
  inequalities_width = w.inequalities_width;
  equations_width = All-append (IsLong n) c.equations (vanishing_rows c.inequalities rays) w.equations_width
      (All-filter (is_zero_on rays) (IsLong n) c.inequalities w.inequalities_width);
  inequalities = w.inequalities;
  equations = All-append (HasEntriesUpTo b) c.equations (vanishing_rows c.inequalities rays) w.equations
      (All-filter (is_zero_on rays) (HasEntriesUpTo b) c.inequalities w.inequalities);
}

-- a face of a small system is one, with as many inequalities
pub small_face : (n b : ℕ) (c f : Rows) → IsSmallSystem n b c → IsFaceSystem n c f → IsSmallSystem n b f
small_face n b c f w x = subst (IsSmallSystem n b) (sym x.rows) (small_part n b c x.rays w)

pub face_long : (n : ℕ) (c f : Rows) → IsFaceSystem n c f → length f.inequalities ≡ length c.inequalities
face_long n c f x = ap (λ (r : Rows). length r.inequalities) x.rows

pub no_system_step : (n b k : ℕ) (c : Rows) (s : ConeOverflow) → 1 ≤ n → 1 ≤ b → IsSmallSystem n b c → length c.inequalities ≡ k → has_room n b k ≡ true →
    IsRaysStep n c.inequalities c.equations s → ⊥
no_system_step n b k c s hn hb w e room x = systems_with_room_stay_within_limits n b c hn hb w (subst (λ i. has_room n b i ≡ true) (sym e) room) s x

pub no_rows : (n b : ℕ) → IsSmallSystem n b (record { inequalities = []; equations = [] })
no_rows n b = record {
  inequalities_width = λ k d h. absurd (omega (arith, h));
  equations_width = λ k d h. absurd (omega (arith, h));
  inequalities = λ k d h. absurd (omega (arith, h));
  equations = λ k d h. absurd (omega (arith, h));
}

pub no_none_step : (n b : ℕ) (s : ConeOverflow) → 1 ≤ n → 1 ≤ b → has_room n b 0 ≡ true → IsRaysStep n [] [] s → ⊥
no_none_step n b s hn hb room x = no_system_step n b 0 (record { inequalities = []; equations = [] }) s hn hb (no_rows n b) refl room x

pub fans_with_room_stay_within_limits : FansWithRoomStayWithinLimits
fans_with_room_stay_within_limits n b given hn hb small room s (inl x) =
    let p = x.after in
    let li : x.i < length given = omega (arith, p.ordered, p.inside) in
    let c = small p.c (x.i, li, get_or_default given x.i p.c p.c li ∙ p.first) in
    let d = small p.d (p.j, p.inside, p.second) in
    no_system_step n b (length p.c.inequalities + length p.d.inequalities) (meet (rows_of p.c) (rows_of p.d)) s hn hb
    (small_meet n b (rows_of p.c) (rows_of p.d) c d) (length-append p.c.inequalities p.d.inequalities)
    (room.pairs x.i p.j p.c p.d p.ordered p.inside p.first p.second) p.step.1
fans_with_room_stay_within_limits n b given hn hb small room s (inr (m, inl x)) =
    no_system_step n b (length x.origin.inequalities) x.face s hn hb (small_face n b (rows_of x.origin) x.face (small x.origin x.listed) x.is_face)
    (face_long n (rows_of x.origin) x.face x.is_face) (room.own x.origin x.listed) x.step
fans_with_room_stay_within_limits n b given hn hb small room s (inr (m, inr x)) = no_none_step n b s hn hb room.none x.1
