-- What is a face of a cone depends on the cone alone, and not on the rows that it is given by.
use Rattle.std.proofs.Common.{ℕ, Contains}
use Rattle.std.proofs.lemmas.List.Elements.{All-contains}
use Rattle.gf_duality_theory.specs.Faces.{Rows, SameCone, part, IsFaceOf}
use Rattle.gf_fans_theory.specs.Fans.{meet, MeetInFaces}
use Rattle.gf_fans_theory.specs.Laws.{HasRays}
use Rattle.gf_fans_theory.proofs.Meeting.{left_in, right_in}
use Rattle.gf_fans_theory.proofs.FanLaws.{up_in, both_in, part_in, of_part, part_zero, exposed_face, face_same}

-- a face of a cone is one by whatever rows of that cone
pub face_of_same : (n : ℕ) (f c d : Rows) → HasRays n d → SameCone n c d → IsFaceOf n f c → IsFaceOf n f d
face_of_same n f c d r w k =
    let e = exposed_face n d r.0 r.1 k.0 r.2 (λ t x ct l s. up_in c x t ((w x l).1 s) (All-contains (Contains c.inequalities) k.0 t k.1.0 ct)) in
    face_same n (part d k.0) f d (λ x l. (
      λ s. (k.1.1 x l).1 (part_in c k.0 x ((w x l).1 (of_part d k.0 x s)) (λ t i. part_zero d k.0 x t s i)),
      λ s. let a = (k.1.1 x l).0 s in part_in d k.0 x ((w x l).0 (of_part c k.0 x a)) (λ t i. part_zero c k.0 x t a i),
    )) e

pub meet_of_same : (n : ℕ) (a b c d : Rows) → HasRays n c → HasRays n d → SameCone n a c → SameCone n b d → MeetInFaces n a b → MeetInFaces n c d
meet_of_same n a b c d rc rd wc wd m =
    let same : SameCone n (meet a b) (meet c d) = λ x l. (
      λ s. both_in c d x ((wc x l).0 (left_in a b x s)) ((wd x l).0 (right_in a b x s)),
      λ s. both_in a b x ((wc x l).1 (left_in c d x s)) ((wd x l).1 (right_in c d x s)),
    ) in (
      face_same n (meet a b) (meet c d) c same (face_of_same n (meet a b) a c rc wc m.0),
      face_same n (meet a b) (meet c d) d same
          (face_of_same n (meet a b) b d rd wd m.1),
    )
