-- Sources that are known are loaded, and what isn't read is as before.
-- To cite: loaded_known, unloaded_known, unloaded_long, loaded_not_long, unloaded_outside, unloaded_read, unloaded_open, unloaded_too_long, unloaded_within,
-- nothing_read, loaded_within, loaded_input, unloaded_input, loaded_files, unloaded_files, loaded_kept, unloaded_kept, loaded_calm, unloaded_input_calm,
-- unloaded_open_calm, unloaded_calm. The rest are steps.
use Rattle.std.specs.Prelude.{◌≡◌, ◌⊎◌, ℕ, ◌≤◌, ◌++◌, List, [], ◌∷◌, length, Option, None, Some}
use Rattle.std.specs.Io.KnownBytes.{Consumes, IsAtEnd, Keeps}
use Rattle.std.proofs.Common.{arith, refl, sym, ap, ◌∙◌, subst, inl, inr, length-append, append-nil}
use Rattle.std.proofs.KnownBytes.{Consumes-nil}
use Rattle.gf_outside.specs.Faults.{Rose}
use Rattle.gf_outside.specs.Moved.{TookExactly, TookAtMost}
use Rattle.gf_front.specs.declared.refusal.Refusal.{Refusal}
use Rattle.gf_front.specs.declared.refusal.Refusal.TheVariants as refusals
use Rattle.gf_frame.specs.Seen.{InputSeen, FilesSeen, Seen}
use Rattle.gf_frame.specs.Loading.{Origin, IsLoaded, IsInputCause, IsWithinFile, IsFileCause, IsUnloaded, AreLoaded, AreUnloaded, IsKnown, AreKnown, AreShort}
use Rattle.gf_frame.specs.Loading.{IsSomeLong, HaveInput, HaveFile, HaveInputOnce, IsReadWithin, AreReadWithin, IsTooLong, IsOneTooLong}
use Rattle.gf_frame.specs.Commands.{IsOfOutside}

-- ---- bytes

-- what is known to be left is what is read whole
read_known : (left leaves : Option (List ℕ)) (source bytes : List ℕ) → left ≡ Some source → Consumes left leaves bytes → IsAtEnd leaves → bytes ≡ source
read_known left None source bytes k c e = absurd (subst (λ l. Consumes l None bytes) k c)
read_known left (Some rest) source bytes k c e =
    let p : source ≡ bytes ++ rest = subst (λ l. Consumes l (Some rest) bytes) k c in
    sym (p ∙ ap (λ l. bytes ++ l) e ∙ append-nil bytes)

taken_known : (left leaves : Option (List ℕ)) (source bytes : List ℕ) → left ≡ Some source → Consumes left leaves bytes → length bytes ≤ length source
taken_known left None source bytes k c = absurd (subst (λ l. Consumes l None bytes) k c)
taken_known left (Some rest) source bytes k c =
    let p : source ≡ bytes ++ rest = subst (λ l. Consumes l (Some rest) bytes) k c in
    omega (arith, ap length p, length-append bytes rest)

long_known : (left leaves : Option (List ℕ)) (given gives : ℕ) (source : List ℕ) → left ≡ Some source → length source ≤ 67108864 →
    TookExactly left leaves given gives 67108865 → ⊥
long_known left leaves given gives source k short t = let most =
    taken_known left leaves source t.bytes k t.took.bytes_left in omega (arith, most, short, t.exactly)

-- ---- one source

loaded_text : (o : Origin) (p q m : Seen) (t u : List ℕ) → IsKnown o p q t → IsLoaded o p m u → u ≡ t
loaded_text Origin.the_input p q m t u k l = read_known p.input.left m.input.left t u k.0 l.took.bytes_left l.end
loaded_text (Origin.a_file name) p q m t u k l = subst (λ x. Keeps x (Some u)) k.0 l.is

input_memory : (p q : Seen) (t : List ℕ) (r : Refusal) → IsKnown Origin.the_input p q t → length t ≤ 67108864 → IsInputCause p.input q.input r →
    r ≡ refusals.Memory
input_memory p q t refusals.ReadFault k l c = absurd (k.1 c.0)
input_memory p q t refusals.InputTooLong k l c = absurd (long_known p.input.left q.input.left p.input.given q.input.given t k.0 l c)
input_memory p q t refusals.Memory k l c = refl
input_memory p q t _ k l c = absurd c

file_memory : (name : List ℕ) (p q : Seen) (t : List ℕ) (r : Refusal) → IsKnown (Origin.a_file name) p q t → length t ≤ 67108864 →
    IsFileCause name p.files q.files r → r ≡ refusals.Memory
file_memory name p q t refusals.OpenFault k l c = absurd (k.1 c.0)
file_memory name p q t refusals.ReadFault k l c = absurd (k.2 c.0)
file_memory name p q t refusals.InputTooLong k l c = absurd (long_known (p.files.bytes name) q.files.left p.files.given q.files.given t k.0 l c)
file_memory name p q t refusals.Memory k l c = refl
file_memory name p q t _ k l c = absurd c

one_memory : (o : Origin) (p q : Seen) (t : List ℕ) (r : Refusal) → IsKnown o p q t → length t ≤ 67108864 → IsUnloaded o p q r → r ≡ refusals.Memory
one_memory Origin.the_input p q t r k l u = input_memory p q t r k l u.cause
one_memory (Origin.a_file name) p q t r k l u = file_memory name p q t r k l u.cause

input_long : (p q : Seen) (t : List ℕ) (r : Refusal) → IsKnown Origin.the_input p q t → IsInputCause p.input q.input r →
    (r ≡ refusals.InputTooLong) ⊎ (r ≡ refusals.Memory)
input_long p q t refusals.ReadFault k c = absurd (k.1 c.0)
input_long p q t refusals.InputTooLong k c = inl refl
input_long p q t refusals.Memory k c = inr refl
input_long p q t _ k c = absurd c

file_long : (name : List ℕ) (p q : Seen) (t : List ℕ) (r : Refusal) → IsKnown (Origin.a_file name) p q t → IsFileCause name p.files q.files r →
    (r ≡ refusals.InputTooLong) ⊎ (r ≡ refusals.Memory)
file_long name p q t refusals.OpenFault k c = absurd (k.1 c.0)
file_long name p q t refusals.ReadFault k c = absurd (k.2 c.0)
file_long name p q t refusals.InputTooLong k c = inl refl
file_long name p q t refusals.Memory k c = inr refl
file_long name p q t _ k c = absurd c

one_long : (o : Origin) (p q : Seen) (t : List ℕ) (r : Refusal) → IsKnown o p q t → IsUnloaded o p q r → (r ≡ refusals.InputTooLong) ⊎ (r ≡ refusals.Memory)
one_long Origin.the_input p q t r k u = input_long p q t r k u.cause
one_long (Origin.a_file name) p q t r k u = file_long name p q t r k u.cause

one_short : (o : Origin) (p q : Seen) (t : List ℕ) → IsLoaded o p q t → length t ≤ 67108864
one_short Origin.the_input p q t l = l.short
one_short (Origin.a_file name) p q t l = l.short

one_kept : (o : Origin) (p q : Seen) (t : List ℕ) → IsLoaded o p q t → q.files.bytes ≡ p.files.bytes
one_kept Origin.the_input p q t l = ap (λ (f : FilesSeen). f.bytes) l.files
one_kept (Origin.a_file name) p q t l = l.kept

one_unopened : (o : Origin) (p q : Seen) (t : List ℕ) → IsLoaded o p q t → q.files.unopened ≡ p.files.unopened
one_unopened Origin.the_input p q t l = ap (λ (f : FilesSeen). f.unopened) l.files
one_unopened (Origin.a_file name) p q t l = l.opened

one_faults : (o : Origin) (p q : Seen) (t : List ℕ) → IsLoaded o p q t → q.files.faults ≡ p.files.faults
one_faults Origin.the_input p q t l = ap (λ (f : FilesSeen). f.faults) l.files
one_faults (Origin.a_file name) p q t l = l.calm

one_calm : (o : Origin) (p q : Seen) (t : List ℕ) → IsLoaded o p q t → q.input.faults ≡ p.input.faults
one_calm Origin.the_input p q t l = l.calm
one_calm (Origin.a_file name) p q t l = ap (λ (i : InputSeen). i.faults) l.input

-- ---- what is known stays known

file_along : (name : List ℕ) (o : Origin) (p m q : Seen) (t u : List ℕ) → IsLoaded o p m u → IsKnown (Origin.a_file name) p q t →
    IsKnown (Origin.a_file name) m q t
file_along name o p m q t u l k = (
  ap (λ (f : List ℕ → Option (List ℕ)). f name) (one_kept o p m u l) ∙ k.0,
  subst (λ n. Rose n q.files.unopened → ⊥) (sym (one_unopened o p m u l)) k.1,
  subst (λ n. Rose n q.files.faults → ⊥) (sym (one_faults o p m u l)) k.2,
)

input_along : (name : List ℕ) (p m q : Seen) (t u : List ℕ) → IsLoaded (Origin.a_file name) p m u → IsKnown Origin.the_input p q t →
    IsKnown Origin.the_input m q t
input_along name p m q t u l k = subst (λ (i : InputSeen). (i.left ≡ Some t) × (Rose i.faults q.input.faults → ⊥)) (sym l.input) k

along_input : (os : List Origin) (p m q : Seen) (u : List ℕ) (ts : List (List ℕ)) → (HaveInput os → ⊥) → IsLoaded Origin.the_input p m u → AreKnown os p q ts →
    AreKnown os m q ts
along_input [] p m q u [] n l k = tt
along_input [] p m q u (t ∷ ts) n l k = absurd k
along_input (o ∷ os) p m q u [] n l k = absurd k
along_input (Origin.the_input ∷ os) p m q u (t ∷ ts) n l k = absurd (n tt)
along_input (Origin.a_file name ∷ os) p m q u (t ∷ ts) n l k = (file_along name Origin.the_input p m q t u l k.0, along_input os p m q u ts n l k.1)

along_file : (name : List ℕ) (os : List Origin) (p m q : Seen) (u : List ℕ) (ts : List (List ℕ)) → IsLoaded (Origin.a_file name) p m u → AreKnown os p q ts →
    AreKnown os m q ts
along_file name [] p m q u [] l k = tt
along_file name [] p m q u (t ∷ ts) l k = absurd k
along_file name (o ∷ os) p m q u [] l k = absurd k
along_file name (Origin.the_input ∷ os) p m q u (t ∷ ts) l k = (input_along name p m q t u l k.0, along_file name os p m q u ts l k.1)
along_file name (Origin.a_file other ∷ os) p m q u (t ∷ ts) l k = (file_along other (Origin.a_file name) p m q t u l k.0, along_file name os p m q u ts l k.1)

along : (o : Origin) (os : List Origin) (p m q : Seen) (u : List ℕ) (ts : List (List ℕ)) → HaveInputOnce (o ∷ os) → IsLoaded o p m u → AreKnown os p q ts →
    AreKnown os m q ts
along Origin.the_input os p m q u ts n l k = along_input os p m q u ts n l k
along (Origin.a_file name) os p m q u ts n l k = along_file name os p m q u ts l k

once_behind : (o : Origin) (os : List Origin) → HaveInputOnce (o ∷ os) → HaveInputOnce os
once_behind Origin.the_input os n = none os n
  where
    none : (os : List Origin) → (HaveInput os → ⊥) → HaveInputOnce os
    none [] n = tt
    none (Origin.the_input ∷ os) n = absurd (n tt)
    none (Origin.a_file name ∷ os) n = none os n
once_behind (Origin.a_file name) os n = n

-- ---- several sources

-- what is loaded is what is known
pub loaded_known : (os : List Origin) (p q m : Seen) (texts ts : List (List ℕ)) → HaveInputOnce os → AreKnown os p q texts → AreLoaded os p m ts → ts ≡ texts
loaded_known [] p q m [] [] n k l = refl
loaded_known [] p q m (t ∷ ts) us n k l = absurd k
loaded_known [] p q m [] (u ∷ us) n k l = absurd l
loaded_known (o ∷ os) p q m [] us n k l = absurd k
loaded_known (o ∷ os) p q m (t ∷ ts) [] n k l = absurd l
loaded_known (o ∷ os) p q m (t ∷ ts) (u ∷ us) n k l =
    let head : u ≡ t = loaded_text o p q l.0 t u k.0 l.1 in
    let tail : us ≡ ts = loaded_known os l.0 q m ts us (once_behind o os n) (along o os p l.0 q u ts n l.1 k.1) l.2 in
    λ i. head i ∷ tail i

-- sources that are known and not too long are loaded, unless there is no memory
pub unloaded_known : (os : List Origin) (p q : Seen) (texts : List (List ℕ)) (r : Refusal) → HaveInputOnce os → AreKnown os p q texts → AreShort texts →
    AreUnloaded os p q r → r ≡ refusals.Memory
unloaded_known [] p q ts r n k s u = absurd u
unloaded_known (o ∷ os) p q [] r n k s u = absurd k
unloaded_known (o ∷ os) p q (t ∷ ts) r n k s (inl u) = one_memory o p q t r k.0 s.0 u
unloaded_known (o ∷ os) p q (t ∷ ts) r n k s (inr u) = unloaded_known os u.1 q ts r (once_behind o os n) (along o os p u.1 q u.0 ts n u.2 k.1) s.1 u.3

-- in any case one is too long, unless there is no memory
pub unloaded_long : (os : List Origin) (p q : Seen) (texts : List (List ℕ)) (r : Refusal) → HaveInputOnce os → AreKnown os p q texts → AreUnloaded os p q r →
    (r ≡ refusals.InputTooLong) ⊎ (r ≡ refusals.Memory)
unloaded_long [] p q ts r n k u = absurd u
unloaded_long (o ∷ os) p q [] r n k u = absurd k
unloaded_long (o ∷ os) p q (t ∷ ts) r n k (inl u) = one_long o p q t r k.0 u
unloaded_long (o ∷ os) p q (t ∷ ts) r n k (inr u) = unloaded_long os u.1 q ts r (once_behind o os n) (along o os p u.1 q u.0 ts n u.2 k.1) u.3

-- what is loaded isn't too long
pub loaded_not_long : (os : List Origin) (p q : Seen) (ts : List (List ℕ)) → AreLoaded os p q ts → IsSomeLong ts → ⊥
loaded_not_long [] p q [] l h = h
loaded_not_long [] p q (t ∷ ts) l h = l
loaded_not_long (o ∷ os) p q [] l h = l
loaded_not_long (o ∷ os) p q (t ∷ ts) l (inl h) = let short = one_short o p l.0 t l.1 in omega (arith, short, h)
loaded_not_long (o ∷ os) p q (t ∷ ts) l (inr h) = loaded_not_long os l.0 q ts l.2 h

-- ---- refusals

input_outside : (i j : InputSeen) (r : Refusal) → IsInputCause i j r → IsOfOutside r
input_outside i j refusals.ReadFault c = tt
input_outside i j refusals.InputTooLong c = tt
input_outside i j refusals.Memory c = tt
input_outside i j _ c = absurd c

file_outside : (name : List ℕ) (f g : FilesSeen) (r : Refusal) → IsFileCause name f g r → IsOfOutside r
file_outside name f g refusals.OpenFault c = tt
file_outside name f g refusals.ReadFault c = tt
file_outside name f g refusals.InputTooLong c = tt
file_outside name f g refusals.Memory c = tt
file_outside name f g _ c = absurd c

one_outside : (o : Origin) (p q : Seen) (r : Refusal) → IsUnloaded o p q r → IsOfOutside r
one_outside Origin.the_input p q r u = input_outside p.input q.input r u.cause
one_outside (Origin.a_file name) p q r u = file_outside name p.files q.files r u.cause

pub unloaded_outside : (os : List Origin) (p q : Seen) (r : Refusal) → AreUnloaded os p q r → IsOfOutside r
unloaded_outside [] p q r u = absurd u
unloaded_outside (o ∷ os) p q r (inl u) = one_outside o p q r u
unloaded_outside (o ∷ os) p q r (inr u) = unloaded_outside os u.1 q r u.3

-- no source is refused as words or as a write are
one_not_usage : (o : Origin) (p q : Seen) → IsUnloaded o p q refusals.Usage → ⊥
one_not_usage Origin.the_input p q u = u.cause
one_not_usage (Origin.a_file name) p q u = u.cause

pub unloaded_not_usage : (os : List Origin) (p q : Seen) → AreUnloaded os p q refusals.Usage → ⊥
unloaded_not_usage [] p q u = u
unloaded_not_usage (o ∷ os) p q (inl u) = one_not_usage o p q u
unloaded_not_usage (o ∷ os) p q (inr u) = unloaded_not_usage os u.1 q u.3

one_not_write : (o : Origin) (p q : Seen) → IsUnloaded o p q refusals.WriteFault → ⊥
one_not_write Origin.the_input p q u = u.cause
one_not_write (Origin.a_file name) p q u = u.cause

pub unloaded_not_write : (os : List Origin) (p q : Seen) → AreUnloaded os p q refusals.WriteFault → ⊥
unloaded_not_write [] p q u = u
unloaded_not_write (o ∷ os) p q (inl u) = one_not_write o p q u
unloaded_not_write (o ∷ os) p q (inr u) = unloaded_not_write os u.1 q u.3

one_read : (o : Origin) (p q : Seen) → IsUnloaded o p q refusals.ReadFault → Rose p.input.faults q.input.faults ⊎ Rose p.files.faults q.files.faults
one_read Origin.the_input p q u = inl u.cause.0
one_read (Origin.a_file name) p q u = inr u.cause.0

pub unloaded_read : (os : List Origin) (p q : Seen) → AreUnloaded os p q refusals.ReadFault →
    Rose p.input.faults q.input.faults ⊎ Rose p.files.faults q.files.faults
unloaded_read [] p q u = absurd u
unloaded_read (o ∷ os) p q (inl u) = one_read o p q u
unloaded_read (o ∷ os) p q (inr u) = elim (unloaded_read os u.1 q u.3) [
  | inl x ↦ inl (subst (λ n. Rose n q.input.faults) (one_calm o p u.1 u.0 u.2) x)
  | inr x ↦ inr (subst (λ n. Rose n q.files.faults) (one_faults o p u.1 u.0 u.2) x)
]

one_open : (o : Origin) (p q : Seen) → IsUnloaded o p q refusals.OpenFault → Rose p.files.unopened q.files.unopened
one_open Origin.the_input p q u = absurd u.cause
one_open (Origin.a_file name) p q u = u.cause.0

pub unloaded_open : (os : List Origin) (p q : Seen) → AreUnloaded os p q refusals.OpenFault → Rose p.files.unopened q.files.unopened
unloaded_open [] p q u = absurd u
unloaded_open (o ∷ os) p q (inl u) = one_open o p q u
unloaded_open (o ∷ os) p q (inr u) = subst (λ n. Rose n q.files.unopened) (one_unopened o p u.1 u.0 u.2) (unloaded_open os u.1 q u.3)

-- ---- how much is read

one_too_long : (o : Origin) (p q : Seen) → IsUnloaded o p q refusals.InputTooLong → IsTooLong o p q
one_too_long Origin.the_input p q u = u.cause
one_too_long (Origin.a_file name) p q u = u.cause

pub unloaded_too_long : (os : List Origin) (p q : Seen) → AreUnloaded os p q refusals.InputTooLong → IsOneTooLong os p q
unloaded_too_long [] p q u = absurd u
unloaded_too_long (o ∷ os) p q (inl u) = inl (one_too_long o p q u)
unloaded_too_long (o ∷ os) p q (inr u) = inr (u.0, u.1, u.2, unloaded_too_long os u.1 q u.3)

input_within : (i j : InputSeen) (r : Refusal) → (r ≡ refusals.InputTooLong → ⊥) → IsInputCause i j r → TookAtMost i.left j.left i.given j.given 67108864
input_within i j refusals.ReadFault n c = c.1
input_within i j refusals.InputTooLong n c = absurd (n refl)
input_within i j refusals.Memory n c = c
input_within i j _ n c = absurd c

file_within : (name : List ℕ) (f g : FilesSeen) (r : Refusal) → (r ≡ refusals.InputTooLong → ⊥) → IsFileCause name f g r → IsWithinFile name f g
file_within name f g refusals.OpenFault n c = inl c.1
file_within name f g refusals.ReadFault n c = inr c.1
file_within name f g refusals.InputTooLong n c = absurd (n refl)
file_within name f g refusals.Memory n c = c
file_within name f g _ n c = absurd c

one_within : (o : Origin) (p q : Seen) (r : Refusal) → (r ≡ refusals.InputTooLong → ⊥) → IsUnloaded o p q r → IsReadWithin o p q
one_within Origin.the_input p q r n u = input_within p.input q.input r n u.cause
one_within (Origin.a_file name) p q r n u = file_within name p.files q.files r n u.cause

pub unloaded_within : (os : List Origin) (p q : Seen) (r : Refusal) → (r ≡ refusals.InputTooLong → ⊥) → AreUnloaded os p q r → AreReadWithin os p q
unloaded_within [] p q r n u = absurd u
unloaded_within (o ∷ os) p q r n (inl u) = inl (one_within o p q r n u)
unloaded_within (o ∷ os) p q r n (inr u) = inr (u.0, u.1, u.2, unloaded_within os u.1 q r n u.3)

-- where nothing moved nothing was read
took_none : (left : Option (List ℕ)) (given : ℕ) → TookAtMost left left given given 67108864
took_none left given = record { bytes = []; took = record { bytes_left = Consumes-nil left; count = (omega arith, omega arith) }; at_most = omega arith }

nothing_of : (o : Origin) (p : Seen) → IsReadWithin o p p
nothing_of Origin.the_input p = took_none p.input.left p.input.given
nothing_of (Origin.a_file name) p = inl refl

pub nothing_read : (os : List Origin) (p : Seen) → AreReadWithin os p p
nothing_read [] p = refl
nothing_read (o ∷ os) p = inl (nothing_of o p)

pub loaded_within : (os : List Origin) (p q : Seen) (ts : List (List ℕ)) → AreLoaded os p q ts → AreReadWithin os p q
loaded_within [] p q [] l = l
loaded_within [] p q (t ∷ ts) l = absurd l
loaded_within (o ∷ os) p q [] l = absurd l
loaded_within (o ∷ os) p q (t ∷ ts) l = inr (t, l.0, l.1, loaded_within os l.0 q ts l.2)

-- ---- what is as before

pub loaded_input : (os : List Origin) (p q : Seen) (ts : List (List ℕ)) → (HaveInput os → ⊥) → AreLoaded os p q ts → q.input ≡ p.input
loaded_input [] p q [] n l = ap (λ (x : Seen). x.input) l
loaded_input [] p q (t ∷ ts) n l = absurd l
loaded_input (o ∷ os) p q [] n l = absurd l
loaded_input (Origin.the_input ∷ os) p q (t ∷ ts) n l = absurd (n tt)
loaded_input (Origin.a_file name ∷ os) p q (t ∷ ts) n l = loaded_input os l.0 q ts n l.2 ∙ l.1.input

pub unloaded_input : (os : List Origin) (p q : Seen) (r : Refusal) → (HaveInput os → ⊥) → AreUnloaded os p q r → q.input ≡ p.input
unloaded_input [] p q r n u = absurd u
unloaded_input (Origin.the_input ∷ os) p q r n u = absurd (n tt)
unloaded_input (Origin.a_file name ∷ os) p q r n (inl u) = u.input
unloaded_input (Origin.a_file name ∷ os) p q r n (inr u) = unloaded_input os u.1 q r n u.3 ∙ u.2.input

pub loaded_files : (os : List Origin) (p q : Seen) (ts : List (List ℕ)) → (HaveFile os → ⊥) → AreLoaded os p q ts → q.files ≡ p.files
loaded_files [] p q [] n l = ap (λ (x : Seen). x.files) l
loaded_files [] p q (t ∷ ts) n l = absurd l
loaded_files (o ∷ os) p q [] n l = absurd l
loaded_files (Origin.the_input ∷ os) p q (t ∷ ts) n l = loaded_files os l.0 q ts n l.2 ∙ l.1.files
loaded_files (Origin.a_file name ∷ os) p q (t ∷ ts) n l = absurd (n tt)

pub unloaded_files : (os : List Origin) (p q : Seen) (r : Refusal) → (HaveFile os → ⊥) → AreUnloaded os p q r → q.files ≡ p.files
unloaded_files [] p q r n u = absurd u
unloaded_files (Origin.the_input ∷ os) p q r n (inl u) = u.files
unloaded_files (Origin.the_input ∷ os) p q r n (inr u) = unloaded_files os u.1 q r n u.3 ∙ u.2.files
unloaded_files (Origin.a_file name ∷ os) p q r n u = absurd (n tt)

pub loaded_kept : (os : List Origin) (p q : Seen) (ts : List (List ℕ)) → AreLoaded os p q ts → q.files.bytes ≡ p.files.bytes
loaded_kept [] p q [] l = ap (λ (x : Seen). x.files.bytes) l
loaded_kept [] p q (t ∷ ts) l = absurd l
loaded_kept (o ∷ os) p q [] l = absurd l
loaded_kept (o ∷ os) p q (t ∷ ts) l = loaded_kept os l.0 q ts l.2 ∙ one_kept o p l.0 t l.1

one_unloaded_kept : (o : Origin) (p q : Seen) (r : Refusal) → IsUnloaded o p q r → q.files.bytes ≡ p.files.bytes
one_unloaded_kept Origin.the_input p q r u = ap (λ (f : FilesSeen). f.bytes) u.files
one_unloaded_kept (Origin.a_file name) p q r u = u.kept

pub unloaded_kept : (os : List Origin) (p q : Seen) (r : Refusal) → AreUnloaded os p q r → q.files.bytes ≡ p.files.bytes
unloaded_kept [] p q r u = absurd u
unloaded_kept (o ∷ os) p q r (inl u) = one_unloaded_kept o p q r u
unloaded_kept (o ∷ os) p q r (inr u) = unloaded_kept os u.1 q r u.3 ∙ one_kept o p u.1 u.0 u.2

pub loaded_calm : (os : List Origin) (p q : Seen) (ts : List (List ℕ)) → AreLoaded os p q ts →
    (q.input.faults ≡ p.input.faults) × (q.files.unopened ≡ p.files.unopened) × (q.files.faults ≡ p.files.faults)
loaded_calm [] p q [] l = (ap (λ (x : Seen). x.input.faults) l, ap (λ (x : Seen). x.files.unopened) l, ap (λ (x : Seen). x.files.faults) l)
loaded_calm [] p q (t ∷ ts) l = absurd l
loaded_calm (o ∷ os) p q [] l = absurd l
loaded_calm (o ∷ os) p q (t ∷ ts) l =
    let c = loaded_calm os l.0 q ts l.2 in
    (c.0 ∙ one_calm o p l.0 t l.1, c.1 ∙ one_unopened o p l.0 t l.1, c.2 ∙ one_faults o p l.0 t l.1)

one_input_calm : (o : Origin) (p q : Seen) (r : Refusal) → (r ≡ refusals.ReadFault → ⊥) → IsUnloaded o p q r → q.input.faults ≡ p.input.faults
one_input_calm Origin.the_input p q r n u = u.calm n
one_input_calm (Origin.a_file name) p q r n u = ap (λ (i : InputSeen). i.faults) u.input

pub unloaded_input_calm : (os : List Origin) (p q : Seen) (r : Refusal) → (r ≡ refusals.ReadFault → ⊥) → AreUnloaded os p q r → q.input.faults ≡ p.input.faults
unloaded_input_calm [] p q r n u = absurd u
unloaded_input_calm (o ∷ os) p q r n (inl u) = one_input_calm o p q r n u
unloaded_input_calm (o ∷ os) p q r n (inr u) = unloaded_input_calm os u.1 q r n u.3 ∙ one_calm o p u.1 u.0 u.2

one_files_calm : (o : Origin) (p q : Seen) (r : Refusal) → (r ≡ refusals.ReadFault → ⊥) → IsUnloaded o p q r → q.files.faults ≡ p.files.faults
one_files_calm Origin.the_input p q r n u = ap (λ (f : FilesSeen). f.faults) u.files
one_files_calm (Origin.a_file name) p q r n u = u.calm n

pub unloaded_files_calm : (os : List Origin) (p q : Seen) (r : Refusal) → (r ≡ refusals.ReadFault → ⊥) → AreUnloaded os p q r → q.files.faults ≡ p.files.faults
unloaded_files_calm [] p q r n u = absurd u
unloaded_files_calm (o ∷ os) p q r n (inl u) = one_files_calm o p q r n u
unloaded_files_calm (o ∷ os) p q r n (inr u) = unloaded_files_calm os u.1 q r n u.3 ∙ one_faults o p u.1 u.0 u.2

one_open_calm : (o : Origin) (p q : Seen) (r : Refusal) → (r ≡ refusals.OpenFault → ⊥) → IsUnloaded o p q r → q.files.unopened ≡ p.files.unopened
one_open_calm Origin.the_input p q r n u = ap (λ (f : FilesSeen). f.unopened) u.files
one_open_calm (Origin.a_file name) p q r n u = u.open_calm n

pub unloaded_open_calm : (os : List Origin) (p q : Seen) (r : Refusal) → (r ≡ refusals.OpenFault → ⊥) → AreUnloaded os p q r →
    q.files.unopened ≡ p.files.unopened
unloaded_open_calm [] p q r n u = absurd u
unloaded_open_calm (o ∷ os) p q r n (inl u) = one_open_calm o p q r n u
unloaded_open_calm (o ∷ os) p q r n (inr u) = unloaded_open_calm os u.1 q r n u.3 ∙ one_unopened o p u.1 u.0 u.2

-- ---- one more source

pub loaded_more : (os : List Origin) (o : Origin) (p m q : Seen) (ts : List (List ℕ)) (t : List ℕ) → AreLoaded os p m ts → IsLoaded o m q t →
    AreLoaded (os ++ (o ∷ [])) p q (ts ++ (t ∷ []))
loaded_more [] o p m q [] t l k = (q, subst (λ (x : Seen). IsLoaded o x q t) l k, refl)
loaded_more [] o p m q (u ∷ us) t l k = absurd l
loaded_more (n ∷ os) o p m q [] t l k = absurd l
loaded_more (n ∷ os) o p m q (u ∷ us) t l k = (l.0, l.1, loaded_more os o l.0 m q us t l.2 k)

pub unloaded_more : (os rest : List Origin) (o : Origin) (p m q : Seen) (ts : List (List ℕ)) (r : Refusal) → AreLoaded os p m ts → IsUnloaded o m q r →
    AreUnloaded (os ++ (o ∷ rest)) p q r
unloaded_more [] rest o p m q [] r l k = inl (subst (λ (x : Seen). IsUnloaded o x q r) l k)
unloaded_more [] rest o p m q (u ∷ us) r l k = absurd l
unloaded_more (n ∷ os) rest o p m q [] r l k = absurd l
unloaded_more (n ∷ os) rest o p m q (u ∷ us) r l k = inr (u, l.0, l.1, unloaded_more os rest o l.0 m q us r l.2 k)

-- a text that finds no room behind its loading
pub loaded_full : (o : Origin) (p q : Seen) (t : List ℕ) → IsLoaded o p q t → IsUnloaded o p q refusals.Memory
loaded_full Origin.the_input p q t l = record { cause = record { bytes = t; took = l.took; at_most = l.short }; calm = λ n. l.calm; files = l.files }
loaded_full (Origin.a_file name) p q t l = record {
  cause = inr (record { bytes = t; took = l.took; at_most = l.short });
  kept = l.kept;
  open_calm = λ n. l.opened;
  calm = λ n. l.calm;
  input = l.input;
}
