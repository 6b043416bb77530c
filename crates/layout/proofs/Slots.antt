-- The slots of a fit tile the needed words; reading and writing memory by slots is reading and updating the store. Assumes nothing.
use mathlib.Core.Path.{◌≡◌, refl, sym, ap, ◌∙◌, subst}
use mathlib.Core.List.{List, [], ◌∷◌}
use Prim.Native.Nat.{ℕ, ◌+◌, ◌≤◌, ◌<◌}
use native.Mathlib.Omega.{arith}
use lib.Dec.{lit<}
use lib.ListN.{length, get_or}
use lib.Ieee.{Float}
use Rattle.arrays.specs.Part.{put}
use Rattle.arrays.specs.Vectors.{fill_of}
use Rattle.layout.specs.declared.Sizes.{Sizes}
use Rattle.layout.specs.Slots.{Slot, num, size, off, names, words, Store, ◌⟨◌≔◌⟩, flatly, Has, vars, rest, all_of}
use Rattle.layout.specs.Slots.{Slot.W, Slot.U, Slot.NEWW, Slot.NEWU, Slot.F, Slot.NEWF, Slot.Q1, Slot.Q2, Slot.D1, Slot.D2, Slot.PRB, Slot.PRS}
use Rattle.layout.specs.Slots.{Slot.DXU, Slot.GRAD, Slot.R, Slot.RR, Slot.ZS, Slot.ZZ, Slot.PS, Slot.PP, Slot.XNU, Slot.ATAX, Slot.CENTRE, Slot.SCALE}
use Rattle.layout.specs.Slots.{Slot.RECIP, Slot.SPARE, Slot.LEFT, Slot.RIGHT, Slot.SUMS, Slot.GRAM, Slot.Y, Slot.Z, Slot.NU, Slot.NEWZ, Slot.DESIGN}
use Rattle.layout.proofs.Store.{Table, Tiled, tiled-join, total, upd_same, upd_other, cut, need, save, sized-upd}
use Rattle.layout.proofs.Store.{Holds, held, wrote, cut_holds, length-holds, rest-holds, cleared}

-- in two lists, each short enough for omega
abbrev early : List Slot
early = W ∷ U ∷ NEWW ∷ NEWU ∷ F ∷ NEWF ∷ Q1 ∷ Q2 ∷ D1 ∷ D2 ∷ PRB ∷ PRS ∷ DXU ∷ GRAD ∷ R ∷ RR ∷ ZS ∷ ZZ ∷ []

abbrev late : List Slot
late = PS ∷ PP ∷ XNU ∷ ATAX ∷ CENTRE ∷ SCALE ∷ RECIP ∷ SPARE ∷ LEFT ∷ RIGHT ∷ SUMS ∷ GRAM ∷ Y ∷ Z ∷ NU ∷ NEWZ ∷ DESIGN ∷ []

pub slot_of : (s : Slot) → get_or names (num s) W ≡ s
slot_of W = refl
slot_of U = refl
slot_of NEWW = refl
slot_of NEWU = refl
slot_of F = refl
slot_of NEWF = refl
slot_of Q1 = refl
slot_of Q2 = refl
slot_of D1 = refl
slot_of D2 = refl
slot_of PRB = refl
slot_of PRS = refl
slot_of DXU = refl
slot_of GRAD = refl
slot_of R = refl
slot_of RR = refl
slot_of ZS = refl
slot_of ZZ = refl
slot_of PS = refl
slot_of PP = refl
slot_of XNU = refl
slot_of ATAX = refl
slot_of CENTRE = refl
slot_of SCALE = refl
slot_of RECIP = refl
slot_of SPARE = refl
slot_of LEFT = refl
slot_of RIGHT = refl
slot_of SUMS = refl
slot_of GRAM = refl
slot_of Y = refl
slot_of Z = refl
slot_of NU = refl
slot_of NEWZ = refl
slot_of DESIGN = refl

pub listed : (s : Slot) → num s < 35
listed W = lit< tt
listed U = lit< tt
listed NEWW = lit< tt
listed NEWU = lit< tt
listed F = lit< tt
listed NEWF = lit< tt
listed Q1 = lit< tt
listed Q2 = lit< tt
listed D1 = lit< tt
listed D2 = lit< tt
listed PRB = lit< tt
listed PRS = lit< tt
listed DXU = lit< tt
listed GRAD = lit< tt
listed R = lit< tt
listed RR = lit< tt
listed ZS = lit< tt
listed ZZ = lit< tt
listed PS = lit< tt
listed PP = lit< tt
listed XNU = lit< tt
listed ATAX = lit< tt
listed CENTRE = lit< tt
listed SCALE = lit< tt
listed RECIP = lit< tt
listed SPARE = lit< tt
listed LEFT = lit< tt
listed RIGHT = lit< tt
listed SUMS = lit< tt
listed GRAM = lit< tt
listed Y = lit< tt
listed Z = lit< tt
listed NU = lit< tt
listed NEWZ = lit< tt
listed DESIGN = lit< tt

pub tiled : (sh : Sizes) → Tiled num (size sh) (off sh) names 0 0
unfolding total
tiled sh = tiled-join num (size sh) (off sh) early late 0 0 (omega arith) (omega arith)

abbrev pub table : Sizes → Table Slot
table sh = record {
  num = num;
  size = size sh;
  off = off sh;
  names = names;
  tiled = tiled sh;
  all = listed;
  inj = λ s t q. sym (slot_of s) ∙ ap (λ (i : ℕ). get_or names i W) q ∙ slot_of t;
}

pub need-is : (sh : Sizes) → need (table sh) ≡ words sh
unfolding need total words
need-is sh = omega arith

-- ---- an update

pub seen_same : (v : Store) (w : Slot) (f : Store → List Float) → (v ⟨ w ≔ f ⟩) w ≡ f v
unfolding ◌⟨◌≔◌⟩
seen_same v w f = upd_same num v w (f v)

pub seen_other : (v : Store) (w : Slot) (f : Store → List Float) (s : Slot) → (num s ≡ num w → ⊥) → (v ⟨ w ≔ f ⟩) s ≡ v s
unfolding ◌⟨◌≔◌⟩
seen_other v w f s h = upd_other num v w (f v) s h

pub upd-sized : (sh : Sizes) (v : Store) (w : Slot) (f : Store → List Float) → ((s : Slot) → length (v s) ≡ size sh s) → length (f v) ≡ size sh w
    → (s : Slot) → length ((v ⟨ w ≔ f ⟩) s) ≡ size sh s
unfolding ◌⟨◌≔◌⟩
upd-sized sh v w f z l s = sized-upd (table sh) v z w (f v) l s

-- ---- memory that holds a store

-- it holds the vectors of the table
to-table : (sh : Sizes) {e : List Float} {v : Store} {m : List Float} → Has sh e v m → Holds (table sh) e v m
unfolding flatly save
to-table sh h = record { is = h.is; sized = h.sized }

of-table : (sh : Sizes) {e : List Float} {v : Store} {m : List Float} → Holds (table sh) e v m → Has sh e v m
unfolding flatly save
of-table sh h = record { is = h.is; sized = h.sized }

pub start : (sh : Sizes) (m : List Float) → words sh ≤ length m → Has sh (rest sh m) (vars sh m) m
unfolding cut
start sh m h = of-table sh (rw need-is at (held (table sh) m (rw need-is h)))

-- a write to w of what f makes of the vectors in memory
pub then : (sh : Sizes) {e : List Float} {v : Store} {m : List Float} → Has sh e v m → (w : Slot) (f : Store → List Float) → length (f v) ≡ size sh w
    → {m' : List Float} → m' ≡ put m (off sh w) (f (vars sh m)) → Has sh e (v ⟨ w ≔ f ⟩) m'
unfolding ◌⟨◌≔◌⟩ cut
then sh {v} {m} h w f l {m'} q =
    let k = to-table sh h in
    of-table sh (wrote k w (f v) l m' (q ∙ ap (λ (u : Store). put m (off sh w) (f u)) (cut_holds k)))

pub vars-of : (sh : Sizes) {e : List Float} {v : Store} {m : List Float} → Has sh e v m → vars sh m ≡ v
unfolding cut
vars-of sh h = cut_holds (to-table sh h)

pub rest_of : (sh : Sizes) {e : List Float} {v : Store} {m : List Float} → Has sh e v m → rest sh m ≡ e
rest_of sh h = rw need-is at (rest-holds (to-table sh h))

pub length-of : (sh : Sizes) {e : List Float} {v : Store} {m : List Float} → Has sh e v m → length m ≡ words sh + length e
length-of sh h = rw need-is at (length-holds (to-table sh h))

pub flat-of : (sh : Sizes) {e : List Float} {v : Store} {m : List Float} → Has sh e v m → m ≡ flatly sh v e
flat-of sh h = h.is

-- what is read of the vectors in memory
pub got : {X : Type 0} (sh : Sizes) {e : List Float} {v : Store} {m : List Float} → Has sh e v m → (f : Store → X) → f (vars sh m) ≡ f v
got sh h f = ap f (vars-of sh h)

-- a call whose contract speaks of the vectors in the memory that it was given
pub next : (sh : Sizes) {e : List Float} {v : Store} {m : List Float} → Has sh e v m → (g : Store → Store)
    → {m' : List Float} → Has sh (rest sh m) (g (vars sh m)) m' → Has sh e (g v) m'
next sh {e} {v} {m} h g {m'} k =
    let k2 : Has sh (rest sh m) (g v) m' = subst (λ (u : Store). Has sh (rest sh m) (g u) m') (vars-of sh h) k in
    subst (λ (r : List Float). Has sh r (g v) m') (rest_of sh h) k2

-- the needed words overwritten
pub cleared-of : (sh : Sizes) {e : List Float} {v : Store} {m : List Float} → Has sh e v m → (x : Float) (m' : List Float)
    → m' ≡ put m 0 (fill_of x (words sh)) → Has sh e (all_of sh x) m'
cleared-of sh {m} h x m' q = of-table sh (cleared (to-table sh h) x m' (q ∙ ap (λ (k : ℕ). put m 0 (fill_of x k)) (sym (need-is sh))))
