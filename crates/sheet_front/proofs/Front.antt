-- What a front puts before a body: where the body begins, the length and the family that are read again; and a sheet by its front and body. Assumes nothing.
use mathlib.Core.Path.{◌≡◌, refl, sym, ap, ◌∙◌}
use mathlib.Core.List.{List, [], ◌∷◌, ◌++◌, append_assoc}
use Prim.Native.Nat.{ℕ, ◌+◌, ◌^◌, ◌≤◌, ◌<◌}
use native.Mathlib.Omega.{arith}
use lib.ListN.{length, get_or, take, drop, length-append, length-drop, take-append-drop}
use lib.Seq.{sets-eq, take_at, drop_at, drop-drop, drop-cons, get_or-append-add}
use Rattle.arrays.specs.Part.{put}
use Rattle.big_endian.specs.Bytes.{big_endian, bytes_of}
use Rattle.big_endian.proofs.Bytes.{Bytes, length-bytes, same_bytes, number-back, bytes_back}
use Rattle.sheet_front.specs.declared.Version.{Version}
use Rattle.sheet_front.specs.declared.Version.TheVariants.{One, Two}
use Rattle.sheet_front.specs.Front.{version_of, rest_of, family_of, body_at, body_of, front_bytes, front_of, sheet_with}

pub front_long : (v : Version) (k : ℕ) → length (front_of v k) ≡ front_bytes v
front_long One k = simp length-bytes
front_long (Two family) k = simp (length-append, length-bytes)

pub front-range : (v : Version) → (5 ≤ front_bytes v) × (front_bytes v ≤ 9)
front-range One = (omega arith, omega arith)
front-range (Two family) = (omega arith, omega arith)

pub sheet-long : (v : Version) (body : List ℕ) → length (sheet_with v body) ≡ front_bytes v + length body
sheet-long v body = length-append (front_of v (length body)) body ∙ ap (λ (k : ℕ). k + length body) (front_long v (length body))

body-begins : (v : Version) (body : List ℕ) → body_at (version_of (sheet_with v body)) ≡ front_bytes v
body-begins One body = refl
body-begins (Two family) body = refl

pub body_back : (v : Version) (body : List ℕ) → body_of (sheet_with v body) ≡ body
body_back v body = rw (body-begins v body) (drop_at (front_of v (length body)) body (front_bytes v) (front_long v (length body)))

-- ---- a sheet at an output's front

pub laid-there : (sheet out : List ℕ) → length sheet ≤ length out
    → (take (length sheet) (put out 0 sheet) ≡ sheet) × (drop (length sheet) (put out 0 sheet) ≡ drop (length sheet) out)
unfolding put
laid-there sheet out h =
    let z : 0 + length sheet ≡ length sheet = omega arith in
    rw (sets-eq sheet out 0 (omega arith), z) (take_at sheet (drop (length sheet) out) (length sheet) refl, drop_at sheet (drop (length sheet) out) (length sheet) refl)

-- ---- what is read again

abbrev pub version-number : Version → ℕ
version-number One = 1
version-number (Two family) = 2

pub version-back : (v : Version) (body : List ℕ) → version_of (sheet_with v body) ≡ version-number v
version-back One body = refl
version-back (Two family) body = refl

-- a number right behind `at` bytes
number_behind : (front rest : List ℕ) (at k v : ℕ) → length front ≡ at → v < 256 ^ k → big_endian (front ++ (bytes_of k v ++ rest)) at k ≡ v
number_behind front rest at k v e h =
    same_bytes (front ++ (bytes_of k v ++ rest)) (bytes_of k v ++ rest) at 0 k
    (λ j l. ap (λ (i : ℕ). get_or (front ++ (bytes_of k v ++ rest)) i 0) (place j) ∙ get_or-append-add front (bytes_of k v ++ rest) (0 + j) 0)
    ∙ number-back k v rest h
  where
    place : (j : ℕ) → at + j ≡ length front + (0 + j)
    place j = omega arith

pub rest_back : (v : Version) (body : List ℕ) → length body + 4 < 2 ^ 32 → rest_of (sheet_with v body) + 5 ≡ length (sheet_with v body)
rest_back One body h = omega (arith, number_behind (1 ∷ []) body 1 4 (length body) refl (omega arith), sheet-long One body)
rest_back (Two family) body h =
    let k = length body + 4 in
    let e : rest_of (sheet_with (Two family) body) ≡ k =
    rw (append_assoc (bytes_of 4 k) (bytes_of 4 family) body) (number_behind (2 ∷ []) (bytes_of 4 family ++ body) 1 4 k refl h) in
    omega (arith, e, sheet-long (Two family) body)

pub family-back : (family : ℕ) (body : List ℕ) → family < 2 ^ 32 → family_of (sheet_with (Two family) body) ≡ family
family-back family body h =
    let k = length body + 4 in
    rw (append_assoc (bytes_of 4 k) (bytes_of 4 family) body) (number_behind (2 ∷ bytes_of 4 k) body 5 4 family (simp length-bytes) h)

-- ---- a sheet is its front and its body

parts : (b : List ℕ) → Bytes b → 5 ≤ length b → version_of b ∷ (bytes_of 4 (rest_of b) ++ drop 5 b) ≡ b
parts b B h =
    rw (bytes_back b 1 4 B h, ← drop-drop 4 1 b, take-append-drop 4 (drop 1 b)) (sym (drop-cons b 0 0 (omega arith)))

pub sheet-parts-1 : (b : List ℕ) → Bytes b → 5 ≤ length b → version_of b ≡ 1 → rest_of b + 5 ≡ length b → sheet_with One (body_of b) ≡ b
sheet-parts-1 b B h e r =
    let k : length (drop 5 b) ≡ rest_of b = omega (arith, length-drop 5 b) in
    rw (e, k) (rw e at (parts b B h))

pub sheet-parts-2 : (b : List ℕ) → Bytes b → 9 ≤ length b → version_of b ≡ 2 → rest_of b + 5 ≡ length b
    → sheet_with (Two (family_of b)) (body_of b) ≡ b
sheet-parts-2 b B h e r =
    let k : length (drop 9 b) + 4 ≡ rest_of b = omega (arith, length-drop 9 b) in
    rw (e, k, append_assoc (bytes_of 4 (rest_of b)) (bytes_of 4 (family_of b)) (drop 9 b), bytes_back b 5 4 B h, ← drop-drop 4 5 b, take-append-drop 4 (drop 5 b))
    (rw e at (parts b B (omega arith)))
