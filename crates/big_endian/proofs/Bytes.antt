-- From a number to its bytes and back, and from bytes to their number and back; a number in bytes that stand elsewhere too. Assumes nothing.
use mathlib.Core.Path.{◌≡◌, refl, sym, ap, ◌∙◌, subst}
use mathlib.Core.List.{List, [], ◌∷◌, ◌++◌, append_assoc}
use Prim.Native.Nat.{ℕ, zero, suc, ◌+◌, ◌*◌, ◌/◌, ◌%◌, ◌^◌, ◌≤◌, ◌<◌}
use native.Mathlib.Nat.{pow-suc, div-lt_iff_lt-mul, zero-lt-suc}
use native.Mathlib.Numerals.{add-one}
use native.Mathlib.Omega.{arith}
use lib.ListN.{length, get_or, take, drop, length-append, length-drop, get_or-append}
use lib.Seq.{get_or-append-add, get_or-drop, take-suc}
use Rattle.big_endian.specs.Bytes.{big_endian, bytes_of}

pub length-bytes : (k v : ℕ) → length (bytes_of k v) ≡ k
unfolding bytes_of
length-bytes zero v = refl
length-bytes (suc k) v = length-append (bytes_of k (v / 256)) (v % 256 ∷ []) ∙ rw (length-bytes k (v / 256)) (add-one k)

-- ---- bytes that stand elsewhere too

pub same_bytes : (b b' : List ℕ) (at at' k : ℕ) → ((j : ℕ) → j < k → get_or b (at + j) 0 ≡ get_or b' (at' + j) 0) → big_endian b at k ≡ big_endian b' at' k
unfolding big_endian
same_bytes b b' at at' zero h = refl
same_bytes b b' at at' (suc k) h =
    let e : get_or b (at + k) 0 ≡ get_or b' (at' + k) 0 = h k (omega arith) in
    rw (same_bytes b b' at at' k (λ j l. h j (omega arith)), e)

pub in-front : (xs ys : List ℕ) (at k : ℕ) → at + k ≤ length xs → big_endian (xs ++ ys) at k ≡ big_endian xs at k
in-front xs ys at k h = same_bytes (xs ++ ys) xs at at k (λ j l. get_or-append xs ys 0 (at + j) (omega arith))

-- ---- a number, its bytes, and the number

parts : (v : ℕ) → v / 256 * 256 + v % 256 ≡ v
parts v = omega arith

pub number-back : (k v : ℕ) (rest : List ℕ) → v < 256 ^ k → big_endian (bytes_of k v ++ rest) 0 k ≡ v
unfolding big_endian bytes_of
number-back zero v rest h = omega arith
number-back (suc k) v rest h =
    let xs = bytes_of k (v / 256) in
    let front = number-back k (v / 256) (v % 256 ∷ rest) ((div-lt_iff_lt-mul (zero-lt-suc 255)).1 (subst (λ (x : ℕ). v < x) (pow-suc 256 k) h)) in
    let place : 0 + k ≡ length xs + 0 = omega (arith, length-bytes k (v / 256)) in
    let last = ap (λ (j : ℕ). get_or (xs ++ (v % 256 ∷ rest)) j 0) place ∙ get_or-append-add xs (v % 256 ∷ rest) 0 0 in
    let split : bytes_of (suc k) v ++ rest ≡ xs ++ (v % 256 ∷ rest) = append_assoc xs (v % 256 ∷ []) rest in
    ap (λ (b : List ℕ). big_endian b 0 k * 256 + get_or b (0 + k) 0) split ∙ rw (front, last) (parts v)

-- ---- bytes, their number, and the bytes

-- each is below 256, as every u8 is
abbrev pub Bytes : List ℕ → Type 0
Bytes b = (i : ℕ) → get_or b i 0 < 256

quotient : (x c : ℕ) → c < 256 → (x * 256 + c) / 256 ≡ x
quotient x c h = omega arith

remainder : (x c : ℕ) → c < 256 → (x * 256 + c) % 256 ≡ c
remainder x c h = omega arith

pub bytes_back : (b : List ℕ) (at k : ℕ) → Bytes b → at + k ≤ length b → bytes_of k (big_endian b at k) ≡ take k (drop at b)
unfolding big_endian bytes_of
bytes_back b at zero B h = refl
bytes_back b at (suc k) B h =
    let q = quotient (big_endian b at k) (get_or b (at + k) 0) (B (at + k)) in
    let r = remainder (big_endian b at k) (get_or b (at + k) 0) (B (at + k)) in
    rw (q, r, bytes_back b at k B (omega arith), ← get_or-drop at b k 0) (sym (take-suc (drop at b) k 0 (simp length-drop (omega arith))))
