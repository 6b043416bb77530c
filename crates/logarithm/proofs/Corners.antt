-- A few logarithms, computed: each branch of the definition with k = 0 and with another k, and a subnormal. Assumes nothing.
use mathlib.Core.Path.{◌≡◌, refl}
use mathlib.Core.List.{List, [], ◌∷◌, map}
use Prim.Native.Nat.{ℕ}
use lib.Ieee.{binary64, of_bits, to_bits, of_int, add, sub, mul, div, eq}
use Rattle.logarithm.specs.Log.{close_of, series_of, mid_of, out_of, far_of, normal_ln, ln_of}

-- the bits of x and of its logarithm
abbrev pub corners : List (ℕ × ℕ)
corners =
    (0x3ff0_0000_0000_0000, 0)  -- 1: +0
    ∷ (0x4000_0000_0000_0000, 0x3fe6_2e42_fefa_39ef)  -- 2
    ∷ (0x3fe0_0000_0000_0000, 0xbfe6_2e42_fefa_39ef)  -- 0.5
    ∷ (0x3ff0_0000_1ad7_f29b, 0x3e7a_d7f2_847b_6492)  -- 1.0000001: close, k = 0
    ∷ (0x7fef_ffff_ffff_ffff, 0x4086_2e42_fefa_39ef)  -- the largest: close, k = 1024
    ∷ (0x3ff6_6666_6666_6666, 0x3fd5_88c2_d913_348e)  -- 1.4: mid, k = 0
    ∷ (0x4006_6666_6666_6666, 0x3ff0_7952_35c1_ea1b)  -- 2.8: mid, k = 1
    ∷ (0x3fec_cccc_cccc_cccd, 0xbfba_f8e8_210a_415c)  -- 0.9: out, k = 0
    ∷ (0x4024_0000_0000_0000, 0x4002_6bb1_bbb5_5516)  -- 10: out, k = 3
    ∷ (1, 0xc087_4385_446d_71c3)  -- 2 ^ -1074
    ∷ []

pub corners-hold : map (λ (p : ℕ × ℕ). (p.0, to_bits binary64 (ln_of (of_bits binary64 p.0)))) corners ≡ corners
unfolding close_of series_of mid_of out_of far_of normal_ln ln_of of_bits to_bits of_int add sub mul div eq
corners-hold = refl
