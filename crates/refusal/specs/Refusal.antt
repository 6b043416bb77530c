-- The number and the place of each refusal, and which of them end a fit. Definitions only.
use Rattle.std.specs.Prelude.{Bool, ◌||◌, ℕ, eqb}
use Rattle.refusal.specs.declared.Refusal.{Refusal}
use Rattle.refusal.specs.declared.Failure.{Failure}
use Rattle.refusal.specs.declared.Failure.TheVariants.{Search as SearchF, Tolerance as ToleranceF}
use Rattle.refusal.specs.declared.Refusal.TheVariants.{Size, Length, Setting, Scratch, NotFinite, Constant, Search, Tolerance, Record, NoRounds, Version, SheetLength, Flags, Claim, Pair, TooLarge}

abbrev pub number_of : Refusal → ℕ
number_of Size = 1
number_of Length = 2
number_of Setting = 3
number_of Scratch = 4
number_of (NotFinite i) = 5
number_of (Constant j) = 6
number_of Search = 7
number_of Tolerance = 8
number_of Record = 9
number_of NoRounds = 10
number_of Version = 11
number_of SheetLength = 12
number_of Flags = 13
number_of (Claim i) = 14
number_of (Pair i) = 15
number_of TooLarge = 16

-- the index of a value, a column, a row of the sheet; 0 for the others
abbrev pub place_of : Refusal → ℕ
place_of Size = 0
place_of Length = 0
place_of Setting = 0
place_of Scratch = 0
place_of (NotFinite i) = i
place_of (Constant j) = j
place_of Search = 0
place_of Tolerance = 0
place_of Record = 0
place_of NoRounds = 0
place_of Version = 0
place_of SheetLength = 0
place_of Flags = 0
place_of (Claim i) = i
place_of (Pair i) = i
place_of TooLarge = 0

-- a fit that fails is refused
abbrev pub refused_by : Failure → Refusal
refused_by SearchF = Search
refused_by ToleranceF = Tolerance

-- the numbers that a failed fit is refused with: such a call has ended the fit, any other refusal leaves all as it was
abbrev pub ends_fit : ℕ → Bool
ends_fit n = eqb n (number_of (refused_by SearchF)) || eqb n (number_of (refused_by ToleranceF))
