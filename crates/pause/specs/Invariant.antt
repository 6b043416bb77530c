-- An invariant I n s of the data s after n rounds were opened, and what the parts must keep of it. Assumes nothing.
use Rattle.std.specs.Prelude.{ℕ, ◌+◌, ◌<◌, ◌≡◌}
use Rattle.pause.specs.Parts.{Opened, ready, done, fails, Turned, more, stop, Tried, accept, halve, Parts, End, end}
use Rattle.pause.specs.Paused.{State, counts_of, data_of, opened_by}

-- P of the data, whatever was found; likewise below
abbrev pub OfOpened : {X S : Type 0} → (S → Type 0) → Opened X S → Type 0
OfOpened P (ready s) = P s
OfOpened P (done s) = P s
OfOpened P (fails x s) = P s

abbrev pub OfTurned : {S : Type 0} → (S → Type 0) → Turned S → Type 0
OfTurned P (more s) = P s
OfTurned P (stop s) = P s

abbrev pub OfTried : {S : Type 0} → (S → Type 0) → Tried S → Type 0
OfTried P (accept s) = P s
OfTried P (halve s) = P s

module _ {S : Type 0} (I : ℕ → S → Type 0) where
  -- the parts keep I in a fit of at most M rounds
  pub record Keeps {X : Type 0} (F : Parts X S) (M : ℕ) : Type 0 where
    pub by-opens : (n : ℕ) (s : S) → n < M → I n s → OfOpened (I (n + 1)) (F.opens n s)
    pub by-turns : (n k : ℕ) (s : S) → I n s → OfTurned (I n) (F.turns k s)
    pub by-aim : (n : ℕ) (s : S) → I n s → I n (F.aim s)
    pub by-tries : (n : ℕ) (s : S) → I n s → OfTried (I n) (F.tries s)

  -- at a pause: the stage tells the rounds opened, as refusal 9 demands, and I holds at their count
  pub record Kept (x : State S) : Type 0 where
    pub opened-all : (counts_of x).rounds ≡ opened_by x
    pub holds : I (counts_of x).rounds (data_of x)

  -- at an end
  unfoldable pub EndKept : {X : Type 0} → End X S → Type 0
  EndKept (end h c s) = I c.rounds s
