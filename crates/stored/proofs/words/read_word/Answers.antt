-- `stored::words::read_word` meets its contract: each return is the case that the tests before it pick. Assumes nothing.
use Rattle.std.proofs.Common.{◌≡◌, ◌+◌, ◌-◌, length, take, drop, sym, ap, ◌∙◌, arith, le-leb}
use borrow.Author.Tests.{lt-leb}
use Rattle.stored.specs.Words.{hex_from, word_at}
use Rattle.stored.proofs.words.read_word.Goals as goal
use Rattle.stored.proofs.words.read_word.Goals.{then-s-lt17-via-then-s-lt17, then-s-lt17-via-else-s-lt17+then-s-at}

pub returns-then-s-lt17 : goal.returns-then-s-lt17
unfolding word_at
returns-then-s-lt17 c =
    let a = c.args in
    elim c.then-s-lt17.branch [
      | then-s-lt17-via-then-s-lt17 w ↦ simp (lt-leb (a.at + 17) (length a.s.now) (omega arith))
      | then-s-lt17-via-else-s-lt17+then-s-at w ↦ simp (lt-leb (a.at + 17) (length a.s.now) (omega arith))
    ]

pub returns-then-ends_word : goal.returns-then-ends_word
unfolding word_at
returns-then-ends_word c =
    let a = c.args in
    simp (le-leb (a.at + 17) (length a.s.now) (omega arith), sym c.ends_word.ensures ∙ c.if-ends_word.true) (c.number.ensures ∙ ap (λ k. hex_from 0 (take k (drop a.at a.s.now))) (let same : (a.at + 16) - a.at ≡ 16 = omega arith in same))

pub returns-else-ends_word : goal.returns-else-ends_word
unfolding word_at
returns-else-ends_word c =
    let a = c.args in
    simp (le-leb (a.at + 17) (length a.s.now) (omega arith), sym c.ends_word.ensures ∙ c.if-ends_word.false)
