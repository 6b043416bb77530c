use Rattle.std.proofs.Common.{◌≡◌, ℕ, ◌+◌, ◌*◌, ◌^◌, ◌<◌, ◌≤◌, List, None, Some, length, get_or, drop, sym, ◌∙◌, lt_of_lt_of_le, pow-suc, add-one, arith, drop-cons}
use Rattle.std.proofs.lemmas.List.{drop_all}
use native.Mathlib.Nat.{pow-le-pow_right}
use Rattle.stored.specs.Words.{digit_of, hex_from}
use Rattle.stored.proofs.words.number.Goals as goal

module _ (s : List ℕ) (n k : ℕ) (h : k < length s) where
  stops : digit_of (get_or s k 0) ≡ None → hex_from n (drop k s) ≡ None
  unfolding hex_from
  stops e = rw (drop-cons s k 0 h, e)

  goes : (d : ℕ) → digit_of (get_or s k 0) ≡ Some d → hex_from n (drop k s) ≡ hex_from (n * 16 + d) (drop (k + 1) s)
  unfolding hex_from
  goes d e = rw (add-one k, drop-cons s k 0 h, e)

ended : (s : List ℕ) (n k : ℕ) → length s ≤ k → hex_from n (drop k s) ≡ Some n
unfolding hex_from
ended s n k h = rw (drop_all k s h)

grown : (n d k : ℕ) → n < 16 ^ k → d < 16 → n * 16 + d < 16 ^ (k + 1)
grown n d k h l = rw (add-one k, pow-suc 16 k) (omega arith)

room : (n k : ℕ) → k ≤ 16 → n < 16 ^ k → n < 2 ^ 64
room n k h l = lt_of_lt_of_le l (pow-le-pow_right {n = 16} (omega arith) {i = k} {j = 16} h)

pub overflow_mul-n : goal.overflow_mul-n
overflow_mul-n c =
    let k = c.loop-b.b-index in
    let n = c.loop-b.n in
    let fitted : n * 16 + 0 < 2 ^ 64 = room (n * 16 + 0) (k + 1) (omega arith) (grown n 0 k c.loop-b.invariant.fits (omega arith)) in
    record { fits = omega (arith, fitted) }

pub returns-in_err-n : goal.returns-in_err-n
returns-in_err-n c =
    let none : digit_of (get_or c.args.digits.now c.loop-b.b-index 0) ≡ None = sym c.digit.ensures.value ∙ c.in_err-n.was in
    c.from_residual.ensures ∙ sym (c.loop-b.invariant.word ∙ stops c.args.digits.now c.loop-b.n c.loop-b.b-index (omega arith) none)

pub overflow_add-n : goal.overflow_add-n
overflow_add-n c =
    let k = c.loop-b.b-index in
    record { fits = room _ (k + 1) (omega arith) (grown _ _ k c.loop-b.invariant.fits c.in_ok-n.ensures.bound) }

pub loop-b-preserved : goal.loop-b-preserved
loop-b-preserved c =
    let k = c.loop-b.b-index in
    let digit : digit_of (get_or c.args.digits.now k 0) ≡ Some c.in_ok-n.field-0 = sym c.digit.ensures.value ∙ c.in_ok-n.was in
    record {
      fits = grown c.loop-b.n c.in_ok-n.field-0 k c.loop-b.invariant.fits c.in_ok-n.ensures.bound;
      word = c.loop-b.invariant.word ∙ goes c.args.digits.now c.loop-b.n k (omega arith) c.in_ok-n.field-0 digit;
    }

pub returns : goal.returns
returns c = sym (c.loop-b.invariant.word ∙ ended c.args.digits.now c.loop-b.n c.loop-b.b-index (omega arith))
