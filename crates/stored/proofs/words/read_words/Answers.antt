use Rattle.std.proofs.Common.{◌≡◌, ℕ, suc, ◌+◌, ◌-◌, ◌*◌, ◌<◌, ◌≤◌, Bool, true, false, cond, eqb, leb, List, [], Option, None, Some, Result, Ok, Err, length, take, drop, set, sym, refl, ap, ◌∙◌, append_assoc, append-nil, add-one, arith, length-set, take-append-drop, length-take-le, drop-drop, take-suc-set, drop-set-lt, eq-eqb, ne_eqb, leb-true}
use Rattle.std.proofs.lemmas.List.{set-get_or}
use Rattle.std.specs.Option.{ok_or}
use Rattle.std.proofs.lemmas.Result.{MatchResult-at_ok, MatchResult-at_err, err_from_is_err_and}
use Rattle.stored.specs.Words.{word_at}
use Rattle.stored.specs.Runs.{numbers_from, parsed_of, RunRead}
use Rattle.stored.proofs.words.read_words.Invariants.{Reading}
use Rattle.stored.proofs.words.read_words.Goals as goal

some_word : (o : Option ℕ) (i x : ℕ) → ok_or o i ≡ Ok x → o ≡ Some x
some_word None i x e = absurd (MatchResult-at_ok (λ _. ⊥) (λ _. Unit {0}) x e tt)
some_word (Some y) i x e = cc

no_word : (o : Option ℕ) (i e : ℕ) → ok_or o i ≡ Err e → (o ≡ None) × (e ≡ i)
no_word None i e h = (refl, cc)
no_word (Some y) i e h = absurd (MatchResult-at_err (λ _. Unit {0}) (λ _. ⊥) e h tt)

-- a word that is well formed lies within the bytes
inside : (s : List ℕ) (at x : ℕ) → word_at s at ≡ Some x → at + 17 ≤ length s
unfolding word_at
inside s at x e = go (leb (at + 17) (length s)) refl where
  go : (b : Bool) → leb (at + 17) (length s) ≡ b → at + 17 ≤ length s
  go true t = leb-true (at + 17) (length s) t
  go false t = let z : ◌≡◌ {A = ℕ} 0 1 = cc (rw t at e) in omega arith

module _ {s : List ℕ} {out₀ out : List ℕ} {i : ℕ} (d : Reading s out₀ out i) where
  turn : (x : ℕ) → i < length out₀ → word_at s (17 * i) ≡ Some x → Reading s out₀ (set out i x) (i + 1)
  unfolding numbers_from
  turn x h e =
      let n = length out₀ in
      let one : n - i ≡ suc (n - (i + 1)) = omega arith in
      let next : 17 * (i + 1) ≡ 17 * i + 17 = omega arith in
      let here : i < length out = omega (arith, d.long) in
      record {
        upto = omega arith;
        within = omega (arith, inside s (17 * i) x e);
        long = length-set out i x ∙ d.long;
        is = d.is ∙ rw (one, e, next, add-one i, take-suc-set out i x here, append_assoc);
        rest = drop-set-lt (i + 1) out i x (omega arith) ∙ sym (drop-drop 1 i out) ∙ ap (drop 1) d.rest ∙ drop-drop 1 i out₀;
      }

  -- the answer, where no number is left
  ended : (r : Result Unit ℕ) → numbers_from (length out₀ - i) (17 * i) s ≡ [] → r ≡ cond (eqb i (length out₀)) (Ok tt) (Err i) → RunRead s (length out₀) out₀ r out
  unfolding parsed_of
  ended r none e =
      let front : numbers_from (length out₀) 0 s ≡ take i out = d.is ∙ rw (none, append-nil) in
      let size : length (take i out) ≡ i = length-take-le i out (omega (arith, d.long, d.upto)) in
      record { answer = rw (front, size) e; filled = rw (front, size, ← d.rest, take-append-drop) }

  stopped : i < length out₀ → word_at s (17 * i) ≡ None → RunRead s (length out₀) out₀ (Err i) out
  unfolding numbers_from
  stopped h e =
      let one : length out₀ - i ≡ suc (length out₀ - (i + 1)) = omega arith in
      ended (Err i) (rw (one, e)) (rw (ne_eqb i (length out₀) (omega arith)))

  whole : length out₀ ≤ i → RunRead s (length out₀) out₀ (Ok tt) out
  unfolding numbers_from
  whole h =
      let none : length out₀ - i ≡ 0 = omega arith in
      let all : i ≡ length out₀ = omega (arith, d.upto) in
      ended (Ok tt) (rw none) (rw (eq-eqb i (length out₀) all))

pub returns-in_err-word : goal.returns-in_err-word
returns-in_err-word c =
    let i = c.loop-i.i in
    let none = no_word c.read_word.result i _ (sym c.ok_or.ensures.value ∙ c.in_err-word.was) in
    let given = err_from_is_err_and c.from_residual.result c.from_residual.ensures.1 in
    let answer : c.from_residual.result ≡ Err i = given.1 ∙ ap Err (given.2 ∙ none.1) in
    rw (answer, set-get_or c.loop-i.out i 0) (stopped c.loop-i.invariant (omega arith) (sym c.read_word.ensures ∙ none.0))

pub loop-i-preserved : goal.loop-i-preserved
loop-i-preserved c = turn c.loop-i.invariant c.in_ok-word.word (omega arith) (sym c.read_word.ensures ∙ some_word _ _ _ (sym c.ok_or.ensures.value ∙ c.in_ok-word.was))

pub returns : goal.returns
returns c = whole c.loop-i.invariant (omega arith)
