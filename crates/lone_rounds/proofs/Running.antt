-- A whole run of the lone solver: from a scratch overwritten by +0 to one overwritten by +0. Assumes nothing.
use mathlib.Core.Path.{◌≡◌, refl, sym, ap, ◌∙◌}
use mathlib.Core.List.{List, ◌++◌}
use Prim.Native.Nat.{ℕ, ◌-◌, ◌*◌, ◌≤◌}
use native.Mathlib.Nat.{zero-add}
use native.Mathlib.Omega.{arith}
use lib.ListN.{length, drop}
use lib.Seq.{sets-eq}
use lib.Ieee.{Float}
use Rattle.arrays.specs.Part.{part, put}
use Rattle.arrays.proofs.Part.{part-all, put_all, length_part}
use Rattle.arrays.specs.Sums.{plus0}
use Rattle.arrays.specs.Vectors.{fill_of}
use Rattle.arrays.proofs.Lengths.{length-fill}
use Rattle.layout.specs.Store.{upd}
use Rattle.bg_solver.specs.Solver.{Work, begun}
use Rattle.lone_rounds.specs.Lone.{LoneHas, lone_store, lone_system, Begun, LoneSlot.X}
use Rattle.lone_rounds.specs.Loop.{Result.found, loop, solved, Runs, Looped, Ran}
use Rattle.lone_rounds.proofs.Keeping.{start, then, named, overwritten, rest-is, ◌⟨◌≔◌⟩}
use Rattle.lone_rounds.proofs.Looping.{work-is, diagonal-is}

-- the first words overwritten by a list of that many
put_first : (s xs : List Float) (k : ℕ) → length xs ≡ k → k ≤ length s → put s 0 xs ≡ xs ++ drop k s
unfolding put
put_first s xs k e l = sets-eq xs s 0 (omega arith) ∙ ap (λ (j : ℕ). xs ++ drop j s) (zero-add (length xs) ∙ e)

-- the vectors before the first line
abbrev first : ℕ → List Float → Work
first n x = let o = fill_of plus0 n in record { x = x; r = o; rr = o; z = o; zz = o; p = o; pp = o }

module _ {n : ℕ} {a b x s : List Float} {limit : ℕ} (r : Runs n a b x limit s) where
  filled : {s₁ s₂ : List Float} → s₁ ≡ put s 0 (fill_of plus0 (8 * n)) → s₂ ≡ put s₁ 0 (part x 0 n)
      → LoneHas n (drop (8 * n) s) (lone_store (fill_of plus0 n) (first n x)) s₂
  unfolding ◌⟨◌≔◌⟩ upd
  filled {s₁} e₁ e₂ =
      let h = overwritten (start n s r.loops.room) plus0 s₁ e₁ in
      named (then h X (λ v. x) r.start (rw (part-all x n r.start) at e₂)) _ _ refl refl refl refl refl refl refl refl

  pub ran : (tol : Float) {s₁ s₂ s₃ s₄ s₅ x' : List Float} {bnrm err : Float} → s₁ ≡ put s 0 (fill_of plus0 (8 * n)) → s₂ ≡ put s₁ 0 (part x 0 n) → Begun n a b s₂ bnrm s₃
      → Looped n a bnrm tol limit s₃ err s₄ → length s₄ ≡ length s → x' ≡ put x 0 (part s₄ 0 n) → s₅ ≡ put s₄ 0 (fill_of plus0 (8 * n))
      → Ran n (solved n a b x tol limit) s err x' s₅
  unfolding solved
  ran tol {s₄ = s₄} {bnrm = bnrm} {err = err} e₁ e₂ f o l e₅ e₆ =
      let A = lone_system n a in
      let h = filled e₁ e₂ in
      let d = diagonal-is f.left in
      let room : 8 * n ≤ length s₄ = omega (arith, r.loops.room) in
      let k : length (part s₄ 0 n) ≡ length x = length_part s₄ 0 n (omega arith) ∙ sym r.start in
      record {
        is = ap (found err) (e₅ ∙ put_all x (part s₄ 0 n) k) ∙ o.is d
            ∙ ap (λ (w : Work). loop A bnrm tol (limit - 1) 1 plus0 plus0 w) (work-is f.left ∙ ap (begun A b) (work-is h))
            ∙ ap (λ (y : Float). loop A y tol (limit - 1) 1 plus0 plus0 (begun A b (first n x))) f.is;
        left = e₆ ∙ put_first s₄ (fill_of plus0 (8 * n)) (8 * n) (length-fill plus0 (8 * n)) room
            ∙ ap (λ (t : List Float). fill_of plus0 (8 * n) ++ t) (o.rest d ∙ rest-is f.left ∙ rest-is h);
      }
