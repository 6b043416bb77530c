-- The lone solver's first lines and a round of it, over its scratch. Assumes nothing.
use mathlib.Core.Path.{◌≡◌, refl, ap, ◌∙◌}
use mathlib.Core.Bool.{Bool}
use mathlib.Core.List.{List}
use Prim.Native.Nat.{ℕ, ◌*◌, ◌≤◌}
use lib.ListN.{length, drop}
use lib.Ieee.{Float}
use Rattle.numbers.specs.Ops.{◌⊕◌, ◌⊖◌, ◌⊗◌, ◌⊘◌}
use Rattle.arrays.specs.Part.{part, put}
use Rattle.arrays.proofs.Part.{part-all, length-tab}
use Rattle.arrays.specs.Sums.{product_of, norm_two_of}
use Rattle.arrays.specs.Vectors.{zip_of}
use Rattle.arrays.proofs.Lengths.{length-zip}
use Rattle.matrices.specs.Products.{rows_of, columns_of}
use Rattle.matrices.proofs.Lengths.{length-rows, length-columns}
use Rattle.layout.specs.Store.{upd}
use Rattle.bg_solver.specs.declared.shared.Seven.{Seven}
use Rattle.bg_solver.specs.declared.shared.Turned.{Turned}
use Rattle.bg_solver.specs.Shared.{aimed, direct_mem, advance_mem, turn_by}
use Rattle.bg_solver.specs.Solver.{begun, turned, error_of}
use Rattle.bg_solver.proofs.Lengths.{length-aimed}
use Rattle.lone_rounds.specs.Lone.{LoneHas, LoneSlot, LoneStore, lone_store, work_in, diagonal_of, divided_of, lone_system, LoneTurn}
use Rattle.lone_rounds.specs.Lone.{LoneSlot.X, LoneSlot.R, LoneSlot.RR, LoneSlot.Z, LoneSlot.ZZ, LoneSlot.P, LoneSlot.PP, LoneSlot.DIAG}
use Rattle.lone_rounds.proofs.Keeping.{here, start, read, write, then, named, ◌⟨◌≔◌⟩}

abbrev pub seven : ℕ → Seven
seven n = record { x = 0; r = n; rr = 2 * n; z = 3 * n; zz = 4 * n; p = 5 * n; pp = 6 * n }

pub length-diagonal : (n : ℕ) (a : List Float) → length (diagonal_of n a) ≡ n
unfolding diagonal_of
length-diagonal n a = length-tab _ n

length-divided : (n : ℕ) (d b : List Float) → length (divided_of n d b) ≡ n
unfolding divided_of
length-divided n d b = length-tab _ n

-- ---- the updates

abbrev dividing : ℕ → LoneSlot → LoneStore → List Float
dividing n s v = divided_of n (v DIAG) (v s)

abbrev number : ℕ → LoneStore → Float
number n v = product_of n (v Z) (v RR)

abbrev aim : Bool → Float → ℕ → LoneSlot → LoneStore → List Float
aim first bkden n s v = aimed first (number n v ⊘ bkden) n (v PP) (v s)

abbrev along : Float → ℕ → LoneStore → Float
along bknum n v = bknum ⊘ product_of n (v Z) (v PP)

abbrev forth : Float → ℕ → LoneStore → List Float
forth bknum n v = zip_of (λ (t u : Float). t ⊕ along bknum n v ⊗ u) n (v X) (v P)

abbrev back : Float → ℕ → LoneSlot → LoneSlot → LoneStore → List Float
back bknum n s t v = zip_of (λ (t u : Float). t ⊖ along bknum n v ⊗ u) n (v s) (v t)

module _ {n : ℕ} {e : List Float} {v : LoneStore} {m : List Float} (h : LoneHas n e v m) where
  -- both directions are of the vectors as they were
  directed : (first : Bool) (bkden : Float) (m' : List Float) → m' ≡ direct_mem first bkden n (seven n) m
      → LoneHas n e (v ⟨ P ≔ aim first bkden n Z ⟩ ⟨ PP ≔ aim first bkden n ZZ ⟩) m'
  unfolding direct_mem ◌⟨◌≔◌⟩ upd
  directed first bkden m' q =
      let p = aim first bkden n Z v in
      let pp = aim first bkden n ZZ v in
      let k = write h P p (length-aimed first _ n _ _ (h.sized Z)) (put m (5 * n) p) refl in
      write k PP pp (length-aimed first _ n _ _ (h.sized ZZ)) m'
      (q ∙ ap (λ (u : LoneStore). put (put m (5 * n) (aim first bkden n Z u)) (6 * n) (aim first bkden n ZZ u)) (read h))

  advanced : (bknum : Float) (m' : List Float) → m' ≡ advance_mem bknum n (seven n) m
      → LoneHas n e (v ⟨ X ≔ forth bknum n ⟩ ⟨ R ≔ back bknum n R Z ⟩ ⟨ RR ≔ back bknum n RR ZZ ⟩) m'
  unfolding advance_mem ◌⟨◌≔◌⟩ upd
  advanced bknum m' q =
      let x = forth bknum n v in
      let r = back bknum n R Z v in
      let rr = back bknum n RR ZZ v in
      let k = write h X x (length-zip _ n _ _) (put m 0 x) refl in
      let j = write k R r (length-zip _ n _ _) (put (put m 0 x) n r) refl in
      write j RR rr (length-zip _ n _ _) m'
      (q ∙ ap (λ (u : LoneStore). put (put (put m 0 (forth bknum n u)) n (back bknum n R Z u)) (2 * n) (back bknum n RR ZZ u)) (read h))

-- ---- what the calls leave, one after the other

module _ (n : ℕ) (a m : List Float) (room : 8 * n ≤ length m) where
  pub begins : (b : List Float) {m₁ m₂ m₃ m₄ m₅ m₆ : List Float} → length b ≡ n
      → m₁ ≡ put m (7 * n) (diagonal_of n a)
      → m₂ ≡ put m₁ n (columns_of a n n (part m₁ 0 n))
      → m₃ ≡ put m₂ (2 * n) (part b 0 n)
      → m₄ ≡ put m₃ n (zip_of (λ (t u : Float). t ⊖ u) n (part m₃ (2 * n) n) (part m₃ n n))
      → m₅ ≡ put m₄ (2 * n) (part m₄ n n)
      → m₆ ≡ put m₅ (3 * n) (divided_of n (part m₅ (7 * n) n) (part m₅ n n))
      → LoneHas n (drop (8 * n) m) (lone_store (diagonal_of n a) (begun (lone_system n a) b (work_in n m))) m₆
  unfolding ◌⟨◌≔◌⟩ upd begun lone_system
  begins b l e₁ e₂ e₃ e₄ e₅ e₆ =
      let h₁ = then (start n m room) DIAG (λ v. diagonal_of n a) (length-diagonal n a) e₁ in
      let h₂ = then h₁ R (λ v. columns_of a n n (v X)) (length-columns a n n _) e₂ in
      let h₃ = then h₂ RR (λ v. b) l (rw (part-all b n l) at e₃) in
      let h₄ = then h₃ R (λ v. zip_of (λ (t u : Float). t ⊖ u) n (v RR) (v R)) (length-zip _ n _ _) e₄ in
      let h₅ = then h₄ RR (λ v. v R) (h₄.sized R) e₅ in
      named (then h₅ Z (dividing n R) (length-divided n _ _) e₆) _ _ refl refl refl refl refl refl refl refl

  module _ (first : Bool) (bkden bknum : Float) {m₁ m₂ m₃ m₄ m₅ m₆ : List Float}
      (e₁ : m₁ ≡ put m (4 * n) (divided_of n (part m (7 * n) n) (part m (2 * n) n)))
      (e₂ : m₂ ≡ direct_mem first bkden n (seven n) m₁)
      (b : bknum ≡ product_of n (part m₁ (3 * n) n) (part m₁ (2 * n) n))
      (e₃ : m₃ ≡ put m₂ (3 * n) (columns_of a n n (part m₂ (5 * n) n)))
      (e₄ : m₄ ≡ put m₃ (4 * n) (rows_of a n n (part m₃ (6 * n) n)))
      (e₅ : m₅ ≡ advance_mem bknum n (seven n) m₄)
      (e₆ : m₆ ≡ put m₅ (3 * n) (divided_of n (part m₅ (7 * n) n) (part m₅ n n))) where
    -- bknum is of the vectors as they were
    number_is : bknum ≡ number n (here n m)
    unfolding ◌⟨◌≔◌⟩ upd
    number_is = b ∙ ap (number n) (read (then (start n m room) ZZ (dividing n RR) (length-divided n _ _) e₁))

    turns : part m (7 * n) n ≡ diagonal_of n a
        → LoneHas n (drop (8 * n) m) (lone_store (diagonal_of n a) (turned (lone_system n a) first bkden (work_in n m)).work) m₆
    unfolding ◌⟨◌≔◌⟩ upd turned lone_system
    turns d =
        let h₀ : LoneHas n (drop (8 * n) m) (lone_store (diagonal_of n a) (work_in n m)) m = rw d at (start n m room) in
        let h₁ = then h₀ ZZ (dividing n RR) (length-divided n _ _) e₁ in
        let h₂ = directed h₁ first bkden _ e₂ in
        let h₃ = then h₂ Z (λ v. columns_of a n n (v P)) (length-columns a n n _) e₃ in
        let h₄ = then h₃ ZZ (λ v. rows_of a n n (v PP)) (length-rows a n n _) e₄ in
        let h₅ = advanced h₄ (number n (here n m)) _ (rw number_is at e₅) in
        named (then h₅ Z (dividing n R) (length-divided n _ _) e₆) _ _ refl refl refl refl refl refl refl refl

    pub round : (bnrm tol err : Float) {t : Turned} → err ≡ norm_two_of n (part m₆ n n) ⊘ bnrm → t ≡ turn_by tol err bknum → LoneTurn n a first bkden bnrm tol m t m₆
    unfolding turned lone_system error_of
    round bnrm tol err e q = record {
      is = λ d.
          let r = e ∙ ap (λ (v : LoneStore). norm_two_of n (v R) ⊘ bnrm) (read (turns d)) in
          q ∙ ap (turn_by tol err) number_is ∙ ap (λ (x : Float). turn_by tol x (number n (here n m))) r;
      left = turns;
    }
