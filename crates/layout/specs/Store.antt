-- Named vectors: one written, and all of them in one list. For names of any type, each with its number. Definitions only.
use Rattle.std.specs.Prelude.{cond, List, [], ◌∷◌, ◌++◌, ℕ, eqb}

module _ {S A : Type 0} (num : S → ℕ) where
  -- xs under the name w, and every other as it was
  unfoldable pub upd : (S → List A) → S → List A → S → List A
  upd v w xs s = cond (eqb (num s) (num w)) xs (v s)

module _ {S A : Type 0} where
  -- the vectors of the names of a list, one after the other
  unfoldable pub flat : List S → (S → List A) → List A
  flat [] v = []
  flat (s ∷ ss) v = v s ++ flat ss v
