-- Parts of a list at fixed offsets, and lists made by index. Definitions only.
use Rattle.std.specs.Prelude.{List, [], ◌∷◌, ◌++◌, ℕ, zero, suc, take, drop}
use Rattle.std.proofs.lemmas.List.Edits.{sets}

module _ {A : Type 0} where
  -- the k elements from index a: fewer where s ends before
  unfoldable pub part : List A → ℕ → ℕ → List A
  part s a k = take k (drop a s)

  -- s with the elements of xs written one after another from index a; what would lie beyond its end is left out
  unfoldable pub put : List A → ℕ → List A → List A
  put s a xs = sets s a xs

  -- the list f 0, f 1, .. f (n - 1)
  unfoldable pub tab : (ℕ → A) → ℕ → List A
  tab f zero = []
  tab f (suc n) = tab f n ++ (f n ∷ [])
