-- The unbroken fit over the store is smartcore's. Assumes nothing.
use mathlib.Core.Path.{◌≡◌, refl, sym, ap, ◌∙◌, fun_ext, subst}
use mathlib.Core.Bool.{Bool, true, false, cond}
use mathlib.Core.List.{List}
use Prim.Native.Nat.{ℕ, zero, suc, ◌+◌}
use lib.Ieee.{Float}
use Rattle.refusal.specs.declared.Failure.{Failure}
use Rattle.numbers.specs.Ops.{◌⊗◌}
use Rattle.matrices.specs.Products.{columns_of}
use Rattle.settings.specs.declared.Settings.{Settings}
use Rattle.settings.specs.declared.Terms.{Terms}
use Rattle.settings.specs.Settings.{l1_of, terms_of}
use Rattle.layout.specs.declared.Sizes.{Sizes}
use Rattle.layout.specs.Store.{upd}
use Rattle.layout.specs.Slots.{Store, ◌⟨◌≔◌⟩}
use Rattle.layout.specs.Slots.{Slot.CENTRE, Slot.SCALE}
use Rattle.layout.specs.Need.{sizes_of}
use Rattle.lazy_normalization.specs.Lazy.{lazy_rows, lazy_columns, recip_store}
use Rattle.lazy_gram.specs.Gram.{lazy_gram_of, lazy_gram_store}
use Rattle.design.specs.Statistics.{centres_of, scales_of, statistics_store, centred_of, targets_store}
use Rattle.design.specs.Eager.{design_store, gram_store}
use Rattle.design_products.specs.Mode.{matvec_of, transposed_of}
use Rattle.newton.specs.Newton.{start_t}
use Rattle.pause.specs.Progress.{Progress, then}
use Rattle.pause.specs.Parts.{Counts as CountsP, none, End}
use Rattle.pause.specs.Unbroken.{Reached, reached, one_round, many_rounds, close, unbroken}
use Rattle.lasso_optimizer.specs.Data.{Data, held, store_of}
use Rattle.lasso_optimizer.specs.Fit.{parts, fresh, optimized}
use Rattle.beginning.specs.Start.{blank_store, prepared_store, start_store}
use Rattle.smartcore.specs.LassoOptimizer.{Fitted, Point, Vars, Next, on, out, rounds, optimize}
use Rattle.smartcore.specs.ElasticNet.{augment_y, optimize_eager, optimize_lazy, optimize_fit}
use Rattle.smartcore.specs.LazyNormalization.{matvec}
use Rattle.smartcore.proofs.Reciprocal.{reciprocals, rows_are, columns-are}
use Rattle.unbroken_fit.specs.Unbroken.{fit_of, counts_of, point_of, told}
use Rattle.unbroken_fit.proofs.Solver.{Fixed, fixed_in}
use Rattle.unbroken_fit.proofs.Round.{vars_of, last_in, Ends, RoundBy, matvec_at, round_in, round_is}

module _ (sh : Sizes) (tm : Terms) (tol : Float) (m : List Float) where
  -- the product with its transpose
  abbrev transposed_at : Bool → Fixed → List Float → List Float
  transposed_at b x xs = cond b (lazy_columns sh.n sh.p tm m x.centre x.scale x.recip xs) (columns_of x.design sh.stored sh.p xs)

  abbrev rounds_at : Bool → Fixed → ℕ → ℕ → Vars → Fitted Point
  rounds_at b x = rounds sh.k sh.p x.y tm.lambda (matvec_at sh tm tol m b x) x.gram tol (transposed_at b x)

  -- one round and what follows it
  then_is : (x : Fixed) (f r : ℕ)
      → ((c : CountsP) (d : Data)
      → Ends (fixed_in (store_of d)) (close (many_rounds (parts sh tm tol m) f r (reached c d))) (rounds_at sh.lazy (fixed_in (store_of d)) f r (vars_of c d)))
      → (o : Progress (End Failure Data) (Reached Data)) (n : Next) → RoundBy x o n
      → Ends x (close (then o (many_rounds (parts sh tm tol m) f r))) (elim n [
        | on v ↦ rounds_at sh.lazy x f r v
        | out e ↦ e
      ])
  unfolding then close
  then_is x f r rec o (on v) h =
      let u = close (many_rounds (parts sh tm tol m) f r (reached h.counts h.left)) in
      subst (λ (o' : Progress (End Failure Data) (Reached Data)). Ends x (close (then o' (many_rounds (parts sh tm tol m) f r))) (rounds_at sh.lazy x f r v)) (sym h.is)
      (subst (λ (w : Vars). Ends x u (rounds_at sh.lazy x f r w)) h.vars
      (subst (λ (y : Fixed). Ends y u (rounds_at sh.lazy y f r (vars_of h.counts h.left))) h.same (rec h.counts h.left)))
  then_is x f r rec o (out e) h =
      subst (λ (o' : Progress (End Failure Data) (Reached Data)). Ends x (close (then o' (many_rounds (parts sh tm tol m) f r))) e) (sym h.is) h.ends

  rounds-are : (f r : ℕ) (c : CountsP) (d : Data)
      → Ends (fixed_in (store_of d)) (close (many_rounds (parts sh tm tol m) f r (reached c d))) (rounds_at sh.lazy (fixed_in (store_of d)) f r (vars_of c d))
  unfolding many_rounds rounds close told point_of matvec_of transposed_of
  rounds-are zero r c (held a v) = record { says = refl; same = refl }
  rounds-are (suc f) r c (held a v) =
      then_is (fixed_in v) f (r + 1) (rounds-are f (r + 1)) (one_round (parts sh tm tol m) r (reached c (held a v))) (round_in sh tm tol m r c a v) (round_is sh tm tol m r c a v)

  pub optimized-is : (M : ℕ) (v : Store)
      → Ends (fixed_in v) (optimized sh tm tol m M v) (rounds_at sh.lazy (fixed_in v) M 0 (vars_of none (held (fresh sh.p tm.lambda) v)))
  unfolding optimized unbroken
  optimized-is M v = rounds-are M 0 none (held (fresh sh.p tm.lambda) v)

-- ---- from a fresh start

-- two choices by one test
pick : {A B : Type 0} (Rel : A → B → Type 0) (b : Bool) (a₁ a₂ : A) (b₁ b₂ : B) → Rel a₁ b₁ → Rel a₂ b₂ → Rel (cond b a₁ a₂) (cond b b₁ b₂)
pick Rel true a₁ a₂ b₁ b₂ p q = p
pick Rel false a₁ a₂ b₁ b₂ p q = q

module _ (n p : ℕ) (x y : List Float) (st : Settings) where
  abbrev pub lazy_sizes : Sizes
  lazy_sizes = record { n = n; p = p; k = n + p; lazy = true; stored = 0; pr = st.panel_rows; pc = st.panel_cols }

  abbrev pub eager_sizes : Sizes
  eager_sizes = record { n = n; p = p; k = n + p; lazy = false; stored = n + p; pr = 0; pc = 0 }

  abbrev pub end_with : Sizes → End Failure Data
  end_with sh = optimized sh (terms_of st n) st.tol x st.max_iter (start_store sh st.normalise (terms_of st n) x y)

  -- the fixed vectors that the end of a fit is told by
  pub record Fits (u : End Failure Data) (e : Fitted Point) : Type 0 where
    pub says : told u ≡ e
    pub centres : last_in u CENTRE ≡ centres_of st.normalise x n p
    pub scales : last_in u SCALE ≡ scales_of st.normalise x n p

  -- a lazy fit by these products
  abbrev lazy_by : (List Float → List Float) → (List Float → List Float) → Fitted Point
  lazy_by f g =
      let tm = terms_of st n in
      optimize (lazy_gram_of n p tm x (centres_of st.normalise x n p) (scales_of st.normalise x n p)) (n + p) p (augment_y n p y) (l1_of st n ⊗ tm.gamma) st.max_iter
      st.tol true f g

  abbrev lazy_in : Fitted Point
  lazy_in =
      let ce = centres_of st.normalise x n p in
      let sc = scales_of st.normalise x n p in
      let tm = terms_of st n in
      lazy_by (lazy_rows n p tm x ce sc (reciprocals n p tm x ce sc)) (lazy_columns n p tm x ce sc (reciprocals n p tm x ce sc))

  stored_is : Fits (end_with lazy_sizes) lazy_in
  unfolding start_store prepared_store lazy_gram_store recip_store targets_store statistics_store blank_store fresh start_t terms_of centred_of counts_of augment_y optimize ◌⟨◌≔◌⟩ upd
  stored_is =
      let h = optimized-is lazy_sizes (terms_of st n) st.tol x st.max_iter (start_store lazy_sizes st.normalise (terms_of st n) x y) in
      record { says = h.says; centres = ap (λ (f : Fixed). f.centre) h.same; scales = ap (λ (f : Fixed). f.scale) h.same }

  by-products : lazy_in ≡ optimize_lazy n p x y st
  unfolding optimize_lazy
  by-products =
      let ce = centres_of st.normalise x n p in
      let sc = scales_of st.normalise x n p in
      let tm = terms_of st n in
      ap (λ (f : List Float → List Float). lazy_by f (lazy_columns n p tm x ce sc (reciprocals n p tm x ce sc))) (fun_ext (rows_are n p tm x ce sc))
      ∙ ap (lazy_by (matvec n p tm.gamma tm.padding x ce sc)) (fun_ext (columns-are n p tm x ce sc))

  lazy-is : Fits (end_with lazy_sizes) (optimize_lazy n p x y st)
  lazy-is = subst (Fits (end_with lazy_sizes)) by-products stored_is

  abbrev eager_start : Store
  eager_start =
      let sh = eager_sizes in
      let tm = terms_of st n in
      gram_store sh (design_store sh st.normalise tm x (targets_store sh y (statistics_store sh st.normalise x (blank_store sh))))

  abbrev eager_in : Fitted Point
  eager_in =
      let tm = terms_of st n in
      rounds_at eager_sizes tm st.tol x false (fixed_in eager_start) st.max_iter 0 (vars_of none (held (fresh p tm.lambda) eager_start))

  eager-rounds : Ends (fixed_in eager_start) (end_with eager_sizes) eager_in → Fits (end_with eager_sizes) (optimize_eager n p x y st)
  unfolding gram_store design_store targets_store statistics_store blank_store fresh start_t terms_of centred_of counts_of optimize_eager augment_y optimize ◌⟨◌≔◌⟩ upd
  eager-rounds h = record { says = h.says; centres = ap (λ (f : Fixed). f.centre) h.same; scales = ap (λ (f : Fixed). f.scale) h.same }

  eager-is : Fits (end_with eager_sizes) (optimize_eager n p x y st)
  unfolding start_store prepared_store
  eager-is =
      let tm = terms_of st n in
      eager-rounds (optimized-is eager_sizes tm st.tol x st.max_iter (start_store eager_sizes st.normalise tm x y))

  pub fit_is : Fits (fit_of n p x y st) (optimize_fit n p x y st)
  unfolding fit_of optimize_fit sizes_of
  fit_is =
      pick (λ (sh : Sizes) (e : Fitted Point). Fits (end_with sh) e) st.lazy lazy_sizes eager_sizes (optimize_lazy n p x y st) (optimize_eager n p x y st)
      lazy-is eager-is

-- THE UNBROKEN FIT IS SMARTCORE'S: it ends the same way, with the same counts and the same weights
pub as-the-rust : (n p : ℕ) (x y : List Float) (st : Settings) → told (fit_of n p x y st) ≡ optimize_fit n p x y st
as-the-rust n p x y st = (fit_is n p x y st).says
