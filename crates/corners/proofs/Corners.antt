-- The table of 01's corners holds: each row by computation. Assumes nothing.
use Rattle.std.specs.Prelude.{Ok}
use mathlib.Core.Path.{◌≡◌, refl, ap}
use mathlib.Core.Bool.{true}
use mathlib.Core.List.{List, [], map}
use Prim.Native.Nat.{ℕ, ◌≤◌}
use lib.Dec.{leb}
use lib.ListN.{get_or}
use lib.Ieee.{Float, nan, of_bits, to_bits, sub, mul, div, of_int, le}
use borrow.Author.Tests.{le-leb}
use Rattle.numbers.specs.Ops.{f64, magnitude_of}
use Rattle.numbers.specs.Order.{maximum_of, minimum_of}
use Rattle.numbers.specs.Units.{count}
use Rattle.numbers.specs.Root.{root_of, root_bits, last, reaches}
use Rattle.numbers.proofs.Corners.{corners as roots, corners-hold as roots-hold}
use Rattle.arrays.specs.Part.{tab, part}
use Rattle.arrays.specs.Scan.{first_infinite}
use Rattle.arrays.specs.Sums.{fold_to, sum_of, mean_of, dot_of, norm1_of, norm2_of, norm_inf_of}
use Rattle.arrays.specs.Vectors.{fill_of, map_of, zip_of}
use Rattle.matrices.specs.Grid.{grid}
use Rattle.matrices.specs.Products.{rows_of, columns_of}
use Rattle.settings.specs.declared.Settings.{Settings}
use Rattle.settings.specs.Settings.{gamma_of, l1_of, l2_of, terms_of, allowed_of, range_of, panels_of}
use Rattle.settings.proofs.Corners.{p7}
use Rattle.layout.specs.Need.{need_of, sizes_of}
use Rattle.design.specs.Eager.{design_of}
use Rattle.smartcore.specs.BgSolver.{solve_mut}
use Rattle.smartcore.specs.LassoOptimizer.{round, rounds, optimize}
use Rattle.smartcore.specs.ElasticNet.{augment_y, optimize_eager, optimize_fit, rescaled, fit}
use Rattle.checks.specs.Checks.{limits_of, start_values}
use Rattle.promises.specs.Outcome.{outcome_of}
use Rattle.big_endian.specs.Bytes.{big_endian}
use Rattle.sheet_header.specs.Header.{body_check, header_of, accept_check}
use Rattle.sheet.specs.Rows.{claims_fine, pairs_from, left_of, room_check, matrix_of, targets_of}
use Rattle.sheet.specs.Sheet.{body_rows, rows_read, body_read, sheet_of}
use Rattle.corners.specs.Corners.{settings_of, two-rows, FitHolds, SheetHolds, AllHold, p8-input, p8-end, p8-sheet, p9-input, p9-end, table}

-- ---- P8 and P9: what does not depend on the scores

module _ (M R C : ℕ) where
  abbrev asked : Settings
  asked = settings_of (two-rows M []) R C

  lambda-two : (terms_of asked 2).lambda ≡ f64 0x4000_0000_0000_0000
  unfolding terms_of l1_of l2_of gamma_of root_of root_bits last reaches count maximum_of of_bits to_bits sub mul div of_int
  lambda-two = refl

  accepted : leb M 1000 ≡ true → (room : ℕ) → need_of 2 1 asked ≤ room → limits_of 2 1 2 2 1 asked room ≡ Ok tt
  unfolding limits_of allowed_of range_of panels_of of_bits le
  accepted q room h = rw (q, le-leb _ _ h) refl

-- ---- P8

p8-reads : SheetHolds p8-sheet p8-input
unfolding sheet_of rows_read body_rows body_read accept_check body_check big_endian pairs_from claims_fine left_of room_check matrix_of targets_of header_of grid tab
p8-reads R C x y l k = rw (l, k) refl

p8-fits : FitHolds p8-input p8-end
unfolding
    fit optimize_fit optimize_eager optimize rounds rescaled outcome_of mean_of sum_of fold_to map_of tab fill_of start_values first_infinite
    terms_of l1_of l2_of gamma_of root_of root_bits last reaches count maximum_of of_bits to_bits sub mul div of_int sizes_of
p8-fits R C = record {
  lambda = lambda-two 0 R C;
  limits = accepted 0 R C refl;
  values = refl;
  ends = λ e. refl;
}

-- ---- P9

p9-fits : FitHolds p9-input p9-end
unfolding
    fit optimize_fit optimize_eager optimize rounds round solve_mut augment_y outcome_of start_values first_infinite
    rows_of columns_of dot_of norm1_of norm2_of norm_inf_of map_of zip_of fold_to tab fill_of design_of grid part mean_of sum_of
    sizes_of terms_of l1_of l2_of gamma_of root_of root_bits last reaches count maximum_of minimum_of magnitude_of of_bits to_bits sub mul div of_int le
p9-fits R C = record {
  lambda = lambda-two 1 R C;
  limits = accepted 1 R C refl;
  values = refl;
  ends = λ e. refl;
}

-- ---- the table

-- the k-th row of P1 to P6, as proved beside the root
root-row : (k : ℕ) → get_or (map (λ (row : Float × ℕ). row.0) roots) k nan ≡ get_or (map (λ (row : Float × ℕ). f64 row.1) roots) k nan
root-row k = ap (λ (l : List Float). get_or l k nan) roots-hold

pub corners-hold : AllHold table
corners-hold =
    (root-row 0, (root-row 1, (root-row 2, (root-row 3, (root-row 4, (root-row 5, (p7, ((p8-reads, p8-fits), (p9-fits, tt)))))))))
