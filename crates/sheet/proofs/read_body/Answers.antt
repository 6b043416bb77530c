-- `sheet::read_body` meets its contract: the slices have the lengths of what remains. Assumes nothing.
use mathlib.Core.Path.{◌≡◌, ap, ◌∙◌}
use mathlib.Core.List.{List}
use Prim.Native.Nat.{ℕ, ◌*◌}
use lib.ListN.{length}
use Rattle.sheet_header.specs.Header.{n_of, p_of}
use Rattle.sheet.specs.Rows.{remaining}
use Rattle.sheet.specs.Sheet.{remains}
use Rattle.sheet.proofs.Checks.{lengths-fine}
use Rattle.sheet.proofs.read_body.Goals as goal

-- the header's n, by the n and p that were read
left_by : (b : List ℕ) {m n p : ℕ} → n ≡ n_of b → p ≡ p_of b → m ≡ remains b → m ≡ length (remaining b p n)
left_by b en ep em = rw (en, ep) em

pub fill_matrix-requires-clause-x_len : goal.fill_matrix-requires-clause-x_len
fill_matrix-requires-clause-x_len c =
    let k = c.room_check in
    let lent = lengths-fine _ _ _ _ k.result k.ensures c.in_ok-room_check.was in
    lent.matrix ∙ ap (λ (k : ℕ). k * c.args.h.p) (left_by c.args.b.now c.two_bytes-n.ensures.0 c.requires.p_value c.requires.n_value)

pub fill_targets-requires-clause-y_len : goal.fill_targets-requires-clause-y_len
fill_targets-requires-clause-y_len c =
    let k = c.room_check in
    let lent = lengths-fine _ _ _ _ k.result k.ensures c.in_ok-room_check.was in
    lent.targets ∙ left_by c.args.b.now c.two_bytes-n.ensures.0 c.requires.p_value c.requires.n_value
