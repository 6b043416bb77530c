-- `sheet_move::write_version` meets its contract: the body right behind the front. Assumes nothing.
use mathlib.Core.Path.{◌≡◌, ◌∙◌}
use mathlib.Core.List.{List}
use Prim.Native.Nat.{ℕ, ◌+◌}
use native.Mathlib.Omega.{arith}
use lib.ListN.{length}
use Rattle.arrays.specs.Part.{put}
use Rattle.arrays.proofs.Part.{put-append}
use Rattle.sheet_front.specs.declared.Version.{Version}
use Rattle.sheet_front.specs.Front.{front_bytes, front_of, sheet_with}
use Rattle.sheet_front.proofs.Front.{front_long}
use Rattle.sheet_move.proofs.write_version.Goals as goal

both-written : (s : List ℕ) (v : Version) (body : List ℕ) (at : ℕ) → at ≡ front_bytes v
    → put (put s 0 (front_of v (length body))) at body ≡ put s 0 (sheet_with v body)
both-written s v body at h =
    let e : at ≡ 0 + length (front_of v (length body)) = omega (arith, front_long v (length body)) in
    rw e (put-append s 0 (front_of v (length body)) body)

pub returns : goal.returns
returns c = c.write_bytes.ensures ∙ rw c.write_front.ensures (both-written _ c.args.v c.args.body.now _ c.front_bytes.ensures)
