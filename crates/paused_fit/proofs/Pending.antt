-- What `let Answer::Pending = a else { .. }` tells of the answer. Assumes nothing.
use Prim.Native.Nat.{ℕ}
use native.Mathlib.Omega.{arith}
use mathlib.Core.Path.{◌≡◌, refl}
use Rattle.refusal.specs.declared.Way.TheVariants.{Converged, Limit}
use Rattle.elastic_net.specs.declared.Answer.{Answer}
use Rattle.elastic_net.specs.declared.Answer.TheVariants.{Pending, Done, Refused}
use Rattle.elastic_net.specs.ElasticNet.{pending, said}

pub not-pending : (a : Answer) → (a ≡ Pending → ⊥) → said a ≡ pending → ⊥
not-pending Pending k h = k refl
not-pending (Done b Converged c) k h = let z : ◌≡◌ {A = ℕ} 0 1 = cc in omega arith
not-pending (Done b Limit c) k h = let z : ◌≡◌ {A = ℕ} 0 1 = cc in omega arith
not-pending (Refused r) k h = let z : ◌≡◌ {A = ℕ} 0 1 = cc in omega arith
