use native.Mathlib.Omega.{arith}
use mathlib.Core.Path.{◌≡◌, refl}
use Prim.Native.Nat.{◌+◌, ◌-◌}
use Rattle.layout.proofs.Fits.{room_of}
use Rattle.steps.proofs.Known.{unknown}
use Rattle.steps.proofs.Loop.{went_on, stopped, spent}
use Rattle.steps.proofs.run_steps.Goals as goal

pub loop-made-init : goal.loop-made-init
loop-made-init c =
    let all : c.args.budget - 0 ≡ c.args.budget = omega arith in
    (omega arith, rw all (record { same = refl; excess = refl; long = refl; sane = c.requires.sane; newz = unknown c.args.fit.now.sizes c.args.fit.now.terms _ _ _ }))

pub returns-in_default : goal.returns-in_default
returns-in_default c =
    let s = c.args in
    stopped s.fit.now.sizes s.fit.now.terms s.fit.now.tol _ s.fit.now.limit s.budget s.rec _ (s.budget - c.loop-made.made) _ _ _ (omega arith) c.loop-made.invariant.1
    c.in_default.is c.one_step-o.ensures

pub loop-made-preserved : goal.loop-made-preserved
loop-made-preserved c =
    let s = c.args in
    let one-less : s.budget - (c.loop-made.made + 1) ≡ s.budget - c.loop-made.made - 1 = omega arith in (
      omega arith,
      rw one-less
          (went_on s.fit.now.sizes s.fit.now.terms s.fit.now.tol _ s.fit.now.limit s.budget s.rec _ (s.budget - c.loop-made.made) _ _ _ _ (omega arith) c.loop-made.invariant.1
          c.one_step-o.auto.s c.in-Going.is c.searched-known.ensures c.one_step-o.ensures),
    )

pub returns : goal.returns
returns c =
    let s = c.args in
    spent s.fit.now.sizes s.fit.now.terms s.fit.now.tol _ s.fit.now.limit s.budget s.rec _ (s.budget - c.loop-made.made) _ _ (omega arith) c.loop-made.invariant.1
    (room_of s.fit.now (omega arith))
