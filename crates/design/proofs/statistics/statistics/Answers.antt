-- `design::statistics::statistics` meets its contract: two slots are written. Assumes nothing.
use Prim.Native.Nat.{ℕ}
use mathlib.Core.Bool.{Bool}
use mathlib.Core.Path.{◌≡◌, refl, ap, ◌∙◌}
use mathlib.Core.List.{List}
use lib.Ieee.{Float}
use Rattle.arrays.specs.Part.{put}
use Rattle.layout.specs.Slots.{Slot.CENTRE, Slot.SCALE, Has, Room, vars, rest, words}
use Rattle.layout.proofs.Slots.{start, then}
use Rattle.layout.specs.declared.Sizes.{Sizes}
use Rattle.layout.specs.declared.Places.{Places}
use Rattle.design.specs.Statistics.{centres_of, scales_of, statistics_store}
use Rattle.design.proofs.Lengths.{length-centres, length-scales}
use Rattle.design.proofs.statistics.statistics.Goals as goal

stored : (sh : Sizes) (l : Places) (normalise : Bool) (m s : List Float) → Room sh l s → (t u : List Float)
    → t ≡ put s l.centre (centres_of normalise m sh.n sh.p) → u ≡ put t l.scale (scales_of normalise m sh.n sh.p)
    → Has sh (rest sh s) (statistics_store sh normalise m (vars sh s)) u
unfolding statistics_store words
stored sh l normalise m s r t u e1 e2 =
    let ce = centres_of normalise m sh.n sh.p in
    let sc = scales_of normalise m sh.n sh.p in
    then sh
    (then sh (start sh s r.room) CENTRE (λ v. ce) (length-centres normalise m sh.n sh.p)
    (e1 ∙ ap (λ (a : ℕ). put s a ce) r.laid.at-centre))
    SCALE (λ v. sc) (length-scales normalise m sh.n sh.p) (e2 ∙ ap (λ (a : ℕ). put t a sc) r.laid.at-scale)

pub returns-then-normalise : goal.returns-then-normalise
unfolding centres_of scales_of
returns-then-normalise c =
    let g = c.args in
    let centred = put g.s.now g.l.centre (centres_of g.normalise g.m.now g.sh.n g.sh.p) in
    stored g.sh g.l g.normalise g.m.now g.s.now c.requires.room centred c.moments.new.s refl
    (rw c.if-normalise.true c.moments.ensures)

pub returns-else-normalise : goal.returns-else-normalise
unfolding centres_of scales_of
returns-else-normalise c =
    let g = c.args in
    stored g.sh g.l g.normalise g.m.now g.s.now c.requires.room c.fill.new.s c.fill-else-normalise.new.s
    (rw c.if-normalise.false c.fill.ensures) (rw c.if-normalise.false c.fill-else-normalise.ensures)
