-- `paused_fit::resumed` meets its contract: its calls are a chain, of one, two or three links. Assumes nothing.
use mathlib.Core.Path.{◌≡◌, refl, ap, ◌∙◌}
use lib.ListN.{length}
use Rattle.elastic_net.specs.ElasticNet.{said}
use Rattle.promises.specs.Chain.{last, more}
use Rattle.paused_fit.proofs.Pending.{not-pending}
use Rattle.paused_fit.proofs.resumed.Goals as goal

pub returns : goal.returns
returns c =
    let weights₁ : length c.resume-r.new.w ≡ length c.args.w.now = c.resume-r.auto.w in
    let weights₂ : length c.resume-r-2.new.w ≡ length c.args.w.now = c.resume-r-2.auto.w ∙ weights₁ in
    let l = c.requires in
    more _ l c.resume-r.result _ _ c.resume-r.ensures (ap said c.in-Pending.is)
    (more _ (weights₁ ∙ l) c.resume-r-2.result _ _ c.resume-r-2.ensures (ap said c.in-Pending-answer.is)
    (last _ (weights₂ ∙ l) c.resume.ensures (λ h. refl)))

pub returns-in_default : goal.returns-in_default
returns-in_default c =
    last _ c.requires c.resume-r.ensures (λ h. absurd (not-pending c.resume-r.result.answer c.in_default.not-Pending h))

pub returns-in_default-answer : goal.returns-in_default-answer
returns-in_default-answer c =
    let weights₁ : length c.resume-r.new.w ≡ length c.args.w.now = c.resume-r.auto.w in
    let l = c.requires in
    more _ l c.resume-r.result _ _ c.resume-r.ensures (ap said c.in-Pending.is)
    (last _ (weights₁ ∙ l) c.resume-r-2.ensures (λ h. absurd (not-pending c.resume-r-2.result.answer c.in_default-answer.not-Pending h)))
