-- `c_api::xangoravit_resume` meets its contract. Assumes nothing.
use mathlib.Core.Path.{◌≡◌, sym, ◌∙◌}
use mathlib.Core.Bool.{true}
use lib.ListN.{length}
use Rattle.c_api.proofs.Calls.{Due, Lengths, lengths, resume-not-due, resume-due}
use Rattle.c_api.proofs.xangoravit_resume.Goals as goal

pub returns-then-not-due : goal.returns-then-not-due
returns-then-not-due c =
    let g = c.args in
    resume-not-due g.n g.p g.x.now g.y.now g.settings.now g.rec.now g.s.now g.w.now g.budget g.answer.now
    (sym c.due.ensures ∙ c.if-not-due.true) c.counts_in.ensures c.refuse.ensures

pub settings_from-requires : goal.settings_from-requires
settings_from-requires c = (lengths _ _ _ (sym c.due.ensures ∙ c.if-not-due.false)).settings

pub paused_from-requires : goal.paused_from-requires
paused_from-requires c = (lengths _ _ _ (sym c.due.ensures ∙ c.if-not-due.false)).paused

pub write_resumed-requires : goal.write_resumed-requires
write_resumed-requires c = (lengths _ _ _ (sym c.due.ensures ∙ c.if-not-due.false)).paused

pub write_answer-requires : goal.write_answer-requires
write_answer-requires c = (lengths (length c.args.settings.now) (length c.args.rec.now) _ (sym c.due.ensures ∙ c.if-not-due.false)).answer

pub returns : goal.returns
returns c =
    let g = c.args in
    resume-due g.n g.p g.x.now g.y.now g.settings.now g.rec.now g.s.now g.w.now g.budget g.answer.now
    c.resume-o.result c.resume-o.new.w c.resume-o.new.s (sym c.due.ensures ∙ c.if-not-due.false)
    c.settings_from.ensures c.paused_from.ensures c.resume-o.ensures
    c.write_resumed.ensures c.resumed-t.ensures c.write_answer.ensures
