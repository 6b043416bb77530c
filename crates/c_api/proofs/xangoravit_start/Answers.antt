-- `c_api::xangoravit_start` meets its contract. Assumes nothing.
use mathlib.Core.Path.{◌≡◌, sym, ◌∙◌}
use mathlib.Core.Bool.{true}
use lib.ListN.{length}
use Rattle.c_api.proofs.Calls.{Due, Lengths, lengths, start-not-due, start-due}
use Rattle.c_api.proofs.xangoravit_start.Goals as goal

pub returns-then-not-due : goal.returns-then-not-due
returns-then-not-due c =
    let g = c.args in
    start-not-due g.n g.p g.x.now g.y.now g.settings.now g.rec.now g.s.now g.answer.now
    (sym c.due.ensures ∙ c.if-not-due.true) c.no_counts.ensures c.refuse.ensures

pub settings_from-requires : goal.settings_from-requires
settings_from-requires c = (lengths _ _ _ (sym c.due.ensures ∙ c.if-not-due.false)).settings

pub write_started-requires : goal.write_started-requires
write_started-requires c = (lengths _ _ _ (sym c.due.ensures ∙ c.if-not-due.false)).paused

pub write_answer-requires : goal.write_answer-requires
write_answer-requires c = (lengths (length c.args.settings.now) (length c.args.rec.now) _ (sym c.due.ensures ∙ c.if-not-due.false)).answer

pub returns : goal.returns
returns c =
    let g = c.args in
    start-due g.n g.p g.x.now g.y.now g.settings.now g.rec.now g.s.now g.answer.now
    c.start-o.result c.start-o.new.s (sym c.due.ensures ∙ c.if-not-due.false) c.settings_from.ensures c.start-o.ensures
    c.write_started.ensures c.started-t.ensures c.no_counts-2.ensures c.write_answer.ensures
