-- `c_api::xangoravit_scratch_words` meets its contract. Assumes nothing.
use Rattle.c_api.proofs.Calls.{scratch-not-due, scratch-due}
use Rattle.c_api.proofs.xangoravit_scratch_words.Goals as goal

pub returns-then-settings-ne-SETTINGS_WORDS : goal.returns-then-settings-ne-SETTINGS_WORDS
returns-then-settings-ne-SETTINGS_WORDS c =
    let g = c.args in
    scratch-not-due g.n g.p g.settings.now c.if-settings-ne-SETTINGS_WORDS.true

pub settings_from-requires : goal.settings_from-requires
settings_from-requires c = c.if-settings-ne-SETTINGS_WORDS.false

pub returns : goal.returns
returns c =
    let g = c.args in
    scratch-due g.n g.p g.settings.now c.if-settings-ne-SETTINGS_WORDS.false c.settings_from.ensures c.scratch_words.ensures
