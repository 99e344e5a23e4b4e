-- The stretch that `along` answers, over the defaults.
use mathlib.Core.Path.{◌∙◌, ap}
use Rattle.settings.specs.declared.Settings.{Settings}
use Rattle.stretch.specs.Stretch.{stretch_of}
use Rattle.pass.proofs.root_stretch.Goals as goal

pub returns : goal.returns
returns c =
    let a = c.args in
    c.along.ensures ∙ ap (λ (b : Settings). stretch_of a.s.now a.c a.st.little b a.st.root) c.default.ensures
