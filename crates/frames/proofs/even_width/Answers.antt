-- One width so far, and after the last channel of all.
use mathlib.Core.Path.{◌≡◌, refl, ap, sym, subst, ◌∙◌}
use mathlib.Core.List.{List}
use Prim.Native.Nat.{ℕ, ◌≤◌, ◌<◌}
use native.Mathlib.Omega.{arith}
use lib.ListN.{take, get_or}
use Rattle.settings.specs.declared.Settings.{Settings}
use Rattle.dated.specs.Dated.{zero_dated}
use Rattle.words.specs.Words.{records_in, held_in}
use Rattle.frames.specs.Parts.{Few}
use Rattle.values.specs.Sample.{width_of}
use Rattle.laid.specs.Turned.{Even}
use borrow.Author.Count.{below_none, below_more}
use Rattle.frames.proofs.Coming.{nth, taken-long}
use Rattle.frames.proofs.even_width.Goals as goal

pub loop-i-init : goal.loop-i-init
loop-i-init c =
    below_none _

pub returns-then-width-v : goal.returns-then-width-v
returns-then-width-v c = λ h. let z : ⊥ = omega arith in absurd z

pub loop-i-preserved : goal.loop-i-preserved
loop-i-preserved c =
    let inv = c.loop-i.invariant in
    below_more _ _ inv (ap (λ (y : Settings). width_of y.datatype) (sym c.settings-c.ensures) ∙ sym c.width.ensures ∙ c.if-width-v.false)

even_taken : (u : List ℕ) {n : ℕ} → Few n u → (i v : ℕ) → n ≤ i → ((k : ℕ) → k < i → width_of (get_or (records_in u) k zero_dated).settings.datatype ≡ v) → Even v (take n (held_in u))
even_taken u f i v l g j m =
    let k : j < _ = subst (λ (n : ℕ). j < n) (taken-long u f) m in
    ap (λ (c : Settings). width_of c.datatype) (sym (nth u f k refl).is) ∙ g j (omega arith)

pub returns : goal.returns
returns c =
    let a = c.args in
    let inv = c.loop-i.invariant in
    λ h. even_taken a.channels.words.now a.channels.few c.loop-i.i _ c.loop-i-test.false inv
