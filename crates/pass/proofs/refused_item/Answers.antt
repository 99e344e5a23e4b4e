-- The place is that of the item.
use mathlib.Core.Path.{◌∙◌, ap}
use Prim.Native.Nat.{ℕ}
use Rattle.items.specs.Walk.{refusal}
use Rattle.pass.specs.Scan.{refused_scan}
use Rattle.pass.proofs.refused_item.Goals as goal

pub returns : goal.returns
returns c = c.refused_scan.ensures ∙ ap (λ (p : ℕ). refused_scan (refusal c.args.fault p)) c.place_of.ensures
