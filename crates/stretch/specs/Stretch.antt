-- A stretch: definitions and items that are stepped over, one after the other, each with a length of one octet. No sentence of document 01 knows
-- it; that a stretch does what its items do one by one is shown where the pass takes it (pass/proofs/Stretches.antt).
use Rattle.heads.specs.declared.Fault.{Fault}
use Rattle.settings.specs.declared.Change.{Change}
use Rattle.definitions.specs.declared.Attribute.{Attribute}
use Rattle.std.specs.Prelude.{List, Bool, false, ℕ, zero, suc, ◌+◌, ◌-◌, ◌/◌, ◌%◌, eqb, ltb, length, get_or, take, drop, Result, Ok, Err, Option, Some, None}
use Rattle.octets.specs.Pick.{pick}
use Rattle.items.specs.declared.Cursor.{Cursor}
use Rattle.items.specs.Walk.{extent}
use Rattle.settings.specs.declared.Settings.{Settings}
use Rattle.settings.specs.Settings.{applied}
use Rattle.definitions.specs.Define.{tagged, defined}
use Rattle.stretch.specs.declared.Stretch.{Stretch}

-- The tags of other items that a stretch may hold: none that stands only outside groups, no context tag, and not 00, which may end an open group.
unfoldable pub stepped_over : ℕ → Bool
stepped_over tag =
    pick (eqb tag 0x00) false
    (pick (eqb tag 0x01) false
    (pick (eqb tag 0x05) false
    (pick (eqb tag 0x06) false
    (pick (eqb tag 0x07) false
    (pick (eqb tag 0x0E) false
    (pick (eqb tag 0x1E) false
    (eqb (tag / 32 % 2) 0)))))))

-- An item of a stretch leaves settings; or the stretch ends before it.
pub data Step : Type 0 where
  leaves : Settings → Step
  ends : Step

-- A definition is carried out; one that is refused ends the stretch.
unfoldable pub leaves_by : Settings → Result Change Fault → Step
leaves_by held (Ok c) = leaves (applied c held)
leaves_by held (Err fault) = ends

-- An item goes by what its tag defines.
unfoldable pub step_by : Bool → Settings → Settings → ℕ → List ℕ → Option Attribute → Step
step_by little base held tag v (Some a) = leaves_by held (defined a little base v)
step_by little base held tag v None = pick (stepped_over tag) (leaves held) ends

-- The item at the front of u. It belongs to the stretch where its length takes one octet, below 128, and its value is all there.
unfoldable pub step_of : Bool → Settings → Settings → List ℕ → Step
step_of little base held u =
    let tag = get_or u 0 0 in
    let n = get_or u 1 0 in
    pick (ltb (length u) 2) ends
    (pick (ltb 127 n) ends
    (pick (ltb (length u - 2) n) ends
    (step_by little base held tag (take n (drop 2 u)) (tagged tag))))

-- How far it goes, and the settings that it leaves.
abbrev pub stretch : ℕ → Settings → Stretch
stretch at x = record { at = at; settings = x }

unfoldable pub onward : (Settings → Stretch) → Stretch → Step → Stretch
onward more here (leaves x) = more x
onward more here ends = here

-- The stretch that goes on with u, `at` octets after its front. Each item takes octets, so that as many turns as there are octets are enough.
unfoldable pub run_from : ℕ → Bool → Settings → ℕ → Settings → List ℕ → Stretch
run_from zero little base at held u = stretch at held
run_from (suc turns) little base at held u =
    let k = 2 + get_or u 1 0 in
    onward (λ x. run_from turns little base (at + k) x (drop k u)) (stretch at held) (step_of little base held u)

-- The stretch at the front of u.
unfoldable pub run_of : Bool → Settings → Settings → List ℕ → Stretch
run_of little base held u = run_from (length u) little base 0 held u

-- The stretch at a cursor of the file s, up to the end of the file or of the definite group around.
unfoldable pub stretch_of : List ℕ → Cursor → Bool → Settings → Settings → Stretch
stretch_of s c little base held =
    let r = run_of little base held (extent s c.at c.within) in
    stretch (c.at + r.at) r.settings
