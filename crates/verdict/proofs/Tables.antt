-- What holds of each attribute of every channel's record: where it holds of the defaults and of each value that a definition can give,
-- it holds at every state that is reached.
--     each_at, applied-each    of one attribute of a record, and of a record with one attribute changed
--     table_step, table_first    of the table, kept by every item
-- Assumes nothing.
use mathlib.Core.Path.{◌≡◌}
use mathlib.Core.List.{List}
use mathlib.Core.Bool.{Bool, true}
use Prim.Native.Nat.{ℕ}
use borrow.Author.Rules.{rules}
use lib.ListN.{length}
use Rattle.items.specs.declared.Item.{Item}
use Rattle.settings.specs.declared.Settings.{Settings}
use Rattle.definitions.specs.declared.Attribute.{Attribute}
use Rattle.settings.specs.declared.Change.{Change}
use Rattle.settings.specs.Settings.{channel_limit, default_settings, zero_settings, applied, all_applied}
use Rattle.definitions.specs.Define.{length_fits, change_of, standing_in, in_range}
use Rattle.effects.specs.Effects.{value_at}
use Rattle.verdict.specs.Verdict.{State, first_state, one_changed}
use Rattle.verdict.proofs.Every.{Every, every_replicate, every_changed, every_map}
use Rattle.verdict.proofs.Steps.{DefinedChange, back, new, ItemStep, passes, stands, resets, changes, sets, frames}

-- P holds of each attribute of a record.
pub record EachAttribute (P : Change → Type 0) (c : Settings) : Type 0 where
  pub block : P (Change.Block c.block)
  pub class : P (Change.Class c.class)
  pub lead : P (Change.Lead c.lead)
  pub datatype : P (Change.DataType c.datatype)
  pub interval : P (Change.Interval c.interval)
  pub resolution : P (Change.Resolution c.resolution)
  pub offset : P (Change.Offset c.offset)
  pub null : P (Change.Null c.null)

module _ (P : Change → Type 0) where
  each_at : (a : Attribute) (c : Settings) → EachAttribute P c → P (standing_in a c)
  each_at Attribute.Block c e = e.block
  each_at Attribute.Class c e = e.class
  each_at Attribute.Lead c e = e.lead
  each_at Attribute.DataType c e = e.datatype
  each_at Attribute.Interval c e = e.interval
  each_at Attribute.Resolution c e = e.resolution
  each_at Attribute.Offset c e = e.offset
  each_at Attribute.Null c e = e.null

  applied-each : (ch : Change) (c : Settings) → P ch → EachAttribute P c → EachAttribute P (applied ch c)
  applied-each (Change.Block n) c p e = search rules
  applied-each (Change.Class n) c p e = search rules
  applied-each (Change.Lead n) c p e = search rules
  applied-each (Change.DataType n) c p e = search rules
  applied-each (Change.Interval x) c p e = search rules
  applied-each (Change.Resolution x) c p e = search rules
  applied-each (Change.Offset x) c p e = search rules
  applied-each (Change.Null x) c p e = search rules

  -- P holds of the root settings and of the table.
  pub record Table (x : State) : Type 0 where
    pub root : EachAttribute P x.standing.root
    pub table : Every (EachAttribute P) x.channels

  module _ (s : List ℕ) (default : EachAttribute P default_settings)
      (fresh : (a : Attribute) (little : Bool) (start len : ℕ)
      → length_fits a (length (value_at s start len)) ≡ true
      → (length (value_at s start len) ≡ 0 → ⊥)
      → in_range (change_of a little (value_at s start len)) ≡ true
      → P (change_of a little (value_at s start len))) where
    definition_each : (base : Settings) (ch : Change) → EachAttribute P base → DefinedChange s base ch → P ch
    definition_each base _ e (back a) = each_at a base e
    definition_each base _ e (new a little start len f z r) = fresh a little start len f z r

    pub table_step : (x : State) (i : Item) (y : State) → Table x → ItemStep s x i y → Table y
    unfolding all_applied one_changed
    table_step x i _ t passes = t
    table_step x i _ t (stands y h r q) = record { root = rw r t.root; table = t.table }
    table_step x i _ t (resets y h r q) = record { root = rw r t.root; table = every_replicate (EachAttribute P) channel_limit y.root (rw r t.root) }
    table_step x i _ t (changes ch g) =
        let p = definition_each default_settings ch default g in
        record {
          root = applied-each ch x.standing.root p t.root;
          table = every_map (EachAttribute P) (EachAttribute P) (applied ch) (λ c. applied-each ch c p) x.channels t.table;
        }
    table_step x i _ t (sets channel ch g) =
        let p = definition_each x.standing.root ch t.root g in
        record { root = t.root; table = every_changed (EachAttribute P) (applied ch) (λ c. applied-each ch c p) x.channels channel zero_settings t.table }
    table_step x i _ t (frames start long n y w f) = record { root = rw f.after t.root; table = t.table }

    pub table_first : Table first_state
    table_first = record { root = default; table = every_replicate (EachAttribute P) channel_limit default_settings default }
