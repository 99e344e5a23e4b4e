-- Where the items of a file lead.
use Rattle.std.specs.Prelude.{◌≡◌, List, ℕ, Ok, Some}
use Rattle.items.specs.declared.Item.{Item}
use Rattle.items.specs.declared.Cursor.{Cursor}
use Rattle.items.specs.declared.Within.TheVariants.{Root}
use Rattle.items.specs.Walk.{cursor, next_of}
use Rattle.effects.specs.Effects.{effect_of}
use Rattle.verdict.specs.Verdict.{State, first_state, goes, carried}

-- Every item ahead of the cursor was taken, and together they lead to this state.
pub data Reached (s : List ℕ) : State → Cursor → Type 0 where
  begin : Reached s first_state (cursor 0 Root)
  behind : {x : State} {c : Cursor} {i : Item} {d : Cursor} {y : State}
      → Reached s x c → next_of s c ≡ Ok (Some (i, d)) → carried s x (effect_of s x.standing i) ≡ goes y → Reached s y d
