-- When a file is refused, and with what (document 01, "What comes back when it is no").
use Rattle.std.specs.Prelude.{List, ℕ, ◌≤◌, ◌<◌, length}
use Rattle.heads.specs.declared.Refusal.{Refusal}
use Rattle.heads.specs.declared.Fault.TheVariants.{LongFile}
use Rattle.items.specs.declared.Cursor.{Cursor}
use Rattle.items.specs.declared.Within.{Within}
use Rattle.items.specs.Walk.{refusal, stands_in, extent}
use Rattle.standing.specs.Standing.{octets_limit}
use Rattle.verdict.specs.Verdict.{State}
use Rattle.verdict.specs.Reached.{Reached}
use Rattle.theorems.specs.Rows.{Due, rows_at}

-- What is around a cursor, and the octets ahead of it, up to the end of the file or of the definite group around it.
abbrev pub around : Cursor → Within
around c = stands_in c.at c.within

abbrev pub ahead : List ℕ → Cursor → List ℕ
ahead s c = extent s c.at (around c)

-- A refusal is due at a cursor: its row's condition holds there, and none ahead of it does.
abbrev pub DueAt : List ℕ → State → Cursor → Refusal → Type 0
DueAt s x c r = Due (rows_at x c.at (around c) (ahead s c)) r

-- 15 comes first. Then the first refused item in file order decides: all items ahead of it were taken.
pub data Refusing (s : List ℕ) : Refusal → Type 0 where
  over_limit : octets_limit < length s → Refusing s (refusal LongFile 0)
  stops : (x : State) (c : Cursor) (r : Refusal) → length s ≤ octets_limit → Reached s x c → DueAt s x c r → Refusing s r
