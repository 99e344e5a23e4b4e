-- One item carried out where a walk stands, over records in words: what `walk` does with it (specs/Advance.antt there), for any effect and any words.
use Rattle.heads.specs.declared.Fault.{Fault}
use Rattle.effects.specs.declared.Effect.{Effect}
use Rattle.std.specs.Prelude.{◌≡◌, ℕ, ◌+◌, ◌%◌, ◌^◌, List, length, Result, Ok, Err, Option, Some, None}
use Rattle.heads.specs.declared.Refusal.{Refusal}
use Rattle.items.specs.declared.Cursor.{Cursor}
use Rattle.items.specs.Walk.{refusal}
use Rattle.dated.specs.declared.Dates.{Dates}
use Rattle.standing.specs.declared.Standing.{Standing}
use Rattle.records.specs.Records.{PastKept}
use Rattle.walk.specs.declared.Waveform.{Waveform}
use Rattle.walk.specs.declared.Head.{Head}
use Rattle.walk.specs.Advance.{Stand, stop, Turn, on, stops, effect_turn, stand_of, BelowKept}
use Rattle.taking.specs.declared.Taken.{Taken}

-- The turn of an item that led on, that gave a frame, or that is refused, where the walk stands then.
abbrev pub turn_by : Result (Option Waveform) Refusal → Stand → Turn
turn_by (Ok None) x = on x
turn_by (Ok (Some v)) x = stops (stop (Ok (Some v)) x)
turn_by (Err r) x = stops (stop (Err r) x)

-- The head behind one item more.
abbrev pub head_behind : Head → Cursor → Standing → Dates → ℕ → Head
head_behind h c st d frames = record { cursor = c; standing = st; dates = d; items = (h.items + 1) % 2 ^ 64; frames = frames }

-- An item that leads on; one that is refused; and a frame that is taken.
abbrev pub went_on : Head → Cursor → Standing → Dates → Taken
went_on h c st d = record { went = Ok None; head = head_behind h c st d h.frames }

abbrev pub stopped_at : Head → Fault → ℕ → Taken
stopped_at h fault place = record { went = Err (refusal fault place); head = h }

abbrev pub stopped_behind : Head → Cursor → Standing → Waveform → Taken
stopped_behind h c st v = record { went = Ok (Some v); head = head_behind h c st h.dates (h.frames + 1) }

-- What an item is answered, and how it leaves the words.
pub record Takes (u : List ℕ) (h : Head) (c : Cursor) (place : ℕ) (e : Result Effect Fault) (r : Taken) (v : List ℕ) : Type 0 where
  pub same : turn_by r.went (stand_of r.head v) ≡ effect_turn (stand_of h u) c place e
  pub long : length v ≡ length u
  pub past : PastKept u v
  pub below : BelowKept v r.went
