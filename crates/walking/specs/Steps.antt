-- A walk over a file, held in words: how it begins, and how it goes on.
use Rattle.heads.specs.declared.Refusal.{Refusal}
use Rattle.std.specs.Prelude.{◌≡◌, Bool, false, List, map, ℕ, pos, length, drop, Result, Ok, Err, Option, Some, None}
use Rattle.octets.specs.Pick.{pick}
use Rattle.heads.specs.Answer.{Answer, answered, refused_as, answer_of}
use Rattle.items.specs.declared.Within.TheVariants.{Root}
use Rattle.items.specs.Walk.{cursor}
use Rattle.dated.specs.Dated.{first_dates}
use Rattle.standing.specs.Standing.{first_standing}
use Rattle.words.specs.Words.{records_in}
use Rattle.records.specs.Records.{outdated, PastKept}
use Rattle.verdict.specs.Verdict.{check_of}
use Rattle.walk.specs.declared.Waveform.{Waveform}
use Rattle.walk.specs.Advance.{Stand, stand, Stop, stop, advance_of, BelowKept}
use Rattle.kept.specs.Words.{head_words, holds_head, waveform_in}
use Rattle.walking.specs.Words.{stand_in}

-- No frame: every number is 0, and so it has no channels.
abbrev pub no_waveform : Waveform
no_waveform = record { start = pos 0; channels = 0; sequences = 0; little = false; place = 0; len = 0; octets = 0 }

-- What a step tells of a frame.
abbrev pub frame_told : Result (Option Waveform) Refusal → Waveform
frame_told (Ok (Some v)) = v
frame_told (Ok None) = no_waveform
frame_told (Err r) = no_waveform

-- Words begin a walk over a file that is accepted, if they can hold a head.
abbrev pub walk_begins : Answer ℕ → List ℕ → Bool
walk_begins (answered frames) u = holds_head u
walk_begins (refused_as fault place) u = false

-- Before the first item of a file, with every record of the words sent back to the time before it.
abbrev pub begun_in : List ℕ → Stand
begun_in u = stand (cursor 0 Root) first_standing first_dates (map outdated (records_in (drop head_words u))) 0 0

-- How words are left that begin a walk, or stay as they were.
pub record Begun (begins : Bool) (u v : List ℕ) : Type 0 where
  pub stands : stand_in v ≡ pick begins (begun_in u) (stand_in u)
  pub tells : waveform_in v ≡ pick begins no_waveform (waveform_in u)
  pub long : length v ≡ length u
  pub stays : begins ≡ false → v ≡ u

-- How opening a file leaves them.
abbrev pub Opened : List ℕ → List ℕ → List ℕ → Type 0
Opened s u v = Begun (walk_begins (check_of s) u) u v

-- What it answers, and how it leaves the words.
pub record Opens (s u : List ℕ) (r : Result ℕ Refusal) (v : List ℕ) : Type 0 where
  pub answers : answer_of r ≡ check_of s
  pub words : Opened s u v

-- From where words stand to the next frame, the end or the refusal. Words that cannot hold a head are at the end.
abbrev pub step_in : List ℕ → List ℕ → Stop
step_in s u = pick (holds_head u) (advance_of s (stand_in u)) (stop (Ok None) (stand_in u))

-- What the next step is, and how it leaves the words.
pub record Goes (s u : List ℕ) (r : Result (Option Waveform) Refusal) (v : List ℕ) : Type 0 where
  pub same : stop r (stand_in v) ≡ step_in s u
  pub tells : waveform_in v ≡ pick (holds_head u) (frame_told r) (waveform_in u)
  pub long : length v ≡ length u
  pub past : PastKept (drop head_words u) (drop head_words v)
  pub below : BelowKept (drop head_words v) r
  pub stays : holds_head u ≡ false → v ≡ u
