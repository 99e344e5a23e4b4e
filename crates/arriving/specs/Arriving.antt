-- A link that goes by value, with the octets that it keeps beside it and the channels' records in words. Any numbers at all are some link. None of it is a rule
-- of document 01.
use Rattle.heads.specs.declared.Fault.{Fault}
use Rattle.heads.specs.declared.ItemHead.{ItemHead}
use Rattle.std.specs.Prelude.{◌≡◌, ℕ, ◌+◌, ◌-◌, ◌%◌, ◌^◌, ◌<◌, ◌≤◌, min, max, ◌⊎◌, Bool, List, [], length, take, ◌==◌, Result, Ok, Err, Option, Some, None}
use Rattle.octets.specs.Pick.{pick}
use Rattle.heads.specs.declared.Fault.TheVariants.{LongFile}
use Rattle.heads.specs.Head.{form_of}
use Rattle.items.specs.declared.Within.{Within}
use Rattle.items.specs.Walk.{refusal, stands_in, is_inside}
use Rattle.standing.specs.Standing.{octets_limit}
use Rattle.walk.specs.declared.Waveform.{Waveform}
use Rattle.walk.specs.declared.Head.{Head}
use Rattle.walk.specs.Advance.{Stand, stand_of}
use Rattle.walking.specs.Steps.{no_waveform}
use Rattle.link.specs.Link as L
use Rattle.link.specs.Link.{Phase, cut_at, kept_limit, seen_in, next_coming, taken_in, is_decided, stepped}
use Rattle.held.specs.declared.Noted.{Noted}
use Rattle.held.specs.declared.Stage.{Stage}
use Rattle.rows.specs.declared.Spot.{Spot}
use Rattle.rows.specs.Rows.{coming_at}
use Rattle.held.specs.declared.Core.{Core}
use Rattle.held.specs.Words.{noted_of, refusal_of, phase_of, link_of}
use Rattle.arriving.specs.declared.Link.{Link}
use Rattle.arriving.specs.declared.Arrived.{Arrived}

-- The octets that are kept.
abbrev pub kept_of : Link → List ℕ → List ℕ
kept_of x p = take (min x.core.held kept_limit) p

-- The link of numbers, octets and the words of the records.
abbrev pub link_by : Link → List ℕ → List ℕ → L.Link
link_by x p t = link_of x.core (kept_of x p) (stand_of x.head t) x.frame

abbrev pub core : ℕ → ℕ → ℕ → Stage → Core
core count around held stage = record { count = count; around = around; held = held; stage = stage }

abbrev pub link_with : Core → Head → Waveform → Link
link_with c h v = record { core = c; head = h; frame = v }

-- At another stage, with nothing kept.
abbrev pub in_stage : Stage → Link → Link
in_stage s x = link_with (core x.core.count x.core.around 0 s) x.head x.frame

-- The walk stands elsewhere.
abbrev pub in_stand : Head → Link → Link
in_stand h x = link_with x.core h x.frame

-- An end is 3 at the item at hand, or at the definite group around it.
abbrev pub marked_by : Link → Link
marked_by x =
    let place = x.head.cursor.at in
    link_with (core x.core.count (cut_at (stands_in place x.head.cursor.within) place x.core.around) x.core.held x.core.stage) x.head x.frame

-- In a waveform of which so many octets are still to come, before its first sample.
abbrev pub waved_stage : ℕ → Stage
waved_stage left = pick (left == 0) Stage.Head (Stage.Waveform left 0 0 0)

-- One octet more has come.
abbrev pub counted_by : Link → Link
counted_by x = link_with (core (x.core.count + 1) x.core.around x.core.held x.core.stage) x.head x.frame

-- So many octets more have come, of which so many are kept, at a stage. The count starts again at 0 behind 2^64 - 1, which no file leads to.
abbrev pub further_by : ℕ → ℕ → Stage → Link → Link
further_by m held s x = link_with (core ((x.core.count + m) % 2 ^ 64) x.core.around held s) x.head x.frame

-- No frame is told any more.
abbrev pub untold_by : Link → Link
untold_by x = link_with x.core x.head no_waveform

-- In a waveform of which so many octets are still to come, at a sample of which so many are kept.
abbrev pub at_sample : ℕ → Spot → ℕ → Link → Link
at_sample left at held x =
    pick (left == 0) (in_stage Stage.Head x)
    (link_with (core x.core.count x.core.around held (Stage.Waveform left at.sequence at.channel at.index)) x.head x.frame)

-- A refusal that waits for so many octets.
abbrev pub waiting_by : ℕ → Noted → Link → Link
waiting_by left r x = pick (left == 0) (in_stage (Stage.Decided (Err r)) x) (in_stage (Stage.Waits left r) x)

-- The refusal that a stage notes, if it notes one.
abbrev pub noted_in : Stage → Option Noted
noted_in Stage.Head = None
noted_in (Stage.Value tag left) = None
noted_in (Stage.Waveform left sequence channel index) = None
noted_in (Stage.Waits left r) = Some r
noted_in (Stage.Decided (Ok n)) = None
noted_in (Stage.Decided (Err r)) = Some r

-- A refusal is noted by the number of its fault.
abbrev pub Known : Option Noted → Type 0
Known None = Unit {0}
Known (Some r) = noted_of (refusal_of r) ≡ r

-- How many octets a refusal still waits for: at least one, till it is the answer.
abbrev pub due_in : Stage → ℕ
due_in Stage.Head = 0
due_in (Stage.Value tag left) = 0
due_in (Stage.Waveform left sequence channel index) = 0
due_in (Stage.Waits left r) = max left 1
due_in (Stage.Decided a) = 0

-- A refusal for which so many octets were due behind k is noted as it was, whatever its number, where no more than n have come: those that were due have been
-- counted, or still are due.
abbrev pub Stays : ℕ → ℕ → ℕ → Noted → Link → Type 0
Stays k due n r y = (noted_in y.core.stage ≡ Some r) × (y.core.count ≤ n) × (k + due ≤ y.core.count + due_in y.core.stage)

-- What a link notes, by the stage before: with the first octet behind it k have come, and n with the last. Of a refusal that waits it notes the same, or, behind an
-- octet that passes the limit, 15; of an answer the same; and else, where it notes one, one by the number of its fault.
abbrev pub NotesBy : ℕ → ℕ → Stage → Link → Type 0
NotesBy k n Stage.Head y = Known (noted_in y.core.stage)
NotesBy k n (Stage.Value tag left) y = Known (noted_in y.core.stage)
NotesBy k n (Stage.Waveform left sequence channel index) y = Known (noted_in y.core.stage)
NotesBy k n (Stage.Waits left r) y = Stays k (left - 1) n r y ⊎ ((noted_in y.core.stage ≡ Some (noted_of (refusal LongFile 0))) × (octets_limit < n) × (k ≤ n))
NotesBy k n (Stage.Decided a) y = (y.core.stage ≡ Stage.Decided a) × (y.core.count ≤ n) × (k ≤ y.core.count + 1)

-- The same behind m octets more.
abbrev pub Notes : Link → ℕ → Link → Type 0
Notes x m y = NotesBy (x.core.count + 1) (x.core.count + m) x.core.stage y

-- What a link becomes, with whatever octets and words: nothing is kept, and no record is touched.
pub record Becomes (x r : Link) (f : L.Link → L.Link) : Type 0 where
  pub known : Known (noted_in r.core.stage)
  pub same : (p q t : List ℕ) → link_by r q t ≡ f (link_by x p t)

-- The same, where the walk then stands elsewhere, with other words.
pub record Moves (x : Link) (h : Head) (f : Stand → L.Link → L.Link) (r : Link) : Type 0 where
  pub known : Known (noted_in r.core.stage)
  pub same : (p q u v : List ℕ) → link_by r q v ≡ f (stand_of h v) (link_by x p u)

-- What a link becomes, and the words of its records: with nothing kept, or with the octets p.
pub record Turns (x : Link) (u : List ℕ) (f : L.Link → L.Link) (r : Link) (v : List ℕ) : Type 0 where
  pub known : Known (noted_in r.core.stage)
  pub same : (p q : List ℕ) → link_by r q v ≡ f (link_by x p u)
  pub long : length v ≡ length u

pub record TurnsOn (x : Link) (u : List ℕ) (f : L.Link → L.Link) (r : Link) (p v : List ℕ) : Type 0 where
  pub known : Known (noted_in r.core.stage)
  pub same : (q : List ℕ) → link_by r p v ≡ f (link_by x q u)
  pub long : length v ≡ length u

-- The sample behind one of the frame's.
abbrev pub ComesNext : ℕ → ℕ → Spot → Spot → Type 0
ComesNext block channels at r = (u : List ℕ) → coming_at r [] ≡ next_coming block channels (coming_at at u)

-- Whether a stage is that of an answer.
abbrev pub DecidedIn : Stage → Bool → Type 0
DecidedIn s r = (p : List ℕ) → r ≡ is_decided (phase_of s p)

-- The octets that have come are no more than a file may have, and a length is one.
pub record Near (x : Link) (len : ℕ) : Type 0 where
  pub count : x.core.count ≤ octets_limit
  pub small : len < 2 ^ 32

-- What the first n octets of a head say: where more are wanted, they can be kept.
abbrev pub Bounded : Link → ℕ → Result (Option ItemHead) Fault → Type 0
Bounded x n (Ok None) = n ≤ kept_limit
Bounded x n (Err fault) = Unit {0}
Bounded x n (Ok (Some (ItemHead.Primitive tag start len))) = Near x len
Bounded x n (Ok (Some (ItemHead.Definite channel start len))) = Near x len
Bounded x n (Ok (Some (ItemHead.Open channel start))) = Unit {0}

-- What n octets of a head say of it: where more are wanted they are few, and a length has no more than four octets.
abbrev pub SmallForm : ℕ → Result (Option ItemHead) Fault → Type 0
SmallForm n (Ok None) = n < 10
SmallForm n (Err fault) = Unit {0}
SmallForm n (Ok (Some (ItemHead.Primitive tag start len))) = len < 2 ^ 32
SmallForm n (Ok (Some (ItemHead.Definite channel start len))) = len < 2 ^ 32
SmallForm n (Ok (Some (ItemHead.Open channel start))) = Unit {0}

pub record Seen (w : Within) (count : ℕ) (u : List ℕ) (r : Result (Option ItemHead) Fault) : Type 0 where
  pub is : r ≡ seen_in w count (form_of (is_inside w) u)
  pub small : SmallForm (length u) r

-- One octet in a phase, that of this stage; it has been counted.
pub record Takes (x : Link) (p u : List ℕ) (b : ℕ) (phase : Phase) (before : Stage) (r : Arrived) (v : List ℕ) : Type 0 where
  pub notes : NotesBy x.core.count x.core.count before r.link
  pub same : link_by r.link r.octets v ≡ taken_in b phase (link_by x p u)
  pub long : length v ≡ length u

-- One octet more.
pub record Steps (x : Link) (p u : List ℕ) (b : ℕ) (r : Arrived) (v : List ℕ) : Type 0 where
  pub notes : Notes x 1 r.link
  pub same : link_by r.link r.octets v ≡ stepped (link_by x p u) b
  pub long : length v ≡ length u
