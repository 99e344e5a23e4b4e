-- Whole items at the front of octets that have come, taken at once: they lead where they lead octet by octet (link/specs/Link.antt).
use Rattle.heads.specs.declared.Fault.{Fault}
use Rattle.effects.specs.declared.Effect.{Effect}
use Rattle.heads.specs.declared.ItemHead.{ItemHead}
use Rattle.std.specs.Prelude.{ℕ, ◌+◌, ◌-◌, ◌≤◌, ◌<◌, ◌≡◌, List, [], eqb, length, take, Result, Option}
use Rattle.octets.specs.Pick.{pick}
use Rattle.heads.specs.Head.{form_of}
use Rattle.items.specs.declared.Within.{Within}
use Rattle.items.specs.declared.Cursor.{Cursor}
use Rattle.items.specs.declared.Item.{Item}
use Rattle.items.specs.declared.Item.TheVariants.{Plain, Member, Mark}
use Rattle.items.specs.Walk.{stands_in, is_inside, ends_open}
use Rattle.standing.specs.Standing.{octets_limit}
use Rattle.records.specs.Records.{PastKept}
use Rattle.walk.specs.declared.Waveform.{Waveform}
use Rattle.walk.specs.declared.Head.{Head}
use Rattle.walk.specs.Advance.{Stand, on, effect_turn, stand_of}
use Rattle.walking.specs.Steps.{no_waveform}
use Rattle.link.specs.Link.{Link, link, head, cut_at, group_at}
use Rattle.link.specs.Runs.{Leads}
use Rattle.ahead.specs.declared.Ahead.{Ahead}

-- ---- what is promised

-- The frame that was told, until an octet follows it.
abbrev pub told_behind : ℕ → Waveform → Waveform
told_behind taken v = pick (eqb taken 0) v no_waveform

-- Between two items, where the walk stands before the next octet.
abbrev pub between : Stand → ℕ → Waveform → Link
between x around v = link x.cursor.at x around v (head [])

-- The first `taken` octets of u lead on from a walk's head and its words t to those behind them, whatever frame was told, and give nothing out.
pub record GoesAhead (u : List ℕ) (h : Head) (around : ℕ) (t : List ℕ) (r : Ahead) (t' : List ℕ) : Type 0 where
  pub inside : r.taken ≤ length u
  pub long : length t' ≡ length t
  pub past : PastKept t t'
  pub place : r.head.cursor.at ≡ h.cursor.at + r.taken
  pub leads : (v : Waveform)
      → Leads (link h.cursor.at (stand_of h t) around v (head [])) (take r.taken u)
      (link (h.cursor.at + r.taken) (stand_of r.head t') r.around (told_behind r.taken v) (head [])) []

-- ---- one item

-- The octets end with the definite group around, or before.
abbrev pub Fits : Within → ℕ → Type 0
Fits Within.Root n = Unit {0}
Fits (Within.Definite channel end) n = n ≤ end
Fits (Within.Open channel place) n = Unit {0}

-- The octets at a place up to the end of the definite group around.
unfoldable pub reach_of : List ℕ → ℕ → Within → List ℕ
reach_of u at Within.Root = u
reach_of u at (Within.Definite channel end) = take (end - at) u
reach_of u at (Within.Open channel place) = u

-- The item at a place, its value `len` octets from `start` on of the octets at hand.
unfoldable pub item_here : Within → ℕ → ℕ → ℕ → ℕ → Item
item_here Within.Root place tag start len = Plain place tag start len
item_here (Within.Definite channel end) place tag start len = Member place channel tag start len
item_here (Within.Open channel group) place tag start len = pick (ends_open tag len) (Mark place) (Member place channel tag start len)

-- The place that is kept behind an item, with the cursor there.
abbrev pub around_behind : Stand → ℕ → Cursor → ℕ
around_behind x around c = group_at (stands_in c.at c.within) (cut_at (stands_in x.cursor.at x.cursor.within) x.cursor.at around)

-- The first k octets are an item with this effect, behind which the cursor stands: where it leads on, so do they.
pub record IsItem (u : List ℕ) (x : Stand) (around k : ℕ) (c : Cursor) (e : Result Effect Fault) : Type 0 where
  pub inside : k ≤ length u
  pub some : 0 < k
  pub place : c.at ≡ x.cursor.at + k
  pub leads : (y : Stand) → effect_turn x c x.cursor.at e ≡ on y → (v : Waveform)
      → Leads (between x around v) (take k u) (link c.at y (around_behind x around c) no_waveform (head [])) []

-- The octets begin with a head, within 15's limit and in the definite group around.
pub record IsHead (u : List ℕ) (h : Head) (f : Result (Option ItemHead) Fault) : Type 0 where
  pub near : h.cursor.at + length u ≤ octets_limit
  pub fits : Fits (stands_in h.cursor.at h.cursor.within) (h.cursor.at + length u)
  pub is : form_of (is_inside (stands_in h.cursor.at h.cursor.within)) u ≡ f

-- ---- stretches

-- A place in a group of this channel.
abbrev pub InGroup : Within → ℕ → Type 0
InGroup Within.Root k = ⊥
InGroup (Within.Definite channel end) k = channel ≡ k
InGroup (Within.Open channel place) k = channel ≡ k
