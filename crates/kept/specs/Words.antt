-- A walk's head and a frame kept in words that a caller lends. Any words at all hold some head and some frame. None of it is a rule of document 01.
use Rattle.std.specs.Prelude.{◌≡◌, Bool, List, ℕ, ◌+◌, ◌≤◌, ◌<◌, ltb, leb, eqb, length, get_or, drop}
use Rattle.octets.specs.Pick.{pick}
use Rattle.octets.specs.Number.{low_of, twos}
use Rattle.items.specs.declared.Within.{Within}
use Rattle.items.specs.declared.Within.TheVariants.{Root}
use Rattle.items.specs.declared.Cursor.{Cursor}
use Rattle.items.specs.Walk.{cursor}
use Rattle.settings.specs.declared.Settings.{Settings}
use Rattle.dated.specs.declared.Times.{Times}
use Rattle.dated.specs.declared.Dated.{Dated}
use Rattle.dated.specs.Dated.{noted, zero_dated}
use Rattle.standing.specs.declared.Standing.{Standing}
use Rattle.words.specs.Words.{record_words, words_at, records_in}
use Rattle.walk.specs.declared.Waveform.{Waveform}
use Rattle.walk.specs.declared.Head.{Head}

-- How many words the head and a frame have.
abbrev pub head_words : ℕ
head_words = 64

-- Fewer words cannot hold a head.
abbrev pub holds_head : List ℕ → Bool
holds_head u = leb head_words (length u)

-- The root settings stand first, kept as a record is, with the time now as its time. The place of the head's other numbers is behind them.
abbrev pub head_place : ℕ
head_place = record_words

-- How many other numbers a head has.
abbrev pub head_numbers : ℕ
head_numbers = 20

-- The place of a frame's numbers is behind the head's.
abbrev pub waveform_place : ℕ
waveform_place = head_place + head_numbers

-- How many numbers a frame has.
abbrev pub waveform_numbers : ℕ
waveform_numbers = 7

-- A word other than 0 is true.
abbrev pub flag_of : ℕ → Bool
flag_of n = ltb 0 n

-- Outside a group, in a definite group, or in an open one: 0, 1, and any other number.
abbrev pub within_by : ℕ → ℕ → ℕ → Within
within_by kind channel n = pick (eqb kind 0) Root (pick (eqb kind 1) (Within.Definite channel n) (Within.Open channel n))

-- The cursor of the words g 0 to g 3.
abbrev pub cursor_by : (ℕ → ℕ) → Cursor
cursor_by g = cursor (g 0) (within_by (g 1) (low_of 4 (g 2)) (g 3))

-- What stands with these root settings, of the words g 4 to g 8.
abbrev pub standing_by : Settings → (ℕ → ℕ) → Standing
standing_by root g =
    record {
      little = flag_of (g 4);
      counted = low_of 4 (g 5);
      sequences = low_of 4 (g 6);
      start = twos 8 (g 7);
      continued = twos 8 (g 8);
      root = root;
    }

-- The times of the root's definitions, of the words g 9 to g 16.
abbrev pub times_by : (ℕ → ℕ) → Times
times_by g =
    record {
      block = low_of 4 (g 9);
      class = low_of 4 (g 10);
      lead = low_of 4 (g 11);
      datatype = low_of 4 (g 12);
      interval = low_of 4 (g 13);
      resolution = low_of 4 (g 14);
      offset = low_of 4 (g 15);
      null = low_of 4 (g 16);
    }

-- The head of a record, which says the root settings and the time now, and of the words g 0 to g 19, one for each number.
abbrev pub head_by : Dated → (ℕ → ℕ) → Head
head_by x g =
    record {
      cursor = cursor_by g;
      standing = standing_by x.settings g;
      dates = record { times = times_by g; cleared = low_of 4 (g 17); now = x.at };
      items = g 18;
      frames = low_of 4 (g 19);
    }

-- The record of a head: its root settings at its time.
abbrev pub root_of : Head → Dated
root_of h = noted h.dates.now h.standing.root

-- What is told of a frame, of the words g 0 to g 6.
abbrev pub told_by : (ℕ → ℕ) → Waveform
told_by g =
    record {
      start = twos 8 (g 0);
      channels = low_of 4 (g 1);
      sequences = low_of 4 (g 2);
      little = flag_of (g 3);
      place = g 4;
      len = g 5;
      octets = g 6;
    }

-- The head that words hold: its record is their first. A word past the end is 0.
abbrev pub head_in : List ℕ → Head
head_in w = head_by (get_or (records_in w) 0 zero_dated) (words_at w head_place)

-- The frame that words tell of.
abbrev pub waveform_in : List ℕ → Waveform
waveform_in w = told_by (words_at w waveform_place)

-- The words v hold a head and a frame; they are as many as the words u, and the same behind those of the head and the frame. Words too few for a head
-- stay as they were.
pub record Keeping (u : List ℕ) (h : Head) (x : Waveform) (v : List ℕ) : Type 0 where
  pub long : length v ≡ length u
  pub rest : drop head_words v ≡ drop head_words u
  pub head : head_words ≤ length u → head_in v ≡ h
  pub waveform : head_words ≤ length u → waveform_in v ≡ x
  pub few : length u < head_words → v ≡ u
