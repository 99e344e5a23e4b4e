-- A walk that has come from one head to another, item by item, as an advance takes it.
--     Comes, comes_first    what is left from where it stands gives the same
--     met                   an item that is met and what it asks for, as calls answer them
--     comes_smaller, comes_plain, comes_count, comes_all, comes_one    the item leads on
--     ends_there, fails_there, refused_there    the walk stops there
--     frame_few, frame_refused, frame_taken     the same of a waveform
-- Assumes nothing.
use Rattle.std.specs.Prelude.{Result, Ok, Err, Option, Some, None}
use Rattle.std.proofs.Common.{◌≡◌, ℕ, ◌+◌, ◌-◌, ◌%◌, ◌^◌, ◌<◌, min, List, length, get_or, set, sym, refl, ap, ◌∙◌, arith}
use types.Run.{OneOf}
use denote.Enum.Declared.{tag_of}
use Rattle.heads.specs.declared.Fault.{Fault}
use Rattle.heads.specs.declared.Refusal.{Refusal}
use Rattle.items.specs.declared.Item.{Item}
use Rattle.items.specs.declared.Cursor.{Cursor}
use Rattle.items.specs.Walk.{next_of, refusal}
use Rattle.items.proofs.Walks.{found_as}
use Rattle.settings.specs.declared.Settings.{Settings}
use Rattle.settings.specs.declared.Change.{Change}
use Rattle.settings.specs.Settings.{channel_limit, applied}
use Rattle.dated.specs.declared.Dated.{Dated}
use Rattle.dated.specs.declared.Dates.{Dates}
use Rattle.dated.specs.Dated.{noted, zero_dated, root_defined, all_cleared, settled_at}
use Rattle.layout.specs.declared.Layout.{Layout}
use Rattle.standing.specs.declared.Standing.{Standing}
use Rattle.standing.specs.Standing.{frames_limit}
use Rattle.effects.specs.declared.Effect.{Effect}
use Rattle.effects.specs.Effects.{effect_of, standing_after}
use Rattle.effects.specs.contracts.Effect.{the_type}
use Rattle.framing.specs.Framing.{channels_of}
use Rattle.framing.specs.AnyNumbers.{framed_by}
use Rattle.verdict.specs.Verdict.{place_at}
use Rattle.words.specs.Words.{records_in, Holding}
use Rattle.records.specs.Records.{PastKept, Refreshed}
use Rattle.walk.specs.declared.Waveform.{Waveform}
use Rattle.walk.specs.declared.Head.{Head}
use Rattle.walk.specs.declared.Moved.{Moved}
use Rattle.walk.specs.Advance.{Stand, waveform_by, advance_of, stand_of, moved_to, Advances}
use Rattle.walk.proofs.Turns.{advance_end, advance_fault, Turning, turning_later, plain_keys, turning_stands, turning_count, turning_all, turning_one, turning_refused, Measured, turning_measured, measured-refused, measured_last, measured-taken, below-frame, past_then, past_put, answered}

abbrev pub head_at : Cursor → Standing → Dates → ℕ → ℕ → Head
head_at c st d items frames = record { cursor = c; standing = st; dates = d; items = items; frames = frames }

-- From a head and words to others: what is left gives the same, and what is past the last record stays.
pub record Comes (s : List ℕ) (h : Head) (u : List ℕ) (g : Head) (v : List ℕ) : Type 0 where
  pub same : advance_of s (stand_of g v) ≡ advance_of s (stand_of h u)
  pub long : length v ≡ length u
  pub past : PastKept u v

pub comes_first : (s : List ℕ) (h : Head) (u : List ℕ) → Comes s h u h u
comes_first s h u = record { same = refl; long = refl; past = record { same = λ m k. refl } }

-- What stands there is an item, with the cursor behind it however that is kept, and it asks for e.
pub met : {s : List ℕ} {x : Stand} {n : Result (Option (Item × Cursor)) Refusal} {o : Option (Item × Cursor)} {i : Item} {d kept : Cursor} {a e : Result Effect Fault}
    → n ≡ next_of s x.cursor → n ≡ Ok o → o ≡ Some (i, d) → kept ≡ d → a ≡ effect_of s x.standing i → a ≡ e → Turning s x i kept e
met en is there ed ea asks = record { found = sym en ∙ found_as (is ∙ ap (λ (o : Option (Item × Cursor)). Ok o) there) ed; asks = sym asks ∙ ea }

module _ {s u v : List ℕ} {h g : Head} (w : Comes s h u g v) where
  abbrev here : Stand
  here = stand_of g v

  -- The walk stops where it stands.
  abbrev Stays : Result (Option Waveform) Refusal → Moved → Type 0
  Stays k r = r ≡ moved_to k g.cursor g.standing g.dates g.items g.frames

  pub ends_there : {n : Result (Option (Item × Cursor)) Refusal} {o : Option (Item × Cursor)} {r : Moved} → n ≡ next_of s g.cursor → n ≡ Ok o → o ≡ None → Stays (Ok None) r → Advances s h u r v
  ends_there en is none er = answered er refl (advance_end s here en (is ∙ ap (λ (o : Option (Item × Cursor)). Ok o) none) ∙ w.same) w.long w.past tt

  pub fails_there : {n : Result (Option (Item × Cursor)) Refusal} {q : Refusal} {r : Moved} → n ≡ next_of s g.cursor → n ≡ Err q → Stays (Err q) r → Advances s h u r v
  fails_there {q = q} en is er = answered er refl (advance_fault s here q en is ∙ w.same) w.long w.past tt

  module _ {i : Item} {d : Cursor} {e : Result Effect Fault} (t : Turning s here i d e) where
    pub comes_smaller : length s - d.at < length s - g.cursor.at
    comes_smaller = omega (arith, turning_later t)

    -- One item more is read.
    abbrev Counted : ℕ → Type 0
    Counted items = items ≡ (g.items + 1) % 2 ^ 64

    pub comes_plain : {f : Effect} {st : Standing} {items : ℕ} → e ≡ Ok f → OneOf plain_keys (tag_of the_type f) → st ≡ standing_after g.standing e → Counted items → Comes s h u (head_at d st g.dates items g.frames) v
    comes_plain b k es ei = record { same = turning_stands t b k es ei ∙ w.same; long = w.long; past = w.past }

    pub comes_count : {n : ℕ} {st : Standing} {dates : Dates} {items : ℕ} → e ≡ Ok (Effect.Count n) → st ≡ standing_after g.standing e → dates ≡ all_cleared g.dates → Counted items
        → Comes s h u (head_at d st dates items g.frames) v
    comes_count b es ed ei = record { same = turning_count t b es ed ei ∙ w.same; long = w.long; past = w.past }

    pub comes_all : {ch : Change} {st : Standing} {dates : Dates} {items : ℕ} → e ≡ Ok (Effect.All ch) → st ≡ standing_after g.standing (Ok (Effect.All ch)) → dates ≡ root_defined ch g.dates → Counted items
        → Comes s h u (head_at d st dates items g.frames) v
    comes_all b es ed ei = record { same = turning_all t b es ed ei ∙ w.same; long = w.long; past = w.past }

    -- One record is stored.
    pub comes_one : {channel : ℕ} {ch : Change} {stood x : Settings} {new : Dated} {z : List ℕ} {items : ℕ} → e ≡ Ok (Effect.One channel ch)
        → stood ≡ settled_at g.standing.root g.dates (get_or (records_in v) channel zero_dated) → x ≡ applied ch stood → new ≡ noted g.dates.now x → Holding v (set (records_in v) channel new) z
        → Counted items → Comes s h u (head_at d g.standing g.dates items g.frames) z
    comes_one b es ex en o ei = record { same = turning_one t b es ex en o.records ei ∙ w.same; long = o.long ∙ w.long; past = past_then w.long w.past (past_put o) }

    pub refused_there : {fault : Fault} {k : Result (Option Waveform) Refusal} {r : Moved} → e ≡ Err fault → k ≡ Err (refusal fault (place_at i)) → Stays k r → Advances s h u r v
    refused_there b ek er = answered er ek (turning_refused t b ∙ w.same) w.long w.past tt

    -- A waveform is measured, and its channels' records are brought up to date.
    module _ {start len count n : ℕ} {l : Layout} {z : List ℕ} {f : Result (ℕ × Standing) Fault} (b : e ≡ Ok (Effect.Frame start len)) (counts : count ≡ channels_of g.standing.counted)
        (most : n ≡ min (min count channel_limit) (length (records_in v))) (fresh : Refreshed v (min count channel_limit) g.standing.root g.dates l z) (gives : f ≡ framed_by g.frames g.standing l.agree l.octets len) where
      measured : Measured s here i d start len n l (records_in z) f
      measured = turning_measured t b counts most refl fresh gives

      long_now : length z ≡ length u
      long_now = fresh.long ∙ w.long

      past_now : PastKept u z
      past_now = past_then w.long w.past fresh.past

      pub frame_few : {sequences : ℕ} {after : Standing} → f ≡ Ok (sequences, after) → g.frames < frames_limit
      frame_few is = measured_last measured is

      pub frame_refused : {fault : Fault} {k : Result (Option Waveform) Refusal} {r : Moved} → f ≡ Err fault → k ≡ Err (refusal fault (place_at i)) → Stays k r → Advances s h u r z
      frame_refused is ek er = answered er ek (measured-refused measured is ∙ w.same) long_now past_now tt

      pub frame_taken : {sequences items : ℕ} {after : Standing} {y : Waveform} {r : Moved} → f ≡ Ok (sequences, after) → y ≡ waveform_by g.standing n sequences start len l.octets → Counted items
          → r ≡ moved_to (Ok (Some y)) d after g.dates items (g.frames + 1) → Advances s h u r z
      frame_taken is ey ei er =
          answered er refl (measured-taken measured is ey ei ∙ w.same) long_now past_now (below-frame fresh most (ap (λ (y : Waveform). y.channels) ey))
