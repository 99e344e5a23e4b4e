-- Laws of one item that is carried out.
--     takes_on       an item that leads on
--     plain_takes, count_takes, all_takes, one_takes    by its effect
--     refused_takes  an item at which the walk stops
--     taken_last, Measured, measured-refused, measured-taken    a waveform, by the layout of its channels
-- Assumes nothing.
use Rattle.heads.specs.declared.Fault.{Fault}
use Rattle.effects.specs.declared.Effect.{Effect}
use Rattle.std.specs.Prelude.{Result, Ok, Err, Some, None}
use Rattle.std.proofs.Common.{◌≡◌, ℕ, ◌+◌, ◌%◌, ◌^◌, ◌<◌, min, Bool, List, length, get_or, take, set, sym, refl, ap, ◌∙◌, subst, length-take}
use types.Run.{OneOf}
use denote.Enum.Declared.{tag_of}
use Rattle.items.specs.declared.Cursor.{Cursor}
use Rattle.items.specs.Walk.{refusal}
use Rattle.settings.specs.declared.Settings.{Settings}
use Rattle.settings.specs.declared.Change.{Change}
use Rattle.settings.specs.Settings.{channel_limit, applied}
use Rattle.dated.specs.declared.Dated.{Dated}
use Rattle.dated.specs.declared.Dates.{Dates}
use Rattle.dated.specs.Dated.{noted, zero_dated, root_defined, all_cleared, settled_at, refreshed}
use Rattle.dated.proofs.Tables.{table_long}
use Rattle.layout.specs.declared.Layout.{Layout}
use Rattle.layout.specs.Measure.{layout_of}
use Rattle.standing.specs.declared.Standing.{Standing}
use Rattle.standing.specs.Standing.{frames_limit}
use Rattle.effects.specs.Effects.{standing_after}
use Rattle.effects.specs.contracts.Effect.{the_type}
use Rattle.framing.specs.Framing.{channels_of}
use Rattle.framing.specs.AnyNumbers.{framed_by}
use Rattle.words.specs.Words.{records_in, Holding}
use Rattle.records.specs.Records.{PastKept, Refreshed}
use Rattle.walk.specs.declared.Waveform.{Waveform}
use Rattle.walk.specs.declared.Head.{Head}
use Rattle.walk.specs.Advance.{Stand, stand, stop, stops, goes_on, framed_turn, effect_turn, stand_of, stands_for, channels_at, waveform_by}
use Rattle.walk.proofs.Turns.{plain_keys, plain_goes, Few, framed_few, below-frame, past_put}
use Rattle.taking.specs.declared.Taken.{Taken}
use Rattle.taking.specs.Takes.{turn_by, went_on, stopped_at, stopped_behind, Takes}

pub past_same : (u : List ℕ) → PastKept u u
past_same u = record { same = λ m h. refl }

-- ---- an item that leads on

module _ {u v : List ℕ} {h : Head} {c : Cursor} {place : ℕ} {e : Result Effect Fault} {r : Taken} {st : Standing} {d : Dates} (is : r ≡ went_on h c st d) (long : length v ≡ length u) (past : PastKept u v)
    (stands : st ≡ standing_after h.standing e) where
  pub takes_on : effect_turn (stand_of h u) c place e ≡ goes_on (stand_of h u) c e d (records_in v) → Takes u h c place e r v
  takes_on t =
      subst (λ (q : Taken). Takes u h c place e q v) (sym is)
      (record { same = ap (λ (s : Standing). turn_by (Ok None) (stand_of (went_on h c s d).head v)) stands ∙ sym t; long = long; past = past; below = tt })

-- The words stay as they are.
module _ {u : List ℕ} {h : Head} {c : Cursor} {place : ℕ} {e : Result Effect Fault} {r : Taken} {st : Standing} {d : Dates} (is : r ≡ went_on h c st d) (stands : st ≡ standing_after h.standing e) where
  pub plain_takes : {f : Effect} → d ≡ h.dates → e ≡ Ok f → OneOf plain_keys (tag_of the_type f) → Takes u h c place e r u
  plain_takes {f = f} ed b k =
      takes_on is refl (past_same u) stands
      (subst (λ (g : Result Effect Fault). effect_turn (stand_of h u) c place g ≡ goes_on (stand_of h u) c g h.dates (records_in u)) (sym b) (plain_goes (stand_of h u) c place f k)
      ∙ ap (λ (x : Dates). goes_on (stand_of h u) c e x (records_in u)) (sym ed))

  pub count_takes : {n : ℕ} → e ≡ Ok (Effect.Count n) → d ≡ all_cleared h.dates → Takes u h c place e r u
  unfolding effect_turn
  count_takes {n = n} b ed =
      takes_on is refl (past_same u) stands
      (subst (λ (f : Result Effect Fault). effect_turn (stand_of h u) c place f ≡ goes_on (stand_of h u) c f d (records_in u)) (sym b) (ap (λ (x : Dates). goes_on (stand_of h u) c (Ok (Effect.Count n)) x (records_in u)) (sym ed)))

pub all_takes : {u : List ℕ} {h : Head} {c : Cursor} {place : ℕ} {e : Result Effect Fault} {r : Taken} {st : Standing} {d : Dates} {ch : Change} → r ≡ went_on h c st d → st ≡ standing_after h.standing (Ok (Effect.All ch)) → e ≡ Ok (Effect.All ch)
    → d ≡ root_defined ch h.dates → Takes u h c place e r u
unfolding effect_turn
all_takes {u} {h} {c} {place} {e} {d = d} {ch = ch} is stands b ed =
    takes_on is refl (past_same u) (stands ∙ ap (standing_after h.standing) (sym b))
    (subst (λ (f : Result Effect Fault). effect_turn (stand_of h u) c place f ≡ goes_on (stand_of h u) c f d (records_in u)) (sym b) (ap (λ (x : Dates). goes_on (stand_of h u) c (Ok (Effect.All ch)) x (records_in u)) (sym ed)))

-- One record is stored.
pub one_takes : {u v : List ℕ} {h : Head} {c : Cursor} {place channel : ℕ} {ch : Change} {e : Result Effect Fault} {r : Taken} {stood x : Settings} {new : Dated} → r ≡ went_on h c h.standing h.dates → e ≡ Ok (Effect.One channel ch)
    → stood ≡ settled_at h.standing.root h.dates (get_or (records_in u) channel zero_dated) → x ≡ applied ch stood → new ≡ noted h.dates.now x → Holding u (set (records_in u) channel new) v → Takes u h c place e r v
unfolding effect_turn
one_takes {u} {v} {h} {c} {place} {channel} {ch} is b es ex en o =
    let changed = en ∙ ap (noted h.dates.now) (ex ∙ ap (applied ch) es) in
    let stored = o.records ∙ ap (set (records_in u) channel) changed in
    takes_on is o.long (past_put o) (ap (standing_after h.standing) (sym b))
    (subst (λ (f : Result Effect Fault). effect_turn (stand_of h u) c place f ≡ goes_on (stand_of h u) c f h.dates (records_in v)) (sym b) (ap (goes_on (stand_of h u) c (Ok (Effect.One channel ch)) h.dates) (sym stored)))

-- ---- an item at which the walk stops

pub refused_takes : {u : List ℕ} {h : Head} {c : Cursor} {place : ℕ} {fault : Fault} {e : Result Effect Fault} {r : Taken} → r ≡ stopped_at h fault place → e ≡ Err fault → Takes u h c place e r u
unfolding effect_turn
refused_takes {u} {h} {c} {place} {e = e} is b =
    subst (λ (q : Taken). Takes u h c place e q u) (sym is)
    (record { same = sym (ap (effect_turn (stand_of h u) c place) b); long = refl; past = past_same u; below = tt })

-- The same item, by the effect that it has.
pub takes_as : {u v : List ℕ} {h : Head} {c : Cursor} {place : ℕ} {e f : Result Effect Fault} {r : Taken} → f ≡ e → Takes u h c place e r v → Takes u h c place f r v
takes_as {u} {v} {h} {c} {place} {r = r} b t = subst (λ (e : Result Effect Fault). Takes u h c place e r v) (sym b) t

-- ---- a waveform

-- A frame that is taken is not one too many.
pub taken_last : (frames : ℕ) (st : Standing) (agree : Bool) (octets len : ℕ) {f : Result (ℕ × Standing) Fault} {sequences : ℕ} {after : Standing} → f ≡ framed_by frames st agree octets len → f ≡ Ok (sequences, after) → frames < frames_limit
taken_last frames st agree octets len e g = subst (Few frames) (sym e ∙ g) (framed_few frames st agree octets len)

-- A waveform: its channels are those of the first n records, l is their layout, their records are brought up to date, and f is what it gives.
pub record Measured (u v : List ℕ) (h : Head) (len count n : ℕ) (l : Layout) (f : Result (ℕ × Standing) Fault) : Type 0 where
  pub counts : count ≡ channels_of h.standing.counted
  pub channels : n ≡ min (min count channel_limit) (length (records_in u))
  pub fresh : Refreshed u (min count channel_limit) h.standing.root h.dates l v
  pub gives : f ≡ framed_by h.frames h.standing l.agree l.octets len

module _ {u v : List ℕ} {h : Head} {len count n : ℕ} {l : Layout} {f : Result (ℕ × Standing) Fault} (m : Measured u v h len count n l f) (c : Cursor) (place start : ℕ) where
  abbrev ec : count ≡ channels_of h.standing.counted
  ec = m.counts

  abbrev fresh : Refreshed u (min count channel_limit) h.standing.root h.dates l v
  fresh = m.fresh

  abbrev x : Stand
  x = stand_of h u

  laid : l ≡ layout_of 0 (channels_at x)
  laid = fresh.layout ∙ ap (λ (k : ℕ). layout_of 0 (take (min k channel_limit) (stands_for x))) ec

  up_to_date : records_in v ≡ refreshed (min (channels_of h.standing.counted) channel_limit) h.standing.root h.dates (records_in u)
  up_to_date = fresh.records ∙ ap (λ (k : ℕ). refreshed (min k channel_limit) h.standing.root h.dates (records_in u)) ec

  counted : n ≡ length (channels_at x)
  counted =
      m.channels
      ∙ ap (λ (k : ℕ). min (min k channel_limit) (length (records_in u))) ec
      ∙ ap (min (min (channels_of h.standing.counted) channel_limit)) (sym (table_long h.standing.root h.dates (records_in u)))
      ∙ sym (length-take (min (channels_of h.standing.counted) channel_limit) (stands_for x))

  framed : effect_turn x c place (Ok (Effect.Frame start len)) ≡ framed_turn x c place start len f
  unfolding effect_turn layout_of
  framed = ap (framed_turn x c place start len) (sym (m.gives ∙ (λ i. framed_by h.frames h.standing (laid i).agree (laid i).octets len)))

  pub measured-refused : {fault : Fault} {r : Taken} → f ≡ Err fault → r ≡ stopped_at h fault place → Takes u h c place (Ok (Effect.Frame start len)) r v
  unfolding framed_turn
  measured-refused {fault = fault} g is =
      subst (λ (q : Taken). Takes u h c place (Ok (Effect.Frame start len)) q v) (sym is)
      (record {
        same = ap (λ (t : List Dated). stops (stop (Err (refusal fault place)) (stand h.cursor h.standing h.dates t h.items h.frames))) up_to_date
            ∙ sym (framed ∙ ap (framed_turn x c place start len) g);
        long = fresh.long;
        past = fresh.past;
        below = tt;
      })

  module _ {sequences : ℕ} {after : Standing} (g : f ≡ Ok (sequences, after)) where
    pub measured-taken : {w : Waveform} {r : Taken} → w ≡ waveform_by h.standing n sequences start len l.octets → r ≡ stopped_behind h c after w → Takes u h c place (Ok (Effect.Frame start len)) r v
    unfolding framed_turn layout_of
    measured-taken {w = w} ew is =
        let told = ew ∙ (λ i. waveform_by h.standing (counted i) sequences start len (laid i).octets) in
        subst (λ (q : Taken). Takes u h c place (Ok (Effect.Frame start len)) q v) (sym is)
        (record {
          same = (λ i. stops (stop (Ok (Some (told i))) (stand c after h.dates (up_to_date i) ((h.items + 1) % 2 ^ 64) (h.frames + 1))))
              ∙ sym (framed ∙ ap (framed_turn x c place start len) g);
          long = fresh.long;
          past = fresh.past;
          below = below-frame fresh m.channels (ap (λ (z : Waveform). z.channels) ew);
        })
