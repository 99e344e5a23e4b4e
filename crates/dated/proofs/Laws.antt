-- Laws of records kept as they stood at a time: what stands for their channels is what document 01's rule says.
--     EachTime, each-at, each-timed    what holds of each time
--     Sound, sound-..       every time noted is before now
--     settled_now           a record of now says what stands
--     settled_root          a definition outside a group changes what stands for a channel by that change
--     settled_cleared       tag 05 sends a channel back to the root settings
-- Assumes nothing.
use Rattle.std.proofs.Common.{◌≡◌, ℕ, ◌+◌, ◌%◌, ◌^◌, ◌<◌, ◌≤◌, Bool, true, false, eqb, leb, sym, refl, ap, ◌∙◌, arith, eqb-true, le-leb}
use borrow.Author.Tests.{lt-leb}
use Rattle.octets.specs.Pick.{pick}
use Rattle.octets.proofs.Pick.{pick_cases}
use Rattle.settings.specs.declared.Settings.{Settings}
use Rattle.settings.specs.declared.Change.{Change}
use Rattle.settings.specs.declared.Change.TheVariants.{Block, Class, Lead, DataType, Interval, Resolution, Offset, Null}
use Rattle.settings.specs.Settings.{applied}
use Rattle.dated.specs.declared.Dated.{Dated}
use Rattle.dated.specs.declared.Times.{Times}
use Rattle.dated.specs.declared.Dates.{Dates}
use Rattle.dated.specs.Dated.{noted, first_dates, timed, root_defined, all_cleared, settled_from, settled_at}

-- ---- times

-- What holds of each time.
pub record EachTime (P : ℕ → Type 0) (t : Times) : Type 0 where
  pub block : P t.block
  pub class : P t.class
  pub lead : P t.lead
  pub datatype : P t.datatype
  pub interval : P t.interval
  pub resolution : P t.resolution
  pub offset : P t.offset
  pub null : P t.null

each-timed : {P : ℕ → Type 0} {t : Times} (c : Change) (m : ℕ) → P m → EachTime P t → EachTime P (timed c m t)
each-timed (Block n) m p e = record { block = p; class = e.class; lead = e.lead; datatype = e.datatype; interval = e.interval; resolution = e.resolution; offset = e.offset; null = e.null }
each-timed (Class n) m p e = record { block = e.block; class = p; lead = e.lead; datatype = e.datatype; interval = e.interval; resolution = e.resolution; offset = e.offset; null = e.null }
each-timed (Lead n) m p e = record { block = e.block; class = e.class; lead = p; datatype = e.datatype; interval = e.interval; resolution = e.resolution; offset = e.offset; null = e.null }
each-timed (DataType n) m p e = record { block = e.block; class = e.class; lead = e.lead; datatype = p; interval = e.interval; resolution = e.resolution; offset = e.offset; null = e.null }
each-timed (Interval n) m p e = record { block = e.block; class = e.class; lead = e.lead; datatype = e.datatype; interval = p; resolution = e.resolution; offset = e.offset; null = e.null }
each-timed (Resolution n) m p e = record { block = e.block; class = e.class; lead = e.lead; datatype = e.datatype; interval = e.interval; resolution = p; offset = e.offset; null = e.null }
each-timed (Offset n) m p e = record { block = e.block; class = e.class; lead = e.lead; datatype = e.datatype; interval = e.interval; resolution = e.resolution; offset = p; null = e.null }
each-timed (Null n) m p e = record { block = e.block; class = e.class; lead = e.lead; datatype = e.datatype; interval = e.interval; resolution = e.resolution; offset = e.offset; null = p }

each_map : {P Q : ℕ → Type 0} {t : Times} → ((n : ℕ) → P n → Q n) → EachTime P t → EachTime Q t
each_map {t = t} f e =
    record {
      block = f t.block e.block;
      class = f t.class e.class;
      lead = f t.lead e.lead;
      datatype = f t.datatype e.datatype;
      interval = f t.interval e.interval;
      resolution = f t.resolution e.resolution;
      offset = f t.offset e.offset;
      null = f t.null e.null;
    }

-- Every time that was noted is before now.
pub record Sound (d : Dates) : Type 0 where
  pub times : EachTime (λ n. n < d.now) d.times
  pub cleared : d.cleared < d.now

pub sound_first : Sound first_dates
sound_first = let z : 0 < 1 = omega arith in record { times = record { block = z; class = z; lead = z; datatype = z; interval = z; resolution = z; offset = z; null = z }; cleared = z }

module _ (d : Dates) (low : d.now + 1 < 2 ^ 32) where
  pub now_grows : (d.now + 1) % 2 ^ 32 ≡ d.now + 1
  now_grows = omega (arith, low)

  later : (n : ℕ) → n < d.now → n < (d.now + 1) % 2 ^ 32
  later n h = omega (arith, low)

  here : d.now < (d.now + 1) % 2 ^ 32
  here = omega (arith, low)

  pub sound_root : (c : Change) → Sound d → Sound (root_defined c d)
  sound_root c k = record { times = each-timed c d.now here (each_map later k.times); cleared = later d.cleared k.cleared }

  pub sound_cleared : Sound d → Sound (all_cleared d)
  sound_cleared k = record { times = each_map later k.times; cleared = here }

-- ---- what stands for a channel

module _ (root : Settings) (d : Dates) (x : Dated) where
  -- The root has defined nothing since the time now.
  from_now : Sound d → x.at ≡ d.now → settled_from root d.times x ≡ x.settings
  from_now k e =
      let no = each_map {Q = λ n. leb x.at n ≡ false} (λ n h. lt-leb x.at n (omega (arith, e, h))) k.times in
      simp (no.block, no.class, no.lead, no.datatype, no.interval, no.resolution, no.offset, no.null)

  -- The test for a record of now changes nothing.
  settled_by : Sound d → settled_at root d x ≡ pick (leb x.at d.cleared) root (settled_from root d.times x)
  unfolding settled_at
  settled_by k =
      ap (pick (leb x.at d.cleared) root)
      (pick_cases (λ (s : Settings). s ≡ settled_from root d.times x) (eqb x.at d.now)
      (λ e. sym (from_now k (eqb-true x.at d.now e)))
      (λ _. refl))

  from_root : (c : Change) → leb x.at d.now ≡ true → settled_from (applied c root) (timed c d.now d.times) x ≡ applied c (settled_from root d.times x)
  from_root (Block n) e = simp e
  from_root (Class n) e = simp e
  from_root (Lead n) e = simp e
  from_root (DataType n) e = simp e
  from_root (Interval n) e = simp e
  from_root (Resolution n) e = simp e
  from_root (Offset n) e = simp e
  from_root (Null n) e = simp e

-- A record of now says what stands.
pub settled_now : (root : Settings) (d : Dates) (s : Settings) → Sound d → settled_at root d (noted d.now s) ≡ s
settled_now root d s k =
    settled_by root d (noted d.now s) k
    ∙ ap (λ (t : Bool). pick t root (settled_from root d.times (noted d.now s))) (lt-leb d.now d.cleared k.cleared)
    ∙ from_now root d (noted d.now s) k refl

module _ (root : Settings) (d : Dates) (x : Dated) (h : x.at ≤ d.now) where
  pub settled_root : (c : Change) → d.now + 1 < 2 ^ 32 → Sound d → settled_at (applied c root) (root_defined c d) x ≡ applied c (settled_at root d x)
  settled_root c low k =
      settled_by (applied c root) (root_defined c d) x (sound_root d low c k)
      ∙ by_cleared (leb x.at d.cleared)
      ∙ ap (applied c) (sym (settled_by root d x k))
    where
      by_cleared : (t : Bool) → pick t (applied c root) (settled_from (applied c root) (timed c d.now d.times) x) ≡ applied c (pick t root (settled_from root d.times x))
      by_cleared true = refl
      by_cleared false = from_root root d x c (le-leb x.at d.now h)

  pub settled_cleared : settled_at root (all_cleared d) x ≡ root
  unfolding settled_at
  settled_cleared = simp (le-leb x.at d.now h)
