-- When a frame is made, and when it is refused.
--     between_by, within_by      a number in a range
--     bits_by, none_by           bits of a width, and no null
--     scale_allowed, channel_allowed, allowed_by    the tests of the settings say what the table of attributes says
--     samples_by                 the sample octets
--     made_exactly               24, 25 and 23, each exactly when
-- Assumes nothing.
use Rattle.heads.specs.Faults.{number_of}
use Rattle.heads.specs.declared.Fault.{Fault}
use mathlib.Core.Path.{◌≡◌, refl, sym, ap, ◌∙◌}
use mathlib.Core.Logic.{◌↔◌, ◌⊎◌, inl, inr}
use mathlib.Core.Bool.{Bool, true, false}
use mathlib.Core.List.{List}
use Prim.Native.Nat.{ℕ, ◌+◌, ◌*◌, ◌^◌, ◌≤◌, ◌<◌}
use native.Mathlib.Decide.{dec_le}
use native.Mathlib.Omega.{arith}
use borrow.Author.Tests.{eqb-true, eq-eqb, ltb-true, lt-ltb}
use lib.Dec.{T}
use lib.IntN.{ℤ, pos, negsuc}
use lib.ListN.{length}
use lib.Signed.{le_z}
use Rattle.octets.specs.Pick.{both, either}
use Rattle.octets.proofs.Pick.{both_split}
use Rattle.heads.specs.declared.Fault.TheVariants.{NoRoom, SettingRange, SamplesLength}
use Rattle.heads.specs.Answer.{Answer, answered, refused_as}
use Rattle.settings.specs.Settings.{block_limit, last_data_type, last_interval_unit, last_resolution_unit}
use Rattle.layout.specs.Frame.{samples_octets}
use Rattle.standing.specs.Standing.{octets_limit}
use Rattle.framing.specs.Framing.{pointer_fits}
use Rattle.canonical.specs.Canonical.{frame_octets}
use Rattle.maker.specs.Given.{GivenScale, Given, bit_numbers, given_at, last_code, last_mantissa, within, exponent_fits, scale_in_table, width_given, bits_fit, no_null, numbers_in_table, scales_in_table, bits_in_table, in_table}
use Rattle.maker.specs.Make.{Making, settings_fit, channels_in, samples_fit, record_made, order_octets, room_fits, made_in}
use Rattle.maker.proofs.Channels.{all_fit, fit_at}
use Rattle.maker.proofs.Makes.{frame_split, frame_by_bits, all-inside, settings_split, setting-refused, samples-refused, room-refused, made-answered, room_yes, room_short, room_limit}
use Rattle.theorems.specs.Making.{Between, ScaleAllowed, ChannelAllowed, Allowed, SamplesExact, Passes, MadeExactly}

-- ---- numbers

truth : {b : Bool} → T b → b ≡ true
truth {b = true} t = refl
truth {b = false} t = absurd t

holds : (b : Bool) → b ≡ true → T b
holds true e = tt
holds false e = let z : ◌≡◌ {A = ℕ} 0 1 = cc in let w : ⊥ = omega arith in absurd w

never : {b : Bool} {X : Type 0} → b ≡ true → b ≡ false → X
never e f = let z : ◌≡◌ {A = ℕ} 0 1 = cc in let w : ⊥ = omega arith in absurd w

between_by : (low high z : ℤ) → (both (le_z low z) (le_z z high) ≡ true) ↔ Between low high z
between_by low high z = (
  λ e. let h = both_split (le_z low z) (le_z z high) e in (record { le = holds (le_z low z) h.0 }, record { le = holds (le_z z high) h.1 }),
  λ b. let l = truth {b = le_z low z} b.0.le in let h = truth {b = le_z z high} b.1.le in rw (l, h),
)

within-is : (low high : ℕ) (z : ℤ) → within low high z ≡ both (le_z (pos low) z) (le_z z (pos high))
within-is low high (pos n) = refl
within-is low high (negsuc k) = refl

within_by : (low high : ℕ) (z : ℤ) → (within low high z ≡ true) ↔ Between (pos low) (pos high) z
within_by low high z =
    (λ e. (between_by (pos low) (pos high) z).0 (sym (within-is low high z) ∙ e), λ b. within-is low high z ∙ (between_by (pos low) (pos high) z).1 b)

exponent_by : (z : ℤ) → (exponent_fits z ≡ true) ↔ Between (negsuc 127) (pos 127) z
unfolding exponent_fits
exponent_by z = between_by (negsuc 127) (pos 127) z

pointer_by : (z : ℤ) → (pointer_fits z ≡ true) ↔ Between (negsuc 2147483647) (pos 2147483647) z
unfolding pointer_fits
pointer_by z = between_by (negsuc 2147483647) (pos 2147483647) z

pub bits_by : (w x : ℕ) → (bits_fit w x ≡ true) ↔ (x < 256 ^ w)
unfolding bits_fit
bits_by w x = (ltb-true x (256 ^ w), lt-ltb x (256 ^ w))

pub none_by : (z : ℤ) → (no_null z ≡ true) ↔ (z ≡ pos 0)
none_by (pos n) = (λ e. ap pos (eqb-true n 0 e), λ e. eq-eqb n 0 (ap naturals e))
  where
    naturals : ℤ → ℕ
    naturals (pos k) = k
    naturals (negsuc k) = 0
none_by (negsuc k) = (λ e. never e refl, λ e. let z : ◌≡◌ {A = ℕ} 0 1 = cc in let w : ⊥ = omega arith in absurd w)

-- ---- settings

scale_allowed : (last : ℕ) (x : GivenScale) → (scale_in_table last x ≡ true) ↔ ScaleAllowed last x
unfolding scale_in_table
scale_allowed last x = (
  λ e.
      let a = both_split (within 0 last x.unit) _ e in
      let b = both_split (exponent_fits x.exponent) _ a.1 in
      record { unit = (within_by 0 last x.unit).0 a.0; exponent = (exponent_by x.exponent).0 b.0; mantissa = (within_by 1 last_mantissa x.mantissa).0 b.1 },
  λ s. rw ((within_by 0 last x.unit).1 s.unit, (exponent_by x.exponent).1 s.exponent) ((within_by 1 last_mantissa x.mantissa).1 s.mantissa),
)

-- A null is not looked at, or not too wide.
null_allowed : (g : Given) → (either (no_null g.null_width) (bits_fit (width_given g) g.null) ≡ true) ↔ ((g.null_width ≡ pos 0 → ⊥) → g.null < 256 ^ width_given g)
null_allowed g = by (no_null g.null_width) refl
  where
    by : (t : Bool) → no_null g.null_width ≡ t → (either t (bits_fit (width_given g) g.null) ≡ true) ↔ ((g.null_width ≡ pos 0 → ⊥) → g.null < 256 ^ width_given g)
    by true q = (λ e n. absurd (n ((none_by g.null_width).0 q)), λ f. refl)
    by false q = (λ e n. (bits_by (width_given g) g.null).0 e, λ f. (bits_by (width_given g) g.null).1 (f (λ z. never ((none_by g.null_width).1 z) q)))

pub channel_allowed : (g : Given) → (in_table g ≡ true) ↔ ChannelAllowed g
unfolding in_table numbers_in_table scales_in_table bits_in_table
channel_allowed g = (split, joins)
  where
    split : in_table g ≡ true → ChannelAllowed g
    split e =
        let n = both_split (numbers_in_table g) _ e in
        let s = both_split (scales_in_table g) (bits_in_table g) n.1 in
        let a = both_split (within 1 block_limit g.block) _ n.0 in
        let b = both_split (within 0 last_code g.class) _ a.1 in
        let c = both_split (within 0 last_code g.lead) _ b.1 in
        let x = both_split (scale_in_table last_interval_unit g.interval) _ s.0 in
        let y = both_split (bits_fit (width_given g) g.offset) _ s.1 in
        record {
          block = (within_by 1 block_limit g.block).0 a.0;
          class = (within_by 0 last_code g.class).0 b.0;
          lead = (within_by 0 last_code g.lead).0 c.0;
          datatype = (within_by 0 last_data_type g.datatype).0 c.1;
          interval = (scale_allowed last_interval_unit g.interval).0 x.0;
          resolution = (scale_allowed last_resolution_unit g.resolution).0 x.1;
          offset = (bits_by (width_given g) g.offset).0 y.0;
          null = (null_allowed g).0 y.1;
        }

    joins : ChannelAllowed g → in_table g ≡ true
    joins c =
        rw (
          (within_by 1 block_limit g.block).1 c.block,
          (within_by 0 last_code g.class).1 c.class,
          (within_by 0 last_code g.lead).1 c.lead,
          (within_by 0 last_data_type g.datatype).1 c.datatype,
          (scale_allowed last_interval_unit g.interval).1 c.interval,
          (scale_allowed last_resolution_unit g.resolution).1 c.resolution,
          (bits_by (width_given g) g.offset).1 c.offset,
        )
        ((null_allowed g).1 c.null)

pub allowed_by : (m : Making) → (settings_fit m ≡ true) ↔ Allowed m
allowed_by m = (split, joins)
  where
    split : settings_fit m ≡ true → Allowed m
    split e =
        let h = settings_split m e in
        let f = frame_split _ _ _ _ _ h.0 in
        record {
          start = (pointer_by m.start).0 f.pointer;
          sequences = f.most;
          some = f.some;
          few = f.few;
          numbers = f.in_numbers;
          bits = f.in_bits;
          each = λ c l. (channel_allowed _).0 (fit_at m.channels (given_at m.numbers m.bits) h.1 c l);
        }

    joins : Allowed m → settings_fit m ≡ true
    joins a =
        all-inside m
        (sym (frame_by_bits m.start m.sequences m.channels (length m.numbers) (length m.bits) ((pointer_by m.start).1 a.start) a.sequences a.some a.few a.numbers)
        ∙ eq-eqb (length m.bits) (m.channels * bit_numbers) a.bits)
        (all_fit m.channels (given_at m.numbers m.bits) (λ c l. (channel_allowed _).1 (a.each c l)))

-- ---- exactly when

pub samples_by : (m : Making) → (samples_fit m ≡ true) ↔ SamplesExact m
unfolding samples_fit
samples_by m = (eqb-true (length m.samples) (samples_octets (channels_in m) m.sequences), eq-eqb (length m.samples) (samples_octets (channels_in m) m.sequences))

-- The room that a frame needs.
passes_or : (octets : List ℕ) (room : ℕ) → ((room_fits (length octets) room ≡ true) × (Passes octets room → ⊥)) ⊎ ((room_fits (length octets) room ≡ false) × Passes octets room)
passes_or octets room = by (dec_le (length octets) room) (dec_le (order_octets + length octets) octets_limit)
  where
    neither : length octets ≤ room → order_octets + length octets ≤ octets_limit → Passes octets room → ⊥
    neither h k (inl l) = omega arith
    neither h k (inr l) = omega arith

    by : Dec (length octets ≤ room) → Dec (order_octets + length octets ≤ octets_limit) → ((room_fits (length octets) room ≡ true) × (Passes octets room → ⊥)) ⊎ ((room_fits (length octets) room ≡ false) × Passes octets room)
    by (yes h) (yes k) = inl (room_yes (length octets) room h k, neither h k)
    by (yes h) (no k) = inr (room_limit (length octets) room (omega arith), inr (omega arith))
    by (no h) k = inr (room_short (length octets) room (omega arith), inl (omega arith))

-- What an answer's refusal is numbered; 0 where there is none.
abbrev number_in : {A : Type 0} → Answer A → ℕ
number_in (answered a) = 0
number_in (refused_as fault place) = number_of fault

-- Its fault; another where there is none.
abbrev fault_in : {A : Type 0} → Fault → Answer A → Fault
fault_in other (answered a) = other
fault_in other (refused_as fault place) = fault

abbrev place_in : {A : Type 0} → Answer A → ℕ
place_in (answered a) = 0
place_in (refused_as fault place) = place

abbrev octets_in : Answer (List ℕ) → List ℕ → List ℕ
octets_in (answered x) y = x
octets_in (refused_as fault place) y = y

module _ (m : Making) (room : ℕ) where
  abbrev octets : List ℕ
  octets = frame_octets (record_made m)

  abbrev Way : Answer (List ℕ) → Type 0
  Way a = MadeExactly m room a

  -- A number that is answered is not another.
  other : {a x y : Answer (List ℕ)} {Z : Type 0} → a ≡ x → (number_in x ≡ number_in y → ⊥) → a ≡ y → Z
  other p n q = absurd (n (ap number_in (sym p ∙ q)))

  -- What is made is not refused.
  answered-not : {a : Answer (List ℕ)} {x : List ℕ} {fault : Fault} {place : ℕ} {Z : Type 0} → a ≡ answered x → a ≡ refused_as fault place → Z
  answered-not p q = let z : ◌≡◌ {A = ℕ} 0 1 = cc in let w : ⊥ = omega arith in absurd w

  on-setting : (Allowed m → ⊥) → {a : Answer (List ℕ)} → a ≡ refused_as SettingRange 0 → Way a
  on-setting n {a} p =
      record {
        setting = (λ _. n, λ _. p);
        samples = (other p (λ e. omega arith), λ h. absurd (n h.0));
        long = (other p (λ e. omega arith), λ h. absurd (n h.0));
        made = λ o. (other p (λ e. omega arith), λ h. absurd (n h.0));
        others = λ fault place q. (inl (ap (fault_in fault) (sym q ∙ p)), ap place_in (sym q ∙ p));
      }

  module _ (t : Allowed m) where
    on-samples : (SamplesExact m → ⊥) → {a : Answer (List ℕ)} → a ≡ refused_as SamplesLength 0 → Way a
    on-samples n {a} p =
        record {
          setting = (other p (λ e. omega arith), λ h. absurd (h t));
          samples = (λ _. (t, n), λ _. p);
          long = (other p (λ e. omega arith), λ h. absurd (n h.1));
          made = λ o. (other p (λ e. omega arith), λ h. absurd (n h.1));
          others = λ fault place q. (inr (inl (ap (fault_in fault) (sym q ∙ p))), ap place_in (sym q ∙ p));
        }

    module _ (s : SamplesExact m) where
      on-long : Passes octets room → {a : Answer (List ℕ)} → a ≡ refused_as NoRoom 0 → Way a
      on-long l {a} p =
          record {
            setting = (other p (λ e. omega arith), λ h. absurd (h t));
            samples = (other p (λ e. omega arith), λ h. absurd (h.1 s));
            long = (λ _. (t, s, l), λ _. p);
            made = λ o. (other p (λ e. omega arith), λ h. absurd (h.2 (rw h.3 l)));
            others = λ fault place q. (inr (inr (ap (fault_in fault) (sym q ∙ p))), ap place_in (sym q ∙ p));
          }

      on-made : (Passes octets room → ⊥) → {a : Answer (List ℕ)} → a ≡ answered octets → Way a
      on-made l {a} p =
          record {
            setting = (other p (λ e. omega arith), λ h. absurd (h t));
            samples = (other p (λ e. omega arith), λ h. absurd (h.1 s));
            long = (other p (λ e. omega arith), λ h. absurd (l h.2));
            made = λ o. (λ q. let e : o ≡ octets = ap (λ (x : Answer (List ℕ)). octets_in x o) (sym q ∙ p) in (t, s, (rw e l), e), λ h. p ∙ ap answered (sym h.3));
            others = λ fault place q. answered-not p q;
          }

  pub made_exactly : MadeExactly m room (made_in room m)
  made_exactly = by (settings_fit m) refl (samples_fit m) refl (passes_or octets room)
    where
      by : (s : Bool) → settings_fit m ≡ s → (x : Bool) → samples_fit m ≡ x → ((room_fits (length octets) room ≡ true) × (Passes octets room → ⊥)) ⊎ ((room_fits (length octets) room ≡ false) × Passes octets room) → Way (made_in room m)
      by false e x f p = on-setting (λ a. never ((allowed_by m).1 a) e) (setting-refused m room e)
      by true e false f p = on-samples ((allowed_by m).0 e) (λ a. never ((samples_by m).1 a) f) (samples-refused m room e f)
      by true e true f (inl p) = on-made ((allowed_by m).0 e) ((samples_by m).0 f) p.1 (made-answered m room e f p.0)
      by true e true f (inr p) = on-long ((allowed_by m).0 e) ((samples_by m).0 f) p.1 (room-refused m room e f p.0)
