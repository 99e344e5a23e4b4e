-- Laws of the pass that writes the frames of an accepted file.
--     frame_is        a frame's octets are those of its parts
--     narrow_fits, narrow_is    a start pointer within 32 bits, as it is handed on
--     Writing         the loop's invariant
--     writing_first, writing_later, writing_frame    before the first item, further on, after a frame
--     written_done, never_done    after the last frame; a refusal, which does not come
-- Assumes nothing.
use mathlib.Core.Path.{◌≡◌, refl, sym, ap, subst, ◌∙◌}
use mathlib.Core.List.{List, [], ◌∷◌, ◌++◌, map, append_assoc, append-nil, map-append}
use mathlib.Core.Bool.{Bool, true, false}
use Prim.Native.Nat.{min, ℕ, suc, ◌+◌, ◌^◌, ◌≤◌, ◌<◌}
use native.Mathlib.Nat.{zero-add, add_assoc}
use native.Mathlib.Omega.{arith}
use lib.ListN.{length, get_or, take, drop, length-append, length-map}
use lib.Seq.{get_or-append_seam, take-append_seam}
use lib.IntN.{ℤ}
use lib.Signed.{mag}
use mir.Syntax.{w32, w64}
use mir.Val.{SFits, to_z, of_z}
use mir.Facts.{to_z-of_z}
use Rattle.std.specs.Prelude.{Result, Ok, Err, Option, Some, None}
use Rattle.octets.specs.Number.{Octets}
use Rattle.octets.proofs.Laws.{take-octets, drop-octets}
use Rattle.heads.specs.declared.Refusal.{Refusal}
use Rattle.stores.specs.Storing.{Put, Putting, put_fits}
use Rattle.stores.proofs.Stores.{put_then, put_long}
use Rattle.settings.specs.declared.Settings.{Settings}
use Rattle.settings.specs.Settings.{channel_limit}
use Rattle.layout.specs.Frame.{Frame, reported}
use Rattle.there.specs.There.{octets_there, Wide}
use Rattle.there.proofs.Places.{there-le}
use Rattle.sizes.specs.Size.{frame_size}
use Rattle.layout.specs.Measure.{groups_size}
use Rattle.standing.specs.Standing.{octets_limit}
use Rattle.effects.specs.Effects.{value_at}
use Rattle.verdict.specs.Verdict.{accepted, refused, verdict}
use Rattle.verdict.proofs.Every.{Every, every_take}
use Rattle.pass.specs.Scan.{zero_frame, size_of, sizes}
use Rattle.framing.proofs.Framings.{pointer_small}
use Rattle.dated.specs.Dated.{held}
use Rattle.dated.proofs.Refreshed.{held-long}
use Rattle.layout.proofs.Laws.{take-few}
use Rattle.walk.specs.declared.Waveform.{Waveform}
use Rattle.walk.specs.Advance.{Stand, Stop, stop, advance_of}
use Rattle.walk.specs.Joined.{frame_by}
use Rattle.walk.proofs.Joins.{Reaches, StepReaches, reaches_grown, advance_reaches}
use Rattle.reader.proofs.Ordered.{Lies, accepted-lies, accepted-small}
use Rattle.groups.specs.Item.{item_octets}
use Rattle.groups.specs.Head.{head_items}
use Rattle.groups.specs.Group.{groups_octets}
use Rattle.groups.proofs.Puts.{put_as}
use Rattle.frames.specs.Parts.{samples_turned, waveform_head, frame_parts, frame_given}
use Rattle.frames.proofs.Given.{frame_put}
use Rattle.canonical.specs.Recording.{Recorded, recorded_frame, recording}
use Rattle.canonical.specs.Canonical.{waveform_of, frame_octets, frames_octets, canonical}
use Rattle.canonical.specs.Write.{frames_in, canonical_of, Ready}
use Rattle.canonical.proofs.Accepted.{accepted-wide}
use Rattle.canonical.proofs.Octets.{waveform_big, waveform-little, frames-long}

-- ---- a frame's octets, in the parts in which it is written

recorded-is : (r : Recorded)
    → frame_octets r ≡ ((head_items (length r.channels) r.sequences r.start ++ groups_octets 0 r.channels) ++ waveform_head (length (waveform_of r))) ++ waveform_of r
unfolding frame_octets item_octets
recorded-is r = simp append_assoc

pub frame_is : (f : Frame) → frame_octets (recorded_frame f) ≡ frame_parts f.start f.sequences f.channels (waveform_of (recorded_frame f))
unfolding recorded_frame
frame_is f =
    let v = waveform_of (recorded_frame f) in
    recorded-is (recorded_frame f)
    ∙ (λ i. ((head_items (length-map f.channels reported i) f.sequences f.start ++ groups_octets 0 (map reported f.channels)) ++ waveform_head (length v)) ++ v)

-- The samples of a frame, as they are written.
pub samples_are : (f : Frame) → Wide f.channels → Octets f.waveform → samples_turned f.little f.channels (octets_there f) f.waveform ≡ waveform_of (recorded_frame f)
samples_are f wide o = by f.little refl
  where
    by : (b : Bool) → f.little ≡ b → samples_turned f.little f.channels (octets_there f) f.waveform ≡ waveform_of (recorded_frame f)
    by false e = ap (λ (b : Bool). samples_turned b f.channels (octets_there f) f.waveform) e ∙ sym (waveform_big f wide o e)
    by true e = ap (λ (b : Bool). samples_turned b f.channels (octets_there f) f.waveform) e ∙ sym (waveform-little f wide o e)

-- A start pointer within 32 bits, as it is handed on.
abbrev pub read_wide : ℤ → ℤ
read_wide z = to_z w64 (of_z w64 z)

abbrev pub narrowed : ℤ → ℤ
narrowed z = to_z w32 (of_z w32 (read_wide z))

wide_is : (z : ℤ) → mag z < 2 ^ 31 → read_wide z ≡ z
wide_is z h = let wide : mag z < 2 ^ 63 = omega arith in to_z-of_z {w = w64} (record { sfits = wide })

pub narrow_fits : (z : ℤ) → mag z < 2 ^ 31 → SFits w32 (read_wide z)
narrow_fits z h = subst (SFits w32) (sym (wide_is z h)) (record { sfits = h })

pub narrow_is : (z : ℤ) → mag z < 2 ^ 31 → narrowed z ≡ z
narrow_is z h = to_z-of_z (narrow_fits z h) ∙ wide_is z h

-- ---- one frame more

frames_snoc : (fs : List Recorded) (r : Recorded) → frames_octets (fs ++ (r ∷ [])) ≡ frames_octets fs ++ frame_octets r
unfolding frames_octets
frames_snoc [] r = append-nil (frame_octets r)
frames_snoc (f ∷ fs) r = rw (frames_snoc fs r) (sym (append_assoc (frame_octets f) (frames_octets fs) (frame_octets r)))

recording_snoc : (fs : List Frame) (f : Frame) → recording (fs ++ (f ∷ [])) ≡ recording fs ++ (recorded_frame f ∷ [])
unfolding recording
recording_snoc fs f = map-append recorded_frame fs (f ∷ [])

sizes_split : (fs gs : List Frame) → sizes (fs ++ gs) ≡ sizes fs + sizes gs
unfolding sizes
sizes_split [] gs = sym (zero-add (sizes gs))
sizes_split (f ∷ fs) gs = rw (sizes_split fs gs) (sym (add_assoc (size_of f) (sizes fs) (sizes gs)))

-- What is written behind the first three octets where some frames have been met.
abbrev written_so_far : List Frame → List ℕ
written_so_far fs = frames_octets (recording fs)

so_far_more : (fs : List Frame) (f : Frame) → written_so_far fs ++ frame_octets (recorded_frame f) ≡ written_so_far (fs ++ (f ∷ []))
so_far_more fs f = sym (ap frames_octets (recording_snoc fs f) ∙ frames_snoc (recording fs) (recorded_frame f))

so_far_all : (fs : List Frame) → (length fs ≡ 0 → ⊥) → (0x01 ∷ 0x01 ∷ 0x00 ∷ []) ++ written_so_far fs ≡ canonical (recording fs)
unfolding recording canonical
so_far_all [] n = absurd (n refl)
so_far_all (f ∷ fs) n = refl

-- The first three octets.
pub head_put : {d e f : List ℕ} {a at : ℕ} → 3 ≤ length d → Putting d 0 (0x01 ∷ 0x01 ∷ []) a e → Putting e a (0x00 ∷ []) at f → Put d 0 (0x01 ∷ 0x01 ∷ 0x00 ∷ []) at f
head_put h p q =
    let u = put_fits (omega arith) p in
    put_then u (put_fits (omega (arith, put_long u, u.next)) q)

-- ---- the walk

-- What is known where the walk stands: d is the buffer behind which the first three octets are written, e as it is now.
pub record Writing (s d : List ℕ) (x : Stand) (at : ℕ) (e : List ℕ) : Type 0 where
  pub is : verdict s ≡ accepted (frames_in (verdict s))
  pub some : length (frames_in (verdict s)) ≡ 0 → ⊥
  pub room : 3 + sizes (frames_in (verdict s)) ≤ length d
  pub met : List Frame
  pub reaches : Reaches s met x
  pub put : Put d 3 (written_so_far met) at e

pub ready_small : {s d : List ℕ} → Ready s d → length s ≤ octets_limit
ready_small {s = s} r = accepted-small s (frames_in (verdict s)) r.is

-- Before the first item.
pub writing_first : {s d e : List ℕ} {x : Stand} {at : ℕ} → Ready s d → Reaches s [] x → Put d 0 (0x01 ∷ 0x01 ∷ 0x00 ∷ []) at e → Writing s e x at e
unfolding frames_octets recording
writing_first r q p =
    record { is = r.is; some = r.some; room = omega (arith, r.room, put_long p); met = []; reaches = q; put = record { next = p.next; stored = refl } }

module _ {s d : List ℕ} {x : Stand} {at : ℕ} {e : List ℕ} (p : Writing s d x at e) where
  abbrev all : List Frame
  all = frames_in (verdict s)

  -- What an advance comes to.
  comes : {k : Result (Option Waveform) Refusal} {y : Stand} → stop k y ≡ advance_of s x → StepReaches s p.met x.cursor.at k y
  comes q = subst (λ (z : Stop). StepReaches s p.met x.cursor.at z.step z.at) (sym q) (advance_reaches p.reaches)

  -- The end.
  written_end : {o : List ℕ} {k : ℕ} → accepted p.met ≡ verdict s → Put o 0 (0x01 ∷ 0x01 ∷ 0x00 ∷ []) k d → Put o 0 (canonical_of s) at e
  unfolding canonical_of
  written_end v q =
      let w : accepted p.met ≡ accepted all = v ∙ p.is in
      let f : p.met ≡ all = cc in
      put_as (ap (λ (fs : List Frame). (0x01 ∷ 0x01 ∷ 0x00 ∷ []) ++ written_so_far fs) f ∙ so_far_all all p.some) (put_then {u = 0x01 ∷ 0x01 ∷ 0x00 ∷ []} (record { next = refl; stored = q.stored }) p.put)

  -- An accepted file is not refused.
  never_refused : (r : Refusal) → refused r ≡ verdict s → ⊥
  never_refused r v =
      let w : refused r ≡ accepted all = v ∙ p.is in
      let z : ◌≡◌ {A = ℕ} 0 1 = cc in
      omega arith

  -- So the walk ends where the items do.
  pub written_done : {k : Result (Option Waveform) Refusal} {y : Stand} {o : List ℕ} {n : ℕ} → k ≡ Ok None → stop k y ≡ advance_of s x → Put o 0 (0x01 ∷ 0x01 ∷ 0x00 ∷ []) n d → Put o 0 (canonical_of s) at e
  written_done {y = y} b a q = written_end (comes (ap (λ (k : Result (Option Waveform) Refusal). stop k y) (sym b) ∙ a)) q

  pub never_done : {A : Type 0} {k : Result (Option Waveform) Refusal} {y : Stand} (r : Refusal) → k ≡ Err r → stop k y ≡ advance_of s x → A
  never_done {y = y} r b a = absurd (never_refused r (comes (ap (λ (k : Result (Option Waveform) Refusal). stop k y) (sym b) ∙ a)))

  -- ---- a frame

  module _ {k : Result (Option Waveform) Refusal} {v : Waveform} {y : Stand} (b : k ≡ Ok (Some v)) (stops : stop k y ≡ advance_of s x) where
    a : stop (Ok (Some v)) y ≡ advance_of s x
    a = ap (λ (j : Result (Option Waveform) Refusal). stop j y) (sym b) ∙ stops

    abbrev frame-there : Frame
    frame-there = frame_by s v y

    pub writing_later : (x.cursor.at < length s) × (x.cursor.at < y.cursor.at)
    writing_later = let c = comes a in (omega (arith, c.0, c.1), c.0)

    after : Reaches s (p.met ++ (frame-there ∷ [])) y
    after = (comes a).2

    grown : (rest : List Frame) × (all ≡ (p.met ++ (frame-there ∷ [])) ++ rest)
    grown = reaches_grown after p.is

    split : all ≡ p.met ++ frame-there ∷ grown.0
    split = grown.1 ∙ append_assoc p.met (frame-there ∷ []) grown.0

    sized : sizes all ≡ sizes p.met + (size_of frame-there + sizes grown.0)
    unfolding sizes
    sized = ap sizes split ∙ sizes_split p.met (frame-there ∷ grown.0)

    lies : Lies s frame-there
    lies =
        let k : length all ≡ length p.met + suc (length grown.0) = ap length split ∙ length-append p.met (frame-there ∷ grown.0) in
        let h : length p.met < length all = omega arith in
        subst (Lies s) (ap (λ (fs : List Frame). get_or fs (length p.met) zero_frame) split ∙ get_or-append_seam p.met frame-there grown.0 zero_frame) (accepted-lies s all p.is (length p.met) h)

    start_small : mag v.start < 2 ^ 31
    start_small = pointer_small v.start lies.pointer

    pub frame-start : SFits w32 (read_wide v.start)
    frame-start = narrow_fits v.start start_small

    abbrev channels : List Settings
    channels = frame-there.channels

    -- Samples of the frames met have octets.
    met-wide : Every (λ f. Wide f.channels) p.met
    met-wide =
        let n = length p.met in
        subst (Every (λ f. Wide f.channels)) (ap (take n) split ∙ take-append_seam p.met (frame-there ∷ grown.0)) (every_take (λ f. Wide f.channels) n all (accepted-wide s all p.is))

    -- Where the frame is written it fits.
    frame-room : at + frame_size v.sequences (groups_size 0 channels) (octets_there frame-there) ≤ length e
    unfolding size_of
    frame-room =
        let g : frame_size v.sequences (groups_size 0 channels) (octets_there frame-there) ≡ size_of frame-there = refl in
        omega (arith, p.room, sized, put_long p.put, p.put.next, frames-long p.met met-wide)

    -- The frame written.
    pub writing_frame : {w : List ℕ} {at' : ℕ} {e' : List ℕ} → Octets s → w ≡ value_at s v.place v.len
        → Putting e at (frame_given (narrowed v.start) v.little v.sequences (take (min v.channels channel_limit) (held y.records)) w) at' e' → Writing s d y at' e'
    unfolding octets_there
    writing_frame {w} {at'} {e'} o ew q =
        let full = held-long y.records ∙ after.stands.full in
        let x = value_at s v.place v.len in
        let given : (u : List ℕ) → List Settings → List ℕ = λ u cs. frame_given (narrowed v.start) v.little v.sequences cs u in
        let q' = subst (λ (u : List ℕ). Putting e at u at' e') (λ i. given (ew i) (take-few v.channels (held y.records) full i)) q in
        let few : octets_there frame-there ≤ octets_limit = omega (arith, there-le channels v.sequences (length x), lies.inside, after.long) in
        let parts : frame_parts (narrowed v.start) v.sequences channels (samples_turned v.little channels (octets_there frame-there) x) ≡ frame_octets (recorded_frame frame-there) =
        ap (λ (z : ℤ). frame_parts z v.sequences channels (samples_turned v.little channels (octets_there frame-there) x)) (narrow_is v.start start_small)
        ∙ ap (frame_parts v.start v.sequences channels) (samples_are frame-there lies.wide (take-octets v.len (drop v.place s) (drop-octets v.place s o)))
        ∙ sym (frame_is frame-there) in
        record {
          is = p.is;
          some = p.some;
          room = p.room;
          met = p.met ++ (frame-there ∷ []);
          reaches = after;
          put = put_as (so_far_more p.met frame-there) (put_then p.put (put_as parts (frame_put (narrowed v.start) v.little v.sequences channels x few frame-room q')));
        }
