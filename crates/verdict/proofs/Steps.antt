-- What an item may do to what stands between two items, as one list of cases.
--     defined-gives    a definition goes back to what stands, or has a value in its range
--     effect_asks, waveform_found, waveform-long    what an item may ask for, and that a frame's waveform is an item's value
--     framed_gives, taken_found    what a waveform that is taken tells
--     meaning_steps, meaning_refused    what an item that is not refused does, and the number of the fault of one that is
--     step_grown       the frames met stay the first ones
-- Assumes nothing.
use Rattle.heads.specs.declared.Fault.{Fault}
use Rattle.effects.specs.declared.Effect.{Effect}
use Rattle.std.specs.Prelude.{Result, Ok, Err, Option, Some, None}
use mathlib.Core.Path.{◌≡◌, refl, subst, sym, ◌∙◌}
use mathlib.Core.List.{List, [], ◌∷◌, ◌++◌, append-nil}
use mathlib.Core.Bool.{Bool, true, not}
use Prim.Native.Nat.{ℕ, ◌≤◌, ◌<◌}
use native.Mathlib.Nat.{min-eq_left, min-le_right}
use native.Mathlib.Omega.{arith}
use borrow.Author.Tests.{ltb-false, leb-false, eqb-true, eqb-false, not-false}
use lib.Dec.{ltb, leb, eqb}
use lib.IntN.{ℤ}
use lib.ListN.{length, get_or, take, drop, replicate, length-take, length-drop}
use Rattle.octets.specs.Number.{Octets, range, number_of}
use Rattle.octets.proofs.Laws.{number_first, take-octets, drop-octets}
use Rattle.octets.proofs.Pick.{pick_cases}
use Rattle.items.specs.declared.Item.{Item}
use Rattle.items.specs.declared.Item.TheVariants.{Plain}
use Rattle.heads.specs.declared.Fault.TheVariants.{BarredTag, LongFile}
use Rattle.heads.specs.Faults.{number_of as fault_number}
use Rattle.settings.specs.declared.Settings.{Settings}
use Rattle.definitions.specs.declared.Attribute.{Attribute}
use Rattle.settings.specs.declared.Change.{Change}
use Rattle.settings.specs.Settings.{channel_limit, default_settings, applied, all_applied}
use Rattle.definitions.specs.Define.{tagged, length_fits, change_of, standing_in, in_range, defined}
use Rattle.layout.specs.Frame.{Frame, sequence_octets, all_agree}
use Rattle.standing.specs.declared.Standing.{Standing}
use Rattle.standing.specs.Standing.{frames_limit, with_order, with_count, with_sequences, with_start, with_root, with_continued}
use Rattle.effects.specs.Effects.{order_effect, count_effect, sequences_effect, start_effect, compressed_effect, all_effect, one_effect, root_effect, plain_effect, member_effect, group_effect, value_at, effect_of}
use Rattle.framing.specs.Framing.{sequences_of, pointer_fits, pointer_after, framed_as}
use Rattle.verdict.specs.Verdict.{State, state, Outcome, goes, refuses, one_changed, frame_channels, frame_at, with_frame, carried}
use Rattle.verdict.proofs.Keeps.{meaning}

-- An item is refused by none of the numbers of form up to 5, and not by 15.
abbrev pub Refusing : Fault → Type 0
Refusing f = (fault_number BarredTag < fault_number f) × (fault_number f < fault_number LongFile)

-- ---- definitions

-- The changes that a definition in the file s can ask for, where it goes back to `base` at length 0.
pub data DefinedChange (s : List ℕ) (base : Settings) : Change → Type 0 where
  back : (a : Attribute) → DefinedChange s base (standing_in a base)
  new : (a : Attribute) (little : Bool) (start len : ℕ)
      → length_fits a (length (value_at s start len)) ≡ true
      → (length (value_at s start len) ≡ 0 → ⊥)
      → in_range (change_of a little (value_at s start len)) ≡ true
      → DefinedChange s base (change_of a little (value_at s start len))

abbrev Gives : List ℕ → Settings → Result Change Fault → Type 0
Gives s base (Ok c) = DefinedChange s base c
Gives s base (Err f) = Refusing f

defined-gives : (s : List ℕ) (base : Settings) (a : Attribute) (little : Bool) (start len : ℕ) → Gives s base (defined a little base (value_at s start len))
unfolding defined
defined-gives s base a little start len =
    let v = value_at s start len in
    pick_cases (Gives s base) (not (length_fits a (length v))) (λ _. omega arith)
    (λ f. pick_cases (Gives s base) (eqb (length v) 0) (λ _. back a)
    (λ z. pick_cases (Gives s base) (in_range (change_of a little v))
    (λ r. new a little start len (not-false (length_fits a (length v)) f) (eqb-false (length v) 0 z) r) (λ _. omega arith)))

-- ---- effects

-- No value is longer than the file.
value_short : (s : List ℕ) (start len : ℕ) → length (value_at s start len) ≤ length s
value_short s start len = simp (length-take, length-drop) (omega arith)

-- The item that asks for a frame: 1E outside groups.
pub record Waveform (s : List ℕ) (i : Item) (start long : ℕ) : Type 0 where
  pub place : ℕ
  pub tag : ℕ
  pub len : ℕ
  pub waves : tag ≡ 0x1E
  pub item : i ≡ Plain place tag start len
  pub counts : long ≡ length (value_at s start len)

-- A number of four octets, where the file's numbers are octets.
abbrev pub Small : List ℕ → ℕ → Type 0
Small s n = Octets s → n < range 4

value-small : (s : List ℕ) (little : Bool) (start len : ℕ) → Small s (number_of little (take 4 (value_at s start len)))
value-small s little start len octets = number_first little (value_at s start len) (take-octets len (drop start s) (drop-octets start s octets)) 4

-- What an item may ask for.
abbrev Asks : List ℕ → Standing → Item → Result Effect Fault → Type 0
Asks s st i (Ok Effect.Pass) = Unit {0}
Asks s st i (Ok (Effect.Order little)) = Unit {0}
Asks s st i (Ok (Effect.Count n)) = n ≤ channel_limit
Asks s st i (Ok (Effect.Sequences n)) = Small s n
Asks s st i (Ok (Effect.Start z)) = Unit {0}
Asks s st i (Ok (Effect.All c)) = DefinedChange s default_settings c
Asks s st i (Ok (Effect.One channel c)) = DefinedChange s st.root c
Asks s st i (Ok (Effect.Frame start long)) = Waveform s i start long
Asks s st i (Err f) = Refusing f

module _ (s : List ℕ) (st : Standing) where
  all_asks : (i : Item) (d : Result Change Fault) → Gives s default_settings d → Asks s st i (all_effect d)
  unfolding all_effect
  all_asks i (Ok c) g = g
  all_asks i (Err f) g = g

  one_asks : (i : Item) (channel : ℕ) (d : Result Change Fault) → Gives s st.root d → Asks s st i (one_effect channel d)
  unfolding one_effect
  one_asks i channel (Ok c) g = g
  one_asks i channel (Err f) g = g

  order_asks : (i : Item) (v : List ℕ) → Asks s st i (order_effect v)
  unfolding order_effect
  order_asks i v =
      pick_cases (Asks s st i) (ltb 1 (length v)) (λ _. omega arith)
      (λ _. pick_cases (Asks s st i) (eqb (length v) 0) (λ _. tt)
      (λ _. pick_cases (Asks s st i) (ltb 1 (get_or v 0 0)) (λ _. omega arith) (λ _. tt)))

  count_asks : (i : Item) (little : Bool) (v : List ℕ) → Asks s st i (count_effect little v)
  unfolding count_effect
  count_asks i little v =
      let n = number_of little (take 4 v) in
      pick_cases (Asks s st i) (ltb 4 (length v)) (λ _. omega arith)
      (λ _. pick_cases (Asks s st i) (eqb (length v) 0) (λ _. omega arith)
      (λ _. pick_cases (Asks s st i) (eqb n 0) (λ _. omega arith)
      (λ _. pick_cases (Asks s st i) (ltb channel_limit n) (λ _. omega arith) (λ h. ltb-false channel_limit n h))))

  sequences_asks : (i : Item) (little : Bool) (start len : ℕ) → Asks s st i (sequences_effect little (value_at s start len))
  unfolding sequences_effect
  sequences_asks i little start len =
      let v = value_at s start len in
      pick_cases (Asks s st i) (ltb 4 (length v)) (λ _. omega arith)
      (λ _. pick_cases (Asks s st i) (eqb (length v) 0) (λ _ o. omega arith)
      (λ _. pick_cases (Asks s st i) (eqb (number_of little (take 4 v)) 0) (λ _. omega arith) (λ _. value-small s little start len)))

  start_asks : (i : Item) (little : Bool) (continued : ℤ) (v : List ℕ) → Asks s st i (start_effect little continued v)
  unfolding start_effect
  start_asks i little continued v =
      pick_cases (Asks s st i) (ltb 4 (length v)) (λ _. omega arith)
      (λ _. pick_cases (Asks s st i) (eqb (length v) 0) (λ _. tt) (λ _. tt))

  compressed_asks : (i : Item) (v : List ℕ) → Asks s st i (compressed_effect v)
  unfolding compressed_effect
  compressed_asks i v = pick_cases (Asks s st i) (eqb (length v) 0) (λ _. tt) (λ _. omega arith)

  group_asks : (i : Item) (channel : ℕ) → Asks s st i (group_effect st channel)
  unfolding group_effect
  group_asks i channel =
      pick_cases (Asks s st i) (eqb st.counted 0) (λ _. tt)
      (λ _. pick_cases (Asks s st i) (ltb channel st.counted) (λ _. tt) (λ _. omega arith))

  root_asks : (place tag start len : ℕ) → Asks s st (Plain place tag start len) (root_effect st tag start (value_at s start len))
  unfolding root_effect
  root_asks place tag start len =
      let i = Plain place tag start len in
      let v = value_at s start len in
      pick_cases (Asks s st i) (eqb tag 0x01) (λ _. order_asks i v)
      (λ _. pick_cases (Asks s st i) (eqb tag 0x05) (λ _. count_asks i st.little v)
      (λ _. pick_cases (Asks s st i) (eqb tag 0x06) (λ _. sequences_asks i st.little start len)
      (λ _. pick_cases (Asks s st i) (eqb tag 0x07) (λ _. start_asks i st.little st.continued v)
      (λ _. pick_cases (Asks s st i) (eqb tag 0x0E) (λ _. compressed_asks i v)
      (λ _. pick_cases (Asks s st i) (eqb tag 0x1E)
      (λ e. record { place = place; tag = tag; len = len; waves = eqb-true tag 0x1E e; item = refl; counts = refl }) (λ _. tt))))))

  plain_asks : (place tag start len : ℕ) (t : Option Attribute) → Asks s st (Plain place tag start len) (plain_effect st tag start (value_at s start len) t)
  unfolding plain_effect
  plain_asks place tag start len (Some a) =
      all_asks (Plain place tag start len) _ (defined-gives s default_settings a st.little start len)
  plain_asks place tag start len None = root_asks place tag start len

  member_asks : (i : Item) (channel start len : ℕ) (t : Option Attribute) → Asks s st i (member_effect st channel (value_at s start len) t)
  unfolding member_effect
  member_asks i channel start len (Some a) = one_asks i channel _ (defined-gives s st.root a st.little start len)
  member_asks i channel start len None = tt

  effect_asks : (i : Item) → Asks s st i (effect_of s st i)
  unfolding effect_of
  effect_asks (Item.Plain place tag start len) = plain_asks place tag start len (tagged tag)
  effect_asks (Item.Group place channel) = group_asks (Item.Group place channel) channel
  effect_asks (Item.Member place channel tag start len) =
      let i = Item.Member place channel tag start len in
      pick_cases (Asks s st i) (eqb st.counted 0) (λ _. tt) (λ _. member_asks i channel start len (tagged tag))
  effect_asks (Item.Mark place) = tt

-- The waveform of a frame that an item asks for is the item's value, so it is no longer than the file.
pub waveform_found : (s : List ℕ) (st : Standing) (i : Item) {r : Result Effect Fault} {start long : ℕ} → r ≡ effect_of s st i → r ≡ Ok (Effect.Frame start long) → Waveform s i start long
waveform_found s st i p q = subst (Asks s st i) (sym p ∙ q) (effect_asks s st i)

pub waveform_short : (s : List ℕ) {i : Item} {start long : ℕ} → Waveform s i start long → long ≤ length s
waveform_short s {start = start} w = rw w.counts (value_short s start w.len)

-- The octets of a waveform are all in the file.
value-whole : (s : List ℕ) (start len : ℕ) {long : ℕ} → long ≡ length (value_at s start len) → length (value_at s start long) ≡ long
value-whole s start len e =
    simp (length-take, length-drop) (min-eq_left (omega (arith, e, length-take len (drop start s), length-drop start s, min-le_right len (length (drop start s)))))

pub waveform-long : (s : List ℕ) {i : Item} {start long : ℕ} → Waveform s i start long → length (value_at s start long) ≡ long
waveform-long s {start = start} w = value-whole s start w.len w.counts

-- ---- frames

-- What a waveform that is taken tells.
pub record TakenBy (frames : ℕ) (st : Standing) (agree : Bool) (octets long n : ℕ) (y : Standing) : Type 0 where
  pub few : frames < frames_limit
  pub agrees : agree ≡ true
  pub pointer : pointer_fits st.start ≡ true
  pub sequences : n ≡ sequences_of st.sequences long octets
  pub after : y ≡ with_continued (pointer_after st n) st

abbrev FramedGives : ℕ → Standing → Bool → ℕ → ℕ → Result (ℕ × Standing) Fault → Type 0
FramedGives frames st agree octets long (Ok (n, y)) = TakenBy frames st agree octets long n y
FramedGives frames st agree octets long (Err f) = Refusing f

framed_gives : (frames : ℕ) (st : Standing) (agree : Bool) (octets long : ℕ) → FramedGives frames st agree octets long (framed_as frames st agree octets long)
unfolding framed_as
framed_gives frames st agree octets long =
    let P : Result (ℕ × Standing) Fault → Type 0 = FramedGives frames st agree octets long in
    pick_cases P (leb frames_limit frames) (λ _. omega arith)
    (λ k. pick_cases P (not agree) (λ _. omega arith)
    (λ a. pick_cases P (not (pointer_fits st.start)) (λ _. omega arith)
    (λ p. record {
      few = leb-false frames_limit frames k;
      agrees = not-false agree a;
      pointer = not-false (pointer_fits st.start) p;
      sequences = refl;
      after = refl;
    })))

pub taken_found : (frames : ℕ) (st : Standing) (agree : Bool) (octets long : ℕ) {r : Result (ℕ × Standing) Fault} {n : ℕ} {y : Standing} → r ≡ framed_as frames st agree octets long → r ≡ Ok (n, y) → TakenBy frames st agree octets long n y
taken_found frames st agree octets long p q = subst (FramedGives frames st agree octets long) (sym p ∙ q) (framed_gives frames st agree octets long)

-- ---- items

-- What an item may do.
pub data ItemStep (s : List ℕ) (x : State) (i : Item) : State → Type 0 where
  passes : ItemStep s x i x
  stands : (y : Standing) → y.counted ≡ x.standing.counted → y.root ≡ x.standing.root → (Small s x.standing.sequences → Small s y.sequences)
      → ItemStep s x i (state y x.channels x.frames)
  resets : (y : Standing) → y.counted ≤ channel_limit → y.root ≡ x.standing.root → y.sequences ≡ x.standing.sequences
      → ItemStep s x i (state y (replicate channel_limit y.root) x.frames)
  changes : (c : Change) → DefinedChange s default_settings c
      → ItemStep s x i (state (with_root (applied c x.standing.root) x.standing) (all_applied c x.channels) x.frames)
  sets : (channel : ℕ) (c : Change) → DefinedChange s x.standing.root c
      → ItemStep s x i (state x.standing (one_changed channel (applied c) x.channels) x.frames)
  frames : (start long n : ℕ) (y : Standing) → Waveform s i start long
      → TakenBy (length x.frames) x.standing (all_agree (frame_channels x)) (sequence_octets (frame_channels x)) long n y
      → ItemStep s x i (state y x.channels (x.frames ++ (frame_at s x start long n ∷ [])))

-- The frames met stay the first ones.
pub step_grown : (s : List ℕ) (x : State) (i : Item) (y : State) → ItemStep s x i y → (rest : List Frame) × (y.frames ≡ x.frames ++ rest)
step_grown s x i _ passes = ([], sym (append-nil x.frames))
step_grown s x i _ (stands y h r q) = ([], sym (append-nil x.frames))
step_grown s x i _ (resets y h r q) = ([], sym (append-nil x.frames))
step_grown s x i _ (changes c d) = ([], sym (append-nil x.frames))
step_grown s x i _ (sets channel c d) = ([], sym (append-nil x.frames))
step_grown s x i _ (frames start long n y w t) = (frame_at s x start long n ∷ [], refl)

abbrev Steps : List ℕ → State → Item → Outcome → Type 0
Steps s x i (goes y) = ItemStep s x i y
Steps s x i (refuses f) = Refusing f

frame-steps : (s : List ℕ) (x : State) (i : Item) (start long : ℕ) (r : Result (ℕ × Standing) Fault) → Waveform s i start long
    → FramedGives (length x.frames) x.standing (all_agree (frame_channels x)) (sequence_octets (frame_channels x)) long r
    → Steps s x i (with_frame s x start long r)
unfolding with_frame
frame-steps s x i start long (Ok (n, y)) w f = frames start long n y w f
frame-steps s x i start long (Err k) w g = g

carried-steps : (s : List ℕ) (x : State) (i : Item) (e : Result Effect Fault) → Asks s x.standing i e → Steps s x i (carried s x e)
unfolding carried
carried-steps s x i (Ok Effect.Pass) a = passes
carried-steps s x i (Ok (Effect.Order little)) a = stands (with_order little x.standing) refl refl (λ f. f)
carried-steps s x i (Ok (Effect.Count n)) a = resets (with_count n x.standing) a refl refl
carried-steps s x i (Ok (Effect.Sequences n)) a = stands (with_sequences n x.standing) refl refl (λ f. a)
carried-steps s x i (Ok (Effect.Start z)) a = stands (with_start z x.standing) refl refl (λ f. f)
carried-steps s x i (Ok (Effect.All c)) a = changes c a
carried-steps s x i (Ok (Effect.One channel c)) a = sets channel c a
carried-steps s x i (Ok (Effect.Frame start long)) a =
    frame-steps s x i start long _ a (framed_gives (length x.frames) x.standing (all_agree (frame_channels x)) (sequence_octets (frame_channels x)) long)
carried-steps s x i (Err f) a = a

module _ (s : List ℕ) (x : State) (i : Item) where
  steps : Steps s x i (meaning s x i)
  steps = carried-steps s x i (effect_of s x.standing i) (effect_asks s x.standing i)

  pub meaning_steps : (y : State) → meaning s x i ≡ goes y → ItemStep s x i y
  meaning_steps y e = subst (Steps s x i) e steps

  pub meaning_refused : (f : Fault) → meaning s x i ≡ refuses f → Refusing f
  meaning_refused f e = subst (Steps s x i) e steps
