-- What a link says of the octets that it was fed, and of every file that begins with them; however long the file is, 15 is left out.
--     Resumes       the walk over each of these files stands there
--     Follows       phase by phase: where the octets have come to in an item
--     head-follows, value_follows, wave_follows, waits-follows    one octet more
--     end_follows   the answer, if the file ends here
-- Inside an item nothing moves: the claim stays that of the item's tag.
-- Assumes nothing.
use Rattle.heads.specs.declared.Fault.{Fault}
use Rattle.effects.specs.declared.Effect.{Effect}
use Rattle.heads.specs.declared.ItemHead.{ItemHead}
use Rattle.std.specs.Prelude.{Result, Ok, Err, Option, Some, None}
use Rattle.standing.specs.declared.Standing.{Standing}
use Prim.Native.Nat.{ℕ, suc, ◌+◌, ◌-◌, ◌≤◌, ◌<◌}
use mathlib.Core.Path.{◌≡◌, refl, sym, subst}
use mathlib.Core.List.{List, [], ◌∷◌, ◌++◌}
use mathlib.Core.Logic.{◌⊎◌}
use native.Mathlib.Omega.{arith}
use borrow.Author.Tests.{eqb-true, eqb-false}
use lib.Dec.{eqb}
use lib.ListN.{length, take, drop}
use Rattle.octets.proofs.Pick.{pick_cases}
use Rattle.heads.specs.declared.Refusal.{Refusal}
use Rattle.heads.specs.declared.Fault.TheVariants.{PastEnd}
use Rattle.heads.specs.Head.{form_of}
use Rattle.heads.specs.Answer.{Answer, answered, refused_as}
use Rattle.items.specs.declared.Within.{Within}
use Rattle.items.specs.declared.Within.TheVariants.{Root}
use Rattle.items.specs.declared.Cursor.{Cursor}
use Rattle.items.specs.declared.Item.{Item}
use Rattle.items.specs.Walk.{refusal, cursor, stands_in, is_inside, next_of}
use Rattle.settings.specs.declared.Settings.{Settings}
use Rattle.dated.specs.Dated.{held}
use Rattle.layout.specs.Frame.{Frame}
use Rattle.standing.specs.Standing.{octets_limit}
use Rattle.effects.specs.Effects.{effect_of}
use Rattle.verdict.specs.Verdict.{place_at, refused, unlimited}
use Rattle.verdict.proofs.Cuts.{CutsFrom, cuts_less, reached_cuts}
use Rattle.walk.specs.declared.Waveform.{Waveform}
use Rattle.walk.specs.Advance.{Stand, Turn, on, stops, framed_turn, effect_turn, next_turn, turn_of}
use Rattle.walk.specs.Joined.{frame_by}
use Rattle.walk.proofs.Joins.{Stands, Counts, TurnStands, Near, turn_stands}
use Rattle.link.specs.Link.{Coming, Given, Phase, head, value, waveform, waits, decided, Link, link, cut_at, waiting, lasts_in, condemned, kept_limit}
use Rattle.link.specs.Order.{sample_given, samples_given, frames_given}
use Rattle.link.proofs.Seen.{Whole, Inside, longer}
use Rattle.link.proofs.Item.{Plainly}
use Rattle.link.proofs.Rest.{rest}
use Rattle.link.proofs.Arrives.{Good, ArrivesAt}

-- ---- where the walk stands

abbrev pub within_of : Stand → Within
within_of x = stands_in x.cursor.at x.cursor.within

-- The file ends in the definite group around.
abbrev pub Cut : Within → ℕ → Type 0
Cut Within.Root n = ⊥
Cut (Within.Definite channel end) n = n < end
Cut (Within.Open channel place) n = ⊥

-- The place of the definite group around is before the item's.
abbrev pub Outer : Within → ℕ → ℕ → Type 0
Outer Within.Root around at = Unit {0}
Outer (Within.Definite channel end) around at = around < at
Outer (Within.Open channel place) around at = Unit {0}

-- After n octets the item at hand begins at the stand x, and gs was given out; where the file ends in the definite group around the item, that is 3 at `around`.
pub record Resumes (s : List ℕ) (n : ℕ) (x : Stand) (around : ℕ) (gs : List Given) : Type 0 where
  pub met : List Frame
  pub out : gs ≡ frames_given met
  pub counts : n ≡ length s
  pub many : x.frames ≡ length met
  pub before : x.cursor.at ≤ length s
  pub inside : Inside (within_of x) (length s)
  pub outer : Outer (within_of x) around x.cursor.at
  pub stands : (t : List ℕ) → Whole (within_of x) (length (s ++ t)) → Stands (s ++ t) met x
  pub cut : (t : List ℕ) → Cut (within_of x) (length (s ++ t)) → unlimited (s ++ t) ≡ refused (refusal PastEnd around)

-- ---- what an item does

-- A fault of form decides.
pub fault-is : {u : List ℕ} {met : List Frame} {x : Stand} {r : Refusal} → Stands u met x → next_of u x.cursor ≡ Err r → unlimited u ≡ refused r
unfolding turn_of next_turn
fault-is {u} {met} {x} {r} p e =
    sym
    (subst (λ (n : Result (Option (Item × Cursor)) Refusal). TurnStands u met x.cursor.at (next_turn u x n)) e
    (turn_stands p (subst (Near p) (sym e) tt)))

-- An item that ends within the limit.
pub found_is : {u : List ℕ} {met : List Frame} {x : Stand} {i : Item} {d : Cursor} → Stands u met x → next_of u x.cursor ≡ Ok (Some (i, d)) → d.at ≤ octets_limit
    → TurnStands u met x.cursor.at (effect_turn x d (place_at i) (effect_of u x.standing i))
unfolding turn_of next_turn
found_is {u} {met} {x} p e h =
    subst (λ (n : Result (Option (Item × Cursor)) Refusal). TurnStands u met x.cursor.at (next_turn u x n)) e
    (turn_stands p (subst (Near p) (sym e) h))

-- What a turn comes to, by the effect that it carries out.
abbrev Bare : Result Effect Fault → Type 0
Bare (Ok Effect.Pass) = Unit {0}
Bare (Ok (Effect.Order little)) = Unit {0}
Bare (Ok (Effect.Count n)) = Unit {0}
Bare (Ok (Effect.Sequences n)) = Unit {0}
Bare (Ok (Effect.Start z)) = Unit {0}
Bare (Ok (Effect.All ch)) = Unit {0}
Bare (Ok (Effect.One channel ch)) = Unit {0}
Bare (Ok (Effect.Frame start len)) = ⊥
Bare (Err fault) = Unit {0}

abbrev StepsTo : Stand → Cursor → ℕ → Result Effect Fault → Result (Option Waveform) Refusal → Stand → Type 0
StepsTo x c place e (Ok (Some v)) y = (e ≡ Ok (Effect.Frame v.place v.len)) × (y.cursor ≡ c) × (y.frames ≡ x.frames + 1)
StepsTo x c place e (Ok None) y = ⊥
StepsTo x c place e (Err r) y = r.place ≡ place

abbrev pub TurnsTo : Stand → Cursor → ℕ → Result Effect Fault → Turn → Type 0
TurnsTo x c place e (on y) = Bare e × (y.cursor ≡ c) × (y.frames ≡ x.frames)
TurnsTo x c place e (stops z) = StepsTo x c place e z.step z.at

module _ (x : Stand) (c : Cursor) (place : ℕ) where
  framed_to : (start len : ℕ) (f : Result (ℕ × Standing) Fault) → TurnsTo x c place (Ok (Effect.Frame start len)) (framed_turn x c place start len f)
  unfolding framed_turn
  framed_to start len (Ok (n, st)) = (refl, refl, refl)
  framed_to start len (Err fault) = refl

  pub turns_to : (e : Result Effect Fault) → TurnsTo x c place e (effect_turn x c place e)
  unfolding effect_turn
  turns_to (Ok Effect.Pass) = (tt, refl, refl)
  turns_to (Ok (Effect.Order little)) = (tt, refl, refl)
  turns_to (Ok (Effect.Count n)) = (tt, refl, refl)
  turns_to (Ok (Effect.Sequences n)) = (tt, refl, refl)
  turns_to (Ok (Effect.Start z)) = (tt, refl, refl)
  turns_to (Ok (Effect.All ch)) = (tt, refl, refl)
  turns_to (Ok (Effect.One channel ch)) = (tt, refl, refl)
  turns_to (Ok (Effect.Frame start len)) = framed_to start len _
  turns_to (Err fault) = refl

-- ---- phase by phase

-- No frame is told.
abbrev pub Silent : Waveform → Type 0
Silent v = v.channels ≡ 0

-- The last frame met is told, directly behind its waveform.
pub record Last (s : List ℕ) (v : Waveform) (x : Stand) (met : List Frame) : Type 0 where
  pub before : List Frame
  pub is : met ≡ before ++ (frame_by s v x ∷ [])
  pub counted : Counts v (frame_by s v x)
  pub here : x.cursor ≡ cursor (length s) Root

abbrev pub Tells : List ℕ → Waveform → Stand → List Frame → Type 0
Tells s v x met = Silent v ⊎ Last s v x met

-- In a head that wants more octets. In a definite group there are more to come.
pub record InHead (s : List ℕ) (n : ℕ) (x : Stand) (around : ℕ) (v : Waveform) (gs : List Given) (p : List ℕ) : Type 0 where
  pub resumes : Resumes s n x around gs
  pub tells : Tells s v x resumes.met
  pub octets : drop x.cursor.at s ≡ p
  pub wants : form_of (is_inside (within_of x)) p ≡ Ok None
  pub goes : Inside (within_of x) (suc (length s))

-- An item with its head, of which `left` octets are still to come.
pub record Begun (s : List ℕ) (x : Stand) (tag left : ℕ) : Type 0 where
  pub start : ℕ
  pub len : ℕ
  pub here : x.cursor.at < length s
  pub form : form_of (is_inside (within_of x)) (drop x.cursor.at s) ≡ Ok (Some (ItemHead.Primitive tag start len))
  pub begun : x.cursor.at + start ≤ length s
  pub ends : x.cursor.at + start + len ≡ length s + left
  pub fits : Inside (within_of x) (length s + left)

pub record InValue (s : List ℕ) (n : ℕ) (x : Stand) (around : ℕ) (v : Waveform) (gs : List Given) (tag left : ℕ) (kept : List ℕ) : Type 0 where
  pub resumes : Resumes s n x around gs
  pub silent : Silent v
  pub item : Begun s x tag left
  pub some : 0 < left
  pub plain : Plainly (within_of x) tag
  pub keeps : kept ≡ take kept_limit (drop (x.cursor.at + item.start) s)

-- The channels of the frame whose settings were given out.
abbrev pub channels_by : Waveform → Stand → List Settings
channels_by v y = take v.channels (held y.records)

-- In the waveform of a frame, behind which the walk will be at y. `here` was given out of its samples, of which t is the next to come.
pub record InWave (s : List ℕ) (n : ℕ) (y : Stand) (around : ℕ) (v : Waveform) (gs : List Given) (left : ℕ) (t : Coming) : Type 0 where
  pub met : List Frame
  pub here : List Given
  pub out : gs ≡ frames_given met ++ here
  pub counts : n ≡ length s
  pub many : y.frames ≡ length met + 1
  pub begun : v.place ≤ length s
  pub ends : v.place + v.len ≡ length s + left
  pub near : length s + left ≤ octets_limit
  pub stands : (u : List ℕ) → length s + left ≤ length (s ++ u) → Stands (s ++ u) (met ++ (frame_by (s ++ u) v y ∷ [])) y × Counts v (frame_by (s ++ u) v y)
  pub cuts : (u : List ℕ) → length (s ++ u) < length s + left → unlimited (s ++ u) ≡ refused (refusal PastEnd around)
  pub behind : y.cursor ≡ cursor (length s + left) Root
  pub many-channels : v.channels ≡ length (channels_by v y)
  pub good : Good (channels_by v y)
  pub arrives : t.sequence < v.sequences → ArrivesAt s (channels_by v y) v.place t
  pub coming : (u : List ℕ) → length s + left ≤ length (s ++ u)
      → samples_given (frame_by (s ++ u) v y) ≡ here ++ rest (sample_given (frame_by (s ++ u) v y)) (channels_by v y) v.sequences t

-- A refusal is sure once so many octets have come; where that passes the limit, 15 comes first. While octets are to come, a file that has them is not cut off
-- at `around`.
pub record Sure (s : List ℕ) (n around left : ℕ) (r : Refusal) : Type 0 where
  pub counts : n ≡ length s
  pub cuts : (t : List ℕ) → length (s ++ t) < length s + left → unlimited (s ++ t) ≡ refused (refusal PastEnd around)
  pub sure : length s + left ≤ octets_limit → (t : List ℕ) → length s + left ≤ length (s ++ t) → unlimited (s ++ t) ≡ refused r
  pub passes : 0 < left → (t : List ℕ) → length s + left ≤ length (s ++ t) → CutsFrom (suc around) (unlimited (s ++ t))

-- A refusal is settled: every longer file has it.
abbrev pub Settled : List ℕ → Answer ℕ → Type 0
Settled s (answered n) = ⊥
Settled s (refused_as fault place) = (t : List ℕ) → unlimited (s ++ t) ≡ refused (refusal fault place)

abbrev pub FollowsIn : List ℕ → ℕ → Stand → ℕ → Waveform → List Given → Phase → Type 0
FollowsIn s n x around v gs (head p) = InHead s n x around v gs p
FollowsIn s n x around v gs (value tag left kept) = InValue s n x around v gs tag left kept
FollowsIn s n x around v gs (waveform left t) = InWave s n x around v gs left t × (0 < left)
FollowsIn s n x around v gs (waits left r) = Sure s n around left r × (0 < left) × Silent v
FollowsIn s n x around v gs (decided a) = Settled s a × Silent v

-- A link that was fed s, and has given out gs.
abbrev pub Follows : List ℕ → List Given → Link → Type 0
Follows s gs l = FollowsIn s l.count l.stand l.around l.frame gs l.phase

-- ---- refusals

-- A refusal that waits.
pub waiting_follows : (s : List ℕ) (gs : List Given) (l : Link) (left : ℕ) (r : Refusal) → length s ≤ octets_limit → Silent l.frame → Sure s l.count l.around left r → Follows s gs (waiting left r l)
unfolding waiting
waiting_follows s gs l left r h q p =
    pick_cases (Follows s gs) (eqb left 0)
    (λ e.
    let z = eqb-true left 0 e in
    ((λ t. p.sure (omega arith) t (omega (arith, longer s t))), q))
    (λ e. let z = eqb-false left 0 e in (p, omega arith, q))

-- A refusal of an item of which `left` octets are still to come: what each file comes to that reaches to the end of what is around it, with the item and without.
module _ (s : List ℕ) (n : ℕ) (x : Stand) (around : ℕ) (v : Waveform) (ph : Phase) (gs : List Given) (limit : length s ≤ octets_limit) (silent : Silent v) (p : Resumes s n x around gs) where
  -- Where an end inside the item is 3.
  abbrev pub cut_here : ℕ
  cut_here = cut_at (within_of x) x.cursor.at around

  pub condemned_follows : (left : ℕ) (r : Refusal) → Inside (within_of x) (length s + left)
      → (length s + left ≤ octets_limit → (t : List ℕ) → Whole (within_of x) (length (s ++ t)) → length s + left ≤ length (s ++ t) → unlimited (s ++ t) ≡ refused r)
      → ((t : List ℕ) → Whole (within_of x) (length (s ++ t)) → length (s ++ t) < length s + left → unlimited (s ++ t) ≡ refused (refusal PastEnd cut_here))
      → (0 < left → (t : List ℕ) → Whole (within_of x) (length (s ++ t)) → length s + left ≤ length (s ++ t) → CutsFrom (suc x.cursor.at) (unlimited (s ++ t)))
      → (y : Stand) → Follows s gs (condemned (within_of x) left r (link n y cut_here v ph))
  unfolding condemned
  condemned_follows left r fits f g m y = by (within_of x) p.cut p.outer p.stands fits f g m
    where
      by : (w : Within) → ((t : List ℕ) → Cut w (length (s ++ t)) → unlimited (s ++ t) ≡ refused (refusal PastEnd around)) → Outer w around x.cursor.at
          → ((t : List ℕ) → Whole w (length (s ++ t)) → Stands (s ++ t) p.met x) → Inside w (length s + left)
          → (length s + left ≤ octets_limit → (t : List ℕ) → Whole w (length (s ++ t)) → length s + left ≤ length (s ++ t) → unlimited (s ++ t) ≡ refused r)
          → ((t : List ℕ) → Whole w (length (s ++ t)) → length (s ++ t) < length s + left → unlimited (s ++ t) ≡ refused (refusal PastEnd (cut_at w x.cursor.at around)))
          → (0 < left → (t : List ℕ) → Whole w (length (s ++ t)) → length s + left ≤ length (s ++ t) → CutsFrom (suc x.cursor.at) (unlimited (s ++ t)))
          → Follows s gs (waiting (lasts_in w n left) r (link n y (cut_at w x.cursor.at around) v ph))
      by Within.Root c o d i f g m =
          waiting_follows s gs (link n y x.cursor.at v ph) left r limit silent (record { counts = p.counts; cuts = λ t k. g t tt k; sure = λ h t k. f h t tt k; passes = λ z t k. m z t tt k })
      by (Within.Definite channel end) c o d i f g m =
          waiting_follows s gs (link n y around v ph) (end - n) r limit silent
          (record {
            counts = p.counts;
            cuts = λ t k. c t (omega (arith, p.counts));
            sure = λ h t k. f (omega (arith, p.counts)) t (omega (arith, p.counts)) (omega (arith, p.counts));
            passes = λ z t k. cuts_less o (unlimited (s ++ t)) (reached_cuts (d t (omega (arith, p.counts))).reached);
          })
      by (Within.Open channel place) c o d i f g m =
          waiting_follows s gs (link n y x.cursor.at v ph) left r limit silent (record { counts = p.counts; cuts = λ t k. g t tt k; sure = λ h t k. f h t tt k; passes = λ z t k. m z t tt k })
