-- Laws of a walk begun and gone on with, in words.
--     can_hold              words that can hold a head
--     begun, begun-few      a walk begun, and too few words
--     opens_refused, opens_begun    the words of a refused file, and words that begin a walk
--     begins_when           words that begin a walk
--     goes-few, goes_on     too few words, and words that go on
-- Assumes nothing.
use Rattle.std.specs.Prelude.{Result, Ok, Err, Option, None}
use mathlib.Core.Path.{◌≡◌, refl, sym, ap, subst, ◌∙◌}
use mathlib.Core.Bool.{Bool, false}
use mathlib.Core.List.{List, [], ◌++◌, append-nil, map}
use Prim.Native.Nat.{ℕ, ◌-◌, ◌≤◌, ◌<◌}
use native.Mathlib.Omega.{arith}
use borrow.Author.Tests.{le-leb, lt-leb}
use lib.ListN.{length, take, drop, length-drop, length-append, drop_of_length-le}
use lib.Seq.{drop_at, length-take-le}
use Rattle.octets.specs.Pick.{pick}
use Rattle.heads.specs.declared.Refusal.{Refusal}
use Rattle.heads.specs.Answer.{Answer, answer_of}
use Rattle.words.specs.Words.{records_in, Holding}
use Rattle.records.specs.Records.{outdated, PastKept}
use Rattle.verdict.specs.Verdict.{check_of}
use Rattle.walk.specs.declared.Waveform.{Waveform}
use Rattle.walk.specs.declared.Head.{Head}
use Rattle.dated.specs.Dated.{first_dates}
use Rattle.standing.specs.Standing.{first_standing}
use Rattle.items.specs.declared.Within.TheVariants.{Root}
use Rattle.items.specs.Walk.{cursor}
use Rattle.dated.specs.declared.Dated.{Dated}
use Rattle.walk.specs.Advance.{Stand, stand, stop, advance_of, stand_of, first_head, BelowKept, Advances}
use Rattle.kept.specs.Words.{head_words, holds_head, head_in, waveform_in, Keeping}
use Rattle.kept.proofs.Laws.{lent, lent_all}
use Rattle.walking.specs.Words.{stand_in}
use Rattle.walking.specs.Steps.{no_waveform, frame_told, walk_begins, begun_in, Begun, Opens, Goes}

-- ---- whether words can hold a head

module _ (u : List ℕ) {A : Type 0} (a b : A) where
  pub can_hold : head_words ≤ length u → pick (holds_head u) a b ≡ a
  can_hold h = ap (λ (t : Bool). pick t a b) (le-leb head_words (length u) h)

  cannot_hold : length u < head_words → pick (holds_head u) a b ≡ b
  cannot_hold h = ap (λ (t : Bool). pick t a b) (lt-leb head_words (length u) h)

never_few : (u : List ℕ) {A : Type 0} → head_words ≤ length u → holds_head u ≡ false → A
never_few u h t = let b = le-leb head_words (length u) h in let y : ◌≡◌ {A = ℕ} 0 1 = cc in let z : ⊥ = omega arith in absurd z

-- ---- the words from a place on, lent and given back

-- The words once x are given back.
abbrev pub given_back : ℕ → List ℕ → List ℕ → List ℕ
given_back n u x = take n u ++ (x ++ drop (length u - n) (drop n u))

module _ (n : ℕ) (u x : List ℕ) (room : n ≤ length u) where
  nothing_behind : drop (length u - n) (drop n u) ≡ []
  nothing_behind = let h : length (drop n u) ≤ length u - n = omega (arith, length-drop n u) in drop_of_length-le (drop n u) h

  pub back_behind : drop n (given_back n u x) ≡ x
  back_behind = drop_at (take n u) (x ++ drop (length u - n) (drop n u)) n (length-take-le n u room) ∙ ap (λ (l : List ℕ). x ++ l) nothing_behind ∙ append-nil x

  pub back_long : length x ≡ length (lent n u) → length (given_back n u x) ≡ length u
  back_long l =
      let m : length x ≡ length (drop n u) = l ∙ ap length (lent_all n u) in
      simp (length-append, length-take-le n u room, nothing_behind) (omega (arith, length-drop n u))

-- ---- a head stored then, in words that can hold one

module _ (u x : List ℕ) (room : head_words ≤ length u) {h : Head} {f : Waveform} {v : List ℕ} (l : length x ≡ length (lent head_words u)) (p : Keeping (given_back head_words u x) h f v) where
  still_room : head_words ≤ length (given_back head_words u x)
  still_room = omega (arith, back_long head_words u x room l)

  long_kept : length v ≡ length u
  long_kept = p.long ∙ back_long head_words u x room l

  frame-kept : waveform_in v ≡ f
  frame-kept = p.waveform still_room

  behind-kept : drop head_words v ≡ x
  behind-kept = p.rest ∙ back_behind head_words u x room

  stand-kept : stand_in v ≡ stand_of h x
  stand-kept = λ i. stand_of (p.head still_room i) (behind-kept i)

  -- The first head, over records that are all sent back.
  pub begun : Holding (lent head_words u) (map outdated (records_in (lent head_words u))) x → h ≡ first_head → f ≡ no_waveform → Begun (holds_head u) u v
  begun c e d =
      let begins : List Dated → Stand = λ xs. stand (cursor 0 Root) first_standing first_dates xs 0 0 in
      record {
        stands = stand-kept ∙ ap (λ (g : Head). stand_of g x) e ∙ ap begins c.records ∙ ap (λ (w : List ℕ). begins (map outdated (records_in w))) (lent_all head_words u) ∙ sym (can_hold u (begun_in u) (stand_in u) room);
        tells = frame-kept ∙ d ∙ sym (can_hold u no_waveform (waveform_in u) room);
        long = long_kept;
        stays = λ t. never_few u room t;
      }

  -- The head that an advance has come to.
  pub goes_on : {s : List ℕ} {g : Head} {k : Result (Option Waveform) Refusal} → Advances s g (lent head_words u) (record { step = k; head = h }) x → g ≡ head_in u → f ≡ frame_told k → Goes s u k v
  goes_on {s} {g} {k} a e d =
      let from : advance_of s (stand_of g (lent head_words u)) ≡ advance_of s (stand_in u) = λ i. advance_of s (stand_of (e i) (lent_all head_words u i)) in
      record {
        same = ap (stop k) stand-kept ∙ a.same ∙ from ∙ sym (can_hold u (advance_of s (stand_in u)) (stop (Ok None) (stand_in u)) room);
        tells = frame-kept ∙ d ∙ sym (can_hold u (frame_told k) (waveform_in u) room);
        long = long_kept;
        past = subst (λ (w : List ℕ). PastKept w (drop head_words v)) (lent_all head_words u) (subst (PastKept (lent head_words u)) (sym (p.rest ∙ back_behind head_words u x room)) a.past);
        below = subst (λ (w : List ℕ). BelowKept w k) (sym (p.rest ∙ back_behind head_words u x room)) a.below;
        stays = λ t. never_few u room t;
      }

-- Too few words stay as they are, and are at the end.
pub goes-few : (s u : List ℕ) → length u < head_words → Goes s u (Ok None) u
goes-few s u h =
    record {
      same = sym (cannot_hold u (advance_of s (stand_in u)) (stop (Ok None) (stand_in u)) h);
      tells = sym (cannot_hold u (frame_told (Ok None)) (waveform_in u) h);
      long = refl;
      past = record { same = λ m j. refl };
      below = tt;
      stays = λ t. refl;
    }

-- Words that begin nothing stay as they are.
not-begun : {b : Bool} (u : List ℕ) → b ≡ false → Begun b u u
not-begun u t =
    record {
      stands = sym (ap (λ (b : Bool). pick b (begun_in u) (stand_in u)) t);
      tells = sym (ap (λ (b : Bool). pick b no_waveform (waveform_in u)) t);
      long = refl;
      stays = λ q. refl;
    }

pub begun-few : (u : List ℕ) → length u < head_words → Begun (holds_head u) u u
begun-few u h = not-begun u (lt-leb head_words (length u) h)

-- ---- a file opened

module _ (s u : List ℕ) where
  pub opens_refused : {x : Refusal} → answer_of (Err x) ≡ check_of s → Opens s u (Err x) u
  opens_refused e = record { answers = e; words = not-begun u (ap (λ (a : Answer ℕ). walk_begins a u) (sym e)) }

  pub opens_begun : {n : ℕ} {v : List ℕ} → answer_of (Ok n) ≡ check_of s → Begun (holds_head u) u v → Opens s u (Ok n) v
  opens_begun {v = v} e b = record { answers = e; words = subst (λ (t : Bool). Begun t u v) (ap (λ (a : Answer ℕ). walk_begins a u) e) b }

  -- Words that can hold a head begin a walk over an accepted file.
  pub begins_when : {n : ℕ} → head_words ≤ length u → answer_of (Ok n) ≡ check_of s → {A : Type 0} (a b : A) → pick (walk_begins (check_of s) u) a b ≡ a
  begins_when h e a b = ap (λ (t : Bool). pick t a b) (ap (λ (x : Answer ℕ). walk_begins x u) (sym e) ∙ le-leb head_words (length u) h)
