-- What comes of feeding a file (document 02, request 3).
--     fed_pieces_lem, given_pieces_lem, joined_pieces    wherever the cuts fall
--     fed-check       the end answers as the whole-file reader does
--     fed_settled     a refusal that is given is settled: every longer file has it
--     fed-decided     after an answer nothing changes and nothing is given out
--     fed-past        past the limit: 15, if nothing was refused before
--     given-all       the samples there of an accepted file, in file order
-- Assumes nothing.
use Rattle.heads.specs.declared.Fault.{Fault}
use Prim.Native.Nat.{ℕ, ◌≤◌, ◌<◌}
use mathlib.Core.Path.{◌≡◌, refl, sym, ◌∙◌, ap, subst}
use mathlib.Core.List.{List, [], ◌∷◌, ◌++◌, append_assoc, append-nil}
use mathlib.Core.Bool.{Bool, true, false}
use native.Mathlib.Omega.{arith}
use borrow.Author.Tests.{le-leb}
use lib.Dec.{leb}
use lib.ListN.{length, take, drop, length-drop, take-append-drop}
use lib.Seq.{length-take-le}
use Rattle.octets.specs.Pick.{pick}
use Rattle.octets.proofs.Pick.{pick_cases}
use Rattle.heads.specs.declared.Fault.TheVariants.{LongFile}
use Rattle.heads.specs.Answer.{Answer, answered, refused_as}
use Rattle.items.specs.Walk.{refusal}
use Rattle.layout.specs.Frame.{Frame}
use Rattle.standing.specs.Standing.{octets_limit}
use Rattle.verdict.specs.Verdict.{accepted, refused, verdict, unlimited, checked_as, check_of}
use Rattle.verdict.proofs.Keeps.{within_limit}
use Rattle.link.specs.Link.{Given, Phase, head, value, waveform, waits, decided, Link, Fresh, refused_in, counted, taken_in, is_decided, stepped, fed_with, gives_in, gives, given_by, end_answer}
use Rattle.link.specs.Order.{frames_given}
use Rattle.link.specs.Feed.{joined, fed_pieces, given_pieces}
use Rattle.link.proofs.Follows.{FollowsIn}
use Rattle.link.proofs.Fed.{follows_counts, fed_follows, end_follows, accepted-given}

-- ---- wherever the cuts fall

pub fed_pieces_lem : (l : Link) (s u : List ℕ) → fed_with l (s ++ u) ≡ fed_with (fed_with l s) u
unfolding fed_with
fed_pieces_lem l [] u = refl
fed_pieces_lem l (b ∷ s) u = fed_pieces_lem (stepped l b) s u

pub given_pieces_lem : (l : Link) (s u : List ℕ) → given_by l (s ++ u) ≡ given_by l s ++ given_by (fed_with l s) u
unfolding given_by fed_with
given_pieces_lem l [] u = refl
given_pieces_lem l (b ∷ s) u =
    ap (λ (g : List Given). gives l b ++ g) (given_pieces_lem (stepped l b) s u) ∙ sym (append_assoc (gives l b) (given_by (stepped l b) s) (given_by (fed_with (stepped l b) s) u))

pub joined_pieces : (l : Link) (ps : List (List ℕ)) → (fed_pieces l ps ≡ fed_with l (joined ps)) × (given_pieces l ps ≡ given_by l (joined ps))
unfolding fed_pieces given_pieces joined fed_with given_by
joined_pieces l [] = (refl, refl)
joined_pieces l (p ∷ ps) =
    let q = joined_pieces (fed_with l p) ps in
    (q.0 ∙ sym (fed_pieces_lem l p (joined ps)), ap (λ (g : List Given). given_by l p ++ g) q.1 ∙ sym (given_pieces_lem l p (joined ps)))

-- ---- the end

pub fed-check : {l₀ : Link} → Fresh l₀ → (s : List ℕ) → length s ≤ octets_limit → end_answer (fed_with l₀ s) ≡ check_of s
unfolding check_of
fed-check {l₀} fresh s h = sym (end_follows s (given_by l₀ s) (fed_with l₀ s) (fed_follows fresh s h)) ∙ ap checked_as (sym (within_limit s h))

-- ---- an answer

-- A phase that is an answer, and every other.
by_answer : {A : Type 0} (p : Phase) → ((a : Answer ℕ) → p ≡ decided a → A) → (is_decided p ≡ false → A) → A
by_answer (head p) f g = g refl
by_answer (value tag left kept) f g = g refl
by_answer (waveform left t) f g = g refl
by_answer (waits left r) f g = g refl
by_answer (decided a) f g = f a refl

pub fed_settled : {l₀ : Link} → Fresh l₀ → (s : List ℕ) (fault : Fault) (place : ℕ) → length s ≤ octets_limit → (fed_with l₀ s).phase ≡ decided (refused_as fault place) → (t : List ℕ) → unlimited (s ++ t) ≡ refused (refusal fault place)
fed_settled {l₀} fresh s fault place h e =
    let l = fed_with l₀ s in
    (subst (FollowsIn s l.count l.stand l.around l.frame (given_by l₀ s)) e (fed_follows fresh s h)).0

-- While feeding, no answer but a refusal is given.
pub fed-refused : {l₀ : Link} → Fresh l₀ → (s : List ℕ) (n : ℕ) → length s ≤ octets_limit → (fed_with l₀ s).phase ≡ decided (answered n) → ⊥
fed-refused {l₀} fresh s n h e =
    let l = fed_with l₀ s in
    (subst (FollowsIn s l.count l.stand l.around l.frame (given_by l₀ s)) e (fed_follows fresh s h)).0

module _ (l : Link) (a : Answer ℕ) (e : l.phase ≡ decided a) where
  decided-steps : (b : ℕ) → stepped l b ≡ l
  unfolding stepped
  decided-steps b = simp e

  decided-gives : (b : ℕ) → gives l b ≡ []
  unfolding gives gives_in
  decided-gives b =
      pick_cases (λ (g : List Given). g ≡ []) (leb octets_limit l.count) (λ _. refl) (λ _. ap (λ (p : Phase). gives_in b p (counted l)) e)

  -- After an answer nothing changes and nothing is given out.
  pub fed-decided : (s : List ℕ) → fed_with l s ≡ l
  unfolding fed_with
  fed-decided [] = refl
  fed-decided (b ∷ s) = ap (λ (m : Link). fed_with m s) (decided-steps b) ∙ fed-decided s

  pub given-decided : (s : List ℕ) → given_by l s ≡ []
  unfolding given_by
  given-decided [] = refl
  given-decided (b ∷ s) = (λ i. decided-gives b i ++ given_by (decided-steps b i) s) ∙ given-decided s

-- ---- past the limit

-- The link after the first octets that a file may have.
abbrev pub at_limit : Link → List ℕ → Link
at_limit l₀ s = fed_with l₀ (take octets_limit s)

-- What a file that passes the limit comes to: the refusal that was given before, or 15.
unfoldable pub past_limit : Link → Link
past_limit l = pick (is_decided l.phase) l (refused_in (refusal LongFile 0) l)

-- One octet more than a file may have.
past-steps : (l : Link) (b : ℕ) → (is_decided l.phase ≡ false → l.count ≡ octets_limit) → stepped l b ≡ past_limit l
unfolding stepped past_limit
past-steps l b h = by (is_decided l.phase) refl
  where
    by : (x : Bool) → is_decided l.phase ≡ x
        → pick x l (pick (leb octets_limit l.count) (refused_in (refusal LongFile 0) l) (taken_in b l.phase (counted l))) ≡ pick x l (refused_in (refusal LongFile 0) l)
    by true e = refl
    by false e = simp (le-leb octets_limit l.count (omega (arith, h e)))

past-gives : (l : Link) (b : ℕ) → (is_decided l.phase ≡ false → l.count ≡ octets_limit) → gives l b ≡ []
past-gives l b h = by_answer l.phase (λ a e. decided-gives l a e b) (λ e. unfold gives in simp (le-leb octets_limit l.count (omega (arith, h e))))

past-answer : (l : Link) → (a : Answer ℕ) × ((past_limit l).phase ≡ decided a)
unfolding past_limit
past-answer l = by_answer l.phase (λ a e. (a, by_given a e)) (λ e. (refused_as LongFile 0, by_limit e))
  where
    by_given : (a : Answer ℕ) → l.phase ≡ decided a → (pick (is_decided l.phase) l (refused_in (refusal LongFile 0) l)).phase ≡ decided a
    by_given a e = simp e

    by_limit : is_decided l.phase ≡ false → (pick (is_decided l.phase) l (refused_in (refusal LongFile 0) l)).phase ≡ decided (refused_as LongFile 0)
    by_limit e = simp e

module _ {l₀ : Link} (fresh : Fresh l₀) (s : List ℕ) (long : octets_limit < length s) where
  first_long : length (take octets_limit s) ≡ octets_limit
  first_long = length-take-le octets_limit s (omega arith)

  counts_limit : is_decided (at_limit l₀ s).phase ≡ false → (at_limit l₀ s).count ≡ octets_limit
  counts_limit e =
      follows_counts (take octets_limit s) (given_by l₀ (take octets_limit s)) (at_limit l₀ s) e (fed_follows fresh (take octets_limit s) (omega (arith, first_long))) ∙ first_long

  -- "15 comes at the octet that passes the limit, if nothing was refused before", and nothing is given out from there on.
  pub fed-past : (fed_with l₀ s ≡ past_limit (at_limit l₀ s)) × (given_by l₀ s ≡ given_by l₀ (take octets_limit s))
  unfolding fed_with given_by
  fed-past = by (drop octets_limit s) refl
    where
      split : take octets_limit s ++ drop octets_limit s ≡ s
      split = take-append-drop octets_limit s

      by : (u : List ℕ) → drop octets_limit s ≡ u → (fed_with l₀ s ≡ past_limit (at_limit l₀ s)) × (given_by l₀ s ≡ given_by l₀ (take octets_limit s))
      by [] e = let z : ⊥ = omega (arith, ap length e, length-drop octets_limit s) in absurd z
      by (b ∷ u) e =
          let l = at_limit l₀ s in
          let is : s ≡ take octets_limit s ++ (b ∷ u) = sym split ∙ ap (λ (x : List ℕ). take octets_limit s ++ x) e in
          let a = past-answer l in
          let steps = past-steps l b counts_limit in
          let ended : (stepped l b).phase ≡ decided a.0 = ap (λ (m : Link). m.phase) steps ∙ a.1 in (
            ap (fed_with l₀) is ∙ fed_pieces_lem l₀ (take octets_limit s) (b ∷ u) ∙ fed-decided (stepped l b) a.0 ended u ∙ steps,
            ap (given_by l₀) is
                ∙ given_pieces_lem l₀ (take octets_limit s) (b ∷ u)
                ∙ ap (λ (g : List Given). given_by l₀ (take octets_limit s) ++ (g ++ given_by (stepped l b) u)) (past-gives l b counts_limit)
                ∙ ap (λ (g : List Given). given_by l₀ (take octets_limit s) ++ g) (given-decided (stepped l b) a.0 ended u)
                ∙ append-nil (given_by l₀ (take octets_limit s)),
          )

-- ---- what is given out

pub given-all : {l₀ : Link} → Fresh l₀ → (s : List ℕ) (fs : List Frame) → length s ≤ octets_limit → verdict s ≡ accepted fs → given_by l₀ s ≡ frames_given fs
given-all {l₀} fresh s fs h e = accepted-given s (given_by l₀ s) (fed_with l₀ s) fs (fed_follows fresh s h) (sym (within_limit s h) ∙ e)
